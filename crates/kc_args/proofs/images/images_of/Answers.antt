use Rattle.kc_args.proofs.Placed.{all_named}
use Rattle.kc_args.proofs.images.images_of.Goals as goal

pub returns : goal.returns
returns c = all_named c.args.words.now c.loop-word.images.items c.loop-word.word-index c.loop-word-test.false c.loop-word.invariant
