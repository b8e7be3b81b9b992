use Rattle.std.proofs.Common.{◌≡◌, map, take}
use Rattle.kc_args.proofs.Placed.{placed, named}
use Rattle.kc_args.proofs.images.images_of.Given as goal

-- the images so far are those that the words so far name
abbrev pub invariant-loop-word : goal.invariant-loop-word
invariant-loop-word l = map placed l.images.items ≡ map named (take l.word-index l.words)
