use Rattle.kc_state_text.proofs.Taken.{number-read}
use Rattle.kc_state_text.proofs.words.take_number.Goals as goal

pub returns : goal.returns
returns c = number-read c.read_number.result c.args.words.now c.in_ok-next.field-0.now c.next.new.self c.in_ok-next.ensures c.read_number.ensures
