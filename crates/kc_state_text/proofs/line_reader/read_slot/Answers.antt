use Rattle.std.proofs.Common.{sym, ◌∙◌}
use Rattle.std.specs.Prelude.{codes}
use Rattle.kc_state_text.proofs.Gathered.{no-images}
use Rattle.kc_state_text.proofs.line_reader.read_slot.Goals as goal
use Rattle.kc_trace.specs.HeadReading.{words_in}

pub returns-in_err-images : goal.returns-in_err-images
returns-in_err-images c =
    rw c.from_residual-in_err-images.ensures
    (no-images (codes "slot") (words_in c.args.line.now) c.take_name.new.words c.read_vcpus.new.words c.in_ok-vcpus.vcpus.items (sym c.new-words.ensures ∙ c.in_ok-take_name.ensures) c.in_ok-vcpus.ensures c.in_err-images.ensures)
