use Rattle.kc_state_text.proofs.Taken.{vcpu-read}
use Rattle.kc_state_text.proofs.line_reader.read_vcpu.Goals as goal

pub returns : goal.returns
returns c = vcpu-read c.vcpu_of.result c.args.words.now c.in_ok-next.field-0.now c.next.new.self c.in_ok-next.ensures c.vcpu_of.ensures
