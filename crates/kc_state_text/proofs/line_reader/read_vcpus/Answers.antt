use Rattle.std.proofs.Common.{arith}
use Rattle.kc_state_text.proofs.Gathered.{vcpus-lack}
use Rattle.kc_state_text.proofs.line_reader.read_vcpus.Goals as goal

pub returns-in_err-read_vcpu : goal.returns-in_err-read_vcpu
returns-in_err-read_vcpu c =
    let inv = c.loop-number.invariant in
    rw c.from_residual.ensures (vcpus-lack c.loop-number.vcpus.items c.args.words.now c.loop-number.words inv.each (let m = inv.many in omega (arith, m)) inv.spelled c.in_err-read_vcpu.ensures)
