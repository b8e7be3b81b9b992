use Rattle.std.proofs.Common.{◌++◌, arith}
use Rattle.kc_state_text.specs.StateText.{state_header}
use Rattle.kc_state_text.proofs.Fronts.{bad-line-low}
use Rattle.kc_state_text.proofs.Placed.{first-short}
use Rattle.kc_state_text.proofs.reader.read_state.Goals as goal

pub fault_after-requires : goal.fault_after-requires
fault_after-requires g c n e =
    let low = bad-line-low (state_header ++ c.in_ok-position.rest.now) c.in-Err.fault n e c.in-Err.ensures.refused in
    let short = first-short c.args.text.now c.in_ok-position.rest.now c.in_ok-position.position c.in_ok-position.ensures in
    omega (arith, low, short, c.requires)
