use Rattle.std.proofs.Common.{arith, ◌++◌}
use Rattle.kc_state_text.specs.StateText.{state_header}
use Rattle.kc_state_text.proofs.Fronts.{front-short, dump-line-low, dump-refused, told-is}
use Rattle.kc_state_text.proofs.reader.read_told.Goals as goal

pub line_count-before-requires : goal.line_count-before-requires
line_count-before-requires c = let short = front-short (state_header ++ c.args.rest.now) c.in_ok-front.rest.now c.in_ok-front.front c.in_ok-front.ensures.0 in omega (arith, short, c.requires)

pub dump_fault-requires-clause-few : goal.dump_fault-requires-clause-few
dump_fault-requires-clause-few c =
    let short = front-short (state_header ++ c.args.rest.now) c.in_ok-front.rest.now c.in_ok-front.front c.in_ok-front.ensures.0 in
    let count = c.line_count-before.ensures in
    omega (arith, short, count, c.requires)

pub dump_fault-requires-clause-counted : goal.dump_fault-requires-clause-counted
dump_fault-requires-clause-counted c n e =
    let short = front-short (state_header ++ c.args.rest.now) c.in_ok-front.rest.now c.in_ok-front.front c.in_ok-front.ensures.0 in
    let count = c.line_count-before.ensures in
    let low = dump-line-low c.in_ok-front.rest.now c.in-Err.fault n e c.in-Err.ensures.found in
    omega (arith, short, count, low, c.requires)

pub returns-in-Ok : goal.returns-in-Ok
returns-in-Ok c =
    told-is (state_header ++ c.args.rest.now) c.in_ok-front.rest.now c.in_ok-front.front c.told_of.result c.in-Ok.dump c.in_ok-front.ensures.0 c.in_ok-front.ensures.1 c.in-Ok.ensures.found c.told_of.ensures.host c.told_of.ensures.approved c.told_of.ensures.slots
    c.told_of.ensures.pages c.told_of.ensures.dump

pub returns-in-Err : goal.returns-in-Err
returns-in-Err c =
    rw (c.dump_fault.ensures, c.line_count-before.ensures)
    (dump-refused (state_header ++ c.args.rest.now) c.in_ok-front.rest.now c.in_ok-front.front c.in-Err.fault c.in_ok-front.ensures.0 c.in_ok-front.ensures.1 c.in-Err.ensures.found)
