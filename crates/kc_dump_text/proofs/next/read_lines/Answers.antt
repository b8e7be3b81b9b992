use Rattle.kc_dump_text.specs.Begun.{with_line}
use Rattle.kc_dump_text.proofs.Growing.{has-slot, begun-more, reads-more}
use Rattle.kc_dump_text.proofs.next.read_lines.Goals as goal

pub push-requires : goal.push-requires
push-requires c = has-slot c.args.sizes.version c.args.sizes.frames c.loop-line.begun c.loop-line.place c.in-Some.line c.loop-line.invariant.0.here c.in-Some.ensures.1

pub loop-line-preserved : goal.loop-line-preserved
loop-line-preserved c =
    let d = c.loop-line.begun in
    let b = begun-more c.args.sizes.version c.args.sizes.frames d c.loop-line.place c.in-Some.line c.loop-line.invariant.0 c.in-Some.ensures.1 in
    rw (c.in_ok-push.ensures, c.in-Some.ensures.2) (b.0, reads-more c.args.sizes.frames c.args.begun.now d (with_line d c.in-Some.line) c.in-Some.line c.args.text.now c.loop-line.rest.now c.in-Some.more.now b.1 c.loop-line.invariant.1 c.in-Some.ensures.0)
