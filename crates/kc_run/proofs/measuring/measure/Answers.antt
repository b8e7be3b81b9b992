use Rattle.kc_run.specs.Endings.{took}
use Rattle.kc_run.proofs.Measured.{all_given, not_given}
use Rattle.kc_run.proofs.measuring.measure.Goals as goal

pub returns-in-Ok : goal.returns-in-Ok
returns-in-Ok g c =
    all_given g.F.File.Source.left g.F.File.Source.failed (g.F.Files.held c.args.files.now) (g.F.Files.refused c.add_files.new.files) c.args.measuring.now _ c.new-measure.result c.add_files.new.measure
    (took g.K.Sink.failed g.K.Sink.taken c.args.out.now c.give.new.out) _ _ c.new-measure.ensures (rw (c.as_slice-images.ensures.value, c.in-None.is) at c.in_ok-refusal.ensures) c.in-Ok.ensures.ok c.in-Ok.ensures.sink

pub returns-in-Err : goal.returns-in-Err
returns-in-Err g c =
    not_given g.F.File.Source.left g.F.File.Source.failed (g.F.Files.held c.args.files.now) (g.F.Files.refused c.add_files.new.files) c.args.measuring.now _ c.new-measure.result c.add_files.new.measure
    (took g.K.Sink.failed g.K.Sink.taken c.args.out.now c.give.new.out) _ _ c.new-measure.ensures (rw (c.as_slice-images.ensures.value, c.in-None.is) at c.in_ok-refusal.ensures) c.in-Err.ensures.sink c.in-Err.ensures.fault
