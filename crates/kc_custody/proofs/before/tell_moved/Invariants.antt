use Rattle.std.proofs.Common.{ℕ, ◌≡◌, ◌++◌, map, filter}
use Rattle.std.specs.List.{range_with_len}
use Rattle.kc_types.specs.declared.custody.Event.{Event}
use Rattle.kc_model.specs.State.{State}
use Rattle.kc_model.specs.Boot.{boot}
use Rattle.kc_model.specs.Custody.{frame_change, has_moved}
use Rattle.kc_model.specs.Before.{header_line, frame_before}
use Rattle.kc_custody.proofs.before.tell_moved.Given as goal

abbrev pub moved : State → ℕ → Event
moved m f = frame_before (frame_change header_line (boot m.config) m f)

-- the frames so far
abbrev pub invariant-loop-frame : goal.invariant-loop-frame
invariant-loop-frame l = l.told.items ≡ l.fn.told.items ++ map (moved l.core.state) (filter (has_moved (boot l.core.state.config) l.core.state) (range_with_len 0 l.frame))
