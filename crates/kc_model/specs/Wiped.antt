-- The state without any byte that a frame held.
use Rattle.std.specs.Prelude.{map}
use Rattle.kc_model.specs.State.{State, Frame, zero_page}

abbrev pub wiped_frame : Frame → Frame
wiped_frame frame = record frame { bytes = zero_page }

abbrev pub wiped : State → State
wiped m = record m { frames = map wiped_frame m.frames }
