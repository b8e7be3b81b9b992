-- A configuration's limits are within the ranges of the numbers.
use Rattle.std.proofs.Common.{◌≤◌}
use Rattle.kc_types.specs.Limits.{frame_limit}
use Rattle.kc_types.specs.Configuration.{Configuration, IsConfiguration}
use Rattle.kc_types.proofs.Ranges as ranges

pub few-frames : (c : Configuration) → IsConfiguration c → c.frames ≤ frame_limit
few-frames c is = ranges.few-frames c.version c.frames is.few_frames
