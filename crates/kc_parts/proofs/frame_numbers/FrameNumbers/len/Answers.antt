use Rattle.std.proofs.Common.{sym}
use Rattle.std.proofs.lemmas.List.FromFn.{length-range_with_len}
use Rattle.kc_parts.proofs.frame_numbers.FrameNumbers.len.Goals as goal

pub returns-in-Below : goal.returns-in-Below
returns-in-Below c = rw (← c.self.view_is, c.in-Below.is) (sym (length-range_with_len 0 c.in-Below.limit))
