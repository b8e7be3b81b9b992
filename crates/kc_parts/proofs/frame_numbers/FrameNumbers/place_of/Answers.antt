use Rattle.std.proofs.Common.{arith}
use Rattle.kc_parts.proofs.Boots.{place-below}
use Rattle.kc_parts.proofs.frame_numbers.FrameNumbers.place_of.Goals as goal

pub returns-in-Below : goal.returns-in-Below
returns-in-Below c = rw (← c.self.view_is, c.in-Below.is) (place-below c.in-Below.limit c.args.number c.min.result (λ low. omega (arith, low)) (λ past. omega (arith, past)))
