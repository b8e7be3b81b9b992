-- What the threads of programs made of them.
use Rattle.std.specs.Prelude.{◌≡◌, ℕ, List, [], ◌∷◌, take, Option, Some, None}
use Rattle.kc_types.specs.declared.call.Call.{Call}
use Rattle.kc_live.specs.declared.receipt.Receipt.{Receipt}
use Rattle.kc_live.specs.declared.fault.LiveFault.TheVariants.{Memory}
use Rattle.kc_live.specs.declared.program.ThreadStop.{ThreadStop}
use Rattle.kc_live.specs.declared.program.ThreadStop.TheVariants.{Start, Fault}
use Rattle.kc_live.specs.Program.{receipt_calls}

-- the receipts of a beginning of these calls, and of all of them if nothing stopped the thread
pub record IsRun (calls : List Call) (receipts : List Receipt) (stop : Option ThreadStop) : Type 0 where
  pub count : ℕ
  pub begun : receipt_calls receipts ≡ take count calls
  pub whole : stop ≡ None → receipt_calls receipts ≡ calls

-- row by row the calls are a beginning of these
abbrev pub AreBeginnings : List (List Call) → List (List Call) → Type 0
AreBeginnings [] [] = Unit {0}
AreBeginnings (row ∷ rows) (calls ∷ rest) = ((n : ℕ) × (row ≡ take n calls)) × AreBeginnings rows rest
AreBeginnings [] (calls ∷ rest) = ⊥
AreBeginnings (row ∷ rows) [] = ⊥

-- what is reported of two threads: a start that was refused goes first, then out of memory
abbrev pub graver : Option ThreadStop → Option ThreadStop → Option ThreadStop
graver (Some Start) stop = Some Start
graver met (Some Start) = Some Start
graver (Some (Fault Memory)) stop = Some (Fault Memory)
graver met (Some stop) = Some stop
graver met None = met
