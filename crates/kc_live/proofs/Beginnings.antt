-- Rows of calls that are beginnings of others.
use Rattle.std.proofs.Common.{◌≡◌, ℕ, List, [], ◌∷◌, ◌++◌, take, Option, Some, None, refl}
use Rattle.kc_types.specs.declared.call.Call.{Call}
use Rattle.kc_live.specs.declared.fault.LiveFault.TheVariants.{Memory, NotYours, HistoryFull}
use Rattle.kc_live.specs.declared.program.ThreadStop.{ThreadStop}
use Rattle.kc_live.specs.declared.program.ThreadStop.TheVariants.{Start, Fault}
use Rattle.kc_live.specs.Threads.{AreBeginnings, graver}

pub beginnings-push : (rows all : List (List Call)) (row calls : List Call) → AreBeginnings rows all → ((n : ℕ) × (row ≡ take n calls)) → AreBeginnings (rows ++ row ∷ []) (all ++ calls ∷ [])
beginnings-push [] [] row calls are begun = (begun, tt)
beginnings-push (first ∷ rows) (others ∷ all) row calls are begun = (are.0, beginnings-push rows all row calls are.1 begun)
beginnings-push [] (others ∷ all) row calls are begun = absurd are
beginnings-push (first ∷ rows) [] row calls are begun = absurd are

-- two threads of which nothing is reported both made all their calls
pub none-graver : (met stop : Option ThreadStop) → graver met stop ≡ None → (met ≡ None) × (stop ≡ None)
none-graver None None none = (refl, refl)
none-graver None (Some Start) none = cc
none-graver None (Some (Fault fault)) none = cc
none-graver (Some Start) stop none = cc
none-graver (Some (Fault Memory)) None none = cc
none-graver (Some (Fault NotYours)) None none = cc
none-graver (Some (Fault HistoryFull)) None none = cc
none-graver (Some (Fault Memory)) (Some Start) none = cc
none-graver (Some (Fault NotYours)) (Some Start) none = cc
none-graver (Some (Fault HistoryFull)) (Some Start) none = cc
none-graver (Some (Fault Memory)) (Some (Fault other)) none = cc
none-graver (Some (Fault NotYours)) (Some (Fault other)) none = cc
none-graver (Some (Fault HistoryFull)) (Some (Fault other)) none = cc
