-- How the calls of a trace were answered: how many there are, and how many were refused or rejected, and for what.
use Rattle.std.specs.Prelude.{ℕ, List, map, Option, Some, None}
use Rattle.kc_types.specs.declared.call.Call.{Call}
use Rattle.kc_model.specs.State.{State}
use Rattle.kc_model.specs.Next.{replies_from}
use Rattle.kc_remarks.specs.declared.denials.Answered.{Answered}
use Rattle.kc_remarks.specs.Denials.{IsAnsweredBy}
use Rattle.kc_texts.specs.declared.order.Origin.{Origin}
use Rattle.kc_faults.specs.Origins.{BeginsIn}
use Rattle.kc_trace.specs.declared.expected.Expected.{Expected}
use Rattle.kc_trace.specs.Expected.{IsTraceThere}
use Rattle.kc_cli.specs.Traced.{Traced}
use Rattle.kc_cli.specs.Custody.{joined, AreVolumes}

-- the counts are of the calls of a trace that may have this header, made in order from this state on
abbrev pub AreAnsweredFrom : State → Expected → List ℕ → Answered → Type 0
AreAnsweredFrom m expected trace_text answered = (calls : List Call) × IsTraceThere m.config expected trace_text calls × IsAnsweredBy (replies_from m calls) answered

-- the same from the state that the first text is of, if both texts are known
abbrev pub AreAnswered : Origin → Option (List ℕ) → Option (List ℕ) → Answered → Type 0
AreAnswered origin None trace answered = Unit {0}
AreAnswered origin (Some start) None answered = Unit {0}
AreAnswered origin (Some start_text) (Some trace_text) answered = (m : State) × (expected : Expected) × BeginsIn origin start_text m expected × AreAnsweredFrom m expected trace_text answered

-- the same of the calls of all volumes, one after another
abbrev pub AreAllAnswered : Origin → Option (List ℕ) → Option (List (List ℕ)) → Answered → Type 0
AreAllAnswered origin None traces answered = Unit {0}
AreAllAnswered origin (Some start) None answered = Unit {0}
AreAllAnswered origin (Some start_text) (Some trace_texts) answered =
    (m : State) × (expected : Expected) × BeginsIn origin start_text m expected × (volumes : List Traced) × AreVolumes m.config expected (map Some trace_texts) volumes × IsAnsweredBy (replies_from m (joined volumes)) answered
