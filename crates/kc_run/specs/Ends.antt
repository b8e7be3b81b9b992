-- What a run finds and leaves.
use Rattle.std.specs.Prelude.{ℕ, List, Option}
use Rattle.kc_texts.specs.Ends.{Seen}
use Rattle.kc_run.specs.Opening.{Held}
use Rattle.kc_run.specs.Endings.{Took}

-- what the files hold, the path that could not be opened, if one could not; standard input, and that nothing was read of it; the sink, and that it is as it was
pub record Ends : Type 1 where
  pub held : Held
  pub refused : Option (List ℕ)
  pub input : Seen
  pub unread : Type 0
  pub out : Took
  pub untouched : Type 0

abbrev pub ends_of : Held → Option (List ℕ) → Seen → Type 0 → Took → Type 0 → Ends
ends_of held refused input unread out untouched = record { held = held; refused = refused; input = input; unread = unread; out = out; untouched = untouched }
