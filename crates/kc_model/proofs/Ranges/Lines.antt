-- What holds of every trace of calls holds of a trace with calls on ranges, as it is spelled out.
use Rattle.std.proofs.Common.{◌≡◌, List, [], ◌∷◌, ◌++◌, Option, None, Some, refl, sym, ap, subst, ◌∙◌}
use Rattle.kc_types.specs.declared.call.Call.{Call}
use Rattle.kc_types.specs.declared.refusal.Refusal.{Refusal}
use Rattle.kc_model.specs.State.{State}
use Rattle.kc_model.specs.Next.{next, state_after}
use Rattle.kc_model.specs.Together.{first_refusal, unless_one_refused}
use Rattle.kc_model.specs.Lines.{Line, one, range, singles, next_line, after_lines, if_served, spelled_line, spelled}
use Rattle.kc_model.specs.Lawful.{IsLawful}
use Rattle.kc_model.specs.Local.{IsSameSize}
use Rattle.kc_model.proofs.States.Sizes.{sized-next, sized-then, sized-same}
use Rattle.kc_model.proofs.Lawful.Keeps.{lawful-next}

pub after-both : (m : State) (calls others : List Call) → state_after m (calls ++ others) ≡ state_after (state_after m calls) others
after-both m [] others = refl
after-both m (call ∷ calls) others = after-both (next m call).1 calls others

by-refusal : (r : Option Refusal) (m : State) (calls : List Call) → (unless_one_refused r m calls).1 ≡ state_after m (if_served r calls)
by-refusal None m calls = refl
by-refusal (Some r) m calls = refl

-- a line leaves the state that its single calls leave
pub line-spelled : (m : State) (line : Line) → (next_line m line).1 ≡ state_after m (spelled_line m line)
line-spelled m (one call) = refl
line-spelled m (range r) = by-refusal (first_refusal m (singles m r)) m (singles m r)

-- so does a trace: each state that lines reach is one that calls reach
pub lines-spelled : (m : State) (lines : List Line) → after_lines m lines ≡ state_after m (spelled m lines)
lines-spelled m [] = refl
lines-spelled m (line ∷ lines) =
    lines-spelled (next_line m line).1 lines
    ∙ ap (λ x. state_after x (spelled (next_line m line).1 lines)) (line-spelled m line)
    ∙ sym (after-both m (spelled_line m line) (spelled (next_line m line).1 lines))

-- what each call keeps of lawful states, and what then holds of two calls one after another, is kept by each line
module _ (Keeps : State → State → Type 0) (same : (m : State) → Keeps m m) (then : (a b c : State) → Keeps a b → Keeps b c → Keeps a c) (keeps : (m : State) (call : Call) → IsLawful m → Keeps m (next m call).1) where
  keeps-calls : (m : State) (calls : List Call) → IsLawful m → Keeps m (state_after m calls)
  keeps-calls m [] is = same m
  keeps-calls m (call ∷ calls) is = then m (next m call).1 (state_after m (call ∷ calls)) (keeps m call is) (keeps-calls (next m call).1 calls (lawful-next m call is))

  pub keeps-line : (m : State) (line : Line) → IsLawful m → Keeps m (next_line m line).1
  keeps-line m line is = subst (Keeps m) (sym (line-spelled m line)) (keeps-calls m (spelled_line m line) is)

-- two laws as examples
pub lawful-line : (m : State) (line : Line) → IsLawful m → IsLawful (next_line m line).1
lawful-line m line is = keeps-line (λ a b. IsLawful a → IsLawful b) (λ m h. h) (λ a b c f g h. g (f h)) (λ m call is h. lawful-next m call h) m line is is

pub sized-line : (m : State) (line : Line) → IsLawful m → IsSameSize m (next_line m line).1
sized-line m line is = keeps-line IsSameSize sized-same sized-then (λ m call is. sized-next m call) m line is
