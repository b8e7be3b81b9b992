-- The changes of a trace are exactly those that its calls make.
use Rattle.std.proofs.Common.{ℕ, zero, suc, ◌≡◌, ◌<◌, ◌+◌, Bool, false, ◌||◌, List, [], ◌∷◌, length, refl, sym, ap₂, ◌∙◌, arith}
use Rattle.std.specs.List.{list_any}
use Rattle.std.proofs.Math.Bool.{or-false}
use Rattle.std.proofs.lemmas.Bool.{or_from}
use Rattle.std.proofs.lemmas.List.Folds.{list_any-append}
use Rattle.kc_types.specs.Configuration.{Configuration, slot_count}
use Rattle.kc_types.specs.declared.call.Call.{Call}
use Rattle.kc_types.specs.declared.custody.Change.{Change}
use Rattle.kc_model.specs.State.{State}
use Rattle.kc_model.specs.Next.{next}
use Rattle.kc_model.specs.Footprints.{state_at}
use Rattle.kc_model.specs.Custody.{has_moved, has_turned, changes_by, custody_from, custody, first_line}
use Rattle.kc_model.specs.CustodyLaws.{is_of_frame, is_of_slot, is_end_of, IsExact, IsExactForSlots}
use Rattle.kc_model.proofs.States.Places.{state_at-rest}
use Rattle.kc_model.proofs.States.Sizes.{sized-next}
use Rattle.kc_model.proofs.Custody.Told.{FindsByLine, frames-told, slots-told, ends-told, has_ended}

module _ (test : ℕ → ℕ → Change → Bool) (found : State → State → ℕ → Bool) (count : Configuration → ℕ) (told : FindsByLine test found count) where
  -- of the first call, and of the others
  first-or-later : (n : ℕ) (m : State) (call : Call) (calls : List Call) (k x : ℕ) → list_any (test k x) (custody_from n m (call ∷ calls))
      ≡ (list_any (test k x) (changes_by n m (next m call).1) || list_any (test k x) (custody_from (n + 1) (next m call).1 calls))
  first-or-later n m call calls k x = list_any-append (test k x) (changes_by n m (next m call).1) (custody_from (n + 1) (next m call).1 calls)

  -- nothing of a trace is on an earlier line
  untold-before : (n : ℕ) (m : State) (calls : List Call) (k x : ℕ) → k < n → list_any (test k x) (custody_from n m calls) ≡ false
  untold-before n m [] k x lt = refl
  untold-before n m (call ∷ calls) k x lt =
      first-or-later n m call calls k x
      ∙ or_from _ _ (told.other n k m (next m call).1 x (λ same. omega (arith, same, lt))) (untold-before (n + 1) (next m call).1 calls k x (omega (arith, lt)))

  -- what is reported of the call at this place
  pub exact-from : (n : ℕ) (m : State) (calls : List Call) (k x : ℕ) → k < length calls → x < count m.config → list_any (test (n + k) x) (custody_from n m calls) ≡ found (state_at m calls k) (state_at m calls (suc k)) x
  exact-from n m [] k x lt low = absurd (omega (arith, lt))
  exact-from n m (call ∷ calls) zero x lt low =
      let here : n + 0 ≡ n = omega arith in
      rw here (
      first-or-later n m call calls n x
      ∙ ap₂ ◌||◌ (told.here n m (next m call).1 x low) (untold-before (n + 1) (next m call).1 calls n x (omega arith))
      ∙ or-false _)
  exact-from n m (call ∷ calls) (suc k) x lt low =
      let there : n + suc k ≡ (n + 1) + k = omega arith in
      let same : (next m call).1.config ≡ m.config = (sized-next m call).config in
      rw there (
      first-or-later n m call calls ((n + 1) + k) x
      ∙ ap₂ ◌||◌ (told.other n ((n + 1) + k) m (next m call).1 x (λ same. omega (arith, same))) (exact-from (n + 1) (next m call).1 calls k x (omega (arith, lt)) (rw same low))
      ∙ ap₂ (λ old new. found old new x) (sym (state_at-rest m call calls k)) (sym (state_at-rest m call calls (suc k))))

  pub exact-at : (m : State) (calls : List Call) (k x : ℕ) → k < length calls → x < count m.config → list_any (test (first_line + k) x) (custody m calls) ≡ found (state_at m calls k) (state_at m calls (k + 1)) x
  exact-at m calls k x lt low = let more : k + 1 ≡ suc k = omega arith in rw more (exact-from first_line m calls k x lt low)

pub exact : (m : State) (calls : List Call) → IsExact m calls
exact = exact-at is_of_frame has_moved (λ config. config.frames) frames-told

pub exact_for_slots : (m : State) (calls : List Call) → IsExactForSlots m calls
exact_for_slots = exact-at is_of_slot has_turned slot_count slots-told

-- an end of a slot is reported exactly if a call ends it
pub exact_ends : (m : State) (calls : List Call) (k v : ℕ) → k < length calls → v < slot_count m.config → list_any (is_end_of (first_line + k) v) (custody m calls) ≡ has_ended (state_at m calls k) (state_at m calls (k + 1)) v
exact_ends = exact-at is_end_of has_ended slot_count ends-told
