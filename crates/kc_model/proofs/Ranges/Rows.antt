-- Which refusal a call on a range has: the first condition, in the order of the row, that one of its single calls meets.
use Rattle.std.proofs.Common.{ℕ, zero, suc, ◌≡◌, ◌<◌, ◌+◌, Bool, true, false, ◌||◌, nat_eq, nat_le, nat_lt, List, [], ◌∷◌, Option, None, Some, is_none, refl, sym, ap, ◌∙◌, arith}
use Rattle.std.proofs.lemmas.Grind.{common_steps}
use Rattle.kc_types.specs.declared.call.Call.TheVariants.{Grant, Revoke, GrantRange, RevokeRange}
use Rattle.kc_types.specs.declared.refusal.Refusal.{Refusal}
use Rattle.kc_types.specs.declared.refusal.Refusal.TheVariants.{BadGfn, NotMapped, ShareFull, NotShared}
use Rattle.kc_types.specs.Configuration.{gfns_of}
use Rattle.kc_model.specs.State.{State, mapped_at}
use Rattle.kc_model.specs.Refusals.{refusal, conditions, first_of_these, or_else, when, any_from, guest_frame, guest_range, bad_vm, bad_vcpu, no_vm, not_active, no_vcpu, share_at}
use Rattle.kc_model.specs.Together.{either}

-- the conditions of the single calls, joined
abbrev pub row_of : (ℕ → List (Option Refusal)) → ℕ → ℕ → List (Option Refusal)
row_of row g zero = row g
row_of row g (suc n) = either (row g) (row_of row (g + 1) n)

both-when : (a b : Bool) (r : Refusal) → or_else (when a r) (when b r) ≡ when (a || b) r
both-when true b r = refl
both-when false b r = refl

same-twice : (r : Option Refusal) → or_else r r ≡ r
same-twice None = refl
same-twice (Some r) = refl

or-false : (b : Bool) → (b || false) ≡ b
or-false true = refl
or-false false = refl

module _ (m : State) (v c : ℕ) (test : ℕ → Bool) (reason : Refusal) where
  row : ℕ → List (Option Refusal)
  row h = guest_frame m v c h (when (test h) reason)

  joined : ℕ → ℕ → List (Option Refusal)
  joined g n = bad_vm m v ∷ bad_vcpu m c ∷ when (any_from g n (nat_le (gfns_of m.config.version))) BadGfn ∷ no_vm m v ∷ not_active m v ∷ no_vcpu m v c ∷ when (any_from g n (λ h. is_none (mapped_at m v h))) NotMapped ∷ when (any_from g n test) reason ∷ []

  rows-join : (g n : ℕ) → row_of row g n ≡ joined g (suc n)
  unfolding row joined
  rows-join g zero = rw (or-false (nat_le (gfns_of m.config.version) g), or-false (is_none (mapped_at m v g)), or-false (test g)) refl
  rows-join g (suc n) =
      ap (either (row g)) (rows-join (g + 1) n)
      ∙ rw (
        same-twice (bad_vm m v),
        same-twice (bad_vcpu m c),
        same-twice (no_vm m v),
        same-twice (not_active m v),
        same-twice (no_vcpu m v c),
        both-when (nat_le (gfns_of m.config.version) g) (any_from (g + 1) (suc n) (nat_le (gfns_of m.config.version))) BadGfn,
        both-when (is_none (mapped_at m v g)) (any_from (g + 1) (suc n) (λ h. is_none (mapped_at m v h))) NotMapped,
        both-when (test g) (any_from (g + 1) (suc n) test) reason,
      ) refl

  -- one of the guest frames is past the last
  any-past : (g n : ℕ) → any_from g (suc n) (nat_le (gfns_of m.config.version)) ≡ (nat_le (gfns_of m.config.version) g || nat_lt (gfns_of m.config.version) (g + suc n))
  any-past g zero = or-false (nat_le (gfns_of m.config.version) g) ∙ grind (arith, common_steps)
  any-past g (suc n) = ap (λ b. nat_le (gfns_of m.config.version) g || b) (any-past (g + 1) n) ∙ grind (arith, common_steps)

  range-by-row : (g n : ℕ) → n < 64 → first_of_these (guest_range m v c g (suc n) (when (any_from g (suc n) test) reason)) ≡ first_of_these (row_of row g n)
  unfolding row joined
  range-by-row g n few =
      let size : (nat_eq (suc n) 0 || nat_lt 64 (suc n)) ≡ false = grind (arith, common_steps, few) in
      rw (size, sym (any-past g n)) (ap first_of_these (sym (rows-join g n)))

pub grants-by-row : (m : State) (v c g n : ℕ) → n < 64 → refusal m (GrantRange v c g (suc n)) ≡ first_of_these (row_of (λ h. conditions m (Grant v c h)) g n)
unfolding row
grants-by-row m v c g n few = range-by-row m v c (λ h. nat_le 100 (share_at m v h)) ShareFull g n few

pub revokes-by-row : (m : State) (v c g n : ℕ) → n < 64 → refusal m (RevokeRange v c g (suc n)) ≡ first_of_these (row_of (λ h. conditions m (Revoke v c h)) g n)
unfolding row
revokes-by-row m v c g n few = range-by-row m v c (λ h. nat_eq (share_at m v h) 0) NotShared g n few
