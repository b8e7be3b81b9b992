-- The calls on the guest frames of a range depend only on what they need.
use Rattle.std.proofs.Common.{ℕ, zero, suc, ◌≡◌, ◌<◌, ◌+◌, ◌||◌, Bool, true, false, Option, Some, None, is_some, is_none, nat_le, nat_lt, nat_eq, List, [], ◌∷◌, length, get_or, set, refl, sym, ap, subst, ◌∙◌, eqb-true, length-set}
use Rattle.std.specs.List.{range_with_len}
use Rattle.std.proofs.lemmas.Bool.{or_parts}
use Rattle.kc_types.specs.Limits.{range_limit}
use Rattle.kc_types.specs.Configuration.{gfns_of}
use Rattle.kc_types.specs.declared.call.Call.TheVariants.{GrantRange, RevokeRange}
use Rattle.kc_types.specs.declared.owner.Owner.TheVariants.{Core}
use Rattle.kc_types.specs.declared.refusal.Refusal.{Refusal}
use Rattle.kc_types.specs.declared.reply.Reply.TheVariants as reply
use Rattle.kc_types.specs.declared.refusal.Refusal.TheVariants.{BadGfn, BadRange, NotMapped, ShareFull, NotShared}
use Rattle.kc_model.specs.State.{State, Frame, slot_at, mapped_at, untouched}
use Rattle.kc_model.specs.Refusals.{when, first_of_these, bad_vm, bad_vcpu, no_vm, not_active, no_vcpu, share_at, any_from, guest_range, backing}
use Rattle.kc_model.specs.Effects.{changed_each, frames_under, with_each, granted, revoked}
use Rattle.kc_model.specs.Resources.{Resources, pick, merged, is_in}
use Rattle.kc_model.specs.Local.{IsLocal}
use Rattle.kc_model.proofs.Local.Merges.{HasFrame, HasSlot, slot-merged, pick-get, pick-set}
use Rattle.kc_model.proofs.States.Members.{is_in-first, is_in-later}
use Rattle.kc_model.proofs.Local.Locals.{local-next}
use Rattle.kc_model.proofs.Local.GuestLocals.{HasMapped, HasFrames, share-merged}
use Rattle.kc_model.proofs.Refusals.Served.{when-none, none-of}
use Rattle.kc_model.proofs.States.Each.{none-in, any-same}
use Rattle.kc_types.specs.declared.resource.Resource.TheVariants as resource

-- frames among the resources are changed
changed-pick : (change : Frame → Frame) (test : ℕ → Bool) (xs ys : List Frame) (fs : List ℕ) → ((f : ℕ) → is_in fs f ≡ true → f < length xs → test f ≡ true) → changed_each change (pick test (untouched Core) xs ys) fs ≡ pick test (untouched Core) (changed_each change xs fs) ys
changed-pick change test xs ys [] has = refl
changed-pick change test xs ys (f ∷ fs) has =
    let first = has f (is_in-first f fs) in
    let new = change (get_or xs f (untouched Core)) in
    ap (λ x. changed_each change (set (pick test (untouched Core) xs ys) f (change x)) fs) (pick-get test (untouched Core) xs ys f first)
    ∙ ap (λ frames. changed_each change frames fs) (sym (pick-set test (untouched Core) xs ys f new first))
    ∙ changed-pick change test (set xs f new) ys fs (λ k is lt. has k (is_in-later f fs k is) (rw length-set at lt))

each-merged : (here : Resources) (m rest : State) (v : ℕ) (gs : List ℕ) (change : Frame → Frame) → HasSlot here m v → HasFrames here m (frames_under (slot_at m v).mapped gs) → with_each (merged here m rest) v gs change ≡ merged here (with_each m v gs change) rest
each-merged here m rest v gs change has frames = rw (slot-merged here m rest v has, changed-pick change (λ f. here (resource.Frame f)) m.frames rest.frames (frames_under (slot_at m v).mapped gs) frames) refl

some-of : (at : Option ℕ) → is_none at ≡ false → is_some at ≡ true
some-of None h = cc
some-of (Some f) h = refl

-- the frames at mapped guest frames are among the resources
frames-here : (here : Resources) (m : State) (v g n : ℕ) → ((h : ℕ) → HasMapped here m v h) → any_from g n (λ h. is_none (mapped_at m v h)) ≡ false → HasFrames here m (frames_under (slot_at m v).mapped (range_with_len g n))
frames-here here m v g zero mapped each f listed = cc
frames-here here m v g (suc n) mapped each f listed =
    let parts = or_parts (is_none (mapped_at m v g)) (any_from (g + 1) n (λ h. is_none (mapped_at m v h))) each in
    by_first (nat_eq (backing (mapped_at m v g)) f) refl listed (mapped g (some-of (mapped_at m v g) parts.0)) (frames-here here m v (g + 1) n mapped parts.1 f)
  where
    by_first : (same : Bool) → nat_eq (backing (mapped_at m v g)) f ≡ same → (same || is_in (frames_under (slot_at m v).mapped (range_with_len (g + 1) n)) f) ≡ true
        → HasFrame here m (backing (mapped_at m v g)) → (is_in (frames_under (slot_at m v).mapped (range_with_len (g + 1) n)) f ≡ true → HasFrame here m f) → HasFrame here m f
    by_first true e h first rest = subst (HasFrame here m) (eqb-true (backing (mapped_at m v g)) f e) first
    by_first false e h first rest = rest h

-- what is refused last counts only if each guest frame is mapped
unless_unmapped : (a b c d e f g : Option Refusal) (unmapped : Bool) (last other : Option Refusal) → (unmapped ≡ false → last ≡ other)
    → first_of_these (a ∷ b ∷ c ∷ d ∷ e ∷ f ∷ g ∷ when unmapped NotMapped ∷ last ∷ []) ≡ first_of_these (a ∷ b ∷ c ∷ d ∷ e ∷ f ∷ g ∷ when unmapped NotMapped ∷ other ∷ [])
unless_unmapped a b c d e f g true last other same = refl
unless_unmapped a b c d e f g false last other same = ap (λ last. first_of_these (a ∷ b ∷ c ∷ d ∷ e ∷ f ∷ g ∷ last ∷ [])) (same refl)

module _ (here : Resources) (m rest : State) (v c g n : ℕ) (has : HasSlot here m v) (mapped : (h : ℕ) → HasMapped here m v h) where
  range-merged : (last other : Option Refusal) → (any_from g n (λ h. is_none (mapped_at m v h)) ≡ false → last ≡ other) → first_of_these (guest_range (merged here m rest) v c g n last) ≡ first_of_these (guest_range m v c g n other)
  range-merged last other same = rw (slot-merged here m rest v has) (unless_unmapped (bad_vm m v) (bad_vcpu m c) (when (nat_le (gfns_of m.config.version) g || nat_lt (gfns_of m.config.version) (g + n)) BadGfn) (when (nat_eq n 0 || nat_lt range_limit n) BadRange)
      (no_vm m v) (not_active m v) (no_vcpu m v c) (any_from g n (λ h. is_none (mapped_at m v h))) last other same)

  -- a test of the shares
  shares-merged : (test : ℕ → Bool) → any_from g n (λ h. is_none (mapped_at m v h)) ≡ false → any_from g n (λ h. test (share_at (merged here m rest) v h)) ≡ any_from g n (λ h. test (share_at m v h))
  shares-merged test each = any-same _ _ g n (λ h low high. ap test (share-merged here m rest v h has (mapped h) (some-of (mapped_at m v h) (none-in _ g n h each low high))))

  range-local : (change : Frame → Frame) (last : Option Refusal) → first_of_these (guest_range m v c g n last) ≡ None → with_each (merged here m rest) v (range_with_len g n) change ≡ merged here (with_each m v (range_with_len g n) change) rest
  range-local change last served = each-merged here m rest v (range_with_len g n) change has (frames-here here m v g n mapped (when-none _ _ (none-of (guest_range m v c g n last) served 7)))

  pub local-grant_range : IsLocal here m rest (GrantRange v c g n)
  local-grant_range = local-next here m rest (GrantRange v c g n)
      (range-merged _ _ (λ each. ap (λ full. when full ShareFull) (shares-merged (nat_le 100) each)))
      (λ served. ap (λ s. (reply.Done, s)) (range-local granted _ served))

  pub local-revoke_range : IsLocal here m rest (RevokeRange v c g n)
  local-revoke_range = local-next here m rest (RevokeRange v c g n)
      (range-merged _ _ (λ each. ap (λ none. when none NotShared) (shares-merged (λ share. nat_eq share 0) each)))
      (λ served. ap (λ s. (reply.Done, s)) (range-local revoked _ served))
