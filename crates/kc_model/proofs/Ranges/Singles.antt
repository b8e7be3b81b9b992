-- A grant or a revoke of a range is its single calls served together.
use Rattle.std.proofs.Common.{ℕ, zero, suc, ◌≡◌, ◌<◌, ◌≤◌, ◌+◌, ◌↔◌, inl, inr, Bool, true, false, ◌||◌, nat_eq, nat_le, nat_lt, [], ◌∷◌, Option, None, Some, is_none, refl, sym, ap, subst, ◌∙◌, arith}
use Rattle.std.specs.List.{range_with_len}
use Rattle.std.proofs.lemmas.Grind.{common_steps}
use Rattle.std.proofs.lemmas.Bool.{cases_eq}
use Rattle.kc_types.specs.Configuration.{slot_count, vcpus_of, gfns_of}
use Rattle.kc_types.specs.declared.call.Call.{Call}
use Rattle.kc_types.specs.declared.call.Call.TheVariants.{Grant, Revoke, GrantRange, RevokeRange}
use Rattle.kc_types.specs.declared.reply.Reply.TheVariants as reply
use Rattle.kc_types.specs.declared.refusal.Refusal.{Refusal}
use Rattle.kc_types.specs.declared.refusal.Refusal.TheVariants.{ShareFull, NotShared}
use Rattle.kc_types.specs.declared.slot.Phase.TheVariants.{Active}
use Rattle.kc_model.specs.State.{State, Frame, frame_at, slot_at, vcpu_at, mapped_at}
use Rattle.kc_model.specs.Refusals.{refusal, backing, share_at, is_active, is_empty, guest_frame, guest_range, first_of_these, or_else, when, any_from}
use Rattle.kc_model.specs.Effects.{Outcome, effect, with_each, granted, revoked}
use Rattle.kc_model.specs.Next.{next, unless_refused, state_after}
use Rattle.kc_model.specs.Together.{first_refusal, each_call, unless_one_refused, all_or_none}
use Rattle.kc_model.specs.Lawful.{IsLawful}
use Rattle.kc_model.proofs.Refusals.Served.{when-none}
use Rattle.kc_model.proofs.States.Each.{none-in}
use Rattle.kc_model.proofs.States.Lists.{changed-other}
use Rattle.kc_model.proofs.Lawful.GuestCalls.{guest_frame-served}
use Rattle.kc_model.proofs.Lawful.RangeCalls.{guest_range-served, apart}
use Rattle.kc_model.proofs.Lawful.Keeps.{lawful-next}

below : (n k : ℕ) → n < k → nat_le k n ≡ false
below n k lt = grind (arith, common_steps, lt)

range-in : (limit g n : ℕ) → 0 < n → g + n ≤ limit → (nat_le limit g || nat_lt limit (g + n)) ≡ false
range-in limit g n some within = grind (arith, common_steps, some, within)

count-in : (n : ℕ) → 0 < n → n ≤ 64 → (nat_eq n 0 || nat_lt 64 n) ≡ false
count-in n some few = grind (arith, common_steps, some, few)

pub next-served : (r : Option Refusal) (m : State) (call : Call) → r ≡ None → unless_refused r m call ≡ effect m call
next-served None m call served = refl
next-served (Some r) m call served = absurd cc

pub next-does : (m : State) (call : Call) → refusal m call ≡ None → next m call ≡ effect m call
unfolding next
next-does m call served = next-served (refusal m call) m call served

or_else-both : (a b : Option Refusal) → or_else a b ≡ None → (a ≡ None) × (b ≡ None)
or_else-both None b h = (refl, h)
or_else-both (Some r) b h = cc

-- no number of a range passes the test
none-from : (p : ℕ → Bool) (g n : ℕ) → ((h : ℕ) → g ≤ h → h < g + n → p h ≡ false) → any_from g n p ≡ false
none-from p g zero none = refl
none-from p g (suc n) none =
    let first = none g (omega arith) (omega arith) in
    let rest = none-from p (g + 1) n (λ h low high. none h (omega (arith, low)) (omega (arith, high))) in
    rw (first, rest) refl

-- what single calls of a virtual processor on the guest frames of a range need: `full` is what refuses them
record IsReady (full : ℕ → Bool) (m : State) (v c g n : ℕ) : Type 0 where
  vm : v < slot_count m.config
  vcpu : c < vcpus_of m.config.version
  within : g + n ≤ gfns_of m.config.version
  active : (slot_at m v).phase ≡ Active
  registered : (vcpu_at m v c).registered ≡ true
  each : (h : ℕ) → g ≤ h → h < g + n → (mapped_at m v h ≡ Some (backing (mapped_at m v h))) × (full (share_at m v h) ≡ false)

module _ (v c : ℕ) (full : ℕ → Bool) (reason : Refusal) (change : Frame → Frame) (single : ℕ → Call)
    (refused : (m : State) (h : ℕ) → refusal m (single h) ≡ first_of_these (guest_frame m v c h (when (full (share_at m v h)) reason)))
    (does : (m : State) (h : ℕ) → effect m (single h) ≡ (reply.Done, with_each m v (h ∷ []) change)) where
  single-served : (m : State) (g n : ℕ) → IsReady full m v c g (suc n) → refusal m (single g) ≡ None
  single-served m g n ready =
      let here = ready.each g (omega arith) (omega arith) in
      let within = ready.within in
      let b0 = below v (slot_count m.config) ready.vm in
      let b1 = below c (vcpus_of m.config.version) ready.vcpu in
      let b2 = below g (gfns_of m.config.version) (omega (arith, within)) in
      let b4 : is_empty (slot_at m v).phase ≡ false = ap is_empty ready.active in
      let b5 : is_active (slot_at m v).phase ≡ true = ap is_active ready.active in
      let b6 : (vcpu_at m v c).registered ≡ true = ready.registered in
      let b7 : is_none (mapped_at m v g) ≡ false = ap is_none here.0 in
      let b8 : full (share_at m v g) ≡ false = here.1 in
      refused m g ∙ rw (b0, b1, b2, b4, b5, b6, b7, b8) refl

  -- the calls of later guest frames find their frames as they were
  share-later : (m : State) (g h : ℕ) → IsLawful m → v < slot_count m.config → mapped_at m v g ≡ Some (backing (mapped_at m v g)) → mapped_at m v h ≡ Some (backing (mapped_at m v h)) → (h ≡ g → ⊥)
      → share_at (with_each m v (g ∷ []) change) v h ≡ share_at m v h
  share-later m g h is v_in first second ne =
      let f = backing (mapped_at m v g) in
      ap (λ (frame : Frame). frame.share) (changed-other m f (change (frame_at m f)) (backing (mapped_at m v h)) (apart m v g h f (backing (mapped_at m v h)) is v_in first second ne))

  ready-later : (m : State) (g n : ℕ) → IsLawful m → IsReady full m v c g (suc n) → IsReady full (with_each m v (g ∷ []) change) v c (g + 1) n
  ready-later m g n is ready =
      let within = ready.within in
      record {
        vm = ready.vm;
        vcpu = ready.vcpu;
        within = omega (arith, within);
        active = ready.active;
        registered = ready.registered;
        each = λ h low high.
            let later = ready.each h (omega (arith, low)) (omega (arith, high)) in
            (later.0, ap full (share-later m g h is ready.vm (ready.each g (omega arith) (omega arith)).0 later.0 (λ same. omega (arith, low, same))) ∙ later.1);
      }

  lawful-single : (m : State) (g n : ℕ) → IsLawful m → IsReady full m v c g (suc n) → IsLawful (with_each m v (g ∷ []) change)
  lawful-single m g n is ready = subst (λ (o : Outcome). IsLawful o.1) (next-does m (single g) (single-served m g n ready) ∙ does m g) (lawful-next m (single g) is)

  state-single : (m : State) (g n : ℕ) → IsReady full m v c g (suc n) → (next m (single g)).1 ≡ with_each m v (g ∷ []) change
  state-single m g n ready = ap (λ (o : Outcome). o.1) (next-does m (single g) (single-served m g n ready) ∙ does m g)

  -- if the range is ready, its single calls are all served, and leave what the call on the range leaves
  all-served : (m : State) (g n : ℕ) → IsLawful m → IsReady full m v c g n → first_refusal m (each_call single g n) ≡ None
  all-served m g zero is ready = refl
  all-served m g (suc n) is ready =
      ap (λ r. or_else r (first_refusal (next m (single g)).1 (each_call single (g + 1) n))) (single-served m g n ready)
      ∙ ap (λ (x : State). first_refusal x (each_call single (g + 1) n)) (state-single m g n ready)
      ∙ all-served (with_each m v (g ∷ []) change) (g + 1) n (lawful-single m g n is ready) (ready-later m g n is ready)

  left-by : (m : State) (g n : ℕ) → IsLawful m → IsReady full m v c g n → state_after m (each_call single g n) ≡ with_each m v (range_with_len g n) change
  left-by m g zero is ready = refl
  left-by m g (suc n) is ready =
      ap (λ (x : State). state_after x (each_call single (g + 1) n)) (state-single m g n ready)
      ∙ left-by (with_each m v (g ∷ []) change) (g + 1) n (lawful-single m g n is ready) (ready-later m g n is ready)

  -- and the other way round
  ready-one : (m : State) (g : ℕ) → refusal m (single g) ≡ None → IsReady full m v c g 1
  ready-one m g served =
      let seen = guest_frame-served m v c g _ (sym (refused m g) ∙ served) in
      record {
        vm = seen.0.call.vm;
        vcpu = seen.0.call.vcpu;
        within = let low = seen.0.call.gfn in omega (arith, low);
        active = seen.0.call.active;
        registered = seen.0.call.registered;
        each = λ h low high.
            let same : h ≡ g = omega (arith, low, high) in
            subst (λ k. (mapped_at m v k ≡ Some (backing (mapped_at m v k))) × (full (share_at m v k) ≡ false)) (sym same) (seen.0.mapped, when-none _ _ seen.1);
      }

  ready-by : (m : State) (g n : ℕ) → IsLawful m → first_refusal m (each_call single g (suc n)) ≡ None → IsReady full m v c g (suc n)
  ready-by m g zero is served = ready-one m g (or_else-both _ _ served).0
  ready-by m g (suc n) is served =
      let parts = or_else-both (refusal m (single g)) _ served in
      let one = ready-one m g parts.0 in
      let here = one.each g (omega arith) (omega arith) in
      let after = state-single m g zero one in
      let rest = ready-by (with_each m v (g ∷ []) change) (g + 1) n (lawful-single m g zero is one) (subst (λ (x : State). first_refusal x (each_call single (g + 1) (suc n)) ≡ None) after parts.1) in
      let within = rest.within in
      record {
        vm = one.vm;
        vcpu = one.vcpu;
        within = omega (arith, within);
        active = one.active;
        registered = one.registered;
        each = λ h low high. elim (cases_eq h g) [
          | inl same ↦ subst (λ k. (mapped_at m v k ≡ Some (backing (mapped_at m v k))) × (full (share_at m v k) ≡ false)) (sym same) here
          | inr ne ↦
              let later = rest.each h (omega (arith, low, ne)) (omega (arith, high)) in
              (later.0, sym (ap full (share-later m g h is one.vm here.0 later.0 ne)) ∙ later.1)
        ];
      }

  -- the call on the range
  range-ready : (m : State) (g n : ℕ) → first_of_these (guest_range m v c g n (when (any_from g n (λ h. full (share_at m v h))) reason)) ≡ None → IsReady full m v c g n
  range-ready m g n served =
      let seen = guest_range-served m v c g n _ served in
      record {
        vm = seen.0.call.vm;
        vcpu = seen.0.call.vcpu;
        within = seen.0.within;
        active = seen.0.call.active;
        registered = seen.0.call.registered;
        each = λ h low high. (seen.0.mapped h low high, none-in (λ h. full (share_at m v h)) g n h (when-none _ _ seen.1) low high);
      }

  range-served : (m : State) (g n : ℕ) → 0 < n → n ≤ 64 → IsReady full m v c g n → first_of_these (guest_range m v c g n (when (any_from g n (λ h. full (share_at m v h))) reason)) ≡ None
  range-served m g n some few ready =
      let within = ready.within in
      let b0 = below v (slot_count m.config) ready.vm in
      let b1 = below c (vcpus_of m.config.version) ready.vcpu in
      let b2 : (nat_le (gfns_of m.config.version) g || nat_lt (gfns_of m.config.version) (g + n)) ≡ false = range-in (gfns_of m.config.version) g n some within in
      let b3 : (nat_eq n 0 || nat_lt 64 n) ≡ false = count-in n some few in
      let b4 : is_empty (slot_at m v).phase ≡ false = ap is_empty ready.active in
      let b5 : is_active (slot_at m v).phase ≡ true = ap is_active ready.active in
      let b6 : (vcpu_at m v c).registered ≡ true = ready.registered in
      let b7 : any_from g n (λ h. is_none (mapped_at m v h)) ≡ false = none-from (λ h. is_none (mapped_at m v h)) g n (λ h low high. ap is_none (ready.each h low high).0) in
      let b8 : any_from g n (λ h. full (share_at m v h)) ≡ false = none-from (λ h. full (share_at m v h)) g n (λ h low high. (ready.each h low high).1) in
      rw (b0, b1, b2, b3, b4, b5, b6, b7, b8) refl

  module _ (range : ℕ → ℕ → Call)
      (range-refused : (m : State) (g n : ℕ) → refusal m (range g n) ≡ first_of_these (guest_range m v c g n (when (any_from g n (λ h. full (share_at m v h))) reason)))
      (range-does : (m : State) (g n : ℕ) → effect m (range g n) ≡ (reply.Done, with_each m v (range_with_len g n) change)) where
    -- a range of 1 to 64 guest frames is served exactly if all its single calls are, one after another
    served-as-singles : (m : State) (g n : ℕ) → IsLawful m → n < 64 → (refusal m (range g (suc n)) ≡ None) ↔ (first_refusal m (each_call single g (suc n)) ≡ None)
    served-as-singles m g n is few = (
      (λ served. all-served m g (suc n) is (range-ready m g (suc n) (sym (range-refused m g (suc n)) ∙ served))),
      (λ served. range-refused m g (suc n) ∙ range-served m g (suc n) (omega arith) (omega (arith, few)) (ready-by m g n is served)),
    )

    -- then it is what they are together
    does-as-singles : (m : State) (g n : ℕ) → IsLawful m → n < 64 → refusal m (range g (suc n)) ≡ None → next m (range g (suc n)) ≡ all_or_none m (each_call single g (suc n))
    does-as-singles m g n is few served =
        let ready = range-ready m g (suc n) (sym (range-refused m g (suc n)) ∙ served) in
        let calls = each_call single g (suc n) in
        next-does m (range g (suc n)) served ∙ range-does m g (suc n) ∙ ap (λ (x : State). (reply.Done, x)) (sym (left-by m g (suc n) is ready))
        ∙ ap (λ r. unless_one_refused r m calls) (sym (all-served m g (suc n) is ready))

pub grants-are-singles : (m : State) (v c g n : ℕ) → IsLawful m → n < 64 → (refusal m (GrantRange v c g (suc n)) ≡ None) ↔ (first_refusal m (each_call (Grant v c) g (suc n)) ≡ None)
grants-are-singles m v c g n is few = served-as-singles v c (nat_le 100) ShareFull granted (Grant v c) (λ m h. refl) (λ m h. refl) (GrantRange v c) (λ m g n. refl) (λ m g n. refl) m g n is few

pub granted-as-singles : (m : State) (v c g n : ℕ) → IsLawful m → n < 64 → refusal m (GrantRange v c g (suc n)) ≡ None → next m (GrantRange v c g (suc n)) ≡ all_or_none m (each_call (Grant v c) g (suc n))
granted-as-singles m v c g n is few served = does-as-singles v c (nat_le 100) ShareFull granted (Grant v c) (λ m h. refl) (λ m h. refl) (GrantRange v c) (λ m g n. refl) (λ m g n. refl) m g n is few served

pub revokes-are-singles : (m : State) (v c g n : ℕ) → IsLawful m → n < 64 → (refusal m (RevokeRange v c g (suc n)) ≡ None) ↔ (first_refusal m (each_call (Revoke v c) g (suc n)) ≡ None)
revokes-are-singles m v c g n is few = served-as-singles v c (λ share. nat_eq share 0) NotShared revoked (Revoke v c) (λ m h. refl) (λ m h. refl) (RevokeRange v c) (λ m g n. refl) (λ m g n. refl) m g n is few

pub revoked-as-singles : (m : State) (v c g n : ℕ) → IsLawful m → n < 64 → refusal m (RevokeRange v c g (suc n)) ≡ None → next m (RevokeRange v c g (suc n)) ≡ all_or_none m (each_call (Revoke v c) g (suc n))
revoked-as-singles m v c g n is few served = does-as-singles v c (λ share. nat_eq share 0) NotShared revoked (Revoke v c) (λ m h. refl) (λ m h. refl) (RevokeRange v c) (λ m g n. refl) (λ m g n. refl) m g n is few served
