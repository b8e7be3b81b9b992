-- A call that names the VM is refused for the same reason if the VM has the same.
use Rattle.std.proofs.Common.{ℕ, ◌≡◌, ◌+◌, ◌||◌, Bool, true, false, not, List, [], ◌∷◌, length, is_none, nat_eq, nat_le, nat_lt, refl, ap, ◌∙◌, Option, None}
use Rattle.std.specs.List.{list_any}
use Rattle.kc_types.specs.Configuration.{slot_count, vcpus_of, gfns_of, most_images, most_image_bytes}
use Rattle.kc_types.specs.declared.version.Version.{Version}
use Rattle.kc_types.specs.declared.call.Call.TheVariants.{RegisterVm, RegisterVcpu, SetBoot, Verify, GuestRead, GuestWrite, Grant, Revoke, GrantRange, RevokeRange, Drop, Clear}
use Rattle.kc_types.specs.declared.refusal.Refusal.{Refusal}
use Rattle.kc_types.specs.declared.refusal.Refusal.TheVariants.{BadVm, BadVcpu, BadGfn, BadRange, SlotUsed, NoVm, WrongPhase, VcpuUsed, NoVcpu, ImagesFull, Overlap, ImageShort, NotMapped, ShareFull, NotShared, Shared}
use Rattle.kc_model.specs.State.{State, SlotOf, slot_at, mapped_at, vcpu_of}
use Rattle.kc_model.specs.Refusals.{refusal, first_of_these, or_else, when, is_empty, is_booting, is_active, is_short, overlaps, pages_of, bad_range, not_mapped, share_at, any_from}
use Rattle.kc_model.specs.Undisturbed.{Page, own_slot, HasTheSame}
use Rattle.kc_types.proofs.Ranges.{same-version}
use Rattle.kc_model.proofs.States.Each.{none-in, any-same}
use Rattle.kc_model.proofs.Undisturbed.Pages.{under-none, under-page}

abbrev first_then : List (Option Refusal) → Option Refusal → Option Refusal
first_then [] later = later
first_then (first ∷ rest) later = or_else first (first_then rest later)

module _ (s : ℕ → Bool) (v : ℕ) (m n : State) (same : HasTheSame s v m n) where
  -- a refusal that depends on the limits, on the slot, and on a rest that is the same
  by-slot : (F : Version → ℕ → SlotOf (Unit {0}) → Option Refusal → Option Refusal) (a b : Option Refusal) → a ≡ b
      → F m.config.version (slot_count m.config) (own_slot (slot_at m v)) a ≡ F n.config.version (slot_count n.config) (own_slot (slot_at n v)) b
  by-slot F a b e = ap (λ x. F x (slot_count m.config) (own_slot (slot_at m v)) a) (same-version m.config n.config same.slots)
      ∙ ap (λ x. F n.config.version x (own_slot (slot_at m v)) a) same.slots ∙ ap (λ x. F n.config.version (slot_count n.config) x a) same.slot ∙ ap (F n.config.version (slot_count n.config) (own_slot (slot_at n v))) e

  share-same : (g : ℕ) → is_none (mapped_at m v g) ≡ false → share_at m v g ≡ share_at n v g
  share-same g some = ap (λ (p : Page). p.share) (under-page s m.frames n.frames g (mapped_at m v g) (mapped_at n v g) (same.pages g) some)

  none-same : (g : ℕ) → is_none (mapped_at m v g) ≡ is_none (mapped_at n v g)
  none-same g = under-none s m.frames n.frames g (mapped_at m v g) (mapped_at n v g) (same.pages g)

  last-same : (t u : Bool) (a b : Option Refusal) → t ≡ u → (t ≡ false → a ≡ b) → or_else (when t NotMapped) (or_else a None) ≡ or_else (when u NotMapped) (or_else b None)
  last-same true true a b e then = refl
  last-same true false a b e then = absurd cc
  last-same false true a b e then = absurd cc
  last-same false false a b e then = ap (λ x. or_else x None) (then refl)

  abbrev on_frame : ℕ → ℕ → Version → ℕ → SlotOf (Unit {0}) → Option Refusal → Option Refusal
  on_frame c g version count x later = first_then (when (nat_le count v) BadVm ∷ when (nat_le (vcpus_of version) c) BadVcpu ∷ when (nat_le (gfns_of version) g) BadGfn ∷ when (is_empty x.phase) NoVm ∷ when (not (is_active x.phase)) WrongPhase ∷ when (not (vcpu_of x c).registered) NoVcpu ∷ []) later

  abbrev on_range : ℕ → ℕ → ℕ → Version → ℕ → SlotOf (Unit {0}) → Option Refusal → Option Refusal
  on_range c g k version count x later = first_then (when (nat_le count v) BadVm ∷ when (nat_le (vcpus_of version) c) BadVcpu ∷ when (nat_le (gfns_of version) g || nat_lt (gfns_of version) (g + k)) BadGfn ∷ when (nat_eq k 0 || nat_lt 64 k) BadRange
      ∷ when (is_empty x.phase) NoVm ∷ when (not (is_active x.phase)) WrongPhase ∷ when (not (vcpu_of x c).registered) NoVcpu ∷ []) later

  abbrev on_access : ℕ → ℕ → ℕ → ℕ → Version → ℕ → SlotOf (Unit {0}) → Option Refusal → Option Refusal
  on_access c g off len version count x later = first_then (when (nat_le count v) BadVm ∷ when (nat_le (vcpus_of version) c) BadVcpu ∷ when (nat_le (gfns_of version) g) BadGfn ∷ bad_range off len ∷ when (is_empty x.phase) NoVm ∷ when (not (is_active x.phase)) WrongPhase ∷ when (not (vcpu_of x c).registered) NoVcpu ∷ []) later

  by-frame : (c g : ℕ) (test : ℕ → Bool) (r : Refusal) → on_frame c g m.config.version (slot_count m.config) (own_slot (slot_at m v)) (or_else (not_mapped m v g) (or_else (when (test (share_at m v g)) r) None))
      ≡ on_frame c g n.config.version (slot_count n.config) (own_slot (slot_at n v)) (or_else (not_mapped n v g) (or_else (when (test (share_at n v g)) r) None))
  by-frame c g test r = by-slot (on_frame c g) _ _ (last-same (is_none (mapped_at m v g)) (is_none (mapped_at n v g)) _ _ (none-same g) (λ some. ap (λ share. when (test share) r) (share-same g some)))

  by-range : (c g k : ℕ) (test : ℕ → Bool) (r : Refusal) → on_range c g k m.config.version (slot_count m.config) (own_slot (slot_at m v)) (or_else (when (any_from g k (λ h. is_none (mapped_at m v h))) NotMapped) (or_else (when (any_from g k (λ h. test (share_at m v h))) r) None))
      ≡ on_range c g k n.config.version (slot_count n.config) (own_slot (slot_at n v)) (or_else (when (any_from g k (λ h. is_none (mapped_at n v h))) NotMapped) (or_else (when (any_from g k (λ h. test (share_at n v h))) r) None))
  by-range c g k test r = by-slot (on_range c g k) _ _ (last-same (any_from g k (λ h. is_none (mapped_at m v h))) (any_from g k (λ h. is_none (mapped_at n v h))) _ _ (any-same _ _ g k (λ h low high. none-same h))
      (λ some. ap (λ b. when b r) (any-same _ _ g k (λ h low high. ap test (share-same h (none-in (λ j. is_none (mapped_at m v j)) g k h some low high))))))

  pub refused-read : (c g off len : ℕ) → refusal m (GuestRead v c g off len) ≡ refusal n (GuestRead v c g off len)
  refused-read c g off len = by-slot (on_access c g off len) None None refl

  pub refused-write : (c g off : ℕ) (bytes : List ℕ) → refusal m (GuestWrite v c g off bytes) ≡ refusal n (GuestWrite v c g off bytes)
  refused-write c g off bytes = by-slot (on_access c g off (length bytes)) None None refl

  pub refused-grant : (c g : ℕ) → refusal m (Grant v c g) ≡ refusal n (Grant v c g)
  refused-grant c g = by-frame c g (nat_le 100) ShareFull

  pub refused-revoke : (c g : ℕ) → refusal m (Revoke v c g) ≡ refusal n (Revoke v c g)
  refused-revoke c g = by-frame c g (λ share. nat_eq share 0) NotShared

  pub refused-drop : (c g : ℕ) → refusal m (Drop v c g) ≡ refusal n (Drop v c g)
  refused-drop c g = by-frame c g (nat_lt 0) Shared

  pub refused-grants : (c g k : ℕ) → refusal m (GrantRange v c g k) ≡ refusal n (GrantRange v c g k)
  refused-grants c g k = by-range c g k (nat_le 100) ShareFull

  pub refused-revokes : (c g k : ℕ) → refusal m (RevokeRange v c g k) ≡ refusal n (RevokeRange v c g k)
  refused-revokes c g k = by-range c g k (λ share. nat_eq share 0) NotShared

  pub refused-register : refusal m (RegisterVm v) ≡ refusal n (RegisterVm v)
  refused-register = by-slot (λ version count x later. first_of_these (when (nat_le count v) BadVm ∷ when (not (is_empty x.phase)) SlotUsed ∷ [])) None None refl

  pub refused-vcpu : (c : ℕ) → refusal m (RegisterVcpu v c) ≡ refusal n (RegisterVcpu v c)
  refused-vcpu c = by-slot (λ version count x later. first_of_these (when (nat_le count v) BadVm ∷ when (nat_le (vcpus_of version) c) BadVcpu ∷ when (is_empty x.phase) NoVm ∷ when (not (is_booting x.phase)) WrongPhase ∷ when (vcpu_of x c).registered VcpuUsed ∷ [])) None None refl

  pub refused-boot : (base len : ℕ) → refusal m (SetBoot v base len) ≡ refusal n (SetBoot v base len)
  refused-boot base len = by-slot (λ version count x later. first_of_these (when (nat_le count v) BadVm
      ∷ when (nat_le (gfns_of version) base || nat_lt (gfns_of version) (base + pages_of len)) BadGfn
      ∷ when (nat_eq len 0 || nat_lt (most_image_bytes version) len) BadRange
      ∷ when (is_empty x.phase) NoVm ∷ when (not (is_booting x.phase)) WrongPhase
      ∷ when (nat_le (most_images version) (length x.images)) ImagesFull
      ∷ when (list_any (overlaps base len) x.images) Overlap ∷ [])) None None refl

  pub refused-verify : refusal m (Verify v) ≡ refusal n (Verify v)
  refused-verify = by-slot (λ version count x later. first_of_these (when (nat_le count v) BadVm ∷ when (is_empty x.phase) NoVm ∷ when (not (is_booting x.phase)) WrongPhase
      ∷ when (nat_eq (length x.images) 0 || list_any is_short x.images) ImageShort ∷ [])) None None refl

  pub refused-clear : refusal m (Clear v) ≡ refusal n (Clear v)
  refused-clear = by-slot (λ version count x later. first_of_these (when (nat_le count v) BadVm ∷ when (is_empty x.phase) NoVm ∷ [])) None None refl
