-- A call by which nothing reaches a VM leaves the VM what it has.
use Rattle.std.proofs.Common.{ℕ, ◌≡◌, ◌≢◌, ◌<◌, ◌≤◌, ◌⊎◌, ◌&&◌, inl, inr, Bool, true, false, cond, List, [], length, eq-eqb, refl, sym, ap, subst, ◌∙◌, Option, None, Some}
use Rattle.std.proofs.lemmas.Bool.{cases_eq, cases_lt}
use Rattle.std.proofs.lemmas.List.{get_or_past}
use Rattle.std.proofs.lemmas.Option.{same_Some}
use Rattle.std.specs.FinMap as map
use Rattle.std.specs.Ordering.{nat_cmp}
use Rattle.kc_types.specs.Configuration.{Configuration, slot_count}
use Rattle.kc_types.specs.declared.call.Call.{Call}
use Rattle.kc_types.specs.declared.call.Call.TheVariants.{HostFault, HostWrite, Remap, Map, RegisterVm, RegisterVcpu, SetBoot, Verify, Clear}
use Rattle.kc_types.specs.declared.refusal.Refusal.{Refusal}
use Rattle.kc_types.specs.declared.owner.Owner.{Owner}
use Rattle.kc_types.specs.declared.owner.Owner.TheVariants.{Core, Vm}
use Rattle.kc_types.specs.Slots.{slot_of}
use Rattle.kc_model.specs.State.{State, Frame, Slot, frame_at, slot_at, mapped_at, untouched, no_slot, overwritten}
use Rattle.kc_model.specs.Refusals.{refusal, backing}
use Rattle.kc_model.specs.Effects.{effect}
use Rattle.kc_model.specs.Next.{next, unless_refused}
use Rattle.kc_model.specs.Lawful.{IsLawful, same_owner}
use Rattle.kc_model.specs.Blind.{has_gfn}
use Rattle.kc_model.specs.Undisturbed.{page_of, page_under, own_slot, HasTheSame, Input, own_call, host_bytes, if_served, if_named, by_host, input, watched_call}
use Rattle.kc_model.proofs.States.Frames.{part-set}
use Rattle.kc_model.proofs.States.Sizes.{sized-effect}
use Rattle.kc_model.proofs.States.Lists.{changed-other}
use Rattle.kc_model.proofs.Safe.Alone.{left-effect}
use Rattle.kc_model.proofs.Undisturbed.Pages.{page-kept}

-- a slot that maps something exists
in-range : (m : State) (v g f : ℕ) → IsLawful m → mapped_at m v g ≡ Some f → v < slot_count m.config
in-range m v g f is e = elim (cases_lt v (slot_count m.config)) [
  | inl lt ↦ lt
  | inr past ↦
      let beyond : length m.slots ≤ v = rw is.slots past in
      let none : mapped_at m v g ≡ None = ap (λ (x : Slot). map.get x.mapped g) (get_or_past m.slots v no_slot beyond) ∙ map.get-empty nat_cmp g in
      absurd cc
]

-- the slot is as it was, and so are its pages
pub kept : (s : ℕ → Bool) (v : ℕ) (m new : State) → IsLawful m → new.config ≡ m.config → slot_at new v ≡ slot_at m v
    → ((f g : ℕ) → (frame_at m f).owner ≡ Vm v → (frame_at m f).gfn ≡ Some g → page_of s g (frame_at new f) ≡ page_of s g (frame_at m f)) → HasTheSame s v m new
kept s v m new is config slot pages = record {
  slots = ap slot_count (sym config);
  leaves = ap (λ (c : Configuration). c.leaves) (sym config);
  approved = ap (λ (c : Configuration). c.approved) (sym config);
  slot = ap own_slot (sym slot);
  pages = λ g. page-kept s m.frames new.frames g (mapped_at m v g) (λ f e. let at = (is.mapped v g f (in-range m v g f is e)).0 e in sym (pages f g at.0 at.1))
      ∙ ap (λ (x : Slot). page_under s new.frames g (map.get x.mapped g)) (sym slot);
}

-- the host's write to a frame of the VM, if nothing reaches the VM by it
own-true : (owner : Owner) (v : ℕ) → owner ≡ Vm v → same_owner owner (Vm v) ≡ true
own-true owner v e = ap (λ (o : Owner). same_owner o (Vm v)) e ∙ eq-eqb v v refl

unwatched : (s : ℕ → Bool) (v g : ℕ) (frame : Frame) (off : ℕ) (bytes : List ℕ) → frame.owner ≡ Vm v → frame.gfn ≡ Some g → by_host s v frame off bytes ≡ None → s g ≡ false
unwatched s v g frame off bytes mine at none =
    let owner = own-true frame.owner v mine in
    let gfn : has_gfn s frame.gfn ≡ s g = ap (has_gfn s) at in
    by-case (s g) refl (ap (λ b. cond (b && has_gfn s frame.gfn) (Some (host_bytes (backing frame.gfn) off bytes)) None) (sym owner) ∙ none) gfn
  where
    by-case : (b : Bool) → s g ≡ b → cond (has_gfn s frame.gfn) (Some (host_bytes (backing frame.gfn) off bytes)) None ≡ None → has_gfn s frame.gfn ≡ s g → s g ≡ false
    by-case false e h gfn = e
    by-case true e h gfn = let one : has_gfn s frame.gfn ≡ true = gfn ∙ e in let both : cond true (Some (host_bytes (backing frame.gfn) off bytes)) None ≡ None = ap (λ b. cond b (Some (host_bytes (backing frame.gfn) off bytes)) None) (sym one) ∙ h in absurd cc

pub blank : (s : ℕ → Bool) (g : ℕ) (frame : Frame) (bytes : List ℕ) → s g ≡ false → page_of s g (record frame { bytes = bytes }) ≡ page_of s g frame
blank s g frame bytes e = ap (λ b. record { share = frame.share; bytes = cond b bytes [] }) e ∙ sym (ap (λ b. record { share = frame.share; bytes = cond b frame.bytes [] }) e)

pages-kept : (s : ℕ → Bool) (v : ℕ) (m : State) (call : Call) → IsLawful m → refusal m call ≡ None → (slot_of call ≢ Some v) → if_served None (input s v m call) ≡ None
    → (f g : ℕ) → (frame_at m f).owner ≡ Vm v → (frame_at m f).gfn ≡ Some g → page_of s g (frame_at (effect m call).1 f) ≡ page_of s g (frame_at m f)
pages-kept s v m (HostFault k) is served others none f g mine at = part-set (page_of s g) m.frames k _ (untouched Core) refl f
pages-kept s v m (HostWrite k off bytes) is served others none f g mine at = elim (cases_eq f k) [
  | inl here ↦
      let mine_k : (frame_at m k).owner ≡ Vm v = subst (λ x. (frame_at m x).owner ≡ Vm v) here mine in
      let at_k : (frame_at m k).gfn ≡ Some g = subst (λ x. (frame_at m x).gfn ≡ Some g) here at in
      let nothing : by_host s v (frame_at m k) off bytes ≡ None = ap (λ r. if_served r (by_host s v (frame_at m k) off bytes)) (sym served) ∙ none in
      part-set (page_of s g) m.frames k (record (frame_at m k) { bytes = overwritten (frame_at m k).bytes off bytes }) (untouched Core)
      (blank s g (frame_at m k) (overwritten (frame_at m k).bytes off bytes) (unwatched s v g (frame_at m k) off bytes mine_k at_k nothing)) f
  | inr other ↦ ap (page_of s g) (changed-other m k _ f other)
]
pages-kept s v m call is served others none f g mine at = ap (page_of s g) ((left-effect m call v is served others).frames f mine tt)

named : (at : Option ℕ) (v : ℕ) → (at ≡ Some v) ⊎ (at ≢ Some v)
named None v = inr (λ e. cc)
named (Some w) v = elim (cases_eq w v) [
  | inl same ↦ inl (ap Some same)
  | inr other ↦ inr (λ e. other (same_Some w v e))
]

-- a call that names the VM, and by which nothing reaches it, is refused
refused-then : (refused : Option Refusal) (m : State) (call : Call) (i : Input) → if_served refused (Some i) ≡ None → (unless_refused refused m call).1 ≡ m
refused-then None m call i e = absurd cc
refused-then (Some r) m call i e = refl

named-none : (at : Option ℕ) (v : ℕ) (i : Option Input) → at ≡ Some v → if_named v at i ≡ None → i ≡ None
named-none at v i e none = ap (λ b. cond b i None) (sym (eq-eqb v v refl)) ∙ ap (λ x. if_named v x i) (sym e) ∙ none

some-none : {X : Type 0} (x : X) → Some x ≡ None → ⊥
some-none x e = cc

named-state : (s : ℕ → Bool) (v : ℕ) (m : State) (call : Call) → slot_of call ≡ Some v → input s v m call ≡ None → (unless_refused (refusal m call) m call).1 ≡ m
named-state s v m (HostWrite f off bytes) e none = absurd cc
named-state s v m (Remap w i f) e none = refused-then (refusal m (Remap w i f)) m (Remap w i f) _ (named-none (Some w) v _ e none)
named-state s v m (Map w c f) e none = refused-then (refusal m (Map w c f)) m (Map w c f) _ (named-none (Some w) v _ e none)
named-state s v m (RegisterVm w) e none = refused-then (refusal m (RegisterVm w)) m (RegisterVm w) _ (named-none (Some w) v _ e none)
named-state s v m (RegisterVcpu w c) e none = refused-then (refusal m (RegisterVcpu w c)) m (RegisterVcpu w c) _ (named-none (Some w) v _ e none)
named-state s v m (SetBoot w base len) e none = refused-then (refusal m (SetBoot w base len)) m (SetBoot w base len) _ (named-none (Some w) v _ e none)
named-state s v m (Verify w) e none = refused-then (refusal m (Verify w)) m (Verify w) _ (named-none (Some w) v _ e none)
named-state s v m (Clear w) e none = refused-then (refusal m (Clear w)) m (Clear w) _ (named-none (Some w) v _ e none)
named-state s v m call e none = absurd (some-none (own_call (watched_call s call)) (named-none (slot_of call) v (Some (own_call (watched_call s call))) e none))

pub same-self : (s : ℕ → Bool) (v : ℕ) (m : State) → HasTheSame s v m m
same-self s v m = record { slots = refl; leaves = refl; approved = refl; slot = refl; pages = λ g. refl }

unnamed-unless : (refused : Option Refusal) (s : ℕ → Bool) (v : ℕ) (m : State) (call : Call) → IsLawful m → refusal m call ≡ refused → (slot_of call ≢ Some v) → input s v m call ≡ None → HasTheSame s v m (unless_refused refused m call).1
unnamed-unless None s v m call is served others none =
    kept s v m (effect m call).1 is (sized-effect m call).config (left-effect m call v is served others).slot (pages-kept s v m call is served others none)
unnamed-unless (Some r) s v m call is refused others none = same-self s v m

pub unnamed : (s : ℕ → Bool) (v : ℕ) (m : State) (call : Call) → IsLawful m → input s v m call ≡ None → HasTheSame s v m (next m call).1
unfolding next
unnamed s v m call is none = elim (named (slot_of call) v) [
  | inl mine ↦ subst (HasTheSame s v m) (sym (named-state s v m call mine none)) (same-self s v m)
  | inr others ↦ unnamed-unless (refusal m call) s v m call is refl others none
]
