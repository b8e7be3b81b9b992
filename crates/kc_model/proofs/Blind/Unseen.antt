-- Secret bytes, and frames that are not secret.
use Rattle.std.proofs.Common.{ℕ, zero, suc, ◌≡◌, ◌<◌, inl, inr, Bool, true, false, cond, ◌&&◌, List, [], ◌∷◌, map, get_or, nat_eq, eq-eqb, refl, sym, ap, subst, ◌∙◌, arith, Some}
use Rattle.std.proofs.lemmas.Bool.{cases_eq, cases_Bool, ne_eqb, and_parts}
use Rattle.std.proofs.lemmas.Grind.{common_steps}
use Rattle.kc_types.specs.declared.owner.Owner.{Owner}
use Rattle.kc_types.specs.declared.owner.Owner.TheVariants.{Core, Host, Vm}
use Rattle.kc_types.specs.declared.slot.Phase.TheVariants.{Active}
use Rattle.kc_types.specs.Configuration.{slot_count}
use Rattle.kc_model.specs.State.{State, Frame, Slot, frame_at, slot_at, mapped_at, with_slot, untouched, no_slot}
use Rattle.kc_model.specs.Refusals.{is_active}
use Rattle.kc_model.specs.Lawful.{IsLawful, same_owner}
use Rattle.kc_model.specs.Blind.{Secret, has_gfn, is_secret, hidden_frame, is_running, hidden, names_secret, IsPrivate}
use Rattle.kc_model.proofs.States.Frames.{part-set}
use Rattle.kc_model.proofs.States.Changes.{slot-elsewhere}

-- a list to which a function was mapped
pub at-map : {X : Type 0} (change : X → X) (xs : List X) (i : ℕ) (d : X) → change d ≡ d → get_or (map change xs) i d ≡ change (get_or xs i d)
at-map change [] i d same = sym same
at-map change (x ∷ xs) zero d same = refl
at-map change (x ∷ xs) (suc i) d same = at-map change xs i d same

-- a frame that is not secret stays
pub open-frame : (s : Secret) (b : Bool) (frame : Frame) → is_secret s b frame ≡ false → hidden_frame s b frame ≡ frame
open-frame s b frame e = ap (λ t. record frame { bytes = cond t [] frame.bytes }) e

-- a frame of the state without the secret bytes
pub frame-hidden : (s : Secret) (m : State) (f : ℕ) → frame_at (hidden s m) f ≡ hidden_frame s (is_running m s.vm) (frame_at m f)
frame-hidden s m f = at-map (hidden_frame s (is_running m s.vm)) m.frames f (untouched Core) refl

pub and-false : (a b : Bool) → (a && (b && false)) ≡ false
and-false true true = refl
and-false true false = refl
and-false false b = refl

-- frames that are not secret

pub open-owner : (s : Secret) (b : Bool) (frame : Frame) → same_owner frame.owner (Vm s.vm) ≡ false → is_secret s b frame ≡ false
open-owner s b frame e = rw e refl

pub open-host : (s : Secret) (b : Bool) (frame : Frame) → frame.owner ≡ Host → is_secret s b frame ≡ false
open-host s b frame host = open-owner s b frame (ap (λ (o : Owner). same_owner o (Vm s.vm)) host)

pub open-other : (s : Secret) (b : Bool) (frame : Frame) (w : ℕ) → frame.owner ≡ Vm w → (w ≡ s.vm → ⊥) → is_secret s b frame ≡ false
open-other s b frame w owner ne = open-owner s b frame (ap (λ (o : Owner). same_owner o (Vm s.vm)) owner ∙ ne_eqb w s.vm ne)

and-parts : (a b c : Bool) → (b ≡ false) → (a && (b && c)) ≡ false
and-parts true b c e = rw e refl
and-parts false b c e = refl

pub open-gfn : (s : Secret) (b : Bool) (frame : Frame) (g : ℕ) → frame.gfn ≡ Some g → s.gfns g ≡ false → is_secret s b frame ≡ false
open-gfn s b frame g gfn e = and-parts _ (has_gfn s.gfns frame.gfn) b (ap (has_gfn s.gfns) gfn ∙ e)

-- a shared frame is not secret if no secret is shared
pub open-shared : (s : Secret) (m : State) (f : ℕ) → IsPrivate s m → 0 < (frame_at m f).share → is_secret s (is_running m s.vm) (frame_at m f) ≡ false
open-shared s m f private some = elim (cases_Bool (is_secret s (is_running m s.vm) (frame_at m f))) [
  | inl secret ↦ let none = private f secret in absurd (omega arith)
  | inr open_it ↦ open_it
]

-- the mapped frame of a guest frame that is not one of the secret's
pub open-mapped : (s : Secret) (m : State) (v g f : ℕ) → IsLawful m → v < slot_count m.config → mapped_at m v g ≡ Some f → names_secret s v g ≡ false → is_secret s (is_running m s.vm) (frame_at m f) ≡ false
open-mapped s m v g f is v_in mapped other = elim (cases_eq v s.vm) [
  | inl same ↦ open-gfn s (is_running m s.vm) (frame_at m f) g ((is.mapped v g f v_in).0 mapped).1 (let t = eq-eqb v s.vm same in rw t at other)
  | inr ne ↦ open-other s (is_running m s.vm) (frame_at m f) v ((is.mapped v g f v_in).0 mapped).0 ne
]

-- the mapped frame of a guest frame of the secret's is secret
pub is_secret-mapped : (s : Secret) (m : State) (v g f : ℕ) → IsLawful m → v < slot_count m.config → (slot_at m v).phase ≡ Active → mapped_at m v g ≡ Some f → names_secret s v g ≡ true → is_secret s (is_running m s.vm) (frame_at m f) ≡ true
is_secret-mapped s m v g f is v_in active mapped names =
    let parts = and_parts (nat_eq v s.vm) (s.gfns g) names in
    let same : v ≡ s.vm = grind (arith, common_steps, parts.0) in
    let owner : same_owner (frame_at m f).owner (Vm s.vm) ≡ true = ap (λ (o : Owner). same_owner o (Vm s.vm)) ((is.mapped v g f v_in).0 mapped).0 ∙ parts.0 in
    let gfn : has_gfn s.gfns (frame_at m f).gfn ≡ true = ap (has_gfn s.gfns) ((is.mapped v g f v_in).0 mapped).1 ∙ parts.1 in
    let running : is_running m s.vm ≡ true = subst (λ x. is_running m x ≡ true) same (ap is_active active) in
    rw (owner, gfn, running) refl

-- a slot that is written and runs as before
pub running-kept : (m : State) (w : ℕ) (slot : Slot) (v : ℕ) → is_active slot.phase ≡ is_active (slot_at m w).phase → is_running (with_slot m w slot) v ≡ is_running m v
running-kept m w slot v same = part-set (λ (x : Slot). is_active x.phase) m.slots w slot no_slot same v

-- another slot is written
pub running-elsewhere : (m : State) (w : ℕ) (slot : Slot) (v : ℕ) → (v ≡ w → ⊥) → is_running (with_slot m w slot) v ≡ is_running m v
running-elsewhere m w slot v ne = ap (λ (x : Slot). is_active x.phase) (slot-elsewhere m w slot v ne)
