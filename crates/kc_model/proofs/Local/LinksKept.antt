-- A call leaves the links of the frames that it does not need: they follow from the parts.
use Rattle.std.proofs.Common.{ℕ, ◌≡◌, ◌<◌, Bool, true, false, ◌&&◌, Option, Some, None, nat_lt, nat_eq, eqb-true, List, refl, sym, ap, subst, ◌∙◌, arith}
use Rattle.std.proofs.lemmas.Grind.{common_steps}
use Rattle.std.proofs.lemmas.Bool.{and_parts, and_from}
use Rattle.kc_types.specs.declared.call.Call.{Call}
use Rattle.kc_types.specs.declared.owner.Owner.{Owner}
use Rattle.kc_types.specs.declared.owner.Owner.TheVariants.{Core, Host, Free, Vm}
use Rattle.kc_model.specs.State.{State, Frame, Slot, frame_at, slot_at}
use Rattle.kc_model.specs.Next.{next}
use Rattle.kc_model.specs.Resources.{Resource, is_in, names_frame, uses_free, of_slot, exists_slot, listed_in, need}
use Rattle.kc_model.specs.Links.{link_in, list_of}
use Rattle.kc_model.specs.Linked.{frame_and_link, slot_and_ends, free_ends, linked_slot, ends_of, linked_part_of}
use Rattle.kc_model.specs.Local.{IsOrderly}
use Rattle.kc_model.proofs.Local.Needs.{by_slot, by_free}
use Rattle.kc_model.proofs.Local.Agreeing.{keeps-others, frame_of_part, slot_of_part, free_of_part}
use Rattle.kc_types.specs.Configuration.{slot_count}
use Rattle.kc_types.specs.declared.resource.Resource.TheVariants as resource
use Rattle.kc_types.specs.Slots.{slot_of}

-- each list holds the frames of its owner
pub record ListsAll (m : State) : Type 0 where
  pub free : (f : ℕ) → (frame_at m f).owner ≡ Free → is_in m.free f ≡ true
  pub slots : (v f : ℕ) → v < slot_count m.config → (frame_at m f).owner ≡ Vm v → is_in (slot_at m v).frames f ≡ true

-- a call that needs the free list needs its frames, and one that needs a slot needs the slot's
pub needs-free : (m : State) (call : Call) (f : ℕ) → uses_free call ≡ true → is_in m.free f ≡ true → need m call (resource.Frame f) ≡ true
needs-free m call f uses listed = by_free (names_frame call f) (nat_lt f m.config.frames) (of_slot m.config (listed_in m) (slot_of call) f) (uses_free call && is_in m.free f) (and_from (uses_free call) (is_in m.free f) uses listed)

of-named : (m : State) (named : Option ℕ) (v f : ℕ) → exists_slot m.config named v ≡ true → is_in (slot_at m v).frames f ≡ true → of_slot m.config (listed_in m) named f ≡ true
of-named m None v f names listed = cc
of-named m (Some w) v f names listed =
    let parts = and_parts (nat_lt w (slot_count m.config)) (nat_eq w v) names in
    let same : w ≡ v = eqb-true w v parts.1 in
    and_from (nat_lt w (slot_count m.config)) (is_in (slot_at m w).frames f) parts.0 (subst (λ x. is_in (slot_at m x).frames f ≡ true) (sym same) listed)

pub needs-slot : (m : State) (call : Call) (v f : ℕ) → need m call (resource.Vm v) ≡ true → is_in (slot_at m v).frames f ≡ true → need m call (resource.Frame f) ≡ true
needs-slot m call v f names listed = by_slot (names_frame call f) (nat_lt f m.config.frames) (of_slot m.config (listed_in m) (slot_of call) f) (uses_free call && is_in m.free f) (of-named m (slot_of call) v f names listed)

low-named : (m : State) (named : Option ℕ) (v : ℕ) → exists_slot m.config named v ≡ true → v < slot_count m.config
low-named m None v names = cc
low-named m (Some w) v names = by_both (nat_lt w (slot_count m.config)) (nat_eq w v) refl refl names
  where
    by_both : (a b : Bool) → nat_lt w (slot_count m.config) ≡ a → nat_eq w v ≡ b → (a && b) ≡ true → v < slot_count m.config
    by_both true true x y h = subst (λ n. n < slot_count m.config) (eqb-true w v y) (grind (arith, common_steps, x))
    by_both true false x y h = cc
    by_both false b x y h = cc

-- the list of a frame that the call does not need stays
list-kept : (m : State) (call : Call) → IsOrderly m → ListsAll m → (f : ℕ) → need m call (resource.Frame f) ≡ false → (owner : Owner) → (frame_at m f).owner ≡ owner → list_of (next m call).1 owner ≡ list_of m owner
list-kept m call is all f outside Core e = refl
list-kept m call is all f outside Host e = refl
list-kept m call is all f outside Free e = by_use (uses_free call) refl
  where
    by_use : (uses : Bool) → uses_free call ≡ uses → (next m call).1.free ≡ m.free
    by_use true used = let needed = needs-free m call f used (all.free f e) in cc
    by_use false unused = ap free_of_part (keeps-others m call is resource.Free unused)
list-kept m call is all f outside (Vm v) e = by_name (need m call (resource.Vm v)) refl
  where
    by_name : (named : Bool) → need m call (resource.Vm v) ≡ named → (slot_at (next m call).1 v).frames ≡ (slot_at m v).frames
    by_name true names = let needed = needs-slot m call v f names (all.slots v f (low-named m (slot_of call) v names) e) in cc
    by_name false free = ap (λ (s : Slot). s.frames) (ap slot_of_part (keeps-others m call is (resource.Vm v) free))

-- with links in the frames and ends in place of the lists, a call also leaves what it does not need
pub links-kept : (m : State) (call : Call) → IsOrderly m → ListsAll m → (r : Resource) → need m call r ≡ false → linked_part_of (next m call).1 r ≡ linked_part_of m r
links-kept m call is all (resource.Frame f) outside =
    let same : frame_at (next m call).1 f ≡ frame_at m f = ap frame_of_part (keeps-others m call is (resource.Frame f) outside) in
    ap (λ (frame : Frame). frame_and_link frame (link_in (list_of (next m call).1 frame.owner) f)) same
    ∙ ap (λ (list : List ℕ). frame_and_link (frame_at m f) (link_in list f)) (list-kept m call is all f outside (frame_at m f).owner refl)
links-kept m call is all (resource.Vm v) outside = ap (λ (there : Slot). slot_and_ends (linked_slot there)) (ap slot_of_part (keeps-others m call is (resource.Vm v) outside))
links-kept m call is all resource.Free outside = ap (λ (free : List ℕ). free_ends (ends_of free)) (ap free_of_part (keeps-others m call is resource.Free outside))
