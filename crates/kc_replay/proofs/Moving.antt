-- Parts that are a state's at some resources, taken out and put back.
use Rattle.std.proofs.Common.{◌≡◌, ◌⊎◌, inl, inr, Bool, true, false, cond, not, ◌&&◌, ◌||◌, Option, Some, None, refl, sym, ap, ◌∙◌}
use Rattle.std.specs.Option.{option_map}
use Rattle.kc_types.specs.Configuration.{Configuration}
use Rattle.kc_types.specs.declared.call.Call.{Call}
use Rattle.kc_types.specs.declared.resource.Resource.TheVariants as resource
use Rattle.kc_model.specs.State.{State}
use Rattle.kc_model.specs.Lawful.{IsLawful}
use Rattle.kc_model.specs.Linked.{LinkedPart, linked_part_of}
use Rattle.kc_model.specs.Next.{next}
use Rattle.kc_model.specs.Resources.{Resource, Resources, need}
use Rattle.kc_model.proofs.Lawful.LawfulTraces.{orderly-is, lists-all}
use Rattle.kc_model.proofs.Local.LinksKept.{links-kept}
use Rattle.kc_model.proofs.States.Sizes.{sized-next}
use Rattle.kc_vms.specs.Vm.{VmSlot}
use Rattle.kc_parts.specs.Cuts.{HeldPart, held_at, either, IsSplit, IsJoin}
use Rattle.kc_parts.specs.Cuts.HeldPart.{slot_part}
use Rattle.kc_parts.specs.Parts.{Held, vm_at}
use Rattle.kc_parts.specs.Restricted.{seen_part, seen_at, exists_in, IsRestricted}
use Rattle.kc_parts.specs.States.{state_of}
use Rattle.kc_parts.proofs.Rooms.{room-taken, room-rest, room-joined}
use Rattle.kc_core.specs.KCore.{IsCore}
use Rattle.kc_replay.specs.Wave.{HasPlaces}
use Rattle.kc_replay.specs.Moving.{in_both, in_first, in_either, IsMoving}
use Rattle.kc_replay.proofs.Taking.{left-whole, places-whole}
use Rattle.kc_replay.proofs.Putting.{core-again}

-- the slot of what is held
slot-of : (there : Option VmSlot) (vm : VmSlot) → option_map slot_part there ≡ Some (slot_part vm) → there ≡ Some vm
slot-of None vm e = cc
slot-of (Some x) vm e = cc

taken-slot : (b : Bool) (there held : Option VmSlot) (vm : VmSlot) → option_map slot_part held ≡ cond b (option_map slot_part there) None → held ≡ Some vm → there ≡ Some vm
taken-slot true there held vm is at = slot-of there vm (sym is ∙ ap (option_map slot_part) at)
taken-slot false there held vm is at = (let no = rw at at is in cc)

rest-slot : (b : Bool) (there held : Option VmSlot) (vm : VmSlot) → option_map slot_part held ≡ cond b None (option_map slot_part there) → held ≡ Some vm → there ≡ Some vm
rest-slot true there held vm is at = (let no = rw at at is in cc)
rest-slot false there held vm is at = slot-of there vm (sym is ∙ ap (option_map slot_part) at)

taken-part : (a b : Bool) (there held : Option HeldPart) (l : LinkedPart) → option_map seen_part there ≡ cond a (Some l) None → held ≡ cond b there None → option_map seen_part held ≡ cond (a && b) (Some l) None
taken-part true true there held l seen is = rw is seen
taken-part true false there held l seen is = rw is refl
taken-part false true there held l seen is = rw is seen
taken-part false false there held l seen is = rw is refl

rest-part : (a b : Bool) (there held : Option HeldPart) (l : LinkedPart) → option_map seen_part there ≡ cond a (Some l) None → held ≡ cond b None there → option_map seen_part held ≡ cond (a && not b) (Some l) None
rest-part true true there held l seen is = rw is refl
rest-part true false there held l seen is = rw is seen
rest-part false true there held l seen is = rw is refl
rest-part false false there held l seen is = rw is seen

taken : (m : State) (here wanted : Resources) (h rest got : Held) → IsRestricted m here h → IsSplit h wanted rest got → IsRestricted m (in_both here wanted) got × IsRestricted m (in_first here wanted) rest
taken m here wanted h rest got is split = (
  record {
    parts = λ r. taken-part (here r) (wanted r) (held_at h r) (held_at got r) (linked_part_of m r) (is.parts r) (split.taken_is r);
    capacities = λ v vm at. is.capacities v vm (taken-slot (wanted (resource.Vm v)) (vm_at h v) (vm_at got v) vm (split.taken_is (resource.Vm v)) at);
    room = room-taken h wanted rest got is.room split;
  },
  record {
    parts = λ r. rest-part (here r) (wanted r) (held_at h r) (held_at rest r) (linked_part_of m r) (is.parts r) (split.rest_is r);
    capacities = λ v vm at. is.capacities v vm (rest-slot (wanted (resource.Vm v)) (vm_at h v) (vm_at rest v) vm (split.rest_is (resource.Vm v)) at);
    room = room-rest h wanted rest got is.room split;
  },
)

kept-part : (b : Bool) (there : Option LinkedPart) (l k : LinkedPart) → there ≡ cond b (Some l) None → (b ≡ true → k ≡ l) → there ≡ cond b (Some k) None
kept-part true there l k is same = is ∙ ap Some (sym (same refl))
kept-part false there l k is same = is

stays : (m : State) (here : Resources) (h : Held) (call : Call) → IsLawful m → IsRestricted m here h → ((r : Resource) → here r ≡ true → need m call r ≡ false) → IsRestricted (next m call).1 here h
stays m here h call lawful is apart = record {
  parts = λ r. kept-part (here r) (seen_at h r) (linked_part_of m r) (linked_part_of (next m call).1 r) (is.parts r) (λ e. links-kept m call (orderly-is m lawful) (lists-all m lawful) r (apart r e));
  capacities = λ v vm at. rw ((sized-next m call).config) (is.capacities v vm at);
  room = is.room;
}

joined-part : (a b : Bool) (one other after : Option HeldPart) (l : LinkedPart) → option_map seen_part one ≡ cond a (Some l) None → option_map seen_part other ≡ cond b (Some l) None → after ≡ either one other → option_map seen_part after ≡ cond (a || b) (Some l) None
joined-part true b (Some x) other after l first second is = rw is first
joined-part true b None other after l first second is = cc
joined-part false b None other after l first second is = rw is second
joined-part false b (Some x) other after l first second is = cc

joined-slot : (one other after : Option VmSlot) (vm : VmSlot) → option_map slot_part after ≡ either (option_map slot_part one) (option_map slot_part other) → after ≡ Some vm → (one ≡ Some vm) ⊎ (other ≡ Some vm)
joined-slot (Some x) other after vm is at = inl (slot-of (Some x) vm (sym is ∙ ap (option_map slot_part) at))
joined-slot None other after vm is at = inr (slot-of other vm (sym is ∙ ap (option_map slot_part) at))

joined : (m : State) (here there : Resources) (one other after : Held) → IsRestricted m here one → IsRestricted m there other → IsJoin one other after → IsRestricted m (in_either here there) after
joined m here there one other after first second join = record {
  parts = λ r. joined-part (here r) (there r) (held_at one r) (held_at other r) (held_at after r) (linked_part_of m r) (first.parts r) (second.parts r) (join.parts r);
  capacities = λ v vm at. elim (joined-slot (vm_at one v) (vm_at other v) (vm_at after v) vm (join.parts (resource.Vm v)) at) [
    | inl found ↦ first.capacities v vm found
    | inr found ↦ second.capacities v vm found
  ];
  room = room-joined one other after first.room second.room join;
}

same : (m : State) (here there : Resources) (h : Held) → IsRestricted m here h → ((r : Resource) → here r ≡ there r) → IsRestricted m there h
same m here there h is equal = record { parts = λ r. rw (← equal r) (is.parts r); capacities = is.capacities; room = is.room }

whole : (config : Configuration) (h : Held) → IsCore config h → IsRestricted (state_of config h) (exists_in config) h × HasPlaces config h
whole config h is =
    let left = left-whole config h is (λ k r. false) in
    (record { parts = left.parts; capacities = left.capacities; room = left.room }, places-whole config h is)

pub moving : IsMoving
moving = record { whole = whole; taken = taken; stays = stays; joined = joined; same = same; core = core-again }
