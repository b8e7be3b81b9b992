-- What the calls of a wave left goes back into the store.
use Rattle.std.proofs.Common.{ℕ, suc, ◌≡◌, ◌≢◌, ◌<◌, ◌≤◌, ◌+◌, ◌⊎◌, inl, inr, Bool, true, false, cond, List, [], length, get_or, set, Option, Some, None, refl, sym, ap, ◌∙◌, subst, arith}
use Rattle.std.specs.List.{range_with_len}
use Rattle.std.specs.Option.{option_map}
use Rattle.std.proofs.lemmas.Bool.{ltb-true, lt-ltb, cases_eq}
use Rattle.std.proofs.lemmas.List.{get_or-set_same, get_or-set_other}
use Rattle.kc_types.specs.declared.reply.Reply.{Reply}
use Rattle.kc_types.specs.declared.reply.Reply.TheVariants.{Done}
use Rattle.std.proofs.lemmas.List.FromFn.{get_or-range_with_len, length-range_with_len}
use Rattle.kc_types.specs.Configuration.{slot_count}
use Rattle.kc_types.specs.declared.call.Call.{Call}
use Rattle.kc_types.specs.declared.link.Ends.{Ends}
use Rattle.kc_types.specs.declared.owner.Owner.TheVariants.{Free, Vm}
use Rattle.kc_types.specs.declared.resource.Resource.TheVariants as resource
use Rattle.kc_model.specs.State.{State}
use Rattle.kc_model.specs.Lawful.{IsLawful}
use Rattle.kc_model.specs.Resources.{Resource, Resources}
use Rattle.kc_model.specs.Linked.{LinkedPart, linked_part_of}
use Rattle.kc_model.specs.Footprints.{state_at, reply_at}
use Rattle.kc_model.proofs.Lawful.LawfulTraces.{lawful-at}
use Rattle.kc_page.specs.declared.page.Page.{Page}
use Rattle.kc_vms.specs.Vm.{VmSlot}
use Rattle.kc_parts.specs.Cuts.{HeldPart, held_at, IsJoin, FitsInto}
use Rattle.kc_parts.specs.Cuts.HeldPart.{page_part, slot_part, ends_part}
use Rattle.kc_parts.specs.Parts.{Held, IsRising, place_of, page_at, vm_at}
use Rattle.kc_parts.specs.States.{state_of}
use Rattle.kc_parts.proofs.Places.{place-found}
use Rattle.kc_core.specs.KCore.{IsCore}
use Rattle.kc_parts.specs.Restricted.{seen_part, exists_in, IsRestricted}
use Rattle.kc_replay.specs.Wave.{IsRest, HasPlaces, down_from, wave_calls, footprints_at, IsWave, IsFinishedAt}
use Rattle.kc_replay.specs.declared.task.Finished.{Finished}
use Rattle.kc_parts.proofs.Complete.{linked-again, state-again, here-again}
use Rattle.kc_replay.proofs.Apart.{config-at, all-out, back}
use Rattle.kc_replay.proofs.Taking.{out-earlier, out-all, low-in, wave-length}

seen-none : (there : Option HeldPart) → option_map seen_part there ≡ None → there ≡ None
seen-none None e = refl
seen-none (Some x) e = cc

-- what is held is in the footprint
held-here : (b : Bool) (there : Option HeldPart) (x : HeldPart) (l : LinkedPart) → option_map seen_part there ≡ cond b (Some l) None → there ≡ Some x → b ≡ true
held-here true there x l seen is = refl
held-here false None x l seen is = cc
held-here false (Some y) x l seen is = cc

rising-range : (n : ℕ) → IsRising (range_with_len 0 n)
rising-range n i j less within =
    let low : j < n = rw (length-range_with_len 0 n) at within in
    let first : get_or (range_with_len 0 n) i 0 ≡ i = get_or-range_with_len 0 n i 0 (omega (arith, less, low)) ∙ omega arith in
    let second : get_or (range_with_len 0 n) j 0 ≡ j = get_or-range_with_len 0 n j 0 low ∙ omega arith in
    omega (arith, first, second, less)

place-low : (n f : ℕ) → f < n → place_of (range_with_len 0 n) f < length (range_with_len 0 n)
place-low n f low =
    let len = length-range_with_len 0 n in
    let is : place_of (range_with_len 0 n) f ≡ f = place-found (range_with_len 0 n) f f (rising-range n) (rw len low) (get_or-range_with_len 0 n f 0 low ∙ omega arith) in
    rw (is, len) low

page-none : (there : Option Page) → option_map page_part there ≡ None → there ≡ None
page-none None e = refl
page-none (Some x) e = cc

slot-none : (there : Option VmSlot) → option_map slot_part there ≡ None → there ≡ None
slot-none None e = refl
slot-none (Some x) e = cc

ends-none : (there : Option Ends) → option_map ends_part there ≡ None → there ≡ None
ends-none None e = refl
ends-none (Some x) e = cc

-- parts that are all of a state's are a whole core's
pub core-again : (m : State) (h : Held) → IsLawful m → IsRestricted m (exists_in m.config) h → HasPlaces m.config h → IsCore m.config h × (state_of m.config h ≡ m)
core-again m h lawful restricted places = (
  record {
    lawful = subst IsLawful (sym (state-again m h lawful restricted)) lawful;
    linked = linked-again m h lawful restricted;
    whole = record {
      numbers = places.numbers;
      frames = λ f low. here-again m h lawful restricted (resource.Frame f) ∙ lt-ltb f m.config.frames low;
      vms = λ v low. here-again m h lawful restricted (resource.Vm v) ∙ lt-ltb v (slot_count m.config) low;
      past = λ v some. ltb-true v (slot_count m.config) (sym (here-again m h lawful restricted (resource.Vm v)) ∙ some);
      free = here-again m h lawful restricted resource.Free;
    };
  },
  state-again m h lawful restricted,
)

module _ (m : State) (calls : List Call) (footprints : ℕ → Resources) (members : List ℕ) (wave : IsWave m calls footprints members) where
  abbrev pub last : State
  last = state_at m (wave_calls calls members) (length (wave_calls calls members))

  -- all calls of the wave are out
  pub switched : (h : Held) → IsRest m (footprints_at footprints members) (down_from (length members)) h → IsRest (state_at m (wave_calls calls members) (length (wave_calls calls members))) (footprints_at footprints members) (down_from (length members)) h
  switched h left =
      all-out m (wave_calls calls members) (footprints_at footprints members) wave.lawful wave.apart (down_from (length members)) h
      (λ k r low e. out-all m (wave_calls calls members) (footprints_at footprints members) wave.apart (length members) k r (let l = low in let n = wave-length calls members in omega (arith, l, n)) e) left

  module _ (i : ℕ) (h : Held) (done : Finished) (low : i < length members) (left : IsRest (state_at m (wave_calls calls members) (length (wave_calls calls members))) (footprints_at footprints members) (down_from (i + 1)) h) (at : IsFinishedAt m calls footprints members i done) where
    -- what is held of a call's parts is not in the store
    absent : (r : Resource) → footprints_at footprints members i r ≡ true → held_at h r ≡ None
    absent r e = seen-none (held_at h r) (left.parts r ∙ ap (λ b. cond b None (cond (exists_in (state_at m (wave_calls calls members) (length (wave_calls calls members))).config r) (Some (linked_part_of (state_at m (wave_calls calls members) (length (wave_calls calls members))) r)) None))
        (out-all m (wave_calls calls members) (footprints_at footprints members) wave.apart (i + 1) i r (omega arith) e))

    footprint : (r : Resource) (x : HeldPart) → held_at done.left.parts r ≡ Some x → footprints_at footprints members i r ≡ true
    footprint r x e = held-here (footprints_at footprints members i r) (held_at done.left.parts r) x (linked_part_of (state_at m (wave_calls calls members) (suc i)) r) (at.parts.parts r) e

    there : (r : Resource) → footprints_at footprints members i r ≡ true → exists_in m.config r ≡ true
    there r e = wave.apart.exist i (low-in m calls footprints members wave i low) r e

    pub fits-wave : HasPlaces m.config h → FitsInto h done.left.parts
    fits-wave places = record {
      pages = λ f page e.
          let t = footprint (resource.Frame f) (page_part page) (ap (option_map page_part) e) in
          (rw places.numbers (place-low m.config.frames f (ltb-true f m.config.frames (there (resource.Frame f) t))), page-none (page_at h f) (absent (resource.Frame f) t));
      slots = λ v vm e.
          let t = footprint (resource.Vm v) (slot_part vm) (ap (option_map slot_part) e) in
          (places.slots v (ltb-true v (slot_count m.config) (there (resource.Vm v) t)), slot-none (vm_at h v) (absent (resource.Vm v) t));
      ends = λ ends e.
          let t = footprint resource.Free (ends_part ends) (ap (option_map ends_part) e) in
          ends-none h.free (absent resource.Free t);
    }

    pub back-wave : (joined : Held) → IsJoin h done.left.parts joined → IsRest (state_at m (wave_calls calls members) (length (wave_calls calls members))) (footprints_at footprints members) (down_from i) joined
    back-wave joined join =
        let e : i + 1 ≡ suc i = omega arith in
        back m (wave_calls calls members) (footprints_at footprints members) wave.lawful wave.apart (down_from i) i h done.left.parts joined (low-in m calls footprints members wave i low)
        (λ r t. out-earlier m (wave_calls calls members) (footprints_at footprints members) wave.apart i i r (omega arith) (low-in m calls footprints members wave i low) t) (rw e at left) at.parts join

  lawful-last : IsLawful (state_at m (wave_calls calls members) (length (wave_calls calls members)))
  lawful-last = lawful-at m (wave_calls calls members) wave.lawful (length (wave_calls calls members)) (omega arith)

  config-last : (state_at m (wave_calls calls members) (length (wave_calls calls members))).config ≡ m.config
  config-last = config-at m (wave_calls calls members) (footprints_at footprints members) wave.lawful wave.apart (length (wave_calls calls members))

  -- a whole core is left
  pub core-last : (h : Held) → IsRest (state_at m (wave_calls calls members) (length (wave_calls calls members))) (footprints_at footprints members) [] h → HasPlaces m.config h → IsCore m.config h × (state_of m.config h ≡ state_at m (wave_calls calls members) (length (wave_calls calls members)))
  core-last h left places =
      let end : State = state_at m (wave_calls calls members) (length (wave_calls calls members)) in
      subst (λ config. IsCore config h × (state_of config h ≡ end)) config-last
      (core-again end h lawful-last (record { parts = left.parts; capacities = left.capacities; room = left.room }) (subst (λ config. HasPlaces config h) (sym config-last) places))

-- one more reply is written
module _ (m : State) (calls : List Call) (footprints : ℕ → Resources) (members : List ℕ) (wave : IsWave m calls footprints members) (replies : List Reply) (j number : ℕ) (reply : Reply) (low : j < length members) (is : number ≡ get_or members j 0) (within : number < length replies) where
  pub back-more : reply ≡ reply_at m (wave_calls calls members) j → ((i : ℕ) → j + 1 ≤ i → i < length members → get_or replies (get_or members i 0) Done ≡ reply_at m (wave_calls calls members) i)
      → (i : ℕ) → j ≤ i → i < length members → get_or (set replies number reply) (get_or members i 0) Done ≡ reply_at m (wave_calls calls members) i
  back-more given before i from below = by_place (cases_eq i j)
    where
      by_place : ((i ≡ j) ⊎ (i ≢ j)) → get_or (set replies number reply) (get_or members i 0) Done ≡ reply_at m (wave_calls calls members) i
      by_place (inl same) = rw (same, ← is) (get_or-set_same replies number reply Done within ∙ given)
      by_place (inr other) =
          let more : j < i = omega (arith, from, other) in
          get_or-set_other replies number (get_or members i 0) reply Done (λ e. wave.once i j below (omega (arith, more, below)) other (e ∙ is)) ∙ before i (omega (arith, more)) below

  pub kept-more : (k : ℕ) → ((i : ℕ) → i < length members → get_or members i 0 ≢ k) → get_or (set replies number reply) k Done ≡ get_or replies k Done
  kept-more k none = get_or-set_other replies number k reply Done (λ e. none j low (sym is ∙ sym e))
