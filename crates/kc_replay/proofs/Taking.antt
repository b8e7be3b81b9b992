-- The calls of a wave find their parts in the store.
use Rattle.std.proofs.Common.{ℕ, zero, suc, ◌≡◌, ◌<◌, ◌≤◌, ◌+◌, ◌⊎◌, inl, inr, Bool, true, false, cond, ◌||◌, nat_lt, List, [], ◌∷◌, length, get_or, Option, Some, None, is_some, IsSome, refl, sym, ap, ◌∙◌, subst, arith}
use Rattle.std.specs.Option.{option_map}
use Rattle.std.proofs.lemmas.Grind.{common_steps}
use Rattle.std.proofs.lemmas.Bool.{cases_lt, lt-ltb}
use Rattle.std.proofs.lemmas.Option.{same_Some}
use Rattle.kc_types.specs.Limits.{frame_limit}
use Rattle.kc_model.proofs.States.Configurations.{few-frames}
use Rattle.kc_types.specs.Configuration.{Configuration, slot_count}
use Rattle.kc_types.specs.declared.call.Call.{Call}
use Rattle.kc_types.specs.declared.link.Ends.{Ends}
use Rattle.kc_types.specs.declared.owner.Owner.{Owner}
use Rattle.kc_types.specs.declared.owner.Owner.TheVariants.{Core, Host, Free, Vm}
use Rattle.kc_types.specs.declared.resource.Resource.TheVariants as resource
use Rattle.kc_model.specs.State.{State, Frame, Slot, frame_at, slot_at}
use Rattle.kc_model.specs.Lawful.{IsLawful, times_in}
use Rattle.kc_model.specs.Resources.{Resource, Resources, is_in, is_wanted}
use Rattle.kc_model.specs.Links.{link_in, link_at, list_of}
use Rattle.kc_model.specs.Linked.{frame_and_link, slot_and_ends, free_ends, linked_part_of, linked_slot, ends_of}
use Rattle.kc_model.proofs.States.Members.{times_in-held}
use Rattle.kc_model.proofs.Lawful.LawfulTraces.{lists-all}
use Rattle.kc_page.specs.declared.page.Page.{Page}
use Rattle.kc_page.specs.Page.{frame_of}
use Rattle.kc_vms.specs.Vm.{VmSlot}
use Rattle.kc_links.specs.Chain.{unlinked}
use Rattle.kc_links.specs.Ending.{listed}
use Rattle.kc_parts.specs.Cuts.{HeldPart, held_at}
use Rattle.kc_parts.specs.Cuts.HeldPart.{page_part, slot_part, ends_part}
use Rattle.kc_parts.specs.Parts.{Held, HasPlace, page_at, vm_at, link_of, links_of, ends_at}
use Rattle.kc_parts.specs.States.{frame_in, slot_in, list_in, unlinked_slot, state_of, owner_at}
use Rattle.kc_parts.proofs.Cells.{place-held}
use Rattle.kc_parts.proofs.Seen.{frame-seen, slot-seen}
use Rattle.kc_core.specs.KCore.{IsCore}
use Rattle.kc_parts.specs.Restricted.{seen_link, seen_part, seen_at, exists_in, IsRestricted}
use Rattle.kc_model.specs.Footprints.{call_at, state_at}
use Rattle.kc_model.proofs.Lawful.LawfulTraces.{lawful-at}
use Rattle.kc_parts.specs.Cuts.{IsSplit, AreHere}
use Rattle.kc_core.specs.Applying.{IsAble, IsAnswer}
use Rattle.kc_replay.specs.declared.task.Task.{Task}
use Rattle.kc_replay.specs.declared.task.Finished.{Finished}
use Rattle.kc_replay.specs.Working.{IsTaskOf, Finishes}
use Rattle.kc_replay.specs.Wave.{AreApart, out, IsRest, HasPlaces, down_from, wave_calls, footprints_at, IsWave, IsTaskAt, IsFinishedAt}
use Rattle.kc_replay.proofs.Apart.{config-at, closed-at, needs-at, taken, rest-left}
use Rattle.kc_core.proofs.Restricted.{able-cut, reply-is, restricted-after}
use Rattle.kc_links.proofs.Neighbours.{link_in-linked, chain-ends}

not-low : (f n : ℕ) → n ≤ f → nat_lt f n ≡ false
not-low f n past = grind (arith, common_steps, past)

module _ (config : Configuration) (h : Held) (is : IsCore config h) where
  abbrev pub m : State
  m = state_of config h

  list-here : (p : Owner) (ends : Ends) (f : ℕ) (page : Page) → ends_at h p ≡ Some ends → listed (links_of h) ends ≡ list_of (state_of config h) p → f < config.frames → page_at h f ≡ Some page → is_in (list_of (state_of config h) p) f ≡ true → link_of page ≡ link_in (list_of (state_of config h) p) f
  list-here p ends f page e same low at inside =
      let few = few-frames config is.lawful.config in
      let here : links_of h f ≡ Some (link_of page) = rw (lt-ltb f frame_limit (omega (arith, low, few)), at) refl in
      let some : 0 < times_in (listed (links_of h) ends) f = rw same (times_in-held (list_of (state_of config h) p) f inside) in
      same_Some (link_of page) (link_in (listed (links_of h) ends) f) (sym here ∙ link_in-linked (links_of h) None (listed (links_of h) ends) f (is.linked.lists.spelled p ends e).linked some) ∙ ap (λ fs. link_in fs f) same

  link-whole : (f : ℕ) (page : Page) → f < config.frames → page_at h f ≡ Some page → (p : Owner) → (frame_at (state_of config h) f).owner ≡ p → seen_link p (link_of page) ≡ link_in (list_of (state_of config h) p) f
  link-whole f page low at Core own = refl
  link-whole f page low at Host own =
      let few = few-frames config is.lawful.config in
      let here : links_of h f ≡ Some (link_of page) = rw (lt-ltb f frame_limit (omega (arith, low, few)), at) refl in
      let host : owner_at h f ≡ Host = sym (ap (λ (x : Frame). x.owner) (frame-seen config h f low)) ∙ own in
      same_Some (link_of page) unlinked (sym here ∙ is.linked.lists.alone f host)
  link-whole f page low at Free own = by_free h.free refl
    where
      by_free : (there : Option Ends) → h.free ≡ there → link_of page ≡ link_in (state_of config h).free f
      by_free None e = let some = is.whole.free in let no = rw e at some in cc
      by_free (Some ends) e = list-here Free ends f page e (ap (list_in (links_of h)) (sym e)) low at ((lists-all (state_of config h) is.lawful).free f own)
  link-whole f page low at (Vm v) own = by_vm (vm_at h v) refl
    where
      v_low : v < slot_count config
      v_low = (is.lawful.each_frame f (rw is.lawful.frames low)).slot v own

      by_vm : (there : Option VmSlot) → vm_at h v ≡ there → link_of page ≡ link_in (slot_at (state_of config h) v).frames f
      by_vm None e = let some = is.whole.vms v v_low in let no = rw e at some in cc
      by_vm (Some vm) e =
          list-here (Vm v) vm.slot.frames f page (ap (option_map (λ (vm : VmSlot). vm.slot.frames)) e) (sym (ap (λ (s : Slot). s.frames) (slot-seen config h v v_low ∙ ap (slot_in (links_of h)) e))) low at
          ((lists-all (state_of config h) is.lawful).slots v f v_low own)

  -- a core has all places
  slots-whole : (v : ℕ) → v < slot_count config → HasPlace h.vms.numbers v
  slots-whole v low = by_vm (vm_at h v) refl
    where
      by_vm : (there : Option VmSlot) → vm_at h v ≡ there → HasPlace h.vms.numbers v
      by_vm None e = let some = is.whole.vms v low in let no = rw e at some in cc
      by_vm (Some vm) e = place-held h.vms.numbers h.vms.slots v vm e

  pub places-whole : HasPlaces config h
  places-whole = record { numbers = is.whole.numbers; slots = slots-whole }

  -- a whole core has all of its state
  pub left-whole : (footprints : ℕ → Resources) → IsRest (state_of config h) footprints [] h
  left-whole footprints = record { parts = parts; capacities = is.linked.vms; room = is.linked.room }
    where
      parts : (r : Resource) → seen_at h r ≡ cond (exists_in config r) (Some (linked_part_of (state_of config h) r)) None
      parts (resource.Frame f) = by_low (cases_lt f config.frames) (page_at h f) refl
        where
          by_low : ((f < config.frames) ⊎ (config.frames ≤ f)) → (there : Option Page) → page_at h f ≡ there → option_map seen_part (option_map page_part there) ≡ cond (nat_lt f config.frames) (Some (linked_part_of (state_of config h) (resource.Frame f))) None
          by_low (inl low) None e = let some = is.whole.frames f low in let no = rw e at some in cc
          by_low (inl low) (Some page) e =
              let frame : frame_of page ≡ frame_at (state_of config h) f = ap frame_in (sym e) ∙ sym (frame-seen config h f low) in
              rw (lt-ltb f config.frames low) (ap Some (ap (λ (x : Frame). frame_and_link (frame_of page) (seen_link x.owner (link_of page))) frame ∙ ap (frame_and_link (frame_of page)) (link-whole f page low e (frame_at (state_of config h) f).owner refl) ∙ ap (λ (x : Frame). frame_and_link x (link_at (state_of config h) f)) frame))
          by_low (inr past) None e = rw (not-low f config.frames past) refl
          by_low (inr past) (Some page) e = let low = is.linked.frames f (ap is_some e) in absurd (omega (arith, low, past))
      parts (resource.Vm v) = by_low (cases_lt v (slot_count config)) (vm_at h v) refl
        where
          by_low : ((v < slot_count config) ⊎ (slot_count config ≤ v)) → (there : Option VmSlot) → vm_at h v ≡ there → option_map seen_part (option_map slot_part there) ≡ cond (nat_lt v (slot_count config)) (Some (linked_part_of (state_of config h) (resource.Vm v))) None
          by_low (inl low) None e = let some = is.whole.vms v low in let no = rw e at some in cc
          by_low (inl low) (Some vm) e =
              let slot : slot_at (state_of config h) v ≡ unlinked_slot vm.slot (listed (links_of h) vm.slot.frames) = slot-seen config h v low ∙ ap (slot_in (links_of h)) e in
              let chain = is.linked.lists.spelled (Vm v) vm.slot.frames (ap (option_map (λ (vm : VmSlot). vm.slot.frames)) e) in
              let ends = chain-ends (links_of h) vm.slot.frames (listed (links_of h) vm.slot.frames) chain in
              rw (lt-ltb v (slot_count config) low) (ap (λ x. Some (slot_and_ends x)) (ap (λ ends. record vm.slot { frames = ends }) ends ∙ ap linked_slot (sym slot)))
          by_low (inr past) None e = rw (not-low v (slot_count config) past) refl
          by_low (inr past) (Some vm) e = let low = is.whole.past v (ap is_some e) in absurd (omega (arith, low, past))
      parts resource.Free = by_free h.free refl
        where
          by_free : (there : Option Ends) → h.free ≡ there → option_map seen_part (option_map ends_part there) ≡ Some (linked_part_of (state_of config h) resource.Free)
          by_free None e = let some = is.whole.free in let no = rw e at some in cc
          by_free (Some ends) e =
              let chain = is.linked.lists.spelled Free ends e in
              ap (λ x. Some (free_ends x)) (chain-ends (links_of h) ends (listed (links_of h) ends) chain ∙ ap (λ there. ends_of (list_in (links_of h) there)) (sym e))

module _ (m : State) (calls : List Call) (footprints : ℕ → Resources) (are : AreApart m calls footprints) where
  -- the footprints of earlier calls have nothing that a later call's has
  pub out-earlier : (i k : ℕ) (r : Resource) → i ≤ k → k < length calls → footprints k r ≡ true → out footprints (down_from i) r ≡ false
  out-earlier zero k r le low e = refl
  out-earlier (suc i) k r le low e =
      rw (by_test (footprints i r) refl) (out-earlier i k r (omega (arith, le)) low e)
    where
      by_test : (b : Bool) → footprints i r ≡ b → b ≡ false
      by_test true t = absurd (are.apart i k r (omega (arith, le, low)) low (λ same. omega (arith, same, le)) t e)
      by_test false t = refl

  -- all calls are out in the end
  pub out-all : (i k : ℕ) (r : Resource) → k < i → footprints k r ≡ true → out footprints (down_from i) r ≡ true
  out-all zero k r low e = absurd (omega (arith, low))
  out-all (suc i) k r low e = by_last (cases_lt k i) (λ below. out-all i k r below e)
    where
      or-second : (a b : Bool) → b ≡ true → (a || b) ≡ true
      or-second true b e = refl
      or-second false b e = e

      by_last : ((k < i) ⊎ (i ≤ k)) → (k < i → out footprints (down_from i) r ≡ true) → (footprints i r || out footprints (down_from i) r) ≡ true
      by_last (inl below) rest = or-second (footprints i r) (out footprints (down_from i) r) (rest below)
      by_last (inr past) rest = let same : k ≡ i = omega (arith, low, past) in let t : footprints i r ≡ true = subst (λ n. footprints n r ≡ true) same e in rw t refl

  -- what a call may touch is here
  pub here-before : (i : ℕ) (h : Held) (r : Resource) → i < length calls → IsRest m footprints (down_from i) h → footprints i r ≡ true → IsSome (held_at h r)
  here-before i h r low left e =
      some-held (held_at h r) (left.parts r ∙ rw (out-earlier i i r (omega arith) low e, are.exist i low r e) refl)
    where
      some-held : (there : Option HeldPart) → option_map seen_part there ≡ Some (linked_part_of m r) → IsSome there
      some-held None e = cc
      some-held (Some x) e = refl

-- the i-th call of the wave
pub wave-call : (calls : List Call) (members : List ℕ) (i : ℕ) → i < length members → call_at (wave_calls calls members) i ≡ call_at calls (get_or members i 0)
wave-call calls [] i low = absurd (omega (arith, low))
wave-call calls (k ∷ members) zero low = refl
wave-call calls (k ∷ members) (suc i) low = wave-call calls members i (omega (arith, low))

pub wave-length : (calls : List Call) (members : List ℕ) → length (wave_calls calls members) ≡ length members
wave-length calls [] = refl
wave-length calls (k ∷ members) = ap suc (wave-length calls members)

module _ (m : State) (calls : List Call) (footprints : ℕ → Resources) (members : List ℕ) (wave : IsWave m calls footprints members) where
  pub low-in : (i : ℕ) → i < length members → i < length (wave_calls calls members)
  low-in i low = rw (wave-length calls members) low

  pub here-wave : (i : ℕ) (h : Held) (wanted : List Resource) → i < length members → ((r : Resource) → is_wanted wanted r ≡ footprints_at footprints members i r) → IsRest m (footprints_at footprints members) (down_from i) h → AreHere h wanted
  here-wave i h wanted low is left r e = here-before m (wave_calls calls members) (footprints_at footprints members) wave.apart i h r (low-in i low) left (sym (is r) ∙ e)

  pub taken-wave : (i : ℕ) (h rest got : Held) → i < length members → IsRest m (footprints_at footprints members) (down_from i) h → IsSplit h (footprints_at footprints members i) rest got
      → IsRestricted (state_at m (wave_calls calls members) i) (footprints_at footprints members i) got × IsRest m (footprints_at footprints members) (down_from (i + 1)) rest
  taken-wave i h rest got low left split =
      let e : i + 1 ≡ suc i = omega arith in (
        taken m (wave_calls calls members) (footprints_at footprints members) wave.lawful wave.apart (down_from i) i h rest got (low-in i low)
            (λ r t. out-earlier m (wave_calls calls members) (footprints_at footprints members) wave.apart i i r (omega arith) (low-in i low) t) left split,
        rw e (rest-left m (wave_calls calls members) (footprints_at footprints members) wave.lawful wave.apart (down_from i) i h rest got left split),
      )

  -- so a task of it can be done
  pub able-at : (i : ℕ) (task : Task) → i < length members → IsTaskAt m calls footprints members i task → IsTaskOf m.config calls task
  able-at i task low at = record {
    within = rw at.number (wave.within i low);
    able =
        subst (λ call. IsAble m.config task.parts call) (sym (ap (call_at calls) at.number ∙ sym (wave-call calls members i low)))
        (subst (λ config. IsAble config task.parts (call_at (wave_calls calls members) i)) (config-at m (wave_calls calls members) (footprints_at footprints members) wave.lawful wave.apart i)
        (able-cut (state_at m (wave_calls calls members) i) (footprints_at footprints members i) task.parts (call_at (wave_calls calls members) i)
        (lawful-at m (wave_calls calls members) wave.lawful i (let l = low-in i low in omega (arith, l)))
        (closed-at m (wave_calls calls members) (footprints_at footprints members) wave.lawful wave.apart i (low-in i low))
        at.parts (needs-at m (wave_calls calls members) (footprints_at footprints members) wave.lawful wave.apart i (low-in i low))));
  }

  -- and what it leaves is what the call leaves
  pub finished-at : (i : ℕ) (task : Task) (done : Finished) → i < length members → IsTaskAt m calls footprints members i task → Finishes m.config calls task done → IsFinishedAt m calls footprints members i done
  finished-at i task done low at answers =
      let s : State = state_at m (wave_calls calls members) i in
      let call : Call = call_at (wave_calls calls members) i in
      let lawful : IsLawful s = lawful-at m (wave_calls calls members) wave.lawful i (let l = low-in i low in omega (arith, l)) in
      let closed = closed-at m (wave_calls calls members) (footprints_at footprints members) wave.lawful wave.apart i (low-in i low) in
      let needs = needs-at m (wave_calls calls members) (footprints_at footprints members) wave.lawful wave.apart i (low-in i low) in
      let is : call_at calls task.number ≡ call = ap (call_at calls) at.number ∙ sym (wave-call calls members i low) in
      let answer : IsAnswer s.config task.parts done.left.parts call done.reply =
      subst (λ config. IsAnswer config task.parts done.left.parts call done.reply) (sym (config-at m (wave_calls calls members) (footprints_at footprints members) wave.lawful wave.apart i))
      (subst (λ call. IsAnswer m.config task.parts done.left.parts call done.reply) is answers.answer) in
      record {
        number = answers.number ∙ at.number;
        reply = reply-is s (footprints_at footprints members i) task.parts done.left.parts call done.reply lawful closed at.parts needs answer;
        parts = restricted-after s (footprints_at footprints members i) task.parts done.left.parts call done.reply lawful closed at.parts needs answer;
      }

-- what a list has does not depend on the default for what it does not have
pub any-default : {X : Type 0} (xs : List X) (i : ℕ) (a b : X) → i < length xs → get_or xs i a ≡ get_or xs i b
any-default [] i a b low = absurd (omega (arith, low))
any-default (x ∷ xs) zero a b low = refl
any-default (x ∷ xs) (suc i) a b low = any-default xs i a b (omega (arith, low))
