-- The dump of a lawful state is sound.
use Rattle.std.proofs.Common.{ℕ, ◌≡◌, ◌<◌, ◌≤◌, inl, inr, true, false, cond, nat_eq, Bool, Option, Some, None, List, [], ◌∷◌, length, get_or, refl, sym, ap, subst, ◌∙◌, arith}
use Rattle.std.specs.Prelude.{◌↔◌, slice_get}
use Rattle.std.specs.Option.{option_map}
use Rattle.std.proofs.lemmas.Bool.{cases_lt, ne_eqb}
use Rattle.std.proofs.lemmas.List.{get_or_past, get_or-map, length-map}
use Rattle.std.proofs.lemmas.List.FromFn.{get_or-map-range_with_len, length-map-range_with_len}
use Rattle.std.proofs.lemmas.Option.{slice_get-get_or}
use Rattle.kc_types.specs.Configuration.{slot_count}
use Rattle.kc_types.specs.declared.link.Link.{Link}
use Rattle.kc_types.specs.declared.owner.Owner.{Owner}
use Rattle.kc_types.specs.declared.owner.Owner.TheVariants.{Core, Host, Free, Vm}
use Rattle.kc_types.specs.declared.slot.Phase.TheVariants.{Empty}
use Rattle.kc_model.specs.State.{State, Frame, Slot, frame_at, slot_at, untouched, no_slot}
use Rattle.kc_model.specs.Lawful.{IsLawful, IsLawfulSlot, same_owner, times_in, ListsOnce}
use Rattle.kc_model.specs.Links.{first_of, link_after, link_in, link_at, list_of}
use Rattle.kc_model.specs.Linked.{ends_of}
use Rattle.kc_model.proofs.States.Members.{IsOnce, once-rest, same_number}
use Rattle.kc_links.specs.Chain.{Links, NamesNeighbours, first_or, unlinked}
use Rattle.kc_links.proofs.Times.{times-same, times-other, once-first}
use Rattle.kc_dump.specs.declared.line.FrameLine.{FrameLine}
use Rattle.kc_dump.specs.Dump.{SlotDump, absent_line, line_at, line_owner, line_links, no_ends, empty_dump, maps}
use Rattle.kc_dump.specs.Dump as dumps
use Rattle.kc_dump.specs.Sound.{IsSoundFrame, IsSoundSlot, IsSound}
use Rattle.kc_dump.specs.Lists.{HasList}
use Rattle.kc_snapshot.specs.Dumping.{frame_line, slot_dump, dump_of}
use Rattle.sha2.specs.Sha256.{sha256}
use Rattle.kc_model.proofs.States.Owners.{same-is}
use Rattle.kc_vms.proofs.Rising.{empty-entries}
use Rattle.kc_core.proofs.Ended.{first-same, last-same}
use Rattle.kc_dump.proofs.Entries.{entry-get}

-- a list is linked if the links of its members are their neighbours in it
linked-by : (links : Links) (before : Option ℕ) (fs : List ℕ) → IsOnce fs → ((f : ℕ) → 0 < times_in fs f → links f ≡ Some (link_after before fs f)) → NamesNeighbours links before fs None
linked-by links before [] once each = tt
linked-by links before (x ∷ xs) once each = (
  each x (let t = times-same x xs in omega (arith, t)) ∙ ap Some (here (nat_eq x x) (same_number x)),
  linked-by links (Some x) xs (once-rest x xs once) (λ f some.
      let other : f ≡ x → ⊥ = λ e. let none = once-first x xs once in let s : 0 < times_in xs x = (rw e at some) in omega (arith, none, s) in
      each f (rw (times-other x xs f other) some) ∙ ap Some (later f (nat_eq x f) (not-same f other))),
)
  where
    linking : Option ℕ → Option ℕ → Link
    linking prev next = record { prev = prev; next = next }

    here : (b : Bool) → b ≡ true → cond b (linking before (first_of xs)) (link_after (Some x) xs x) ≡ linking before (first_or None xs)
    here true e = ap (linking before) (sym (first-same xs))
    here false e = cc

    not-same : (f : ℕ) → (f ≡ x → ⊥) → nat_eq x f ≡ false
    not-same f other = ne_eqb x f (λ e. other (sym e))

    later : (f : ℕ) (b : Bool) → b ≡ false → cond b (linking before (first_of xs)) (link_after (Some x) xs f) ≡ link_after (Some x) xs f
    later f true e = cc
    later f false e = refl

module _ (m : State) (is : IsLawful m) where
  abbrev pub lines : List FrameLine
  lines = (dump_of m).frames

  pub long : length lines ≡ m.config.frames
  long = length-map-range_with_len (λ f. frame_line (frame_at m f) (link_at m f)) 0 m.config.frames

  pub line-low : (f : ℕ) → f < m.config.frames → line_at lines f ≡ frame_line (frame_at m f) (link_at m f)
  line-low f low = get_or-map-range_with_len (λ g. frame_line (frame_at m g) (link_at m g)) 0 m.config.frames f f absent_line low (omega arith)

  line-past : (f : ℕ) → m.config.frames ≤ f → line_at lines f ≡ absent_line
  line-past f past = get_or_past lines f absent_line (rw long past)

  owner-same : (f : ℕ) → line_owner lines f ≡ (frame_at m f).owner
  owner-same f = elim (cases_lt f m.config.frames) [
    | inl low ↦ ap (λ (l : FrameLine). l.owner) (line-low f low)
    | inr past ↦ ap (λ (l : FrameLine). l.owner) (line-past f past) ∙ sym (ap (λ (x : Frame). x.owner) (get_or_past m.frames f (untouched Core) (rw is.frames past)))
  ]

  links-low : (f : ℕ) → f < m.config.frames → line_links lines f ≡ Some (link_at m f)
  links-low f low =
      let at : slice_get lines f ≡ Some (get_or lines f absent_line) = slice_get-get_or lines f absent_line (rw long low) in
      ap (option_map (λ (l : FrameLine). linking l)) at ∙ ap (λ l. Some (linking l)) (line-low f low)
    where
      linking : FrameLine → Link
      linking l = record { prev = l.prev; next = l.next }

  pub at-most : (p : Owner) (fs : List ℕ) → ListsOnce m p fs → IsOnce fs
  at-most p fs lists f = by_test (same_owner (frame_at m f).owner p) (lists f)
    where
      by_test : (b : Bool) → times_in fs f ≡ cond b 1 0 → times_in fs f ≤ 1
      by_test true e = omega (arith, e)
      by_test false e = omega (arith, e)

  pub member : (p : Owner) (fs : List ℕ) → ListsOnce m p fs → (f : ℕ) → 0 < times_in fs f → (frame_at m f).owner ≡ p
  member p fs lists f some = same-is (frame_at m f).owner p (by_test (same_owner (frame_at m f).owner p) (lists f))
    where
      by_test : (b : Bool) → times_in fs f ≡ cond b 1 0 → b ≡ true
      by_test true e = refl
      by_test false e = absurd (omega (arith, e, some))

  pub below : (f : ℕ) → ((frame_at m f).owner ≡ Core → ⊥) → f < m.config.frames
  below f other = elim (cases_lt f m.config.frames) [
    | inl low ↦ low
    | inr past ↦ absurd (other (ap (λ (x : Frame). x.owner) (get_or_past m.frames f (untouched Core) (rw is.frames past))))
  ]

  pub list-drawn : (p : Owner) (fs : List ℕ) → (p ≡ Core → ⊥) → list_of m p ≡ fs → ListsOnce m p fs → HasList lines p (ends_of fs)
  list-drawn p fs other listed lists = record {
    frames = fs;
    spelled = record {
      chain = record {
        head = sym (first-same fs);
        tail = sym (last-same None fs);
        count = refl;
        linked = linked-by (line_links lines) None fs (at-most p fs lists) (λ f some.
            let mine = member p fs lists f some in
            links-low f (below f (λ core. other (sym mine ∙ core))) ∙ ap (λ l. Some (link_in l f)) (ap (list_of m) mine ∙ listed));
      };
      each = λ f. lists f ∙ ap (λ o. cond (same_owner o p) 1 0) (sym (owner-same f));
    };
  }

  pub slot-low : (v : ℕ) → v < length (dump_of m).slots → dumps.slot_dump_at (dump_of m) v ≡ slot_dump (slot_at m v)
  slot-low v low = get_or-map slot_dump m.slots v no_slot empty_dump (rw (length-map m.slots slot_dump) at low)

  in-no-list : (f : ℕ) (owner : Owner) → (frame_at m f).owner ≡ owner → list_of m owner ≡ [] → link_at m f ≡ unlinked
  in-no-list f owner mine none = ap (λ fs. link_in fs f) (ap (list_of m) mine ∙ none)

  frame-drawn : (f : ℕ) → f < length lines → IsSoundFrame m.config.core f (line_at lines f)
  frame-drawn f within =
      let low : f < m.config.frames = rw long at within in
      let frame = is.each_frame f (rw is.frames low) in
      subst (λ (line : FrameLine). IsSoundFrame m.config.core f line) (sym (line-low f low)) (record {
        placed = frame.core;
        core_alone = λ core. in-no-list f Core core refl;
        host_alone = λ host. in-no-list f Host host refl;
        mapped = frame.mapped;
        sharer = frame.sharer;
        reached = frame.reached;
        zeroed = λ free. ap sha256 (frame.zeroed free);
      })

  slot-past : (v : ℕ) → length (dump_of m).slots ≤ v → dumps.slot_dump_at (dump_of m) v ≡ empty_dump
  slot-past v past = get_or_past (dump_of m).slots v empty_dump past

  pub slots : length (dump_of m).slots ≡ slot_count m.config
  slots = length-map m.slots slot_dump ∙ is.slots

  slot-drawn : (slot : Slot) → IsLawfulSlot m.config slot → IsSoundSlot m.config.leaves (slot_dump slot)
  slot-drawn slot lawful = record {
    few_leaves = lawful.few_leaves;
    leaves_once = lawful.leaves_once;
    rooted = λ g f there. lawful.rooted g f ((entry-get slot.mapped g f).0 there);
    empty = λ none. ap slot_dump (lawful.empty none) ∙ empty-dumped;
  }
    where
      empty-dumped : slot_dump no_slot ≡ empty_dump
      empty-dumped = λ i. record { phase = Empty; list = no_ends; leaves = []; entries = empty-entries i }

  gfn-same : (f : ℕ) → (line_at lines f).gfn ≡ (frame_at m f).gfn
  gfn-same f = elim (cases_lt f m.config.frames) [
    | inl low ↦ ap (λ (l : FrameLine). l.gfn) (line-low f low)
    | inr past ↦ ap (λ (l : FrameLine). l.gfn) (line-past f past) ∙ sym (ap (λ (x : Frame). x.gfn) (get_or_past m.frames f (untouched Core) (rw is.frames past)))
  ]

  mapped-drawn : (v g f : ℕ) → (maps (dumps.slot_dump_at (dump_of m) v) g f ≡ true) ↔ ((line_owner lines f ≡ Vm v) × ((line_at lines f).gfn ≡ Some g))
  mapped-drawn v g f = elim (cases_lt v (slot_count m.config)) [
    | inl low ↦
        let there : maps (dumps.slot_dump_at (dump_of m) v) g f ≡ maps (slot_dump (slot_at m v)) g f = ap (λ s. maps s g f) (slot-low v (rw slots low)) in
        let entry = entry-get (slot_at m v).mapped g f in
        let says = is.mapped v g f low in (
          λ t. (let both = says.0 (entry.0 (sym there ∙ t)) in (owner-same f ∙ both.0, gfn-same f ∙ both.1)),
          λ both. there ∙ entry.1 (says.1 (sym (owner-same f) ∙ both.0, sym (gfn-same f) ∙ both.1)),
        )
    | inr past ↦
        let none : maps (dumps.slot_dump_at (dump_of m) v) g f ≡ false = ap (λ s. maps s g f) (slot-past v (rw slots past)) in (
          λ t. (let no : false ≡ true = sym none ∙ t in cc),
          λ both. (let mine : (frame_at m f).owner ≡ Vm v = sym (owner-same f) ∙ both.0 in
              let exists = below f (λ core. let no : Vm v ≡ Core = sym mine ∙ core in cc) in
              let low = (is.each_frame f (rw is.frames exists)).slot v mine in absurd (omega (arith, low, past))),
        )
  ]

  -- the dump of a lawful state is sound
  pub sound-drawn : IsSound (dump_of m)
  sound-drawn = record {
    each_frame = frame-drawn;
    each_slot = λ v low. subst (IsSoundSlot m.config.leaves) (sym (slot-low v low)) (slot-drawn (slot_at m v) (is.each_slot v (rw slots at low)));
    free = list-drawn Free m.free (λ e. cc) refl is.free;
    listed = λ v low. subst (λ (slot : SlotDump). HasList lines (Vm v) slot.list) (sym (slot-low v low))
        (list-drawn (Vm v) (slot_at m v).frames (λ e. cc) refl (is.listed v (rw slots at low)));
    mapped = mapped-drawn;
  }
