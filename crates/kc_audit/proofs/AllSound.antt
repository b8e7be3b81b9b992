-- There are no findings exactly if the dump is sound.
use Rattle.std.proofs.Common.{ℕ, zero, suc, ◌≡◌, ◌<◌, ◌+◌, inl, inr, Bool, true, false, ◌&&◌, ◌||◌, not, nat_lt, List, [], ◌∷◌, length, get_or, Option, Some, None, is_some, refl, sym, ap, subst, ◌∙◌, arith}
use Rattle.std.specs.Prelude.{◌↔◌, ◌==◌}
use Rattle.std.proofs.lemmas.Bool.{cases_lt, eqb-true, ltb-false, le-ltb, false≢true}
use Rattle.std.proofs.lemmas.List.{get_or_past}
use Rattle.std.proofs.lemmas.List.FromFn.{get_or-map-range_with_len, length-map-range_with_len}
use Rattle.kc_types.specs.declared.owner.Owner.{Owner}
use Rattle.kc_types.specs.declared.owner.Owner.TheVariants.{Core, Host, Free, Vm}
use Rattle.kc_types.specs.declared.slot.Phase.{Phase}
use Rattle.kc_types.specs.declared.slot.Phase.TheVariants.{Empty, Booting, Active, Dead}
use Rattle.kc_model.specs.Lawful.{same_owner, is_vm, has_leaf}
use Rattle.kc_model.specs.Refusals.{is_empty}
use Rattle.kc_dump.specs.declared.line.FrameLine.{FrameLine}
use Rattle.kc_audit.specs.declared.finding.Finding.{Finding}
use Rattle.kc_audit.specs.declared.finding.Finding.TheVariants as finding
use Rattle.kc_audit.specs.declared.verdict.FrameVerdict.{FrameVerdict}
use Rattle.kc_audit.specs.declared.verdict.FrameKind.{FrameKind}
use Rattle.kc_audit.specs.declared.verdict.FrameKind.TheVariants as kind
use Rattle.kc_dump.specs.Dump.{Dumped, SlotDump, line_at, line_owner, slot_dump_at, empty_dump, absent_line, maps}
use Rattle.kc_dump.specs.Lists.{HasList}
use Rattle.kc_dump.specs.Sound.{IsSound, IsSoundSlot}
use Rattle.kc_audit.specs.Verdicts.{shows, named}
use Rattle.kc_audit.specs.Findings.{is_mapped, verdict_of, verdicts_of, frames_named, list_owner, list_ends, list_name, AreGoodLists, lists_named, is_gfn, says, has_double, all_rooted, entries_named, all_entries_named, wrong_leaves, wrong_empty, leaves_named, empty_named, findings_by, AreFindings}
use Rattle.kc_model.proofs.States.Owners.{same-is}
use Rattle.kc_audit.proofs.Marked.{says-true}
use Rattle.kc_audit.proofs.SoundFrames.{IsClear, sound-frame, frame-clear, gfn-mapped, and-right, and-none, or-parts, negated, negates, none-there}
use Rattle.kc_dump.proofs.Entries.{entry-place, place-entry}
use Rattle.kc_audit.proofs.SoundLists.{none-parts, named-none, none-named, entries-none, none-entries, double-once, once-double, rooted-each, each-rooted}

neither : (a b : Bool) → a ≡ false → b ≡ false → (a || b) ≡ false
neither true b x y = x
neither false b x y = y

-- whether the slot has a list, leaves or entries
abbrev has_something : SlotDump → Bool
has_something slot = is_some slot.list.head || is_some slot.list.tail || not (slot.list.count == 0) || not (length slot.leaves == 0) || not (length slot.entries == 0)

phase-empty : (phase : Phase) → is_empty phase ≡ true → phase ≡ Empty
phase-empty Empty e = refl
phase-empty Booting e = cc
phase-empty Active e = cc
phase-empty Dead e = cc

no-items : {X : Type 0} (xs : List X) → length xs ≡ 0 → xs ≡ []
no-items [] e = refl
no-items (x ∷ xs) e = absurd (omega (arith, e))

empty-slot : (slot : SlotDump) → wrong_empty slot ≡ false → slot.phase ≡ Empty → slot ≡ empty_dump
empty-slot slot e phase =
    let rest : has_something slot ≡ false = and-right (is_empty slot.phase) (has_something slot) e (ap is_empty phase) in
    let a = or-parts (is_some slot.list.head || is_some slot.list.tail || not (slot.list.count == 0) || not (length slot.leaves == 0)) (not (length slot.entries == 0)) rest in
    let b = or-parts (is_some slot.list.head || is_some slot.list.tail || not (slot.list.count == 0)) (not (length slot.leaves == 0)) a.0 in
    let c = or-parts (is_some slot.list.head || is_some slot.list.tail) (not (slot.list.count == 0)) b.0 in
    let p = or-parts (is_some slot.list.head) (is_some slot.list.tail) c.0 in
    let head = none-there slot.list.head p.0 in
    let tail = none-there slot.list.tail p.1 in
    let count = eqb-true slot.list.count 0 (negated (slot.list.count == 0) c.1) in
    let leaves = no-items slot.leaves (eqb-true (length slot.leaves) 0 (negated (length slot.leaves == 0) b.1)) in
    let entries = no-items slot.entries (eqb-true (length slot.entries) 0 (negated (length slot.entries == 0) a.1)) in
    λ i. record { phase = phase i; list = record { head = head i; tail = tail i; count = count i }; leaves = leaves i; entries = entries i }

-- the owner and the guest frame of a frame that agrees with an entry
said-parts : (lines : List FrameLine) (v g f : ℕ) → says lines v g f ≡ true → (line_owner lines f ≡ Vm v) × ((line_at lines f).gfn ≡ Some g)
said-parts lines v g f h =
    let parts = both-parts (same_owner (line_owner lines f) (Vm v)) (is_gfn (line_at lines f).gfn g) h in
    (same-is (line_owner lines f) (Vm v) parts.0, gfn-is (line_at lines f).gfn parts.1)
  where
    both-parts : (a b : Bool) → (a && b) ≡ true → (a ≡ true) × (b ≡ true)
    both-parts true b e = (refl, e)
    both-parts false b e = cc

    gfn-is : (o : Option ℕ) → is_gfn o g ≡ true → o ≡ Some g
    gfn-is None e = cc
    gfn-is (Some x) e = ap Some (eqb-true x g e)

module _ (d : Dumped) where
  blank : FrameVerdict
  blank = record { core_owner = false; linked = false; gfn = false; share = false; present = false; bytes = false }

  long : length (verdicts_of d) ≡ length d.frames
  long = length-map-range_with_len (verdict_of d) 0 (length d.frames)

  verdict-here : (f : ℕ) → f < length d.frames → get_or (verdicts_of d) f blank ≡ verdict_of d f
  verdict-here f low = get_or-map-range_with_len (verdict_of d) 0 (length d.frames) f f blank low (omega arith)

  kind-none : (k : FrameKind) → frames_named k 0 (verdicts_of d) ≡ [] → (f : ℕ) → f < length d.frames → shows k (verdict_of d f) ≡ false
  kind-none k none f low = sym (ap (shows k) (verdict-here f low)) ∙ named-none (shows k) (λ f v. named k f) 0 (verdicts_of d) blank none f (rw long low)

  none-kind : (k : FrameKind) → ((f : ℕ) → f < length d.frames → shows k (verdict_of d f) ≡ false) → frames_named k 0 (verdicts_of d) ≡ []
  none-kind k clear = none-named (shows k) (λ f v. named k f) 0 (verdicts_of d) blank (λ f within.
      let low : f < length d.frames = rw long at within in ap (shows k) (verdict-here f low) ∙ clear f low)

  -- a slot with nothing wrong
  slot-sound : (slot : SlotDump) → wrong_leaves d.leaves slot ≡ false → wrong_empty slot ≡ false → IsSoundSlot d.leaves slot
  slot-sound slot leaves empty =
      let all = or-parts (nat_lt d.leaves (length slot.leaves) || has_double slot.leaves) (not (all_rooted slot.leaves slot.entries)) leaves in
      let first = or-parts (nat_lt d.leaves (length slot.leaves)) (has_double slot.leaves) all.0 in
      record {
        few_leaves = ltb-false d.leaves (length slot.leaves) first.0;
        leaves_once = double-once slot.leaves first.1;
        rooted = λ g f there. (let p = entry-place slot.entries g f (0, 0) there in
            ap (has_leaf slot.leaves) (sym p.gfn) ∙ rooted-each slot.leaves slot.entries p.place (0, 0) (negated (all_rooted slot.leaves slot.entries) all.1) p.within);
        empty = λ phase. empty-slot slot empty phase;
      }

  slot-right : (slot : SlotDump) → IsSoundSlot d.leaves slot → (wrong_leaves d.leaves slot ≡ false) × (wrong_empty slot ≡ false)
  slot-right slot is = (
    neither (nat_lt d.leaves (length slot.leaves) || has_double slot.leaves) (not (all_rooted slot.leaves slot.entries))
        (neither (nat_lt d.leaves (length slot.leaves)) (has_double slot.leaves) (le-ltb d.leaves (length slot.leaves) is.few_leaves) (once-double slot.leaves is.leaves_once))
        (negates (all_rooted slot.leaves slot.entries) (each-rooted slot.leaves slot.entries (0, 0) (λ k low. is.rooted (get_or slot.entries k (0, 0)).0 (get_or slot.entries k (0, 0)).1 (place-entry slot.entries k (0, 0) low)))),
    and-none (is_empty slot.phase) (has_something slot) (λ e. ap has_something (is.empty (phase-empty slot.phase e))),
  )

  module _ (lists : List Bool) (good : AreGoodLists d lists) where
    record Nothing : Type 0 where
      cores : frames_named kind.CoreOwner 0 (verdicts_of d) ≡ []
      links : frames_named kind.Linked 0 (verdicts_of d) ≡ []
      chains : lists_named 0 lists ≡ []
      entries : all_entries_named d.frames 0 d.slots ≡ []
      gfns : frames_named kind.Gfn 0 (verdicts_of d) ≡ []
      shares : frames_named kind.Share 0 (verdicts_of d) ≡ []
      presents : frames_named kind.Present 0 (verdicts_of d) ≡ []
      leaves : leaves_named d.leaves 0 d.slots ≡ []
      empties : empty_named 0 d.slots ≡ []
      zeros : frames_named kind.Bytes 0 (verdicts_of d) ≡ []

    nothing-found : findings_by d lists ≡ [] → Nothing
    nothing-found e =
        let k = none-parts _ (frames_named kind.Bytes 0 (verdicts_of d)) e in
        let j = none-parts _ (empty_named 0 d.slots) k.0 in
        let i = none-parts _ (leaves_named d.leaves 0 d.slots) j.0 in
        let h = none-parts _ (frames_named kind.Present 0 (verdicts_of d)) i.0 in
        let g = none-parts _ (frames_named kind.Share 0 (verdicts_of d)) h.0 in
        let f = none-parts _ (frames_named kind.Gfn 0 (verdicts_of d)) g.0 in
        let c = none-parts _ (all_entries_named d.frames 0 d.slots) f.0 in
        let b = none-parts _ (lists_named 0 lists) c.0 in
        let a = none-parts (frames_named kind.CoreOwner 0 (verdicts_of d)) (frames_named kind.Linked 0 (verdicts_of d)) b.0 in
        record { cores = a.0; links = a.1; chains = b.1; entries = c.1; gfns = f.1; shares = g.1; presents = h.1; leaves = i.1; empties = j.1; zeros = k.1 }

    nothing-to-find : Nothing → findings_by d lists ≡ []
    nothing-to-find n = rw (n.cores, n.links, n.chains, n.entries, n.gfns, n.shares, n.presents, n.leaves, n.empties, n.zeros) refl

    module _ (n : Nothing) where
      clear : (f : ℕ) → f < length d.frames → IsClear (verdict_of d f)
      clear f low = record {
        core_owner = kind-none kind.CoreOwner n.cores f low;
        linked = kind-none kind.Linked n.links f low;
        gfn = kind-none kind.Gfn n.gfns f low;
        share = kind-none kind.Share n.shares f low;
        present = kind-none kind.Present n.presents f low;
        bytes = kind-none kind.Bytes n.zeros f low;
      }

      good-list : (i : ℕ) → i < length d.slots + 1 → HasList d.frames (list_owner i) (list_ends d i)
      good-list i low =
          let within : i < length lists = rw good.count low in
          let yes : get_or lists i false ≡ true = negated (get_or lists i false) (named-none (λ b. not b) (λ i b. list_name i) 0 lists false n.chains i within) in
          subst (λ k. HasList d.frames (list_owner k) (list_ends d k)) (let z : 0 + i ≡ i = omega arith in z) ((good.each i within).0 yes)

      said : (v g f : ℕ) → v < length d.slots → maps (slot_dump_at d v) g f ≡ true → says d.frames v g f ≡ true
      said v g f low there =
          let es = (slot_dump_at d v).entries in
          let p = entry-place es g f (0, 0) there in
          let none : entries_named d.frames v es ≡ [] = ap (λ w. entries_named d.frames w es) (let z : v ≡ 0 + v = omega arith in z) ∙ entries-none d.frames 0 d.slots n.entries v low in
          let told = negated _ (named-none (λ (e : ℕ × ℕ). not (says d.frames v e.0 e.1)) (λ i e. finding.Entry v e.0) 0 es (0, 0) none p.place p.within) in
          ap (says d.frames v g) (sym p.frame) ∙ ap (λ h. says d.frames v h (get_or es p.place (0, 0)).1) (sym p.gfn) ∙ told

      mapped-sound : (v g f : ℕ) → (maps (slot_dump_at d v) g f ≡ true) ↔ ((line_owner d.frames f ≡ Vm v) × ((line_at d.frames f).gfn ≡ Some g))
      mapped-sound v g f = (
        λ there. elim (cases_lt v (length d.slots)) [
          | inl low ↦ said-parts d.frames v g f (said v g f low there)
          | inr past ↦ let none : maps (slot_dump_at d v) g f ≡ false = ap (λ (s : SlotDump). maps s g f) (get_or_past d.slots v empty_dump past) in let clash : false ≡ true = sym none ∙ there in absurd (false≢true clash)
        ],
        λ both. elim (cases_lt f (length d.frames)) [
          | inl low ↦
              let is = gfn-mapped (is_mapped d f (line_owner d.frames f) (line_at d.frames f).gfn) (line_owner d.frames f) (line_at d.frames f).gfn v (clear f low).gfn both.0 in
              sym (ap (λ o. is_mapped d f o (line_at d.frames f).gfn) both.0 ∙ ap (λ h. is_mapped d f (Vm v) h) both.1) ∙ is
          | inr past ↦ let none : line_owner d.frames f ≡ Core = ap (λ (l : FrameLine). l.owner) (get_or_past d.frames f absent_line past) in let clash : Vm v ≡ Core = sym both.0 ∙ none in cc
        ],
      )

      all-sound : IsSound d
      all-sound = record {
        each_frame = λ f low. sound-frame d.core f (is_mapped d f (line_owner d.frames f) (line_at d.frames f).gfn) (line_at d.frames f) (clear f low);
        each_slot = λ v low. slot-sound (slot_dump_at d v)
            (named-none (wrong_leaves d.leaves) (λ v s. finding.Leaves v) 0 d.slots empty_dump n.leaves v low)
            (named-none wrong_empty (λ v s. finding.Empty v) 0 d.slots empty_dump n.empties v low);
        free = good-list 0 (omega arith);
        listed = λ v low. good-list (suc v) (omega (arith, low));
        mapped = mapped-sound;
      }

    module _ (is : IsSound d) where
      mapped-there : (f : ℕ) (o : Owner) (h : Option ℕ) → line_owner d.frames f ≡ o → (line_at d.frames f).gfn ≡ h → is_some h ≡ is_vm o → is_vm o ≡ true → is_mapped d f o h ≡ true
      mapped-there f (Vm v) (Some g) oe he some vm = (is.mapped v g f).1 (oe, he)
      mapped-there f (Vm v) None oe he some vm = some
      mapped-there f Core h oe he some vm = cc
      mapped-there f Host h oe he some vm = cc
      mapped-there f Free h oe he some vm = cc

      is-clear : (f : ℕ) → f < length d.frames → IsClear (verdict_of d f)
      is-clear f low =
          let line = line_at d.frames f in
          let frame = is.each_frame f low in
          frame-clear d.core f (is_mapped d f line.owner line.gfn) line frame (mapped-there f line.owner line.gfn refl refl frame.mapped)

      entries-right : (k : ℕ) → k < length d.slots → entries_named d.frames (0 + k) (get_or d.slots k empty_dump).entries ≡ []
      entries-right k low =
          let es = (slot_dump_at d k).entries in
          ap (λ w. entries_named d.frames w es) (let z : 0 + k ≡ k = omega arith in z)
          ∙ none-named (λ (e : ℕ × ℕ). not (says d.frames k e.0 e.1)) (λ i e. finding.Entry k e.0) 0 es (0, 0) (λ j within.
          let e = get_or es j (0, 0) in
          let both = (is.mapped k e.0 e.1).0 (place-entry es j (0, 0) within) in
          negates (says d.frames k e.0 e.1) (says-true d.frames k e.0 e.1 both.0 both.1))

      list-sound : (i : ℕ) → i < length d.slots + 1 → HasList d.frames (list_owner i) (list_ends d i)
      list-sound zero low = is.free
      list-sound (suc v) low = is.listed v (omega (arith, low))

      nothing-wrong : Nothing
      nothing-wrong = record {
        cores = none-kind kind.CoreOwner (λ f low. (is-clear f low).core_owner);
        links = none-kind kind.Linked (λ f low. (is-clear f low).linked);
        chains = none-named (λ b. not b) (λ i b. list_name i) 0 lists false (λ i within.
            let low : i < length d.slots + 1 = rw good.count at within in
            negates (get_or lists i false) ((good.each i within).1 (subst (λ k. HasList d.frames (list_owner k) (list_ends d k)) (let z : i ≡ 0 + i = omega arith in z) (list-sound i low))));
        entries = none-entries d.frames 0 d.slots entries-right;
        gfns = none-kind kind.Gfn (λ f low. (is-clear f low).gfn);
        shares = none-kind kind.Share (λ f low. (is-clear f low).share);
        presents = none-kind kind.Present (λ f low. (is-clear f low).present);
        leaves = none-named (wrong_leaves d.leaves) (λ v s. finding.Leaves v) 0 d.slots empty_dump (λ v low. (slot-right (slot_dump_at d v) (is.each_slot v low)).0);
        empties = none-named wrong_empty (λ v s. finding.Empty v) 0 d.slots empty_dump (λ v low. (slot-right (slot_dump_at d v) (is.each_slot v low)).1);
        zeros = none-kind kind.Bytes (λ f low. (is-clear f low).bytes);
      }

  -- a dump has no findings exactly if it is sound
  pub none-sound : (found : List Finding) → AreFindings d found → (found ≡ []) ↔ IsSound d
  none-sound found are = (
    λ none. all-sound are.lists are.good (nothing-found are.lists are.good (sym are.named ∙ none)),
    λ is. are.named ∙ nothing-to-find are.lists are.good (nothing-wrong are.lists are.good is),
  )

  pub none-sound-by : (lists : List Bool) → AreGoodLists d lists → (found : List Finding) → found ≡ findings_by d lists → (found ≡ []) ↔ IsSound d
  none-sound-by lists good found named = none-sound found (record { lists = lists; good = good; named = named })
