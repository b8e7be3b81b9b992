-- The dump of a lawful state has its numbers in range and in order.
use Rattle.std.proofs.Common.{ℕ, zero, suc, ◌≡◌, ◌<◌, ◌≤◌, Bool, true, false, cond, nat_lt, nat_eq, List, [], ◌∷◌, length, get_or, Option, Some, None, refl, sym, ap, subst, ◌∙◌, arith, inl, inr}
use Rattle.std.specs.Prelude.{T}
use Rattle.std.proofs.lemmas.Bool.{and_from, lt-ltb, le-leb, eq-eqb, cases_lt}
use Rattle.std.proofs.lemmas.List.{get_or_past}
use Rattle.std.proofs.lemmas.List.Elements.{All-get_or}
use Rattle.std.specs.Ordering.{nat_cmp}
use Rattle.std.specs.FinMap.{entries, entries_sorted}
use Rattle.std.specs.FinMap.Entries.{is_sorted, below_all}
use Rattle.kc_types.specs.Configuration.{slot_count, slots_of, gfns_of, roots_of}
use Rattle.kc_types.proofs.Ranges.{few-leaves}
use Rattle.kc_types.specs.declared.link.Link.{Link}
use Rattle.kc_types.specs.declared.owner.Owner.{Owner}
use Rattle.kc_types.specs.declared.owner.Owner.TheVariants.{Core, Host, Free, Vm}
use Rattle.kc_model.specs.State.{State, frame_at, slot_at}
use Rattle.kc_model.specs.Lawful.{IsLawful, times_in}
use Rattle.kc_model.specs.Links.{first_of, link_after, link_in, link_at, list_of}
use Rattle.kc_model.specs.Linked.{last_of, ends_of}
use Rattle.kc_links.proofs.Times.{times-same}
use Rattle.sha2.specs.Sha256.{sha256}
use Rattle.sha2.proofs.Facts256.{length-sha256}
use Rattle.kc_dump.specs.declared.line.FrameLine.{FrameLine}
use Rattle.kc_dump.specs.Dump.{SlotDump, empty_dump}
use Rattle.kc_snapshot.specs.Dumping.{frame_line, dump_of}
use Rattle.kc_dump.proofs.Sums.{sum-times, sum-ones}
use Rattle.kc_dump.proofs.Entries.{entry-get, left, right, above, place-entry}
use Rattle.kc_snapshot.proofs.Digests.{digest-bytes}
use Rattle.kc_snapshot.proofs.Drawn.{long, line-low, slot-low, slots, below, member, at-most}
use Rattle.kc_dump.specs.Ranges.{is_below, are_ends, is_entry, is_owner, is_frame, IsDump}

-- all numbers of the list are below this
abbrev AreBelow : ℕ → List ℕ → Type 0
AreBelow limit fs = (f : ℕ) → 0 < times_in fs f → f < limit

rest-below : (limit x : ℕ) (xs : List ℕ) → AreBelow limit (x ∷ xs) → AreBelow limit xs
rest-below limit x xs low f some = low f (omega (arith, some))

head-below : (limit x : ℕ) (xs : List ℕ) → AreBelow limit (x ∷ xs) → nat_lt x limit ≡ true
head-below limit x xs low = lt-ltb x limit (low x (let t = times-same x xs in omega (arith, t)))

first-below : (limit : ℕ) (fs : List ℕ) → AreBelow limit fs → is_below limit (first_of fs) ≡ true
first-below limit [] low = refl
first-below limit (x ∷ xs) low = head-below limit x xs low

last-below : (limit : ℕ) (before : Option ℕ) (fs : List ℕ) → is_below limit before ≡ true → AreBelow limit fs → is_below limit (last_of before fs) ≡ true
last-below limit before [] ok low = ok
last-below limit before (x ∷ xs) ok low = last-below limit (Some x) xs (head-below limit x xs low) (rest-below limit x xs low)

ends-in : (limit : ℕ) (fs : List ℕ) → AreBelow limit fs → ((f : ℕ) → times_in fs f ≤ 1) → are_ends limit (ends_of fs) ≡ true
ends-in limit fs low once =
    let all = sum-times fs limit low in
    let most = sum-ones (times_in fs) limit once in
    and_from _ _ (and_from _ _ (first-below limit fs low) (last-below limit None fs refl low)) (le-leb (length fs) limit (omega (arith, all, most)))

-- the neighbours of a frame are below this
record NearBelow (limit : ℕ) (link : Link) : Type 0 where
  prev : is_below limit link.prev ≡ true
  next : is_below limit link.next ≡ true

near : (limit : ℕ) (before : Option ℕ) (fs : List ℕ) (f : ℕ) → is_below limit before ≡ true → AreBelow limit fs → NearBelow limit (link_after before fs f)
near limit before [] f ok low = record { prev = refl; next = refl }
near limit before (x ∷ xs) f ok low = by_test (nat_eq x f) (near limit (Some x) xs f (head-below limit x xs low) (rest-below limit x xs low))
  where
    by_test : (b : Bool) → NearBelow limit (link_after (Some x) xs f) → NearBelow limit (cond b (record { prev = before; next = first_of xs }) (link_after (Some x) xs f))
    by_test true rest = record { prev = ok; next = first-below limit xs (rest-below limit x xs low) }
    by_test false rest = rest

-- entries of a map rise
sorted-rising : (es : List (ℕ × ℕ)) (n : ℕ) → T (is_sorted nat_cmp es) → suc n < length es → (get_or es n (0, 0)).0 < (get_or es (suc n) (0, 0)).0
sorted-rising [] n h low = absurd (omega (arith, low))
sorted-rising (e ∷ []) n h low = absurd (omega (arith, low))
sorted-rising (e ∷ g ∷ es) zero h low = above e.0 g.0 (nat_cmp e.0 g.0) refl (left _ (below_all nat_cmp e.0 es) (left (below_all nat_cmp e.0 (g ∷ es)) (is_sorted nat_cmp (g ∷ es)) h))
sorted-rising (e ∷ g ∷ es) (suc n) h low = sorted-rising (g ∷ es) n (right (below_all nat_cmp e.0 (g ∷ es)) (is_sorted nat_cmp (g ∷ es)) h) (omega (arith, low))

module _ (m : State) (is : IsLawful m) where
  frames : ℕ
  frames = m.config.frames

  free-below : AreBelow m.config.frames m.free
  free-below f some = let mine = member m is Free m.free is.free f some in below m is f (λ core. let clash : Free ≡ Core = sym mine ∙ core in cc)

  vm-below : (v : ℕ) → v < slot_count m.config → AreBelow m.config.frames (slot_at m v).frames
  vm-below v low f some = let mine = member m is (Vm v) (slot_at m v).frames (is.listed v low) f some in below m is f (λ core. let clash : Vm v ≡ Core = sym mine ∙ core in cc)

  near-of : (f : ℕ) (owner : Owner) → (frame_at m f).owner ≡ owner → f < m.config.frames → NearBelow m.config.frames (link_in (list_of m owner) f)
  near-of f Core mine low = record { prev = refl; next = refl }
  near-of f Host mine low = record { prev = refl; next = refl }
  near-of f Free mine low = near m.config.frames None m.free f refl free-below
  near-of f (Vm v) mine low = near m.config.frames None (slot_at m v).frames f refl (vm-below v ((is.each_frame f (rw is.frames low)).slot v mine))

  owner-in : (f : ℕ) (owner : Owner) → (frame_at m f).owner ≡ owner → f < m.config.frames → is_owner m.config.version owner ≡ true
  unfolding slot_count
  owner-in f Core mine low = refl
  owner-in f Host mine low = refl
  owner-in f Free mine low = refl
  owner-in f (Vm v) mine low = lt-ltb v (slots_of m.config.version) ((is.each_frame f (rw is.frames low)).slot v mine)

  gfn-in : (f : ℕ) (gfn : Option ℕ) → (frame_at m f).gfn ≡ gfn → f < m.config.frames → is_below (gfns_of m.config.version) gfn ≡ true
  gfn-in f None mine low = refl
  gfn-in f (Some g) mine low = lt-ltb g (gfns_of m.config.version) ((is.each_frame f (rw is.frames low)).gfn g mine)

  entry-in : (v : ℕ) (n : ℕ) → v < slot_count m.config → n < length (entries (slot_at m v).mapped) → is_entry m.config.version m.config.frames v (get_or (entries (slot_at m v).mapped) n (0, 0)) ≡ true
  unfolding slot_count
  entry-in v n low within =
      let e = get_or (entries (slot_at m v).mapped) n (0, 0) in
      let there = (entry-get (slot_at m v).mapped e.0 e.1).0 (place-entry (entries (slot_at m v).mapped) n (0, 0) within) in
      let frame = (is.mapped v e.0 e.1 low).0 there in
      let exists = below m is e.1 (λ core. let clash : Vm v ≡ Core = sym frame.0 ∙ core in cc) in
      and_from _ _ (and_from _ _ (lt-ltb v (slots_of m.config.version) low) (lt-ltb e.0 (gfns_of m.config.version) ((is.each_frame e.1 (rw is.frames exists)).gfn e.0 frame.1))) (lt-ltb e.1 m.config.frames exists)

  pub dump-in-range : IsDump (dump_of m)
  unfolding slot_count
  dump-in-range = record {
    some_frames = let l = long m is in let c = is.config.some_frames in omega (arith, l, c);
    few_frames = let l = long m is in let c = is.config.few_frames in omega (arith, l, c);
    core = let l = long m is in let c = is.config.within in omega (arith, l, c);
    some_leaves = is.config.some_leaves;
    few_leaves = is.config.few_leaves;
    slots = slots m is;
    free = ap (λ n. are_ends n (ends_of m.free)) (long m is) ∙ ends-in m.config.frames m.free free-below (at-most m is Free m.free is.free);
    lists = λ v low. (let exists : v < slot_count m.config = rw (slots m is) at low in
        ap (λ (s : SlotDump). are_ends (length (dump_of m).frames) s.list) (slot-low m is v low) ∙ ap (λ n. are_ends n (ends_of (slot_at m v).frames)) (long m is)
        ∙ ends-in m.config.frames (slot_at m v).frames (vm-below v exists) (at-most m is (Vm v) (slot_at m v).frames (is.listed v exists)));
    leaves = λ v. elim (cases_lt v (length (dump_of m).slots)) [
      | inl low ↦
          let few = (is.each_slot v (rw (slots m is) at low)).few_leaves in
          let most = is.config.few_leaves in
          let here = ap (λ (s : SlotDump). length s.leaves) (slot-low m is v low) in omega (arith, few, most, here, few-leaves m.config.version)
      | inr past ↦ let here = ap (λ (s : SlotDump). length s.leaves) (get_or_past (dump_of m).slots v empty_dump past) in omega (arith, here)
    ];
    roots = λ v n low. (let exists : v < slot_count m.config = rw (slots m is) at low in
        subst (λ (s : SlotDump). n < length s.leaves → get_or s.leaves n 0 < roots_of m.config.version) (sym (slot-low m is v low)) (λ within. All-get_or (λ root. root < roots_of m.config.version) (slot_at m v).leaves n 0 within (is.each_slot v exists).each_leaf));
    entries = λ v n low. (let exists : v < slot_count m.config = rw (slots m is) at low in
        subst (λ (s : SlotDump). n < length s.entries → is_entry m.config.version (length (dump_of m).frames) v (get_or s.entries n (0, 0)) ≡ true) (sym (slot-low m is v low))
        (λ within. ap (λ k. is_entry m.config.version k v (get_or (entries (slot_at m v).mapped) n (0, 0))) (long m is) ∙ entry-in v n exists within));
    rising = λ v n low. subst (λ (s : SlotDump). suc n < length s.entries → (get_or s.entries n (0, 0)).0 < (get_or s.entries (suc n) (0, 0)).0) (sym (slot-low m is v low))
        (λ within. sorted-rising (entries (slot_at m v).mapped) n (entries_sorted (slot_at m v).mapped) within);
    frames = λ f within. (let low : f < m.config.frames = rw (long m is) at within in
        ap (λ (l : FrameLine). is_frame m.config.version (length (dump_of m).frames) l) (line-low m is f low) ∙ ap (λ n. is_frame m.config.version n (frame_line (frame_at m f) (link_at m f))) (long m is) ∙ line-in f low);
  }
    where
      line-in : (f : ℕ) → f < m.config.frames → is_frame m.config.version m.config.frames (frame_line (frame_at m f) (link_at m f)) ≡ true
      line-in f low =
          let frame = is.each_frame f (rw is.frames low) in
          let links = near-of f (frame_at m f).owner refl low in
          and_from _ _ (and_from _ _ (and_from _ _ (and_from _ _ (and_from _ _ (and_from _ _ (owner-in f (frame_at m f).owner refl low) (le-leb (frame_at m f).share 100 frame.shared)) (gfn-in f (frame_at m f).gfn refl low)) links.prev) links.next)
          (eq-eqb (length (sha256 (frame_at m f).bytes)) 32 (length-sha256 (frame_at m f).bytes))) (digest-bytes (frame_at m f).bytes)
