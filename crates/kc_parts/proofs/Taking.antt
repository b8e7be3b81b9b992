-- What is kept while pages are taken out, and what it comes to in the end.
use Rattle.std.proofs.Common.{ℕ, zero, suc, ◌≡◌, ◌<◌, ◌≤◌, ◌+◌, Bool, true, false, cond, nat_eq, List, [], ◌∷◌, length, get_or, take, map, replicate, refl, sym, ◌∙◌, ap, arith}
use Rattle.std.specs.Prelude.{Option, Some, None, IsSome}
use Rattle.std.specs.Option.{option_map}
use Rattle.std.proofs.lemmas.List.{length-map, length-replicate}
use Rattle.std.proofs.lemmas.List.Folds.{list_any_more}
use Rattle.std.proofs.lemmas.Bool.{ne_eqb}
use Rattle.kc_types.specs.declared.link.Ends.{Ends}
use Rattle.kc_types.specs.declared.resource.Resource.{Resource}
use Rattle.kc_types.specs.declared.resource.Resource.TheVariants as resource
use Rattle.kc_page.specs.declared.page.Page.{Page}
use Rattle.kc_parts.specs.Parts.{Held, HeldSlots, IsHeld, IsRising, is_among, page_at, cell_in, held_slot, vm_at}
use Rattle.kc_model.specs.Resources.{is_wanted}
use Rattle.kc_parts.specs.Cuts.{HeldPart, held_at, AreHere, IsSplit, AreSlotsFor, IsFull}
use Rattle.kc_parts.specs.Cuts.HeldPart.{page_part, slot_part, ends_part}
use Rattle.kc_parts.specs.Moves.{AreAmong, AreFramesOf, AreMoved, IsLifted, WithSlots, page_among}
use Rattle.kc_parts.proofs.Filled.{cells, page_at-cells, cell-by_numbers}
use Rattle.kc_parts.proofs.Named.{among-at}
use Rattle.kc_parts.proofs.Blanks.{blanks-filled}

pub not-before : (ns : List ℕ) (i n : ℕ) → i ≤ length ns → ((j : ℕ) → j < i → get_or ns j 0 < n) → is_among (take i ns) n ≡ false
not-before ns zero n h low = refl
not-before ns (suc i) n h low =
    let e : suc i ≡ i + 1 = omega arith in
    rw (e, list_any_more (nat_eq n) ns i 0 (omega arith), not-before ns i n (omega arith) (λ j l. low j (omega (arith, l))), ne_eqb n (get_or ns i 0) (λ is. omega (arith, is, low i (omega arith)))) refl

-- the next page is still here
pub still-here : (ns : List ℕ) (i : ℕ) (start before : Held) → IsRising ns → i < length ns → IsLifted (take i ns) start before → IsSome (page_at start (get_or ns i 0))
    → IsSome (page_at before (get_or ns i 0))
still-here ns i start before up h lifted here =
    rw (lifted.pages (get_or ns i 0), not-before ns i (get_or ns i 0) (omega (arith, h)) (λ j l. up j i l h)) here

page-here : (o : Option Page) → IsSome (option_map page_part o) → IsSome o
page-here None h = h
page-here (Some page) h = refl

pub pages-here : (h : Held) (wanted : List Resource) (ns : List ℕ) → AreHere h wanted → AreAmong wanted ns → (i : ℕ) → i < length ns → IsSome (page_at h (get_or ns i 0))
pages-here h wanted ns here among i low =
    page-here (page_at h (get_or ns i 0)) (here (resource.Frame (get_or ns i 0)) (sym (among (get_or ns i 0)) ∙ among-at ns i 0 low))

cells-filled : (ps : List Page) → cells (replicate (length ps) true) ps ≡ map Some ps
cells-filled [] = refl
cells-filled (p ∷ ps) = ap (λ cs. Some p ∷ cs) (cells-filled ps)

pub pages-taken : (ns : List ℕ) (hs : List Bool) (ps : List Page) (start : Held) → IsHeld ns hs ps → hs ≡ replicate (length ps) true → map Some ps ≡ map (page_at start) ns
    → (f : ℕ) → page_among ns hs ps f ≡ cond (is_among ns f) (page_at start f) None
pages-taken ns hs ps start held filled are f =
    page_at-cells ns hs ps f held.flags held.pages
    ∙ ap (λ cs. cell_in ns cs f) (ap (λ bs. cells bs ps) filled ∙ cells-filled ps ∙ are)
    ∙ cell-by_numbers ns (page_at start) f

part-if : {A : Type 0} → (part : A → HeldPart) (b : Bool) (o : Option A) → option_map part (cond b o None) ≡ cond b (option_map part o) None
part-if part true o = refl
part-if part false o = refl

part-unless : {A : Type 0} → (part : A → HeldPart) (b : Bool) (o : Option A) → option_map part (cond b None o) ≡ cond b None (option_map part o)
part-unless part true o = refl
part-unless part false o = refl

-- the pages, the slots and the ends together
pub split-whole : (wanted : List Resource) (ns : List ℕ) (start rest taken : Held) → AreAmong wanted ns
    → ((f : ℕ) → page_at taken f ≡ cond (is_among ns f) (page_at start f) None) → ((f : ℕ) → page_at rest f ≡ cond (is_among ns f) None (page_at start f))
    → ((v : ℕ) → vm_at taken v ≡ cond (is_wanted wanted (resource.Vm v)) (vm_at start v) None) → ((v : ℕ) → vm_at rest v ≡ cond (is_wanted wanted (resource.Vm v)) None (vm_at start v))
    → taken.free ≡ cond (is_wanted wanted resource.Free) start.free None → rest.free ≡ cond (is_wanted wanted resource.Free) None start.free
    → rest.numbers ≡ start.numbers → rest.vms.numbers ≡ start.vms.numbers → rest.is_reserved ≡ start.is_reserved → taken.is_reserved ≡ start.is_reserved → IsSplit start (is_wanted wanted) rest taken
split-whole wanted ns start rest taken among pages others slots left ends kept places for_slots left_reserved took_reserved = record {
  taken_is = taken_at;
  rest_is = rest_at;
  places = places;
  slots = for_slots;
  reserved = (left_reserved, took_reserved);
}
  where
    taken_at : (r : Resource) → held_at taken r ≡ cond (is_wanted wanted r) (held_at start r) None
    taken_at (resource.Frame f) =
        ap (option_map page_part) (pages f ∙ ap (λ b. cond b (page_at start f) None) (among f)) ∙ part-if page_part (is_wanted wanted (resource.Frame f)) (page_at start f)
    taken_at (resource.Vm v) = ap (option_map slot_part) (slots v) ∙ part-if slot_part (is_wanted wanted (resource.Vm v)) (vm_at start v)
    taken_at resource.Free = ap (option_map ends_part) ends ∙ part-if ends_part (is_wanted wanted resource.Free) start.free

    rest_at : (r : Resource) → held_at rest r ≡ cond (is_wanted wanted r) None (held_at start r)
    rest_at (resource.Frame f) =
        ap (option_map page_part) (others f ∙ ap (λ b. cond b None (page_at start f)) (among f)) ∙ part-unless page_part (is_wanted wanted (resource.Frame f)) (page_at start f)
    rest_at (resource.Vm v) = ap (option_map slot_part) (left v) ∙ part-unless slot_part (is_wanted wanted (resource.Vm v)) (vm_at start v)
    rest_at resource.Free = ap (option_map ends_part) kept ∙ part-unless ends_part (is_wanted wanted resource.Free) start.free

pub same-pages : (before mid after : Held) (free : Option Ends) → WithSlots before mid → after ≡ record mid { free = free } → (f : ℕ) → page_at after f ≡ page_at before f
same-pages before mid after free slots ends f = ap (λ h. page_at h f) ends ∙ ap (λ h. page_at h f) slots

-- all places of what is taken out are filled
pub held-taken : (wanted : List Resource) (ns : List ℕ) (hs : List Bool) (ps : List Page) (start : Held) (n : ℕ) → AreFramesOf wanted ns → hs ≡ replicate n true → n ≡ length ns → map Some ps ≡ map (page_at start) ns → IsHeld ns hs ps
held-taken wanted ns hs ps start n are filled count pages = record {
  rising = are.rising;
  frames = are.frames;
  flags = ap length filled ∙ length-replicate n true ∙ count;
  pages = sym (length-map ps Some) ∙ ap length pages ∙ length-map ns (page_at start);
  blanks = rw filled (blanks-filled n ps);
}

-- the same, in the form that the steps leave
pub split-end : (wanted : List Resource) (ns : List ℕ) (hs : List Bool) (ps : List Page) (empty vms : HeldSlots) (ends : Option Ends) (start mid freed rest : Held) (asked is_reserved : Bool) (n : ℕ)
    → AreFramesOf wanted ns → hs ≡ replicate n true → n ≡ length ns → map Some ps ≡ map (page_at freed) ns → IsLifted ns freed rest
    → AreSlotsFor (is_wanted wanted) empty.numbers → ((v : ℕ) → held_slot empty v ≡ None) → AreMoved empty.numbers start.vms empty mid.vms vms → WithSlots start mid → ends ≡ cond asked mid.free None → freed ≡ record mid { free = cond asked None mid.free } → asked ≡ is_wanted wanted resource.Free → is_reserved ≡ rest.is_reserved
    → IsSplit start (is_wanted wanted) rest (record { numbers = ns; filled = hs; pages = ps; vms = vms; free = ends; is_reserved = is_reserved })
split-end wanted ns hs ps empty vms ends start mid freed rest asked is_reserved n are filled count pages lifted slots nothing moved slots_only took kept is reserved =
    let held = held-taken wanted ns hs ps freed n are filled count pages in
    let unmoved = same-pages start mid freed (cond asked None mid.free) slots_only kept in
    split-whole wanted ns start rest (record { numbers = ns; filled = hs; pages = ps; vms = vms; free = ends; is_reserved = is_reserved }) are.members
    (λ f. pages-taken ns hs ps freed held (filled ∙ ap (λ k. replicate k true) (count ∙ sym held.pages)) pages f ∙ ap (λ o. cond (is_among ns f) o None) (unmoved f))
    (λ f. lifted.pages f ∙ ap (cond (is_among ns f) None) (unmoved f))
    (λ v. moved.joined_is v ∙ rw (nothing v, slots.members v) refl)
    (λ v. ap (λ vs. held_slot vs v) (lifted.vms ∙ ap (λ h. h.vms) kept) ∙ moved.left_is v ∙ ap (λ b. cond b None (vm_at start v)) (slots.members v))
    (took ∙ ap (λ b. cond b mid.free None) is ∙ ap (λ o. cond (is_wanted wanted resource.Free) o None) (ap (λ h. h.free) slots_only))
    (lifted.free ∙ ap (λ h. h.free) kept ∙ ap (λ b. cond b None mid.free) is ∙ ap (cond (is_wanted wanted resource.Free) None) (ap (λ h. h.free) slots_only))
    (lifted.numbers ∙ ap (λ h. h.numbers) kept ∙ ap (λ h. h.numbers) slots_only)
    (ap (λ vs. vs.numbers) (lifted.vms ∙ ap (λ h. h.vms) kept) ∙ moved.left_places)
    (lifted.reserved ∙ ap (λ h. h.is_reserved) kept ∙ ap (λ h. h.is_reserved) slots_only)
    (reserved ∙ lifted.reserved ∙ ap (λ h. h.is_reserved) kept ∙ ap (λ h. h.is_reserved) slots_only)

-- everything that came out is here
pub taken-full : (wanted : List Resource) (start rest taken : Held) → AreHere start wanted → IsSplit start (is_wanted wanted) rest taken → AreAmong wanted taken.numbers → IsFull taken
taken-full wanted start rest taken here split among i low =
    let n = get_or taken.numbers i 0 in
    let named : is_wanted wanted (resource.Frame n) ≡ true = sym (among n) ∙ among-at taken.numbers i 0 low in
    page-here (page_at taken n) (rw (split.taken_is (resource.Frame n), named) (here (resource.Frame n) named))
