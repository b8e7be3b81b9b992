-- Parts that are all here, each in the place of its number.
use Rattle.std.proofs.Common.{ℕ, ◌≡◌, ◌<◌, ◌≤◌, inl, inr, Bool, true, List, length, get_or, replicate, [], ◌∷◌, Option, Some, None, is_some, refl, sym, ap, ◌∙◌, arith, All}
use Rattle.std.specs.List.{range_with_len}
use Rattle.std.proofs.lemmas.Bool.{cases_lt}
use Rattle.std.proofs.lemmas.List.{get_or_past, length-replicate}
use Rattle.std.proofs.lemmas.List.FromFn.{get_or-range_with_len, length-range_with_len}
use Rattle.std.proofs.lemmas.Option.{slice_get-get_or}
use Rattle.kc_types.specs.Limits.{frame_limit}
use Rattle.kc_types.specs.Configuration.{Configuration, slot_count}
use Rattle.kc_types.specs.declared.link.Ends.{Ends}
use Rattle.kc_page.specs.declared.page.Page.{Page}
use Rattle.kc_vms.specs.Vm.{VmSlot}
use Rattle.kc_parts.specs.Parts.{IsHeld, page_at, vm_at}
use Rattle.kc_parts.specs.Booting.{parts_of, IsWhole}
use Rattle.kc_parts.proofs.Blanks.{blanks-filled}
use Rattle.kc_parts.proofs.Boots.{page-whole, rising-range, cell-at}

pub held-parts : (pages : List Page) → length pages ≤ frame_limit → IsHeld (range_with_len 0 (length pages)) (replicate (length pages) true) pages
held-parts pages few = record {
  rising = rising-range (length pages);
  frames = λ i. elim (cases_lt i (length pages)) [
    | inl low ↦ let a = get_or-range_with_len 0 (length pages) i 0 low in omega (arith, low, few, a)
    | inr past ↦ let count = length-range_with_len 0 (length pages) in let a : get_or (range_with_len 0 (length pages)) i 0 ≡ 0 = get_or_past (range_with_len 0 (length pages)) i 0 (omega (arith, past, count)) in omega (arith, a)
  ];
  flags = length-replicate (length pages) true ∙ sym (length-range_with_len 0 (length pages));
  pages = sym (length-range_with_len 0 (length pages));
  blanks = blanks-filled (length pages) pages;
}

module _ (pages : List Page) (vms : List (Option VmSlot)) (free : Ends) (is_reserved : Bool) where
  -- the page of each number
  pub whole-page : (f : ℕ) (d : Page) → f < length pages → page_at (parts_of pages vms free is_reserved) f ≡ Some (get_or pages f d)
  whole-page f d low = page-whole (parts_of pages vms free is_reserved) (length pages) f refl refl low ∙ slice_get-get_or pages f d low

  -- the slot of each number
  pub whole-vm : (v : ℕ) → vm_at (parts_of pages vms free is_reserved) v ≡ get_or vms v None
  whole-vm v = cell-at vms v

  pub whole-parts : (config : Configuration) → config.frames ≡ length pages → slot_count config ≡ length vms → All (λ (vm : Option VmSlot). is_some vm ≡ true) vms → IsWhole config (parts_of pages vms free is_reserved)
  whole-parts config frames slots all = record {
    numbers = ap (range_with_len 0) (sym frames);
    frames = λ f low. page-here f (rw frames at low);
    vms = λ v low. ap is_some (whole-vm v) ∙ all v None (rw slots at low);
    past = λ v some. elim (cases_lt v (length vms)) [
      | inl low ↦ rw slots low
      | inr past ↦ let none : vm_at (parts_of pages vms free is_reserved) v ≡ None = whole-vm v ∙ get_or_past vms v None past in let no = rw none at some in cc
    ];
    free = refl;
  }
    where
      page-here : (f : ℕ) → f < length pages → is_some (page_at (parts_of pages vms free is_reserved) f) ≡ true
      page-here f low = by_pages pages refl low
        where
          by_pages : (ps : List Page) → ps ≡ pages → f < length ps → is_some (page_at (parts_of pages vms free is_reserved) f) ≡ true
          by_pages [] e low = absurd (omega (arith, low))
          by_pages (p ∷ ps) e within = ap is_some (whole-page f p low)
