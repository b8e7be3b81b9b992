-- The frames at boot, as the layout says them.
use Rattle.std.proofs.Common.{ℕ, zero, suc, ◌≡◌, ◌<◌, ◌≤◌, ◌+◌, ◌-◌, Bool, false, inl, inr, cond, nat_lt, ◌∷◌, map, Some, None, refl, sym, ap, ◌∙◌, arith}
use Rattle.std.specs.List.{range_with_len}
use Rattle.std.proofs.lemmas.Bool.{cases_lt, lt-ltb, le-ltb}
use Rattle.kc_types.specs.Configuration.{Configuration, boot_owner}
use Rattle.kc_types.specs.declared.link.Link.{Link}
use Rattle.kc_page.specs.declared.page.Page.{Page}
use Rattle.kc_page.specs.declared.page.PageRecord.{PageRecord}
use Rattle.kc_parts.specs.Booting.{first_free, boot_link, boot_page}
use Rattle.kc_parts.specs.Chunks.{layout_of, prev_at_boot, next_at_boot, record_at_boot, page_at_boot, pages_at_boot, sparse_zeros}
use Rattle.kc_parts.proofs.Ascending.{link-range}

link-free : (config : Configuration) (f : ℕ) → first_free config ≤ f → f < config.frames
    → boot_link config f ≡ record { prev = cond (nat_lt (first_free config) f) (Some (f - 1)) None; next = cond (nat_lt (f + 1) config.frames) (Some (f + 1)) None }
link-free config f from low =
    let end : first_free config + (config.frames - first_free config) ≡ config.frames = omega (arith, from, low) in
    rw (le-ltb f config.core (omega (arith, from)), le-ltb f (first_free config) from)
    (link-range None (first_free config) (config.frames - first_free config) f from (omega (arith, low, end))
    ∙ ap (λ (n : ℕ). record { prev = cond (nat_lt (first_free config) f) (Some (f - 1)) None; next = cond (nat_lt (f + 1) n) (Some (f + 1)) None }) end)

link-used : (config : Configuration) (f : ℕ) → f < first_free config → boot_link config f ≡ record { prev = None; next = None }
link-used config f low = elim (cases_lt f config.core) [
  | inl core ↦ rw (lt-ltb f config.core core) refl
  | inr host ↦ rw (le-ltb f config.core host, lt-ltb f (first_free config) low) refl
]

abbrev neighbours : Configuration → ℕ → Link
neighbours config f = record { prev = prev_at_boot (layout_of config) f; next = next_at_boot (layout_of config) f }

neighbours-free : (config : Configuration) (f : ℕ) → first_free config ≤ f
    → neighbours config f ≡ record { prev = cond (nat_lt (first_free config) f) (Some (f - 1)) None; next = cond (nat_lt (f + 1) config.frames) (Some (f + 1)) None }
neighbours-free config f from = rw (le-ltb f (first_free config) from) refl

neighbours-used : (config : Configuration) (f : ℕ) → f < first_free config → neighbours config f ≡ record { prev = None; next = None }
neighbours-used config f low = rw (lt-ltb f (first_free config) low, le-ltb (first_free config) f (omega (arith, low))) refl

link-at-boot : (config : Configuration) (f : ℕ) → f < config.frames → boot_link config f ≡ neighbours config f
link-at-boot config f within = elim (cases_lt f (first_free config)) [
  | inl used ↦ link-used config f used ∙ sym (neighbours-used config f used)
  | inr free ↦ link-free config f free within ∙ sym (neighbours-free config f free)
]

abbrev record_with : Configuration → ℕ → Link → PageRecord
record_with config f link = record { owner = boot_owner config f; share = 0; gfn = None; present = false; prev = link.prev; next = link.next }

pub record-at-boot : (is_reserved : Bool) (config : Configuration) (f : ℕ) → f < config.frames → record_at_boot (layout_of config) f ≡ (boot_page is_reserved config f).meta
record-at-boot is_reserved config f within = ap (record_with config f) (sym (link-at-boot config f within))

abbrev page_with : PageRecord → Page
page_with meta = record { meta = meta; bytes = sparse_zeros }

pub page-at-boot : (config : Configuration) (f : ℕ) → f < config.frames → page_at_boot (layout_of config) f ≡ boot_page false config f
page-at-boot config f within = ap page_with (record-at-boot false config f within)

-- the pages of this many frames from one on
pub pages-at-boot : (config : Configuration) (first count : ℕ) → first + count ≤ config.frames → pages_at_boot (layout_of config) first count ≡ map (boot_page false config) (range_with_len first count)
unfolding pages_at_boot
pages-at-boot config first zero within = refl
pages-at-boot config first (suc count) within =
    λ i. page-at-boot config first (omega (arith, within)) i ∷ pages-at-boot config (first + 1) count (omega (arith, within)) i
