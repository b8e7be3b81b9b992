-- A link is set.
use Rattle.std.proofs.Common.{ℕ, ◌≡◌, ◌<◌, inl, inr, Bool, true, false, cond, nat_lt, Option, Some, None, IsSome, refl, ap, ◌∙◌}
use Rattle.std.specs.Option.{option_map}
use Rattle.std.proofs.lemmas.Bool.{cases_eq, lt-ltb}
use mathlib.Core.Path.{fun_ext}
use Rattle.kc_types.specs.Limits.{frame_limit}
use Rattle.kc_types.specs.declared.link.Link.{Link}
use Rattle.kc_page.specs.declared.page.Page.{Page}
use Rattle.kc_page.specs.Page.{frame_of}
use Rattle.kc_links.specs.Chain.{with_link}
use Rattle.kc_links.proofs.Linked.{with_link-same, with_link-other}
use Rattle.kc_parts.specs.Parts.{Held, page_at, with_page, link_of, links_of}
use Rattle.kc_parts.specs.Linking.{IsSameRest}
use Rattle.kc_parts.proofs.Pages.{page-set, page-other, kept-at}
use Rattle.kc_parts.proofs.Seen.{sparse-page}

pub links-set : (h : Held) (f : ℕ) (old new : Page) (link : Link) → f < frame_limit → page_at h f ≡ Some old → link_of new ≡ link → links_of (with_page h f new) ≡ with_link (links_of h) f link
links-set h f old new link low is set_is = fun_ext (λ g. elim (cases_eq g f) [
  | inl e ↦ rw (e, with_link-same (links_of h) f link, lt-ltb f frame_limit low) (ap (option_map link_of) (page-set h f old new is) ∙ ap Some set_is)
  | inr other ↦ rw (with_link-other (links_of h) f link g other) (ap (λ there. cond (nat_lt g frame_limit) (option_map link_of there) None) (page-other h f g old new is other))
])

pub rest-set : (h : Held) (f : ℕ) (old new : Page) → page_at h f ≡ Some old → frame_of new ≡ frame_of old → new.bytes.is_reserved ≡ old.bytes.is_reserved → IsSameRest h (with_page h f new)
rest-set h f old new is same reserved = record {
  numbers = refl;
  filled = refl;
  reserved = refl;
  vms = refl;
  free = refl;
  frames = kept-at frame_of h f old new is same;
  sparse = sparse-page h f old new is reserved;
}

-- a frame with a link is here
not-absent : (there : Option Page) (low : Bool) → there ≡ None → IsSome (cond low (option_map link_of there) None) → ⊥
not-absent None true is held = cc
not-absent None false is held = cc
not-absent (Some page) low is held = absurd cc

pub held-here : (h : Held) (f : ℕ) → IsSome (links_of h f) → page_at h f ≡ None → ⊥
held-here h f held none = not-absent (page_at h f) (nat_lt f frame_limit) none held
