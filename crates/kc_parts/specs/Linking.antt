-- Parts as a store of links.
use Rattle.std.specs.Prelude.{ℕ, ◌≡◌, ◌<◌, Bool, true, false, cond, nat_lt, Option, None, IsSome, refl}
use Rattle.std.specs.Option.{option_map}
use Rattle.std.proofs.Common.{◌∙◌}
use Rattle.std.proofs.lemmas.Bool.{ltb-true}
use Rattle.kc_types.specs.Limits.{frame_limit}
use Rattle.kc_types.specs.declared.link.Link.{Link}
use Rattle.kc_page.specs.Page.{frame_of}
use Rattle.kc_parts.specs.Parts.{Held, is_sparse, page_at, links_of}

-- two parts are the same except for the links of their frames
pub record IsSameRest (old new : Held) : Type 0 where
  pub numbers : new.numbers ≡ old.numbers
  pub filled : new.filled ≡ old.filled
  pub reserved : new.is_reserved ≡ old.is_reserved
  pub vms : new.vms ≡ old.vms
  pub free : new.free ≡ old.free
  pub frames : (f : ℕ) → option_map frame_of (page_at new f) ≡ option_map frame_of (page_at old f)
  pub sparse : (f : ℕ) → is_sparse (page_at new f) ≡ is_sparse (page_at old f)

pub rest_kept : (h : Held) → IsSameRest h h
rest_kept h = record { numbers = refl; filled = refl; reserved = refl; vms = refl; free = refl; frames = λ f. refl; sparse = λ f. refl }

pub rest_through : (old mid new : Held) → IsSameRest old mid → IsSameRest mid new → IsSameRest old new
rest_through old mid new first second = record {
  numbers = second.numbers ∙ first.numbers;
  filled = second.filled ∙ first.filled;
  reserved = second.reserved ∙ first.reserved;
  vms = second.vms ∙ first.vms;
  free = second.free ∙ first.free;
  frames = λ f. second.frames f ∙ first.frames f;
  sparse = λ f. second.sparse f ∙ first.sparse f;
}

below : (f : ℕ) (there : Option Link) (low : Bool) → nat_lt f frame_limit ≡ low → IsSome (cond low there None) → f < frame_limit
below f there true is held = ltb-true f frame_limit is
below f there false is held = absurd cc

pub links_within : (h : Held) (f : ℕ) → IsSome (links_of h f) → f < frame_limit
links_within h f held = below f _ (nat_lt f frame_limit) refl held
