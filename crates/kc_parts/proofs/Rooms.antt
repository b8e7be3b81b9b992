-- Parts that are taken out and put back have memory if they are reserved.
use Rattle.std.proofs.Common.{ℕ, ◌≡◌, Bool, true, false, ◌&&◌, cond, Option, Some, None, refl, sym, ap, ◌∙◌}
use Rattle.std.specs.Option.{option_map}
use Rattle.std.proofs.lemmas.Bool.{and_parts}
use Rattle.kc_types.specs.declared.resource.Resource.TheVariants as resource
use Rattle.kc_model.specs.Resources.{Resource}
use Rattle.kc_page.specs.declared.page.Page.{Page}
use Rattle.kc_parts.specs.Parts.{Held, is_sparse, page_at}
use Rattle.kc_parts.specs.Cuts.{HeldPart, IsSplit, IsJoin, held_at, either}
use Rattle.kc_parts.specs.Cuts.HeldPart.{page_part}
use Rattle.kc_parts.specs.States.{HasRoom}

-- whether what is held is a page that is sparse
sparse_part : Option HeldPart → Bool
sparse_part (Some (page_part page)) = is_sparse (Some page)
sparse_part _ = false

sparse-part : (there : Option Page) → sparse_part (option_map page_part there) ≡ is_sparse there
unfolding sparse_part
sparse-part None = refl
sparse-part (Some page) = refl

sparse-cut : (test : Bool) (there : Option HeldPart) → sparse_part there ≡ false → (sparse_part (cond test there None) ≡ false) × (sparse_part (cond test None there) ≡ false)
unfolding sparse_part
sparse-cut true there is = (is, refl)
sparse-cut false there is = (refl, is)

sparse-either : (one other : Option HeldPart) → sparse_part one ≡ false → sparse_part other ≡ false → sparse_part (either one other) ≡ false
sparse-either (Some x) other first second = first
sparse-either None other first second = second

-- reserved parts hold no sparse page
none-sparse : (h : Held) → HasRoom h → h.is_reserved ≡ true → (f : ℕ) → sparse_part (held_at h (resource.Frame f)) ≡ false
none-sparse h room reserved f = sparse-part (page_at h f) ∙ room reserved f

pub room-taken : (before : Held) (test : Resource → Bool) (rest taken : Held) → HasRoom before → IsSplit before test rest taken → HasRoom taken
room-taken before test rest taken room split reserved f =
    sym (sparse-part (page_at taken f)) ∙ ap sparse_part (split.taken_is (resource.Frame f))
    ∙ (sparse-cut (test (resource.Frame f)) (held_at before (resource.Frame f)) (none-sparse before room (sym split.reserved.1 ∙ reserved) f)).0

pub room-rest : (before : Held) (test : Resource → Bool) (rest taken : Held) → HasRoom before → IsSplit before test rest taken → HasRoom rest
room-rest before test rest taken room split reserved f =
    sym (sparse-part (page_at rest f)) ∙ ap sparse_part (split.rest_is (resource.Frame f))
    ∙ (sparse-cut (test (resource.Frame f)) (held_at before (resource.Frame f)) (none-sparse before room (sym split.reserved.0 ∙ reserved) f)).1

pub room-joined : (one other after : Held) → HasRoom one → HasRoom other → IsJoin one other after → HasRoom after
room-joined one other after first second join reserved f =
    let both = and_parts one.is_reserved other.is_reserved (sym join.reserved ∙ reserved) in
    sym (sparse-part (page_at after f)) ∙ ap sparse_part (join.parts (resource.Frame f))
    ∙ sparse-either (held_at one (resource.Frame f)) (held_at other (resource.Frame f)) (none-sparse one first both.0 f) (none-sparse other second both.1 f)
