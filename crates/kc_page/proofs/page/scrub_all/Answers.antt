use Rattle.std.proofs.Common.{◌<◌, get_or, length, map, None, false, arith, sym, ap, ◌∙◌}
use Rattle.std.proofs.lemmas.List.{ext_get_or, get_or-map, length-map}
use Rattle.kc_types.specs.declared.owner.Owner.TheVariants.{Core}
use Rattle.kc_model.specs.State.{zero_page}
use Rattle.kc_page.specs.declared.page.Page.{Page}
use Rattle.kc_page.specs.Page.{scrubbed_page}
use Rattle.kc_page.proofs.page.scrub_all.Goals as goal

blank : Page
blank = record { meta = record { owner = Core; share = 0; gfn = None; present = false; prev = None; next = None }; bytes = record { bytes = zero_page; is_reserved = false } }

pub returns : goal.returns
returns g c =
    let old = c.args.pages.now in
    let written = c.par_chunks_mut_for_each.new.s in
    let kept = c.par_chunks_mut_for_each.auto.s in
    let long = length-map old scrubbed_page in
    ext_get_or blank written (map scrubbed_page old) (omega (arith, kept, long)) (λ i low.
    let within : i < length old = omega (arith, kept, low) in
    let place = (c.par_chunks_mut_for_each.ensures.by_index i blank within).1 in
    sym {a = get_or place.after_call.now place.offset blank} {b = get_or written i blank} place.new_element
    ∙ ap (λ pages. get_or pages place.offset blank) place.call
    ∙ get_or-map scrubbed_page place.argument.now place.offset blank blank place.offset_in_chunk
    ∙ ap scrubbed_page place.old_element
    ∙ sym (get_or-map scrubbed_page old i blank blank within))
