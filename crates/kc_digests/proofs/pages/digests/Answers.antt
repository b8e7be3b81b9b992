use Rattle.std.proofs.Common.{◌≡◌, [], get_or, length, map, arith, sym, ◌∙◌}
use Rattle.std.proofs.lemmas.List.{ext_get_or, length-map, take_at}
use Rattle.kc_digests.specs.Digests.{digest_by}
use Rattle.kc_digests.proofs.Places.{chunk_place}
use Rattle.kc_digests.proofs.pages.digests.Goals as goal

pub returns : goal.returns
returns g c =
    let written = c.par_chunks_mut_for_each.new.s in
    let pages = c.args.pages.now in
    let digest = digest_by g.P.Bytes.bytes in
    let lens = c.in_ok-digests.ensures.len in
    let kept = c.par_chunks_mut_for_each.auto.s in
    let same = c.as_mut_slice.ensures.len in
    let mapped = length-map pages digest in
    let all : written ≡ map digest pages = ext_get_or [] _ _ (omega arith) (λ i lt.
    let place = (c.par_chunks_mut_for_each.ensures.by_index i [] (omega arith)).1 in
    sym {a = get_or place.after_call.now place.offset []} {b = get_or written i []} place.new_element
    ∙ chunk_place digest pages place.after_call.now place.start place.offset (length place.argument.now) i [] place.call place.offset_in_chunk place.start_plus_offset) in
    take_at written _ _ (omega arith) ∙ all
