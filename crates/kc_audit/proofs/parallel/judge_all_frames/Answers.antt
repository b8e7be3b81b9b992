use Rattle.std.proofs.Common.{◌<◌, get_or, length, arith, sym, ◌∙◌}
use Rattle.std.proofs.lemmas.List.{ext_get_or}
use Rattle.std.proofs.lemmas.List.FromFn.{length-map-range_with_len}
use Rattle.kc_audit.specs.Findings.{verdict_of, verdicts_of}
use Rattle.kc_audit.proofs.Judged.{judged-place}
use Rattle.kc_audit.proofs.parallel.judge_all_frames.Goals as goal

pub returns : goal.returns
returns g c =
    let d = c.args.dump.now in
    let written = c.par_chunks_mut_for_each.new.s in
    let kept = c.par_chunks_mut_for_each.auto.s in
    let count = c.requires.count in
    let none = verdict_of d 0 in
    let long = length-map-range_with_len (verdict_of d) 0 (length d.frames) in
    ext_get_or none written (verdicts_of d) (omega (arith, kept, count, long)) (λ i low.
    let place = (c.par_chunks_mut_for_each.ensures.by_index i none (omega (arith, kept, low))).1 in
    let within : i < length d.frames = omega (arith, kept, count, low) in
    sym {a = get_or place.after_call.now place.offset none} {b = get_or written i none} place.new_element
    ∙ judged-place d (length place.argument.now) place.start place.offset i none place.after_call.now place.call place.offset_in_chunk place.start_plus_offset within)
