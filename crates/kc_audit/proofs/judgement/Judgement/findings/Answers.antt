use Rattle.std.proofs.Common.{length, arith, ap, ◌∙◌}
use Rattle.std.proofs.lemmas.List.FromFn.{length-map-range_with_len}
use Rattle.rayon.proofs.ListFacts.{IfOk-then}
use Rattle.kc_audit.specs.Findings.{AreGoodLists, verdict_of}
use Rattle.kc_audit.proofs.AllSound.{none-sound-by}
use Rattle.kc_audit.proofs.judgement.Judgement.findings.Goals as goal

pub findings-requires-clause-few : goal.findings-requires-clause-few
findings-requires-clause-few c =
    let d = c.args.dump.now in
    let same = ap length (c.as_slice.ensures.value ∙ c.requires.verdicts) in
    let long = length-map-range_with_len (verdict_of d) 0 (length d.frames) in
    omega (arith, same, long, c.requires.frames)

pub returns-clause-sound : goal.returns-clause-sound
returns-clause-sound c =
    let d = c.args.dump.now in
    let lists = c.as_slice-2.result.now in
    let good : AreGoodLists d lists = rw c.as_slice-2.ensures.value (record { count = c.requires.count; each = c.requires.lists }) in
    IfOk-then c.findings.result _ _ c.findings.ensures (λ found named. none-sound-by d lists good found.items named)
