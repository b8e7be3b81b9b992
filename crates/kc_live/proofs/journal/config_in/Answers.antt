use Rattle.std.proofs.Common.{◌≡◌, ◌∙◌, ◌++◌, ◌∷◌, [], List, ℕ, get_or, Some, None, ap, sym, arith}
use Rattle.std.proofs.lemmas.List.{take_all, take_more}
use Rattle.kc_types.specs.ConfigFaults.{fault_of}
use Rattle.kc_live.proofs.Heads.{no_fault, same_machine}
use Rattle.kc_live.proofs.journal.config_in.Goals as goal

pub loop-digest-preserved : goal.loop-digest-preserved
loop-digest-preserved c =
    let digests = c.approved-digest-items.result.now in
    let n = c.loop-digest.digest-index in
    let before = c.loop-digest.invariant in
    let one = c.push_reserved.ensures in
    record {
      items = one.items ∙ (ap (λ (first : List (List ℕ)). first ++ get_or digests n [] ∷ []) before.items ∙ sym (take_more digests n [] c.loop-digest-test.true));
      len = let longer = one.len in let few = before.len in omega (arith, longer, few);
      capacity = one.capacity ∙ before.capacity;
    }

pub unreachable-requires : goal.unreachable-requires
unreachable-requires c =
    let all = c.loop-digest.invariant.items ∙ (take_all c.loop-digest.digest-index c.approved-digest-items.result.now c.loop-digest-test.false ∙ c.approved-digest-items.ensures.value) in
    let same = same_machine c.args.config.now _ _ _ _ _ _ c.version.ensures c.frames.ensures.value c.core.ensures.value c.host.ensures.value c.leaves.ensures.value all in
    let both : Some c.in-Err.field-0 ≡ None = sym c.in-Err.ensures ∙ (ap fault_of same ∙ no_fault c.args.config.now c.frames.ensures.kept) in
    cc

pub returns : goal.returns
returns c =
    let all = c.loop-digest.invariant.items ∙ (take_all c.loop-digest.digest-index c.approved-digest-items.result.now c.loop-digest-test.false ∙ c.approved-digest-items.ensures.value) in
    c.in-Ok.ensures.1 ∙ same_machine c.args.config.now _ _ _ _ _ _ c.version.ensures c.frames.ensures.value c.core.ensures.value c.host.ensures.value c.leaves.ensures.value all
