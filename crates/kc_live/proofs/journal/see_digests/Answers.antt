use Rattle.std.proofs.Common.{[], ◌∷◌, take, get_or}
use Rattle.std.proofs.lemmas.List.{take_all, take_more}
use Rattle.std.proofs.lemmas.List.Elements.{All-nil, All-cons, All-append, recursion_from_All}
use Rattle.kc_model.specs.Volumes.{IsDigest}
use Rattle.kc_live.proofs.journal.see_digests.Goals as goal

pub loop-digest-init : goal.loop-digest-init
loop-digest-init c = All-nil IsDigest

pub loop-digest-preserved : goal.loop-digest-preserved
loop-digest-preserved c =
    let digests = c.approved-digest-items.result.now in
    let n = c.loop-digest.digest-index in
    rw (take_more digests n [] c.loop-digest-test.true)
    (All-append IsDigest (take n digests) (get_or digests n [] ∷ []) c.loop-digest.invariant (All-cons IsDigest (get_or digests n []) [] c.bytes_of.ensures (All-nil IsDigest)))

pub returns : goal.returns
returns c =
    let all = rw (take_all c.loop-digest.digest-index c.approved-digest-items.result.now c.loop-digest-test.false) at c.loop-digest.invariant in
    rw (← c.approved-digest-items.ensures.value) (recursion_from_All IsDigest c.approved-digest-items.result.now all)
