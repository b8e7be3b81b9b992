use Rattle.std.proofs.Common.{◌≡◌, ◌≤◌, ◌++◌, ◌+◌, length, take, arith, ap, ◌∙◌, inr, length-append}
use Rattle.std.proofs.lemmas.List.{length-take}
use Rattle.std.proofs.KnownBytes.{Consumes-trans}
use Rattle.kc_texts.proofs.Bytes.{read_after, begun_with}
use Rattle.kc_texts.proofs.whole.read_into.Goals as goal
use Rattle.kc_texts.proofs.whole.read_into.Goals.{else-used-as_slice-via-then-used-as_slice+else-is_err, else-used-as_slice-via-else-used-as_slice}

pub returns-then-n-used-clause-read : goal.returns-then-n-used-clause-read
returns-then-n-used-clause-read g c =
    let front = take c.loop-used.used c.loop-used.text in
    let given = take c.in-Ok.n c.read.new.buffer in
    λ e. inr (
      front ++ given,
      Consumes-trans _ _ _ front given c.loop-used.invariant.read c.in-Ok.ensures.bytes.0,
      omega (arith, length-append front given, length-take c.in-Ok.n c.read.new.buffer, length-take c.loop-used.used c.loop-used.text, c.loop-used.invariant.within, c.loop-used.invariant.few, c.in-Ok.ensures.bound, c.if-n-used.true),
    )

pub loop-used-preserved : goal.loop-used-preserved
loop-used-preserved g c =
    let used = c.loop-used.used in
    let kept : take used c.else-used-as_slice.text ≡ take used c.loop-used.text = elim c.else-used-as_slice.branch [
      | else-used-as_slice-via-then-used-as_slice+else-is_err w ↦ rw w.text-is (w.grow.ensures.kept used c.loop-used.invariant.within)
      | else-used-as_slice-via-else-used-as_slice w ↦ ap (λ text. take used text) w.text-is
    ] in
    let front_is : take used c.as_mut_slice.result.now ≡ take used c.loop-used.text = ap (take used) c.as_mut_slice.ensures.value ∙ kept in
    let given = take c.in-Ok.n c.read.new.buffer in
    let front_len : length (take used c.as_mut_slice.result.now) ≡ used = omega (arith, length-take used c.as_mut_slice.result.now, ap length front_is, length-take used c.loop-used.text, c.loop-used.invariant.within) in
    let fits : used + c.in-Ok.n ≤ (length c.else-used-as_slice.text) = omega (arith, c.in-Ok.ensures.bound, ap length c.as_mut_slice.ensures.value, front_len, length-take used c.as_mut_slice.result.now, c.read.auto.buffer) in
    let after = read_after (take used c.as_mut_slice.result.now) c.read.new.buffer _ _ used c.in-Ok.n (length c.else-used-as_slice.text) front_len c.in-Ok.ensures.bound fits in
    record {
      read = rw (after, front_is) (Consumes-trans _ _ _ (take used c.loop-used.text) given c.loop-used.invariant.read c.in-Ok.ensures.bytes.0);
      within = begun_with _ _ _ after (omega (arith, front_len, length-append (take used c.as_mut_slice.result.now) given, length-take c.in-Ok.n c.read.new.buffer, c.in-Ok.ensures.bound));
      few = omega (arith, c.if-n-used.false, c.loop-used.invariant.few);
      whole = c.in-Ok.ensures.mark;
    }
