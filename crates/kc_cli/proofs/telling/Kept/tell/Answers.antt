use Rattle.std.proofs.Common.{◌<◌, ◌+◌, ◌^◌, ◌++◌, [], List, length, length-append, refl, ap, sym, ◌∙◌, subst, Bool, rules, arith}
use Rattle.std.proofs.lemmas.List.{append-nil}
use Rattle.kc_types.specs.declared.call.Call.{Call}
use Rattle.kc_model.specs.State.{State}
use Rattle.kc_model.proofs.States.Sizes.{config-after}
use Rattle.kc_cli.specs.Ledgers.{HasKept}
use Rattle.kc_cli.specs.Traced.{Traced, IsDigested}
use Rattle.kc_cli.proofs.Witnessed.{none_last, none_witnessed, digest_needed}
use Rattle.kc_cli.proofs.Told.{kept_after}
use Rattle.kc_cli.proofs.telling.Kept.tell.Goals as goal

pub loop-stream-init : goal.loop-stream-init
loop-stream-init g c = record {
  read = (
    [],
    [],
    c.new-stream.ensures.read (g.T.Source.left c.args.trace.now),
    omega arith,
    omega arith,
    rw c.new-stream.ensures.header (none_witnessed _ c.args.is_named),
    λ form start before is h. subst (λ (calls : List Call). HasKept form start calls c.args.core.now.state c.args.self.now) (sym (append-nil before)) h,
  );
  few = search rules;
  mark = c.requires.trace;
  config = refl;
}

pub note-requires-clause-lines : goal.note-requires-clause-lines
note-requires-clause-lines g c =
    let before = c.loop-stream.invariant.read in
    let more = c.in_ok-part.ensures.calls before.0 before.1 (g.T.Source.left c.args.trace.now) before.2 in
    let few = more.1.few in
    let long = length-append before.1 c.in_ok-part.part.calls.items in
    let at = before.3 in
    let same = ap length c.deref.ensures.value in
    let room = c.requires.lines in
    omega (arith, few, long, at, same, room)

pub note-requires-clause-counts : goal.note-requires-clause-counts
note-requires-clause-counts g c =
    let before = c.loop-stream.invariant.read in
    let more = c.in_ok-part.ensures.calls before.0 before.1 (g.T.Source.left c.args.trace.now) before.2 in
    let few = more.1.few in
    let long = length-append before.1 c.in_ok-part.part.calls.items in
    let denied = before.4 in
    let same = ap length c.deref.ensures.value in
    let room = c.requires.lines in
    let counts = c.requires.counts in
    omega (arith, few, long, denied, same, room, counts)

pub loop-stream-preserved : goal.loop-stream-preserved
loop-stream-preserved g c =
    let before = c.loop-stream.invariant.read in
    let more = c.in_ok-part.ensures.calls before.0 before.1 (g.T.Source.left c.args.trace.now) before.2 in
    let calls = c.in_ok-part.part.calls.items in
    let long = length-append before.1 calls in
    let at = before.3 in
    let few = before.4 in
    let same = ap length c.deref-in-loop-stream.ensures.value in
    let noted = c.in-Ok.ensures.few in
    let short : c.loop-stream.self.line + c.len.result < 2 ^ 32 = let some = more.1.few in let room = c.requires.lines in omega (arith, some, long, at, room) in
    let seen = (rw c.deref.ensures.value at c.in_ok-witness.ensures.seen) c.loop-stream.stream.reader.progress.header before.1 (λ found is. c.header.ensures ∙ c.in_ok-part.ensures.header found is)
    (λ none. none_last before.1 calls (more.1.headless (sym c.header.ensures ∙ none))) before.5 in
    record {
      read = (
        before.0 ++ more.0,
        before.1 ++ calls,
        more.1,
        omega (arith, long, at),
        omega (arith, long, few, same, noted),
        rw c.header.ensures at seen,
        λ form start first is h. kept_after form start first before.1 calls c.loop-stream.core.state _ c.loop-stream.self _ is (before.6 form start first is h) ((rw c.deref-in-loop-stream.ensures.value at c.in-Ok.ensures.kept) form start)
            (rw c.deref-in-loop-stream.ensures.value at c.in-Ok.ensures.state) (rw c.deref-in-loop-stream.ensures.value at c.in-Ok.ensures.denied) (omega (arith, same, noted)) (rw c.deref-in-loop-stream.ensures.value at c.in-Ok.ensures.counted) (omega arith) short,
      );
      few = c.in_ok-part.ensures.few;
      mark = c.in_ok-part.ensures.mark;
      config = ap (λ (m : State). m.config) (rw c.deref-in-loop-stream.ensures.value at c.in-Ok.ensures.state) ∙ config-after c.loop-stream.core.state c.in_ok-part.part.calls.items ∙ c.loop-stream.invariant.config;
    }

pub returns-in-Ok-finish-clause-ok : goal.returns-in-Ok-finish-clause-ok
returns-in-Ok-finish-clause-ok g c =
    let before = c.loop-stream.invariant.read in
    let more = c.in_ok-part.ensures.calls before.0 before.1 (g.T.Source.left c.args.trace.now) before.2 in
    let calls = c.in_ok-part.part.calls.items in
    let long = length-append before.1 calls in
    let at = before.3 in
    let same = ap length c.deref-in-loop-stream.ensures.value in
    let noted = c.in-Ok.ensures.few in
    let short : c.loop-stream.self.line + c.len.result < 2 ^ 32 = let some = more.1.few in let room = c.requires.lines in omega (arith, some, long, at, room) in
    let seen = (rw c.deref.ensures.value at c.in_ok-witness.ensures.seen) c.loop-stream.stream.reader.progress.header before.1 (λ found is. c.header.ensures ∙ c.in_ok-part.ensures.header found is)
    (λ none. none_last before.1 calls (more.1.headless (sym c.header.ensures ∙ none))) before.5 in
    let volume : Traced = record { header = c.in-Ok-finish.header; calls = before.1 ++ calls } in (
      before.1 ++ calls,
      c.in-Ok-finish.ensures.ok _ _ _ _ more.1 (c.in_ok-part.ensures.last c.if-part.true),
      more.1.few,
      omega (arith, long, at),
      subst (λ (needed : Bool). IsDigested needed c.args.is_named volume c.digest_of.result) c.is_needed-is_needed.ensures
          (digest_needed c.is_needed-is_needed.result c.args.is_named _ volume _ (c.digest_of.ensures c.args.is_named volume) (rw (c.header.ensures, c.in-Ok-finish.ensures.header) at seen)),
      λ form start first is h. kept_after form start first before.1 calls c.loop-stream.core.state _ c.loop-stream.self _ is (before.6 form start first is h) ((rw c.deref-in-loop-stream.ensures.value at c.in-Ok.ensures.kept) form start)
          (rw c.deref-in-loop-stream.ensures.value at c.in-Ok.ensures.state) (rw c.deref-in-loop-stream.ensures.value at c.in-Ok.ensures.denied) (omega (arith, same, noted)) (rw c.deref-in-loop-stream.ensures.value at c.in-Ok.ensures.counted) (omega arith) short,
    )

pub returns-in-Ok-finish-clause-config : goal.returns-in-Ok-finish-clause-config
returns-in-Ok-finish-clause-config g c = ap (λ (m : State). m.config) (rw c.deref-in-loop-stream.ensures.value at c.in-Ok.ensures.state) ∙ config-after c.loop-stream.core.state c.in_ok-part.part.calls.items ∙ c.loop-stream.invariant.config
