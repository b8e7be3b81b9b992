use Rattle.std.proofs.Common.{◌≡◌, ◌++◌, ◌∙◌, [], false, refl, sym, rules}
use Rattle.kc_cli.specs.Traced.{Traced}
use Rattle.kc_cli.proofs.Witnessed.{none_witnessed, none_last, digest_needed}
use Rattle.kc_cli.proofs.Fed.{fed_none, fed_more, few_fed, kept_none, still_kept, still_whole}
use Rattle.kc_cli.proofs.replaying.feed_source.Goals as goal

pub loop-witness-init : goal.loop-witness-init
loop-witness-init g c = record {
  read = ([], [], c.new-stream.ensures.read (g.T.Source.left c.args.trace.now), rw c.new-replies.ensures.items (fed_none _ c.requires.whole), rw c.new-calls.ensures.items (kept_none c.args.form), rw c.new-stream.ensures.header (none_witnessed c.args.is_placed false));
  few = search rules;
  mark = c.requires.trace;
  whole = c.requires.whole;
  workers = refl;
}

pub loop-witness-preserved : goal.loop-witness-preserved
loop-witness-preserved g c =
    let before = c.loop-witness.invariant.read in
    let more = c.in_ok-part.ensures.calls before.0 before.1 (g.T.Source.left c.args.trace.now) before.2 in
    let fed = rw c.deref-in-loop-witness.ensures.value at c.in-Ok.ensures.fed in
    let grown : c.append.new.self.items ≡ c.loop-witness.replies.items ++ c.in-Ok.more.items = search rules in
    let seen = (rw c.deref.ensures.value at c.in_ok-witness.ensures.seen) c.loop-witness.stream.reader.progress.header before.1 (λ found is. c.header.ensures ∙ c.in_ok-part.ensures.header found is)
    (λ none. none_last before.1 c.in_ok-part.part.calls.items (more.1.headless (sym c.header.ensures ∙ none))) before.5 in
    record {
      read = (
        before.0 ++ more.0,
        before.1 ++ c.in_ok-part.part.calls.items,
        more.1,
        rw grown (fed_more _ _ _ before.1 c.in_ok-part.part.calls.items _ _ before.3 fed),
        rw c.in-Ok-keep.ensures (still_kept c.args.form c.loop-witness.calls.items before.1 c.in_ok-part.part.calls.items before.4),
        rw c.header.ensures at seen,
      );
      few = c.in_ok-part.ensures.few;
      mark = c.in_ok-part.ensures.mark;
      whole = still_whole _ _ _ _ fed;
      workers = fed.workers ∙ c.loop-witness.invariant.workers;
    }

pub returns-in-Ok-finish-clause-ok : goal.returns-in-Ok-finish-clause-ok
returns-in-Ok-finish-clause-ok g c =
    let before = c.loop-witness.invariant.read in
    let more = c.in_ok-part.ensures.calls before.0 before.1 (g.T.Source.left c.args.trace.now) before.2 in
    let fed = rw c.deref-in-loop-witness.ensures.value at c.in-Ok.ensures.fed in
    let grown : c.append.new.self.items ≡ c.loop-witness.replies.items ++ c.in-Ok.more.items = search rules in
    let seen = (rw c.deref.ensures.value at c.in_ok-witness.ensures.seen) c.loop-witness.stream.reader.progress.header before.1 (λ found is. c.header.ensures ∙ c.in_ok-part.ensures.header found is)
    (λ none. none_last before.1 c.in_ok-part.part.calls.items (more.1.headless (sym c.header.ensures ∙ none))) before.5 in
    let volume : Traced = record { header = c.in-Ok-finish.header; calls = before.1 ++ c.in_ok-part.part.calls.items } in
    let traced = c.in-Ok-finish.ensures.ok _ _ _ _ more.1 (c.in_ok-part.ensures.last c.if-part.true) in (
      before.1 ++ c.in_ok-part.part.calls.items,
      traced,
      rw grown (fed_more _ _ _ before.1 c.in_ok-part.part.calls.items _ _ before.3 fed),
      rw c.in-Ok-keep.ensures (still_kept c.args.form c.loop-witness.calls.items before.1 c.in_ok-part.part.calls.items before.4),
      digest_needed c.args.is_placed false _ volume _ (c.digest_of.ensures false volume) (rw (c.header.ensures, c.in-Ok-finish.ensures.header) at seen),
    )

pub returns-in-Ok-finish-clause-few : goal.returns-in-Ok-finish-clause-few
returns-in-Ok-finish-clause-few g c =
    let before = c.loop-witness.invariant.read in
    let more = c.in_ok-part.ensures.calls before.0 before.1 (g.T.Source.left c.args.trace.now) before.2 in
    let fed = rw c.deref-in-loop-witness.ensures.value at c.in-Ok.ensures.fed in
    let grown : c.append.new.self.items ≡ c.loop-witness.replies.items ++ c.in-Ok.more.items = search rules in
    rw grown (few_fed _ _ _ before.1 c.in_ok-part.part.calls.items _ _ before.3 fed more.1.few)
