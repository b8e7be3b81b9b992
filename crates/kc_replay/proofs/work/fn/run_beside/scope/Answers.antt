use Rattle.std.proofs.Common.{◌≡◌, ◌+◌, ◌∷◌, ◌++◌, [], length, length-append, sym, ◌∙◌, arith, rules}
use Rattle.std.proofs.lemmas.Iterator.Consumers.{YieldsList-end}
use Rattle.std.proofs.lemmas.Iterator.Adapters.{YieldsList-from_vec}
use Rattle.std.proofs.lemmas.List.{map-id}
use Rattle.kc_replay.specs.Working.{AnswersAll}
use Rattle.kc_replay.proofs.Zips.{zip_push, zip_through}
use Rattle.kc_replay.proofs.work.fn.run_beside.scope.Goals as goal

pub loop-list-preserved-in-Ok : goal.loop-list-preserved-in-Ok
loop-list-preserved-in-Ok g c =
    let more : length (c.loop-list.yielded ++ c.in-Some.list ∷ []) ≡ length c.loop-list.yielded + 1 = length-append c.loop-list.yielded (c.in-Some.list ∷ []) in
    let count = c.loop-list.invariant.count in
    record {
      count = rw (c.push_reserved.ensures.len, more) (omega (arith, count));
      room = c.push_reserved.ensures.capacity ∙ c.loop-list.invariant.room;
      made = λ e. rw c.push_reserved.ensures.items
          (zip_push (λ list h. h.promise.0.value ≡ list) c.loop-list.yielded c.loop-list.handles.items c.in-Some.list c.in-Ok.handle (c.loop-list.invariant.made e) c.in-Ok.ensures);
    }

pub returns : goal.returns
returns g c =
    let start = c.into_iter-list-iterator.ensures.into_iter_gives in
    let same : c.into_iter-list-iterator.result.rest.len ≡ length c.captures.lists.items = start.1 ∙ search rules in
    let t = YieldsList-end (YieldsList-from_vec {s = c.into_iter-list-iterator.result} c.captures.lists.items start.0 same) c.loop-list.yielded c.loop-list.list-iterator c.loop-list.yielded_by c.next.result c.next.new.self c.in-None.is c.next.ensures.steps in
    let lists_are : c.loop-list.yielded ≡ c.captures.lists.items = sym (map-id c.loop-list.yielded) ∙ t.0 in
    rw c.push_reserved-2.ensures.items
    (zip_push (λ list f. AnswersAll c.captures.config.now c.captures.calls.now list.items f.items) c.captures.lists.items c.in_ok-joined.joined.items c.captures.mine c.in_ok-own.field-0
    (zip_through (λ list h. h.promise.0.value ≡ list) (λ h f. AnswersAll g.S.Setting.config g.S.Setting.calls h.promise.0.value.items f.items) (λ list f. AnswersAll c.captures.config.now c.captures.calls.now list.items f.items)
    (λ list h f is answers. rw (is, c.requires.setting.0, c.requires.setting.1) at answers)
    c.captures.lists.items c.loop-list.handles.items c.in_ok-joined.joined.items
    (rw lists_are at (c.loop-list.invariant.made c.if-refused.false)) c.in_ok-joined.ensures.done)
    c.in_ok-own.ensures)
