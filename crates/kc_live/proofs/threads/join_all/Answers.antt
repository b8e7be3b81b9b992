use Rattle.std.proofs.Common.{rules, arith, ◌∙◌, ◌++◌, ◌∷◌, [], ap, sym, map, List}
use Rattle.std.proofs.lemmas.List.{map-append, length_push}
use Rattle.kc_types.specs.declared.call.Call.{Call}
use Rattle.kc_live.specs.Program.{receipt_calls}
use Rattle.kc_live.proofs.Beginnings.{beginnings-push, none-graver}
use Rattle.kc_live.proofs.threads.join_all.Goals as goal

pub loop-thread-preserved : goal.loop-thread-preserved
loop-thread-preserved g c =
    let ran = c.join-ran.ensures in
    let pushed = ap (map (λ row. receipt_calls row.items)) c.push_reserved.ensures.items ∙ map-append (λ row. receipt_calls row.items) c.loop-thread.rows.items (c.join-ran.result.receipts ∷ []) in
    record {
      count = let before = c.loop-thread.invariant.count in let longer = length_push c.loop-thread.yielded c.in-Some.thread in let more = c.push_reserved.ensures.len in omega (arith, before, longer, more);
      room = search rules;
      begun = rw pushed (beginnings-push _ c.loop-thread.yielded _ c.in-Some.thread c.loop-thread.invariant.begun (ran.count, ran.begun));
      whole = λ none.
          let both = none-graver c.loop-thread.stop c.join-ran.result.stop (sym c.graver-stop.ensures ∙ none) in
          pushed ∙ ap (λ (rows : List (List Call)). rows ++ receipt_calls c.join-ran.result.receipts.items ∷ []) (c.loop-thread.invariant.whole both.0) ∙ ap (λ (row : List Call). c.loop-thread.yielded ++ row ∷ []) (ran.whole both.1);
    }
