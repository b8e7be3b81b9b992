use Rattle.std.proofs.Common.{◌≡◌, ◌<◌, ◌+◌, ◌++◌, [], ◌∷◌, ℕ, Option, Some, None, sym, ap, subst, ◌∙◌, arith, append-nil}
use Rattle.std.specs.List.{range_with_len, filter_map}
use Rattle.std.specs.Option.{option_to_list}
use Rattle.kc_types.specs.Configuration.{Configuration, gfns_of}
use Rattle.kc_model.specs.State.{mapped_at}
use Rattle.kc_custody.proofs.Pushed.{ranged-more, mapped-is}
use Rattle.kc_custody.proofs.movable.in_range.Goals as goal
use Rattle.kc_custody.proofs.movable.in_range.Goals.{in-Some+in_ok-push, in_default}

pub loop-i-preserved : goal.loop-i-preserved
loop-i-preserved c =
    let get : ℕ → Option ℕ = λ h. mapped_at c.args.core.now.state c.args.vm h in
    let so_far = filter_map get (range_with_len c.args.gfn c.loop-i.i) in
    let next = ranged-more get c.args.gfn c.loop-i.i in
    let there : c.lookup.result ≡ get (c.args.gfn + c.loop-i.i) = c.lookup.ensures.value in
    elim c.match-lookup.branch [
      | in-Some+in_ok-push w ↦
          let found : get (c.args.gfn + c.loop-i.i) ≡ Some w.number.result = sym there ∙ w.in-Some.is ∙ ap Some (sym w.number.ensures.value) in
          rw w.frames-is (w.in_ok-push.ensures.items ∙ ap (λ xs. xs ++ w.number.result ∷ []) c.loop-i.invariant ∙ sym (next ∙ ap (λ o. so_far ++ option_to_list o) found))
      | in_default w ↦
          let none : get (c.args.gfn + c.loop-i.i) ≡ None = sym there ∙ w.in_default.is in
          rw w.frames-is (c.loop-i.invariant ∙ sym (next ∙ ap (λ o. so_far ++ option_to_list o) none ∙ append-nil so_far))
    ]

pub returns : goal.returns
returns c =
    let past = c.loop-i-test.false in
    let within = c.loop-i.auto.i-end in
    let version = c.version.ensures ∙ ap (λ (config : Configuration). config.version) c.config.ensures.value in
    let low : c.args.gfn < gfns_of c.args.core.now.state.config.version = subst (λ n. c.args.gfn < n) (c.gfns-gfns.ensures.value ∙ ap gfns_of version) c.if-gfn-gfns.false in
    mapped-is c.args.core.now.state c.args.vm c.args.gfn c.args.count c.loop-i.i c.loop-i.frames.items c.if-count-gt-RANGE_LIMIT.false low (omega (arith, past, within)) c.loop-i.invariant
