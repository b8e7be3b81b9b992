use Rattle.std.proofs.Common.{◌≡◌, ◌<◌, ◌∙◌, length, take, ap, sym, rules, arith, inl, inr}
use Rattle.std.proofs.lemmas.Bool.{cases_lt}
use Rattle.std.proofs.lemmas.List.{take_all}
use Rattle.kc_state_text.proofs.Differing.{part-within}
use Rattle.kc_state_text.proofs.comparing.after.Goals as goal
use Rattle.kc_state_text.proofs.comparing.after.Goals.{then-bytes-text+else-eq, else-bytes-text}

pub returns : goal.returns
returns c =
    let text = c.args.text.now in
    let bytes = c.args.bytes.now in
    let count = c.common.result in
    let low : count < length bytes =
    elim c.if-bytes-text.branch [
      | then-bytes-text+else-eq w ↦ elim (cases_lt count (length bytes)) [
        | inl lt ↦ lt
        | inr past ↦
            let at : count ≡ length bytes = omega (arith, past, c.common.ensures.bytes) in
            let head : w.split_at.result.0.now ≡ bytes = w.split_at.ensures.front ∙ ap (λ n. take n text) (sym at) ∙ c.common.ensures.same ∙ take_all count bytes (omega (arith, at)) in
            absurd (search rules)
      ]
      | else-bytes-text w ↦ search rules
    ] in
    λ more. part-within text bytes more count low c.common.ensures.same (λ lt. c.common.ensures.apart lt low)
