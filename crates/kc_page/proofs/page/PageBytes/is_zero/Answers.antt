use Rattle.std.proofs.Common.{◌≡◌, ◌∙◌, sym, ap, length, replicate}
use Rattle.kc_model.specs.State.{zero_page}
use Rattle.kc_page.proofs.page.PageBytes.is_zero.Goals as goal

pub returns-else-is_known_zero : goal.returns-else-is_known_zero
unfolding zero_page
returns-else-is_known_zero c =
    let same = c.as_slice.ensures.value in
    let zeros : replicate (length c.as_slice.result.now) 0 ≡ zero_page = ap (λ n. replicate n 0) (ap length same ∙ c.as_slice.ensures.whole) in
    (λ yes. sym same ∙ c.are_zero.ensures.0 yes ∙ zeros, λ is. c.are_zero.ensures.1 (same ∙ is ∙ sym zeros))
