-- Parts with no page taken out.
use Rattle.std.proofs.Common.{◌≡◌, ◌<◌, get_or, ◌∙◌, ap, arith}
use Rattle.std.specs.List.{range_with_len}
use Rattle.std.proofs.lemmas.List.FromFn.{get_or-range_with_len, length-range_with_len}
use Rattle.kc_types.specs.Configuration.{Configuration}
use Rattle.kc_parts.specs.Parts.{Held}
use Rattle.kc_parts.specs.Booting.{IsWhole}
use Rattle.kc_parts.specs.Cuts.{IsFull}

-- if everything of a configuration is here, no page is taken out
pub full_from_whole : (config : Configuration) (h : Held) → IsWhole config h → IsFull h
full_from_whole config h whole i low =
    let within : i < config.frames = omega (arith, rw (whole.numbers, length-range_with_len 0 config.frames) at low) in
    let e : get_or (range_with_len 0 config.frames) i 0 ≡ i = get_or-range_with_len 0 config.frames i 0 within ∙ omega arith in
    let number : get_or h.numbers i 0 ≡ i = ap (λ ns. get_or ns i 0) whole.numbers ∙ e in
    rw number (whole.frames i within)
