use Rattle.std.proofs.Common.{◌≡◌, ◌+◌, ◌-◌, ◌++◌, ◌∙◌, ℕ, length, map, take, drop, ap, ap₂, arith, rules, sym}
use Rattle.std.proofs.lemmas.List.{length-drop, length-map, length-take-le}
use Rattle.std.proofs.lemmas.Slice.{overwrites, take-put_mid}
use Rattle.kc_digests.specs.Digests.{digest_by}
use Rattle.kc_digests.proofs.Places.{map-take_more}
use Rattle.kc_digests.proofs.pages.write_by.Goals as goal

pub turns-preserved : goal.turns-preserved
turns-preserved g c =
    let digest = digest_by g.P.Bytes.bytes in
    let at : ℕ = c.turns.at in
    let lanes : ℕ = c.LANES-lanes.result in
    let pages = c.args.pages.now in
    let out = c.turns.out in
    let new = c.digest_pages.new.out in
    let width : at + lanes - at ≡ lanes = omega arith in
    let is : new ≡ map digest (take lanes (drop at pages)) = c.digest_pages.ensures ∙ ap (λ n. map digest (take n (drop at pages))) width in
    let part = length-take-le lanes (drop at pages) (omega (arith, length-drop at pages)) in
    let long : length new ≡ lanes = ap length is ∙ length-map (take lanes (drop at pages)) digest ∙ part in (
      search (rules, overwrites),
      omega arith,
      take-put_mid at (at + lanes - at) out new (at + lanes) (omega (arith, long)) (omega arith)
          ∙ ap₂ ◌++◌ c.turns.invariant.2 is
          ∙ sym (map-take_more digest pages at lanes),
    )
