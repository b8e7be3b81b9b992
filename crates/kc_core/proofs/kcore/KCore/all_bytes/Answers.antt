use Rattle.std.proofs.Common.{ℕ, ◌≡◌, ◌<◌, List, length, ◌∙◌, arith}
use Rattle.std.proofs.lemmas.List.FromFn.{length-map-range_with_len}
use Rattle.kc_model.specs.State.{frame_at}
use Rattle.kc_parts.specs.Parts.{page_at}
use Rattle.kc_parts.specs.States.{state_of, frame_in}
use Rattle.kc_core.proofs.Shown.{lent-more, bytes-ranged}
use Rattle.kc_core.proofs.kcore.KCore.all_bytes.Goals as goal

pub unwrap-requires : goal.unwrap-requires
unwrap-requires c =
    let low = c.loop-number-test.true in
    let ended = c.frames-number-end.ensures.value in
    c.bytes.ensures.exists.1 (rw (← c.self.view_is) (omega (arith, low, ended)))

pub loop-number-preserved : goal.loop-number-preserved
loop-number-preserved c =
    let bytes : ℕ → List ℕ = λ f. (frame_at c.args.self.now.state f).bytes in
    let made : c.unwrap.result.now.bytes ≡ bytes c.loop-number.number = rw c.unwrap.ensures at c.bytes.ensures.value in
    lent-more bytes c.loop-number.number c.loop-number.all.items _ c.unwrap.result c.loop-number.invariant c.in_ok-push.ensures.items made

pub returns : goal.returns
returns c =
    let config = c.self.inside.config in
    let h = c.self.inside.parts in
    let long : length (state_of config h).frames ≡ config.frames = length-map-range_with_len (λ f. frame_in (page_at h f)) 0 config.frames in
    let ended = c.frames-number-end.ensures.value in
    let past = c.loop-number-test.false in
    let within = c.loop-number.auto.number-end in
    let last : c.loop-number.number ≡ length (state_of config h).frames = omega (arith, long, ended, past, within) in
    c.loop-number.invariant ∙ bytes-ranged c.args.self.now.state c.loop-number.number (rw (← c.self.view_is) last)
