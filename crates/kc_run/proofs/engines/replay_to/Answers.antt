use Rattle.std.proofs.Common.{inr, refl}
use Rattle.kc_run.proofs.Carried.{replays, compares}
use Rattle.kc_run.proofs.engines.replay_to.Goals as goal

pub returns-in_default : goal.returns-in_default
returns-in_default g c =
    let done = c.replay_text.ensures in
    rw (c.in_default.is, c.counted.ensures) (replays _ _ _ _ _ _ c.replay_text.result c.requires.files done.answered done.ok done.sources done.texts done.replay done.sink)

pub returns : goal.returns
returns g c =
    let done = c.replay_to_text-answer.ensures in
    rw (c.in-Some.is, c.compared.ensures, c.close.ensures.refused, c.in_ok-state.ensures.opened) (inr (_, record { old = c.in_ok-state.state; new = c.replay_to_text-answer.new.to; ready = c.in_ok-state.ensures.ready; seen_is = refl }, c.in_ok-state.ensures.bytes, compares _ _ _ _ _ _ _ c.replay_to_text-answer.result refl done.answered done.ok done.difference done.sources done.texts done.replay done.sink))
