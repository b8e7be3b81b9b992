use Rattle.std.proofs.Common.{ℕ, ◌≡◌, ◌≢◌, ◌<◌, length, get_or}
use Rattle.kc_types.specs.declared.reply.Reply.TheVariants.{Done}
use Rattle.kc_model.specs.Footprints.{state_at, reply_at}
use Rattle.kc_replay.specs.Wave.{wave_calls}
use Rattle.kc_replay.proofs.segment.answer_wave.Given as goal

abbrev pub invariant-loop-place : goal.invariant-loop-place
invariant-loop-place g l = record {
  state : l.core.state ≡ state_at l.initial.core.state (wave_calls l.calls l.members) l.place;
  config : l.core.state.config ≡ l.initial.core.state.config;
  given : (i : ℕ) → i < l.place → i < length l.members → get_or l.replies (get_or l.members i 0) Done ≡ reply_at l.initial.core.state (wave_calls l.calls l.members) i;
  kept : (k : ℕ) → ((i : ℕ) → i < length l.members → get_or l.members i 0 ≢ k) → get_or l.replies k Done ≡ get_or l.initial.replies k Done;
  size : length l.replies ≡ length l.initial.replies;
}
