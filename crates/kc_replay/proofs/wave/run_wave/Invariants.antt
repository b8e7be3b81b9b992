use Rattle.kc_parts.specs.States.{state_of}
use Rattle.kc_replay.specs.Wave.{wave_from}
use Rattle.kc_replay.proofs.wave.run_wave.Given as goal

abbrev pub ghost-share_out : goal.ghost-share_out
ghost-share_out g a = wave_from (state_of a.config.now a.store.now) a.wave.now
