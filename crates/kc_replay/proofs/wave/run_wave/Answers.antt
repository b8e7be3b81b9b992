use Rattle.std.proofs.Common.{Result, Ok, Err, OnErr, subst, sym}
use Rattle.kc_parts.specs.Parts.{Held}
use Rattle.kc_replay.specs.Wave.{IsWiped}
use Rattle.kc_replay.proofs.Wiping.{no-bytes}
use Rattle.kc_replay.proofs.wave.run_wave.Goals as goal

on-err : {T E : Type 0} (result : Result T E) (P : Type 0) → P → OnErr result P
on-err (Ok x) P p = tt
on-err (Err e) P p = p

pub returns-then-is_err-clause-wiped : goal.returns-then-is_err-clause-wiped
returns-then-is_err-clause-wiped g c =
    let left = c.share_out-outcome.new.store in
    on-err c.share_out-outcome.result (IsWiped c.args.config.now c.wipe.new.self)
    (subst (λ (h : Held). IsWiped c.args.config.now h) (sym c.wipe.ensures)
    (record { places = record { numbers = c.share_out-outcome.ensures.places.numbers; slots = c.share_out-outcome.ensures.places.slots }; bytes = no-bytes c.args.config.now left }))
