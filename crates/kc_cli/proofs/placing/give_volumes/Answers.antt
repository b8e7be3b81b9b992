use Rattle.std.proofs.Common.{ℕ, List, take, subst}
use Rattle.std.specs.Io.KnownBytes.{Appends}
use Rattle.kc_cli.proofs.Commas.{lines_so}
use Rattle.kc_cli.proofs.Told.{gives, gives_to}
use Rattle.kc_cli.proofs.placing.give_volumes.Goals as goal

pub returns-clause-ok : goal.returns-clause-ok
returns-clause-ok g c =
    let text = lines_so _ c.args.config.now _ c.args.entries.items c.in-Ok.front.items c.args.calls.now c.args.replies.now (rw c.as_slice.ensures.value at c.in-Ok.ensures.front) c.chain_of-volumes.ensures.chain c.chain_of-volumes.ensures.volumes in
    rw c.written.ensures (gives c.give_placed.result _ _ (λ given. subst (λ (given : List ℕ). Appends (g.K.Sink.taken c.args.out.now) (g.K.Sink.taken c.give_placed.new.out) given) text given) (rw c.as_slice-2.ensures.value at c.give_placed.ensures.ok))

pub returns-clause-sink : goal.returns-clause-sink
returns-clause-sink g c =
    let text = lines_so _ c.args.config.now _ c.args.entries.items c.in-Ok.front.items c.args.calls.now c.args.replies.now (rw c.as_slice.ensures.value at c.in-Ok.ensures.front) c.chain_of-volumes.ensures.chain c.chain_of-volumes.ensures.volumes in
    rw c.written.ensures (gives_to c.give_placed.result _ _ _ _ (λ begun. subst (λ (given : List ℕ). (n : ℕ) × Appends (g.K.Sink.taken c.args.out.now) (g.K.Sink.taken c.give_placed.new.out) (take n given)) text begun) (rw c.as_slice-2.ensures.value at c.give_placed.ensures.begun) c.give_placed.ensures.mark)
