use Rattle.std.proofs.Common.{sym, ◌∙◌}
use Rattle.std.proofs.lemmas.Bool.{eqb-true}
use Rattle.kc_trace.specs.Machine.{feed}
use Rattle.kc_trace.specs.Redacting.{read_by}
use Rattle.kc_trace.proofs.Redacting.{done_by}
use Rattle.kc_trace.proofs.reader.Progress.feed.Goals as goal

pub returns : goal.returns
returns c =
    done_by c.args.guests c.loop-rest.calls.items c.loop-rest.self c.loop-rest.rest.now (read_by c.args.guests (feed c.args.self c.args.bytes.now)) (eqb-true _ _ (sym c.is_empty.ensures ∙ c.loop-rest-test.false))
    c.loop-rest.invariant
