use Rattle.kc_trace.proofs.Traces.{given_reads, reading-trace}
use Rattle.kc_trace.proofs.reader.read_trace.Goals as goal

pub returns-clause-found : goal.returns-clause-found
returns-clause-found c = given_reads c.args.text.now c.read_all.result c.read_all.ensures

pub returns-clause-only : goal.returns-clause-only
returns-clause-only c = λ calls h. rw (reading-trace c.args.text.now calls h) at c.read_all.ensures
