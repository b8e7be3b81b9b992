use Rattle.kc_dump_text.proofs.Followed.{read-found, read-only}
use Rattle.kc_dump_text.proofs.reader.read_dump.Goals as goal

pub returns-clause-found : goal.returns-clause-found
returns-clause-found c = read-found c.in-Some.version c.args.text.now c.in-Some.rest.now c.read_after_header.result c.in-Some.ensures.0 c.in-Some.ensures.1 c.read_after_header.ensures

pub returns-clause-only : goal.returns-clause-only
returns-clause-only c dump is = read-only c.args.text.now c.read_after_header.result dump c.requires (read-found c.in-Some.version c.args.text.now c.in-Some.rest.now c.read_after_header.result c.in-Some.ensures.0 c.in-Some.ensures.1 c.read_after_header.ensures) is
