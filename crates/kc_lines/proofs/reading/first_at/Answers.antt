use Rattle.kc_lines.proofs.Searches.{first_is_position}
use Rattle.kc_lines.proofs.reading.first_at.Goals as goal

pub returns : goal.returns
returns c = first_is_position _ c.args.bytes.now c.memchr.result c.memchr.ensures
