use Rattle.std.proofs.Common.{sym}
use Rattle.kc_lines.proofs.Digests.{digest_read}
use Rattle.kc_lines.proofs.reading.read_digest.Goals as goal

pub returns-then-decode_into : goal.returns-then-decode_into
returns-then-decode_into c = sym (digest_read c.args.word.now c.decode_into.new.bytes c.if-word-eq64.true (c.decode_into.ensures.spelled c.if-decode_into.true) c.decode_into.ensures.each_byte)
