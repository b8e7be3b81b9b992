use Rattle.kc_lines.proofs.Encoded.{IsEncoded}
use Rattle.kc_lines.proofs.room.encode_into.Given as goal

-- the digits of this many bytes are written
abbrev pub invariant-loop-i : goal.invariant-loop-i
invariant-loop-i l = IsEncoded l.bytes l.digits l.i
