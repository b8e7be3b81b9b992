use Rattle.kc_lines.proofs.Digits.{IsDecoded}
use Rattle.kc_lines.proofs.reading.decode_into.Given as goal

-- this many bytes are written, and their digits are in the word
abbrev pub invariant-loop-i : goal.invariant-loop-i
invariant-loop-i l = IsDecoded l.valid l.word l.bytes l.i
