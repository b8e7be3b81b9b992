use Rattle.std.proofs.Common.{◌≡◌, ◌≤◌, ◌+◌, ◌*◌, ◌++◌, ◌∷◌, take}
use Rattle.std.specs.Prelude.{vec_len, vec_capacity}
use Rattle.std.specs.Fmt.{decimal}
use Rattle.std.specs.List.{flat_map}
use Rattle.kc_trace.proofs.header_writer.push_numbers.Given as goal

-- the numbers so far
abbrev pub invariant-loop-number : goal.invariant-loop-number
invariant-loop-number l = record {
  items : l.text.items ≡ l.fn.text.items ++ flat_map (λ number. 32 ∷ decimal number) (take l.number-index l.numbers);
  len : vec_len l.text ≤ vec_len l.fn.text + 11 * l.number-index;
  capacity : vec_capacity l.fn.text ≤ vec_capacity l.text;
}
