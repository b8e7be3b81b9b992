use Rattle.std.proofs.Common.{◌≡◌, ◌≤◌, ◌+◌, ◌*◌, ◌++◌, ◌∷◌, [], take}
use Rattle.std.specs.Prelude.{vec_len, vec_capacity}
use Rattle.std.specs.List.{flat_map}
use Rattle.kc_trace.specs.Header.{approved_line}
use Rattle.kc_trace.proofs.header_writer.push_all_approved.Given as goal

-- the lines of the digests so far
abbrev pub invariant-loop-digest : goal.invariant-loop-digest
invariant-loop-digest l = record {
  items : l.text.items ≡ l.fn.text.items ++ flat_map (λ digest. approved_line digest ++ 10 ∷ []) (take l.digest-index l.digests);
  len : vec_len l.text ≡ vec_len l.fn.text + 74 * l.digest-index;
  capacity : vec_capacity l.fn.text ≤ vec_capacity l.text;
}
