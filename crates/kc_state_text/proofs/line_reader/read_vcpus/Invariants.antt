use Rattle.std.proofs.Common.{◌≡◌, ◌++◌, length, All}
use Rattle.kc_state_text.specs.StateText.{vcpus_words}
use Rattle.kc_state_text.specs.Refused.{IsVcpuWord}
use Rattle.kc_state_text.proofs.line_reader.read_vcpus.Given as goal

-- those so far
abbrev pub invariant-loop-number : goal.invariant-loop-number
invariant-loop-number l = record {
  spelled : l.initial.words ≡ vcpus_words l.vcpus.items ++ l.words;
  each : All IsVcpuWord l.vcpus.items;
  many : length l.vcpus.items ≡ l._number;
}
