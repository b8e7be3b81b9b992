use Rattle.std.proofs.Common.{◌≡◌, false, take}
use Rattle.std.specs.List.{flat_map}
use Rattle.std.specs.Io.KnownBytes.{Appends}
use Rattle.kc_cli.proofs.lined.give_parts.Given as goal

-- what the sink has taken, and that no write has failed
abbrev pub invariant-loop-part : goal.invariant-loop-part
invariant-loop-part g l = record {
  given : Appends (g.K.Sink.taken l.fn.out) (g.K.Sink.taken l.out) (flat_map (λ part. part.now) (take l.part-index l.parts));
  whole : g.K.Sink.failed l.out ≡ false;
}
