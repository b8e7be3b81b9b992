use Rattle.std.proofs.Common.{◌≡◌, ◌<◌, ◌+◌, length, take, drop, arith, refl, rules, ap}
use Rattle.std.proofs.lemmas.List.{length-take, take_at}
use Rattle.std.specs.Io.KnownBytes.{Consumes}
use Rattle.kc_types.specs.Limits.{byte_limit}
use Rattle.kc_core.specs.KCore.{state_in}
use Rattle.kc_redact_text.proofs.Taken.{went_nowhere, went_on, went_to_end, went_too_far}
use Rattle.kc_redact_text.proofs.reading.Redacting.take_rest.Goals as goal

pub pieces-init : goal.pieces-init
pieces-init g c = record {
  on = went_nowhere (state_in c.args.core.now) c.args.self.now (g.T.Source.left c.args.source.now);
  few = c.requires.few;
  room = search rules;
  whole = c.requires.whole;
}

pub returns-then-n-eq0-clause-ok : goal.returns-then-n-eq0-clause-ok
returns-then-n-eq0-clause-ok g c =
    let piece = take c.in-Ok-read.n c.read.new.buffer in
    let none : length piece ≡ 0 = let zero = c.if-n-eq0.true in omega (arith, length-take c.in-Ok-read.n c.read.new.buffer, zero) in
    went_to_end (state_in c.args.core.now) (state_in c.pieces.core) c.args.self.now c.pieces.self piece _ _ _ c.pieces.invariant.on c.in-Ok-read.ensures.bytes.0 none

pub returns-then-n-eq0-clause-ended : goal.returns-then-n-eq0-clause-ended
returns-then-n-eq0-clause-ended g c =
    let room : 0 < length c.read.new.buffer = omega (arith, c.pieces.invariant.room, c.read.auto.buffer, ap length c.as_mut_slice.ensures.value) in
    c.in-Ok-read.ensures.bytes.1 c.if-n-eq0.true room

pub pieces-preserved : goal.pieces-preserved
pieces-preserved g c =
    let len : length c.read.new.buffer ≡ length c.pieces.buffer = omega (arith, c.read.auto.buffer, ap length c.as_mut_slice.ensures.value) in
    let back = take_at c.read.new.buffer (drop (length c.read.new.buffer) c.pieces.buffer) (length c.pieces.buffer) len in
    let consumed : Consumes (g.T.Source.left c.pieces.source) (g.T.Source.left c.read.new.self) (take c.in-Ok-read.n c.as_slice.result.now) = rw (c.as_slice.ensures, back) c.in-Ok-read.ensures.bytes.0 in
    record {
      on = went_on (state_in c.args.core.now) (state_in c.pieces.core) (state_in c.take.new.core) c.args.self.now c.pieces.self c.take.new.self _ _ _ c.pieces.invariant.on (c.in_ok-take.ensures.ok _ _ consumed);
      few = c.in_ok-take.ensures.few;
      room = omega (arith, c.pieces.invariant.room, len, ap length back);
      whole = c.in-Ok-read.ensures.mark;
    }

pub returns-in_err-take-clause-read : goal.returns-in_err-take-clause-read
returns-in_err-take-clause-read g c e bytes calls first read =
    let piece = take c.in-Ok-read.n c.as_slice.result.now in
    let len : length c.read.new.buffer ≡ length c.pieces.buffer = omega (arith, c.read.auto.buffer, ap length c.as_mut_slice.ensures.value) in
    let back = take_at c.read.new.buffer (drop (length c.read.new.buffer) c.pieces.buffer) (length c.pieces.buffer) len in
    let consumed : Consumes (g.T.Source.left c.pieces.source) (g.T.Source.left c.read.new.self) piece = rw (c.as_slice.ensures, back) c.in-Ok-read.ensures.bytes.0 in
    let past : byte_limit < c.pieces.self.total + length piece = search rules in
    went_too_far (state_in c.args.core.now) (state_in c.pieces.core) c.args.self.now c.pieces.self piece (length piece) _ _ _ _ c.pieces.invariant.on consumed refl past bytes calls first read
