use Rattle.std.proofs.Common.{ℕ, List, ◌++◌, append-nil, subst, take}
use Rattle.std.proofs.lemmas.List.{take_all}
use Rattle.sha2.specs.Hashers.{Holds256}
use Rattle.kc_trace.specs.Spelling.{lines_of}
use Rattle.kc_redact_text.proofs.Converts.{hashed_more}
use Rattle.kc_redact_text.proofs.heads.hash_lines.Goals as goal

pub loop-call-init : goal.loop-call-init
loop-call-init c = record { hashed = λ bytes seen. rw (append-nil bytes) seen; room = c.requires }

pub loop-call-preserved : goal.loop-call-preserved
loop-call-preserved c =
    let calls = c.args.calls.now in
    let n = c.loop-call.call-index in
    record {
      hashed = λ bytes seen. subst (λ (all : List ℕ). Holds256 c.hash_line.new.hasher all) (hashed_more bytes calls c.call-item.result n c.loop-call-test.true c.call-item.is) (c.hash_line.ensures.hashed (bytes ++ lines_of (take n calls)) (c.loop-call.invariant.hashed bytes seen));
      room = c.hash_line.ensures.room;
    }

pub returns : goal.returns
returns c bytes seen = rw (take_all c.loop-call.call-index c.args.calls.now c.loop-call-test.false) at (c.loop-call.invariant.hashed bytes seen)
