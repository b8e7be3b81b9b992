use Rattle.std.proofs.Common.{codes, List, ℕ, ◌++◌, ap, ◌∙◌, append_assoc}
use Rattle.kc_trace.specs.CustodyText.{digest_text}
use Rattle.kc_trace.proofs.Pushed.{three}
use Rattle.kc_trace.proofs.custody_writer.push_start.Goals as goal

pub returns-in-Config-clause-items : goal.returns-in-Config-clause-items
returns-in-Config-clause-items c =
    rw c.in-Config.is (three c.args.text.now.items c.push_bytes-in-Config.new.text.items c.push_digest.new.text.items c.push_bytes-in-Config-2.new.text.items
    (codes ",\"config\":") (digest_text c.in-Config.digest) (codes ",\"state\":null") c.push_bytes-in-Config.ensures.items c.push_digest.ensures.items c.push_bytes-in-Config-2.ensures.items)

pub returns-in-State-clause-items : goal.returns-in-State-clause-items
returns-in-State-clause-items c =
    rw c.in-State.is (
    c.push_digest-in-State.ensures.items
    ∙ ap (λ (xs : List ℕ). xs ++ digest_text c.in-State.digest) c.push_bytes-in-State.ensures.items
    ∙ append_assoc c.args.text.now.items (codes ",\"config\":null,\"state\":") (digest_text c.in-State.digest))
