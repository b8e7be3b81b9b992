use Rattle.std.proofs.Common.{◌+◌, ◌*◌, sym, ap, arith}
use Rattle.kc_redact.proofs.Redacted.{digits_of_zeros, padded}
use Rattle.kc_redact.proofs.redacting.push_zeros.Goals as goal

pub returns-clause-items : goal.returns-clause-items
returns-clause-items c =
    let old = c.args.text.now in
    let fits = c.resize.ensures.succeeds (let room = c.requires in let len = c.len.ensures in omega (arith, room, len)) in
    rw (digits_of_zeros c.args.len) (padded old.items c.resize.new.self.items (c.len.result + 2 * c.args.len) _ (2 * c.args.len) _ (sym old.ok.0) (ap (λ n. n + 2 * c.args.len) c.len.ensures) fits c.resize.ensures.items)
