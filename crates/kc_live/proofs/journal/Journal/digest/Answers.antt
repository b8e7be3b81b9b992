use Rattle.std.proofs.Common.{◌≤◌, length, take, ap, arith}
use Rattle.kc_live.specs.Book.{calls_of}
use Rattle.kc_live.proofs.Witnessed.{all_seen, all_seen_again}
use Rattle.kc_live.proofs.journal.Journal.digest.Goals as goal

pub invariant_of-self : goal.invariant_of-self
invariant_of-self c =
    let header = c.self.inside.header in
    let entries = c.self.inside.entries.items in
    let shown = c.as_slice-entries.result.now in
    let same = c.as_slice-entries.ensures.value in
    let noted = c.note_each.ensures header (calls_of (take c.self.inside.seen entries)) c.self.invariant.3 in
    let within : length shown ≤ length entries = omega (arith, ap length same) in (
      c.self.invariant.0,
      c.self.invariant.1,
      within,
      all_seen_again c.note_each.new.witness header entries shown same (all_seen c.note_each.new.witness header entries shown c.self.inside.seen same noted),
      c.self.invariant.4,
    )

pub returns-clause-digest : goal.returns-clause-digest
returns-clause-digest c =
    let header = c.self.inside.header in
    let entries = c.self.inside.entries.items in
    let noted = c.note_each.ensures header (calls_of (take c.self.inside.seen entries)) c.self.invariant.3 in
    let seen = all_seen c.note_each.new.witness header entries c.as_slice-entries.result.now c.self.inside.seen c.as_slice-entries.ensures.value noted in
    rw (← c.self.view_is) (c.digest.ensures header (calls_of entries) seen)
