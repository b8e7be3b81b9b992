use Rattle.std.proofs.Common.{◌≡◌, ◌≤◌, [], vec_capacity, arith}
use Rattle.kc_types.specs.Limits.{call_limit}
use Rattle.kc_live.proofs.Heads.{digest_is, next_may}
use Rattle.kc_live.proofs.Logs.{served_next}
use Rattle.kc_live.proofs.journal.Journal.turn.Goals as goal

pub invariant_of-self : goal.invariant_of-self
invariant_of-self c =
    let empty : c.args.room.items ≡ [] = c.requires.empty in
    let room : call_limit ≤ vec_capacity c.args.room = c.requires.room in (
      rw (c.saturating_add-self-inside.ensures, c.replace.ensures.after, empty) (served_next _ c.self.invariant.0),
      rw c.replace.ensures.after room,
      omega arith,
      c.restart.ensures,
      rw (c.moved.ensures, c.replace-header.ensures.value, c.position_after-position.ensures.value, ← c.position_after-position.ensures.same, ← c.self.view_is) (next_may c.self.inside.header _ c.self.invariant.4 (digest_is _)),
    )
