use Rattle.std.proofs.Common.{◌≤◌, ap, ◌∙◌, take, length, vec_len, false}
use Rattle.std.proofs.lemmas.List.{take-replicate}
use Rattle.kc_live.proofs.Settlement.{settled_by}
use Rattle.kc_live.proofs.settling.Marks.settle.Goals as goal

pub returns : goal.returns
returns c =
    let few : length c.args.volume.now.entries ≤ vec_len c.self.inside.seen = rw (← c.self.view_is) at c.requires in
    settled_by c.mark_rows.result _ _ _
    (rw c.entries.ensures.entries (ap (take (length c.args.volume.now.entries)) (c.deref_mut.ensures.value ∙ c.self.invariant) ∙ take-replicate _ _ false few)) c.mark_rows.ensures
