use Rattle.std.proofs.Common.{rules, ◌≤◌, List, length, subst, refl}
use Rattle.std.proofs.lemmas.List.{take_all}
use Rattle.kc_types.specs.declared.reply.Reply.{Reply}
use Rattle.kc_remarks.specs.Denials.{AreCounts, Counts}
use Rattle.kc_remarks.proofs.Counts.{outside_is, naming_is}
use Rattle.kc_remarks.proofs.denials.Answered.of.Goals as goal

pub returns : goal.returns
returns c =
    let past : length c.args.replies.now ≤ c.loop-reply.reply-index = search rules in
    let all = take_all c.loop-reply.reply-index c.args.replies.now past in
    let counted : AreCounts c.args.replies.now c.loop-reply.denials = subst (λ (replies : List Reply). Counts replies c.loop-reply.denials) all c.loop-reply.invariant c.requires in
    record { calls = refl; denials = counted; outside = outside_is _ _ counted; naming = naming_is _ _ refl counted }
