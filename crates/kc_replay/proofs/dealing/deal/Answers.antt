use Rattle.std.proofs.Common.{◌≡◌, length, rules}
use Rattle.kc_replay.proofs.Dealt.{pushed}
use Rattle.kc_replay.proofs.dealing.deal.Goals as goal

pub returns : goal.returns
returns c =
    let size : c.len.result ≡ length c.args.lists.now.items = search rules in
    pushed (λ list. list.items) c.args.lists.now.items c.args.place c.len.result c.index_mut.result.now c.push.new.self c.args.task size c.requires c.index_mut.ensures.value c.in_ok-push.ensures.items
