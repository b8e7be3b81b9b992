use Rattle.std.proofs.Common.{◌≡◌, length, rules}
use Rattle.kc_replay.proofs.Dealt.{popped}
use Rattle.kc_replay.proofs.dealing.take_back.Goals as goal

pub returns-clause-taken : goal.returns-clause-taken
returns-clause-taken c =
    let size : c.len.result ≡ length c.args.lists.now.items = search rules in
    popped (λ list. list.items) c.args.lists.now.items c.args.place c.len.result c.index_mut.result.now c.pop.new.self c.in-Some.finished size c.requires.some c.index_mut.ensures.value c.in-Some.ensures.items
