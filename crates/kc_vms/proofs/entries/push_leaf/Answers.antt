use Rattle.std.proofs.Common.{◌≡◌, ◌+◌, ◌*◌, sym, ◌∙◌}
use Rattle.kc_vms.proofs.Lookups.{led-taken}
use Rattle.kc_vms.proofs.Rising.{leaf-some, leaf-none}
use Rattle.kc_vms.proofs.entries.push_leaf.Goals as goal
use Rattle.kc_vms.proofs.entries.push_leaf.Goals.{in-Some+in_ok-push, in_default}

pub entry-requires-clause-taken : goal.entry-requires-clause-taken
entry-requires-clause-taken c = let t = c.args.levels.now in led-taken t.root.items t.leaves.items t.pool c.args.slot c.args.leaf c.requires.kept.table c.requires.led

pub loop-at-preserved : goal.loop-at-preserved
loop-at-preserved c =
    let t = c.args.levels.now in
    elim c.match-entry.branch [
      | in-Some+in_ok-push w ↦
          let made : w.unwrap-gfn.result ≡ c.args.slot * 512 + c.loop-at.at = rw w.unwrap-gfn.ensures at w.try_new.ensures.value in
          rw w.entries-is (leaf-some t.root.items t.pool c.args.slot c.args.leaf c.loop-at.at w.in-Some.frame w.unwrap-gfn.result c.loop-at.entries.items _ c.loop-at-test.true c.requires.led (sym c.entry.ensures ∙ w.in-Some.is) made c.loop-at.invariant w.in_ok-push.ensures.items)
      | in_default w ↦
          rw w.entries-is (leaf-none t.root.items t.pool c.args.slot c.args.leaf c.loop-at.at c.loop-at.entries.items c.loop-at-test.true c.requires.led (sym c.entry.ensures ∙ w.in_default.is) c.loop-at.invariant)
    ]
