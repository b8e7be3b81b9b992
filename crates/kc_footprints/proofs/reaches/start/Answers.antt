use Rattle.std.proofs.Common.{◌≡◌, ◌<◌, length, ℕ, take, refl, arith, rules}
use Rattle.std.proofs.lemmas.List.{take_all}
use Rattle.kc_footprints.proofs.Starts.{AreOwned, none_owned, owned_more, start_of}
use Rattle.kc_footprints.proofs.reaches.start.Goals as goal

pub loop-principal-init : goal.loop-principal-init
loop-principal-init c = rw c.in_ok-sets.ensures (none_owned c.args.principals)

pub loop-principal-preserved : goal.loop-principal-preserved
loop-principal-preserved c =
    let i : ℕ = c.loop-principal.principal-index in
    let below : i < length c.args.pairs.now = omega arith in
    owned_more c.args.principals i _ _ c.args.pairs.now (0, 0) c.loop-principal.sets c.add.new.self (c.requires.pairs i below) below refl refl c.in_ok-add.ensures.ok c.loop-principal.invariant

pub returns : goal.returns
returns c =
    let all : take c.loop-principal.principal-index c.args.pairs.now ≡ c.args.pairs.now = take_all c.loop-principal.principal-index c.args.pairs.now (omega arith) in
    let owned : AreOwned c.args.principals c.args.pairs.now c.loop-principal.sets = rw all at c.loop-principal.invariant in
    start_of c.args.principals c.args.free c.args.pairs.now _ c.requires.few c.requires.one (rw c.sets-2.view_is owned) (search rules) (search rules)
