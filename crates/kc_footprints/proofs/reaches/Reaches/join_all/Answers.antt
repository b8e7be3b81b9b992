use Rattle.std.proofs.Common.{◌≡◌, ◌&&◌, arith, length, get_or, set, subst, sym, ℕ}
use Rattle.std.specs.Prelude.{eqb, slice_get, Some}
use Rattle.std.proofs.lemmas.Option.{get_or_from_slice_get}
use Rattle.std.proofs.lemmas.Grind.{common_steps}
use Rattle.kc_footprints.specs.Members.{has_member}
use Rattle.kc_footprints.specs.Planner.{Reached, members_of, IsWider}
use Rattle.kc_footprints.proofs.Joins.{IsFreeing, freeing_start, freeing_more, freed_all}
use Rattle.kc_footprints.proofs.reaches.Reaches.join_all.Goals as goal

pub loop-place-init : goal.loop-place-init
loop-place-init c =
    let read : c.index-place.result.now ≡ get_or c.args.self.now.freed c.args.slot 0 = grind (arith, common_steps) in
    rw read (freeing_start (length c.args.self.now.sets) c.args.free c.args.slot c.args.self.now c.requires.exact)

pub loop-place-preserved : goal.loop-place-preserved
loop-place-preserved c =
    let a : Reached = c.args.self.now in
    let b : Reached = c.loop-place.self in
    let so_far = c.loop-place.invariant in
    let same_size : length b.sets ≡ length a.sets = so_far.wider.exact.sets_len in
    let count : c.len-count.result ≡ length (members_of a c.args.slot) = grind (arith, common_steps) in
    let found : slice_get (members_of b c.args.slot) c.loop-place.place ≡ Some c.in-Some.frame = grind (arith, common_steps) in
    let here = get_or_from_slice_get (members_of a c.args.slot) c.loop-place.place c.in-Some.frame 0 (rw so_far.slot at found) in
    freeing_more (length a.sets) c.args.free c.args.slot c.loop-place.place c.in-Some.frame a b c.join.new.self c.requires.slot (omega arith) here so_far (rw same_size at c.in_ok-join.ensures)

pub returns : goal.returns
returns c =
    let a : Reached = c.args.self.now in
    let inside = c.self-2.inside in
    let b : Reached = record { sets = inside.sets; near = inside.near; freed = inside.freed.items } in
    let count : c.len-count.result ≡ length (members_of a c.args.slot) = grind (arith, common_steps) in
    let so_far : IsFreeing (length a.sets) c.args.free c.args.slot c.loop-place.place a b = subst (λ (h : Reached). IsFreeing (length a.sets) c.args.free c.args.slot c.loop-place.place a h) (sym c.self-2.view_is) c.loop-place.invariant in
    subst (λ (k : ℕ). IsWider (length a.sets) c.args.free (λ p f. eqb c.args.free p && has_member (members_of a c.args.slot) f) a (record { sets = inside.sets; near = inside.near; freed = set inside.freed.items c.args.slot k })) (sym count)
    (freed_all (length a.sets) c.args.free c.args.slot c.loop-place.place a b c.requires.slot c.requires.free (omega arith) so_far)
