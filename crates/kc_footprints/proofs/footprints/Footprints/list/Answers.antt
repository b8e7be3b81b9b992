use Rattle.std.proofs.Common.{◌≡◌, ◌||◌, not, ℕ, List, Bool, true, false, [], get_or, arith, append-nil, ◌∙◌, sym}
use Rattle.std.proofs.lemmas.Option.{get_or_from_slice_get}
use Rattle.std.proofs.lemmas.Grind.{common_steps}
use Rattle.kc_footprints.specs.Reach.{is_at}
use Rattle.kc_footprints.specs.Spans.{has_frame}
use Rattle.kc_footprints.proofs.Listed.{listed_more}
use Rattle.kc_footprints.proofs.footprints.Footprints.list.Goals as goal
use Rattle.kc_footprints.proofs.footprints.Footprints.list.Goals.{then-not-has_either+in_ok-push, else-not-has_either}

pub loop-place-preserved : goal.loop-place-preserved
loop-place-preserved c =
    let set : List ℕ = get_or c.args.self.now.sets c.args.span.principal [] in
    let test : ℕ → Bool = λ f. not (is_at c.args.frame f || has_frame c.args.self.now.sets c.args.other f) in
    let here = get_or_from_slice_get set c.loop-place.place c.in-Some.member 0 (grind (arith, common_steps)) in
    let more = λ (b : Bool) (is : test c.in-Some.member ≡ b). listed_more test set c.loop-place.place c.in-Some.member b c.args.members.now.items c.loop-place.members.items (let l = c.requires.span.within in omega arith) here is c.loop-place.invariant in
    elim c.if-not-has_either.branch [
      | then-not-has_either+in_ok-push w ↦ rw w.members-is (rw w.frame_of.ensures at w.in_ok-push.ensures.items ∙ more true (grind (arith, common_steps)))
      | else-not-has_either w ↦ rw w.members-is (sym (append-nil c.loop-place.members.items) ∙ more false (grind (arith, common_steps)))
    ]
