use Rattle.std.proofs.Common.{◌≡◌, Some, true, false, inl, inr, sym, ◌∙◌, refl}
use Rattle.kc_types.specs.declared.slot.Phase.TheVariants.{Empty, Booting, Active, Dead}
use Rattle.kc_parts.specs.Parts.{vm_at}
use Rattle.kc_core.proofs.Booted.{refusal-absent, refusal-here}
use Rattle.kc_core.proofs.verify.booted_slot.Goals as goal
use Rattle.kc_core.proofs.verify.booted_slot.Goals.{In-Some-try_slot}

at : (c : In-Some-try_slot) → vm_at c.args.parts.now c.args.vm ≡ Some c.in-Some-try_slot.slot.now
at c = rw c.in-Some.ensures.value at (sym c.in-Some-try_slot.ensures)

pub returns-in_default-try_slot-clause-answer : goal.returns-in_default-try_slot-clause-answer
returns-in_default-try_slot-clause-answer c = refusal-absent c.args.config.now c.args.parts.now c.args.vm (c.in-Some.ensures.valid.0 refl) (rw c.in-Some.ensures.value at (sym c.in_default-try_slot.ensures))

pub returns-in-Empty-clause-answer : goal.returns-in-Empty-clause-answer
returns-in-Empty-clause-answer c = refusal-here _ c.args.parts.now _ _ Empty _ (c.in-Some.ensures.valid.0 refl) (at (goal.at.returns-in-Empty-clause-answer c).In-Some-try_slot) c.in-Empty.ensures.value refl

pub returns-then-lacks_pages-clause-answer : goal.returns-then-lacks_pages-clause-answer
returns-then-lacks_pages-clause-answer c = refusal-here _ c.args.parts.now _ _ Booting true (c.in-Some.ensures.valid.0 refl) (at (goal.at.returns-then-lacks_pages-clause-answer c).In-Some-try_slot) c.in-Booting.ensures.value c.if-lacks_pages.ensures

pub returns-else-lacks_pages-clause-answer : goal.returns-else-lacks_pages-clause-answer
returns-else-lacks_pages-clause-answer c = refusal-here _ c.args.parts.now _ _ Booting false (c.in-Some.ensures.valid.0 refl) (at (goal.at.returns-else-lacks_pages-clause-answer c).In-Some-try_slot) c.in-Booting.ensures.value c.if-lacks_pages.ensures

pub returns-in-Active-clause-answer : goal.returns-in-Active-clause-answer
returns-in-Active-clause-answer c =
    let low = c.in-Some.ensures.valid.0 refl in
    let is = at (goal.at.returns-in-Active-clause-answer c).In-Some-try_slot in
    elim c.in-Active.is [
      | inl active ↦ refusal-here _ c.args.parts.now _ _ Active _ low is (sym active ∙ c.phase.ensures.value) refl
      | inr dead ↦ refusal-here _ c.args.parts.now _ _ Dead _ low is (sym dead ∙ c.phase.ensures.value) refl
    ]
