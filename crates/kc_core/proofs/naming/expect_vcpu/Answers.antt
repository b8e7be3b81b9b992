use Rattle.std.proofs.Common.{◌≡◌, Some, true, false, inl, inr, sym, ap, ◌∙◌, refl}
use Rattle.kc_types.specs.declared.slot.Phase.TheVariants.{Empty, Booting, Active, Dead}
use Rattle.kc_types.specs.declared.slot.Vcpu.{Vcpu}
use Rattle.kc_parts.specs.Parts.{vm_at}
use Rattle.kc_parts.proofs.Looked.{slot-is}
use Rattle.kc_core.proofs.Named.{refusal-absent, refusal-here}
use Rattle.kc_core.proofs.naming.expect_vcpu.Goals as goal
use Rattle.kc_core.proofs.naming.expect_vcpu.Goals.{In-Some}

at : (c : In-Some) → vm_at c.args.parts.now c.args.vm ≡ Some c.in-Some.slot.now
at c = sym c.in-Some.ensures

pub returns-in_default-clause-answer : goal.returns-in_default-clause-answer
returns-in_default-clause-answer c = refusal-absent c.args.config.now c.args.parts.now _ _ c.requires (sym c.in_default.ensures)

pub returns-in-Empty-clause-answer : goal.returns-in-Empty-clause-answer
returns-in-Empty-clause-answer c = refusal-here _ c.args.parts.now _ c.args.vcpu _ Empty _ c.requires (at (goal.at.returns-in-Empty-clause-answer c).In-Some) c.in-Empty.ensures.value refl

pub returns-in-Booting-clause-answer : goal.returns-in-Booting-clause-answer
returns-in-Booting-clause-answer c =
    let is = at (goal.at.returns-in-Booting-clause-answer c).In-Some in
    elim c.in-Booting.is [
      | inl booting ↦ refusal-here _ c.args.parts.now _ c.args.vcpu _ Booting _ c.requires is (sym booting ∙ c.phase.ensures.value) refl
      | inr dead ↦ refusal-here _ c.args.parts.now _ c.args.vcpu _ Dead _ c.requires is (sym dead ∙ c.phase.ensures.value) refl
    ]

pub returns-then-vcpu-clause-answer : goal.returns-then-vcpu-clause-answer
returns-then-vcpu-clause-answer c =
    refusal-here _ c.args.parts.now _ _ _ Active true c.requires (at (goal.at.returns-then-vcpu-clause-answer c).In-Some) c.in-Active.ensures.value
    (sym c.if-vcpu.true ∙ ap (λ (vcpu : Vcpu). vcpu.registered) c.vcpu.ensures.value)

pub returns-then-vcpu-clause-slot : goal.returns-then-vcpu-clause-slot
returns-then-vcpu-clause-slot c = slot-is c.args.config.now c.args.parts.now _ _ c.requires (at (goal.at.returns-then-vcpu-clause-slot c).In-Some)

pub returns-else-vcpu-clause-answer : goal.returns-else-vcpu-clause-answer
returns-else-vcpu-clause-answer c =
    refusal-here _ c.args.parts.now _ _ _ Active false c.requires (at (goal.at.returns-else-vcpu-clause-answer c).In-Some) c.in-Active.ensures.value
    (sym c.if-vcpu.false ∙ ap (λ (vcpu : Vcpu). vcpu.registered) c.vcpu.ensures.value)
