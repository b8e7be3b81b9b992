use Rattle.std.proofs.Common.{◌≡◌, ◌<◌, ◌≤◌, ◌+◌, inl, inr, arith, Some, refl, ap, ◌∙◌, Err}
use Rattle.kc_types.specs.Configuration.{slot_count, gfns_of, most_image_bytes}
use Rattle.kc_types.specs.declared.refusal.Refusal.TheVariants.{BadVm, BadGfn, BadRange}
use Rattle.kc_model.specs.Refusals.{pages_of}
use Rattle.kc_vms.specs.Vm.{Capacity}
use Rattle.kc_parts.specs.Parts.{vm_at}
use Rattle.kc_parts.specs.States.{state_of}
use Rattle.kc_parts.proofs.Looked.{slot-is}
use Rattle.kc_core.proofs.Needed.{slot-needed}
use Rattle.kc_core.proofs.Answered.{answer-refused, answer-slot_refused, past-limit}
use Rattle.kc_core.proofs.SlotCalls.{IsFitting, vm-past, refusal-bad_gfn, refusal-bad_range, refusal-set_boot, answer-set_boot}
use Rattle.kc_core.proofs.slots.set_boot.Goals as goal
use Rattle.kc_core.proofs.slots.set_boot.Goals.{then-base-gfns-via-then-base-gfns, then-base-gfns-via-else-base-gfns+then-pages_of-gfns, then-len-eq0-via-then-len-eq0, then-len-eq0-via-else-len-eq0+then-len-most_bytes}
use Rattle.kc_core.proofs.slots.set_boot.Goals.{In-Some, Else-pages_of-gfns, Else-len-most_bytes, After-slot_mut-slot}

low : (c : In-Some) → c.args.vm < slot_count c.args.config.now
low c = c.in-Some.ensures.valid.0 refl

base_low : (c : Else-pages_of-gfns) → c.args.base < gfns_of c.args.config.now.version
base_low c = let is = c.gfns-gfns.ensures.value ∙ ap (λ version. gfns_of version) c.version-version.ensures in let h = c.if-base-gfns.false in omega (arith, h, is)

within : (c : Else-pages_of-gfns) → c.args.base + pages_of c.args.len ≤ gfns_of c.args.config.now.version
within c = let is = c.gfns-gfns.ensures.value ∙ ap (λ version. gfns_of version) c.version-version.ensures in let b = base_low c in let h = c.if-pages_of-gfns.false in let p = c.pages_of.ensures in omega (arith, b, h, p, is)

fits : (c : Else-len-most_bytes) → IsFitting c.args.config.now.version c.args.base c.args.len
fits c =
    let k = (goal.at.Else-len-most_bytes c).Else-pages_of-gfns in
    record {
      base_low = base_low k;
      within = within k;
      some = let h = c.if-len-eq0.false in omega (arith, h);
      small = let h = c.if-len-most_bytes.false in let is = c.most_image_bytes-most_bytes.ensures ∙ ap (λ version. most_image_bytes version) c.version-version.ensures in omega (arith, h, is);
    }

at : (c : After-slot_mut-slot) → vm_at c.args.parts.now c.args.vm ≡ Some c.slot_mut-slot.result.now
at c = rw c.in-Some.ensures.value at c.slot_mut-slot.ensures.value

-- the slot was made for the version of the configuration
is_version : (c : After-slot_mut-slot) → c.slot_mut-slot.result.now.capacity.version ≡ c.args.config.now.version
is_version c = ap (λ (made : Capacity). made.version) (c.requires.linked.vms c.args.vm c.slot_mut-slot.result.now (at c))

pub add_image-requires-clause-small : goal.add_image-requires-clause-small
add_image-requires-clause-small c = let k = goal.at.add_image-requires-clause-small c in rw (is_version k.After-slot_mut-slot) (fits k.Else-len-most_bytes).small

pub add_image-requires-clause-within : goal.add_image-requires-clause-within
add_image-requires-clause-within c = let k = goal.at.add_image-requires-clause-within c in rw (is_version k.After-slot_mut-slot) (fits k.Else-len-most_bytes).within

pub returns-in_default : goal.returns-in_default
returns-in_default c = answer-refused _ _ _ BadVm c.requires.linked (rw (vm-past (state_of c.args.config.now c.args.parts.now) c.args.vm (past-limit _ _ _ c.in_default.is c.vm.ensures.valid)) refl)

pub returns-then-base-gfns : goal.returns-then-base-gfns
returns-then-base-gfns c =
    answer-refused _ _ _ BadGfn c.requires.linked (refusal-bad_gfn (state_of c.args.config.now c.args.parts.now) c.args.vm c.args.base c.args.len (low (goal.at.returns-then-base-gfns c).In-Some) (elim c.then-base-gfns.branch [
      | then-base-gfns-via-then-base-gfns w ↦ inl (let is = c.gfns-gfns.ensures.value ∙ ap (λ version. gfns_of version) c.version-version.ensures in let h = w.if-base-gfns.true in omega (arith, h, is))
      | then-base-gfns-via-else-base-gfns+then-pages_of-gfns w ↦ inr (let is = c.gfns-gfns.ensures.value ∙ ap (λ version. gfns_of version) c.version-version.ensures in let h = w.if-base-gfns.false in let k = w.if-pages_of-gfns.true in let p = w.pages_of.ensures in omega (arith, h, k, p, is))
    ]))

pub returns-then-len-eq0 : goal.returns-then-len-eq0
returns-then-len-eq0 c =
    let k = goal.at.returns-then-len-eq0 c in
    answer-refused _ _ _ BadRange c.requires.linked (refusal-bad_range (state_of c.args.config.now c.args.parts.now) _ _ _ (low k.In-Some) (base_low k.Else-pages_of-gfns) (within k.Else-pages_of-gfns) (elim c.then-len-eq0.branch [
      | then-len-eq0-via-then-len-eq0 w ↦ inl w.if-len-eq0.true
      | then-len-eq0-via-else-len-eq0+then-len-most_bytes w ↦ inr (let is = c.most_image_bytes-most_bytes.ensures ∙ ap (λ version. most_image_bytes version) c.version-version.ensures in let h = w.if-len-most_bytes.true in omega (arith, h, is))
    ]))

pub slot_mut-slot-requires : goal.slot_mut-slot-requires
slot_mut-slot-requires c = rw c.in-Some.ensures.value (slot-needed _ _ _ c.requires c.args.vm refl (low (goal.at.slot_mut-slot-requires c).In-Some))

pub returns : goal.returns
returns c =
    let k = goal.at.returns c in
    rw c.in-Some.ensures.value (answer-set_boot _ _ _ _ _ _ _ _ c.requires.linked (low k.In-Some) (fits k.Else-len-most_bytes) (at k.After-slot_mut-slot) (rw (is_version k.After-slot_mut-slot) at c.in_ok-image.ensures.answer) c.in_ok-image.ensures.number c.in_ok-image.ensures.ok)

pub returns-in_err-image : goal.returns-in_err-image
returns-in_err-image c =
    let k = goal.at.returns-in_err-image c in
    let is : c.from_residual.result ≡ Err c.in_err-image.field-0.0 = grind arith in
    rw (is, c.in-Some.ensures.value) (answer-slot_refused _ _ _ _ _ _ _ c.requires.linked (at k.After-slot_mut-slot) c.in_err-image.ensures.err
    (refusal-set_boot (state_of c.args.config.now c.args.parts.now) _ _ _ c.slot_mut-slot.result.now.slot _ (low k.In-Some) (fits k.Else-len-most_bytes)
    (slot-is c.args.config.now c.args.parts.now _ _ (low k.In-Some) (at k.After-slot_mut-slot)) ∙ (rw (is_version k.After-slot_mut-slot) at c.in_err-image.ensures.answer)))
