use Rattle.std.proofs.Common.{refl, inl, arith, ◌++◌}
use Rattle.std.proofs.lemmas.Result.{err_from_is_err_and}
use Rattle.kc_state_text.specs.StateText.{state_header}
use Rattle.kc_state_text.proofs.Fronts.{approved-stop, slots-stop, pages-stop, all-begun, approved-room, slots-room}
use Rattle.kc_state_text.proofs.front.read_front.Goals as goal

pub returns-in_default : goal.returns-in_default
returns-in_default c = inl (refl, (c.args.rest.now, refl, c.in_default.ensures))

pub returns-in_err-approved : goal.returns-in_err-approved
returns-in_err-approved c =
    let made = err_from_is_err_and c.from_residual.result c.from_residual.ensures.1 in
    rw (made.1, made.2)
    (approved-stop (state_header ++ c.args.rest.now) c.args.rest.now c.in-Some.rest.now c.in-Some.sizes refl c.in-Some.ensures c.in_err-approved.field-0.0 c.in_err-approved.ensures)

pub overflow_add-first : goal.overflow_add-first
overflow_add-first c =
    let room = approved-room (state_header ++ c.args.rest.now) c.args.rest.now c.in-Some.rest.now c.in-Some.sizes refl c.in-Some.ensures c.in_ok-approved.rest.now c.in_ok-approved.approved.items c.in_ok-approved.ensures in
    omega (arith, room, c.requires)

pub read_all_slots-requires : goal.read_all_slots-requires
read_all_slots-requires c =
    let room = approved-room (state_header ++ c.args.rest.now) c.args.rest.now c.in-Some.rest.now c.in-Some.sizes refl c.in-Some.ensures c.in_ok-approved.rest.now c.in_ok-approved.approved.items c.in_ok-approved.ensures in
    omega (arith, room, c.requires)

pub returns-in_err-slots : goal.returns-in_err-slots
returns-in_err-slots c =
    let made = err_from_is_err_and c.from_residual-in_err-slots.result c.from_residual-in_err-slots.ensures.1 in
    rw (made.1, made.2)
    (slots-stop (state_header ++ c.args.rest.now) c.args.rest.now c.in-Some.rest.now c.in-Some.sizes refl c.in-Some.ensures c.in_ok-approved.rest.now c.in_ok-approved.approved.items c.in_ok-approved.ensures
    c.in_err-slots.field-0.0 c.in_err-slots.ensures)

pub overflow_add-first-2 : goal.overflow_add-first-2
overflow_add-first-2 c =
    let room = slots-room (state_header ++ c.args.rest.now) c.args.rest.now c.in-Some.rest.now c.in-Some.sizes refl c.in-Some.ensures c.in_ok-approved.rest.now c.in_ok-approved.approved.items c.in_ok-approved.ensures
    c.in_ok-slots.rest.now c.in_ok-slots.slots.items c.in_ok-slots.ensures in
    omega (arith, room, c.requires)

pub read_all_pages-requires : goal.read_all_pages-requires
read_all_pages-requires c =
    let room = slots-room (state_header ++ c.args.rest.now) c.args.rest.now c.in-Some.rest.now c.in-Some.sizes refl c.in-Some.ensures c.in_ok-approved.rest.now c.in_ok-approved.approved.items c.in_ok-approved.ensures
    c.in_ok-slots.rest.now c.in_ok-slots.slots.items c.in_ok-slots.ensures in
    omega (arith, room, c.requires)

pub returns-in_err-pages : goal.returns-in_err-pages
returns-in_err-pages c =
    let made = err_from_is_err_and c.from_residual-in_err-pages.result c.from_residual-in_err-pages.ensures.1 in
    rw (made.1, made.2)
    (pages-stop (state_header ++ c.args.rest.now) c.args.rest.now c.in-Some.rest.now c.in-Some.sizes refl c.in-Some.ensures c.in_ok-approved.rest.now c.in_ok-approved.approved.items c.in_ok-approved.ensures
    c.in_ok-slots.rest.now c.in_ok-slots.slots.items c.in_ok-slots.ensures c.in_err-pages.field-0.0 c.in_err-pages.ensures)

pub returns : goal.returns
returns c =
    all-begun (state_header ++ c.args.rest.now) c.args.rest.now c.in-Some.rest.now c.in-Some.sizes refl c.in-Some.ensures c.in_ok-approved.rest.now c.in_ok-approved.approved.items c.in_ok-approved.ensures
    c.in_ok-slots.rest.now c.in_ok-slots.slots.items c.in_ok-slots.ensures c.in_ok-pages.rest.now c.in_ok-pages.pages c.in_ok-pages.ensures
