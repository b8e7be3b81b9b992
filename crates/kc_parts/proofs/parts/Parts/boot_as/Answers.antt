use Rattle.std.proofs.Common.{List, length, sym, ap, refl, ◌∙◌, subst, arith}
use Rattle.std.proofs.lemmas.List.FromFn.{length-map-range_with_len}
use Rattle.std.proofs.lemmas.Result.{IfOk-weaker}
use Rattle.kc_model.proofs.States.Configurations.{few-frames}
use Rattle.kc_page.specs.declared.page.Page.{Page}
use Rattle.kc_parts.specs.Booting.{boot_page, IsBooted}
use Rattle.kc_parts.proofs.Full.{full_from_whole}
use Rattle.kc_parts.proofs.Booted.{booted, made, linked-boot, whole-boot, state-boot, slots-boot}
use Rattle.kc_parts.proofs.parts.Parts.boot_as.Goals as goal

pub in_places-requires-clause-frames : goal.in_places-requires-clause-frames
in_places-requires-clause-frames c =
    let config = c.args.config.now in
    let few = few-frames config c.boot_ends.ensures.kept in
    let long = ap (λ (ps : List Page). length ps) c.in_ok-pages.ensures ∙ length-map-range_with_len (boot_page c.args.is_reserved config) 0 config.frames in
    omega (arith, few, long)

pub in_places-requires-clause-count : goal.in_places-requires-clause-count
in_places-requires-clause-count c = ap (λ (ps : List Page). length ps) c.in_ok-pages.ensures ∙ length-map-range_with_len (boot_page c.args.is_reserved c.args.config.now) 0 c.args.config.now.frames ∙ sym c.frames-frames.ensures.value

pub returns-clause-parts : goal.returns-clause-parts
returns-clause-parts c =
    let config = c.args.config.now in
    let kind = c.args.is_reserved in
    let kept = c.boot_ends.ensures.kept in
    let whole = whole-boot config kind in
    IfOk-weaker c.in_places.result _ _
    (λ parts is. subst (IsBooted config kind) (sym (made config kind parts _ _ _ is c.in_ok-pages.ensures c.in_ok-vms.ensures.vms c.boot_ends.ensures.value)) (record {
      state = state-boot config kind kept;
      linked = linked-boot config kind kept;
      whole = whole;
      full = full_from_whole config (booted config kind) whole;
      slots = slots-boot config kind;
      reserved = refl;
    })) c.in_places.ensures

pub returns-clause-config : goal.returns-clause-config
returns-clause-config c = IfOk-weaker c.in_places.result _ _ (λ parts is. c.boot_ends.ensures.kept) c.in_places.ensures
