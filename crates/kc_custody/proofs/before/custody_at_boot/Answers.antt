use Rattle.std.proofs.Common.{◌≡◌, refl, arith, ◌<◌}
use Rattle.std.proofs.lemmas.List.FromFn.{get_or-map-range_with_len}
use Rattle.kc_types.specs.declared.owner.Owner.TheVariants.{Core}
use Rattle.kc_model.specs.State.{untouched, frame_at}
use Rattle.kc_model.specs.Boot.{boot, boot_frame}
use Rattle.kc_custody.proofs.before.custody_at_boot.Goals as goal

pub returns : goal.returns
returns c =
    let f = c.args.frame in
    let there : f < c.args.config.now.frames = c.requires in
    let at : frame_at (boot c.args.config.now) f ≡ boot_frame c.args.config.now f = get_or-map-range_with_len (boot_frame c.args.config.now) 0 c.args.config.now.frames f f (untouched Core) there (omega arith) in
    rw (c.untouched.ensures, at, c.owner_at_boot.ensures) refl
