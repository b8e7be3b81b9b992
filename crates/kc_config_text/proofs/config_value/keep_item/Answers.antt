use Rattle.std.proofs.Common.{◌≡◌, true, refl, sym, ◌∙◌, arith}
use Rattle.kc_config_text.proofs.config_value.keep_item.Goals as goal

pub returns : goal.returns
returns c =
    let kept : c.args.are_digests ≡ true = grind arith in
    let text : c.is_string.result ≡ true = grind arith in
    rw kept (c.args.item, c.in_ok-push-2.ensures.items, refl, sym text ∙ c.is_string.ensures)
