use Rattle.std.proofs.Common.{◌≡◌, false, true, sym, ap, ◌∙◌}
use Rattle.std.specs.Prelude.{codes}
use Rattle.std.specs.Str.{bytes_eq}
use Rattle.kc_state_text.proofs.PageWords.{blank-page, digits-page}
use Rattle.kc_state_text.proofs.pages.fill_page.Goals as goal

pub returns-then-eq-clause-spelled : goal.returns-then-eq-clause-spelled
returns-then-eq-clause-spelled c h =
    let dash : bytes_eq c.args.word.now (codes "-") ≡ true = sym (ap (bytes_eq c.args.word.now) c.as_slice.ensures) ∙ sym c.eq.ensures ∙ c.if-eq.true in
    blank-page c.args.word.now c.args.page.now.bytes dash c.requires

pub returns-clause-spelled : goal.returns-clause-spelled
returns-clause-spelled c h = digits-page c.args.word.now c.decode_page.new.page.bytes (c.in_ok-valid.ensures.spelled h)

pub returns-clause-refused : goal.returns-clause-refused
returns-clause-refused c h =
    let other : bytes_eq c.args.word.now (codes "-") ≡ false = sym (ap (bytes_eq c.args.word.now) c.as_slice.ensures) ∙ sym c.eq.ensures ∙ c.if-eq.false in
    c.in_ok-valid.ensures.refused h other
