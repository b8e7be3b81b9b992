use Rattle.std.proofs.Common.{◌<◌, ◌∙◌, ◌++◌, length, ap, refl, arith, rules}
use Rattle.kc_snapshot.specs.Form.{in_form}
use Rattle.kc_snapshot.proofs.InForm.{long_in}
use Rattle.kc_state_text.specs.Pieces.{to_come}
use Rattle.kc_state_text.proofs.ToCome.{page_given}
use Rattle.kc_state_text.proofs.pieces.StatePieces.give_pages.Goals as goal

pub pages-preserved : goal.pages-preserved
pages-preserved c =
    let m = c.args.core.now.state in
    let form = c.pages.self-inside.form in
    let here = long_in form m in
    let low : c.pages.self-inside.page < length (in_form form m).frames = omega (arith, here, c.config.ensures.lawful.frames, c.pages.invariant.page) in
    record {
      given = page_given m _ _ _ _ _ low refl c.pages.invariant.front c.pages.invariant.front refl refl c.pages.invariant.given (rw c.bytes_in.ensures at c.push_page.ensures.items);
      room = search rules;
      capacity = search rules;
      front = c.pages.invariant.front;
      zero = c.pages.invariant.zero;
      page = search rules;
    }

pub returns-then-self-count-clause-given : goal.returns-then-self-count-clause-given
returns-then-self-count-clause-given c =
    let m = c.args.core.now.state in
    let form = c.pages.self-inside.form in
    let here = long_in form m in
    let low : c.pages.self-inside.page < length (in_form form m).frames = omega (arith, here, c.config.ensures.lawful.frames, c.pages.invariant.page) in
    page_given m _ _ _ _ _ low refl c.pages.invariant.front c.pages.invariant.front refl refl c.pages.invariant.given (rw c.bytes_in.ensures at c.push_page.ensures.items)
    ∙ ap (λ pieces. c.args.piece.now.items ++ to_come m pieces) c.self.view_is
