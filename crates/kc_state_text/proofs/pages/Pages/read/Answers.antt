use Rattle.std.specs.Prelude.{codes}
use Rattle.kc_model.specs.Lawful.{IsPage}
use Rattle.kc_state_text.specs.StateText.{page_word, page_words}
use Rattle.kc_state_text.proofs.Lines.{none-unread}
use Rattle.kc_state_text.proofs.Spelled.{page-are-words}
use Rattle.kc_state_text.proofs.PageWords.{other-word, begins-page}
use Rattle.kc_state_text.proofs.pages.Pages.read.Goals as goal

pub returns-in_default-page_word : goal.returns-in_default-page_word
returns-in_default-page_word c =
    none-unread IsPage (codes "page") page_words page-are-words c.args.text.now c.in-Some.line.now c.in-Some.rest.now c.in-Some.ensures.0 c.in-Some.ensures.1 (λ bytes is e. c.in_default-page_word.ensures (page_word bytes) e)

pub returns-then-branch : goal.returns-then-branch
returns-then-branch c =
    let more = c.in_ok-add.ensures.spelled c.if-branch.true in
    (more.0, begins-page c.args.text.now c.in-Some.line.now c.in-Some.rest.now c.in-Some-page_word.word.now more.0 c.in-Some.ensures.1 c.in-Some-page_word.ensures more.1, more.2)

pub returns-else-branch : goal.returns-else-branch
returns-else-branch c =
    none-unread IsPage (codes "page") page_words page-are-words c.args.text.now c.in-Some.line.now c.in-Some.rest.now c.in-Some.ensures.0 c.in-Some.ensures.1
    (other-word (codes "page") c.in-Some.line.now c.in-Some-page_word.word.now c.in-Some-page_word.ensures (c.in_ok-add.ensures.refused c.if-branch.false))
