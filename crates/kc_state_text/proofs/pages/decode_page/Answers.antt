use Rattle.std.proofs.Common.{ℕ, ◌≡◌, List, Bool, false, true, length, refl, sym, ap, subst, ◌∙◌, arith}
use Rattle.std.specs.Prelude.{not}
use Rattle.std.proofs.lemmas.Bool.{not-true}
use Rattle.hex.specs.Hex.{encode_lower}
use Rattle.kc_model.specs.State.{overwritten}
use Rattle.kc_model.specs.Lawful.{IsPage}
use Rattle.kc_page.specs.PageBytes.{Content}
use Rattle.kc_state_text.specs.StateText.{is_zero}
use Rattle.kc_state_text.proofs.PageWords.{long-refused, digits-refused, zeros-refused, written-whole, zero-tested}
use Rattle.kc_state_text.proofs.pages.decode_page.Goals as goal

not-false : (b : Bool) → not b ≡ false → b ≡ true
not-false true e = refl
not-false false e = sym e

pub returns-then-word-clause-refused : goal.returns-then-word-clause-refused
returns-then-word-clause-refused c h other = long-refused c.args.word.now other (λ e. omega (arith, e))

pub returns-then-not-decode_into-clause-refused : goal.returns-then-not-decode_into-clause-refused
returns-then-not-decode_into-clause-refused c h other = digits-refused c.args.word.now other (sym c.decode_into.ensures.valid ∙ c.if-not-decode_into.true)

-- the page is what the digits say
pub returns-clause-spelled : goal.returns-clause-spelled
returns-clause-spelled c h =
    let digits = c.decode_into.new.bytes in
    let page : IsPage digits = record { whole = c.decode_into.auto.bytes ∙ c.requires.whole; each_byte = c.decode_into.ensures.each_byte } in
    let same : c.write.new.self.bytes ≡ digits = ap (λ (page : Content). page.bytes) c.in_ok-write.ensures.ok ∙ ap (λ old. overwritten old 0 digits) c.requires.zero ∙ written-whole digits page in
    record {
      page = subst IsPage (sym same) page;
      some = zero-tested c.write.new.self.bytes c.is_zero.result (ap (λ (bytes : List ℕ). length bytes) same ∙ page.whole) c.is_zero.ensures ∙ not-true c.is_zero.result h;
      whole = c.decode_into.ensures.spelled c.if-not-decode_into.false ∙ ap encode_lower (sym same);
    }

pub returns-clause-refused : goal.returns-clause-refused
returns-clause-refused c h other =
    let digits = c.decode_into.new.bytes in
    let page : IsPage digits = record { whole = c.decode_into.auto.bytes ∙ c.requires.whole; each_byte = c.decode_into.ensures.each_byte } in
    let same : c.write.new.self.bytes ≡ digits = ap (λ (page : Content). page.bytes) c.in_ok-write.ensures.ok ∙ ap (λ old. overwritten old 0 digits) c.requires.zero ∙ written-whole digits page in
    zeros-refused c.args.word.now digits (c.decode_into.ensures.spelled c.if-not-decode_into.false) page
    (ap is_zero (sym same) ∙ zero-tested c.write.new.self.bytes c.is_zero.result (ap (λ (bytes : List ℕ). length bytes) same ∙ page.whole) c.is_zero.ensures ∙ not-false c.is_zero.result h) other
