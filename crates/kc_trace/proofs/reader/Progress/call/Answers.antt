use Rattle.std.proofs.Common.{◌≡◌, ◌∙◌, ℕ, cond, List, [], ◌∷◌, length, Some, None, refl, ap, sym, arith}
use Rattle.std.proofs.lemmas.Bool.{eqb-true}
use Rattle.kc_trace.specs.Machine.{Progress, kept, longer_line, call_of_kept, call_in, standing}
use Rattle.kc_trace.specs.Reading.{call_of}
use Rattle.kc_trace.specs.Redacting.{call_by}
use Rattle.kc_trace.proofs.Redacting.{standing_by}
use Rattle.kc_trace.proofs.reader.Progress.call.Goals as goal

-- nothing of the line came before
whole : (line last : List ℕ) → length line ≡ 0 → longer_line (Some line) last ≡ kept last
whole [] last none = refl
whole (byte ∷ line) last none = absurd (omega arith)

pub returns-then-not-self-clause-call : goal.returns-then-not-self-clause-call
returns-then-not-self-clause-call c = λ header read.
    let last = c.args.last.now in
    let guests = c.args.guests in
    let line = c.self.inside.line.items in
    let seen : longer_line c.args.self.now.line last ≡ longer_line (Some line) last =
    ap (λ (p : Progress). longer_line p.line last) (sym c.self.view_is) ∙ ap (λ too_long. longer_line (cond too_long None (Some line)) last) c.if-not-self.true in
    let same = seen ∙ whole line last (eqb-true _ _ (sym c.is_empty.ensures ∙ c.if-is_empty.true)) in
    c.standing.ensures header read ∙ ap (standing header) c.in_ok-call.ensures ∙ standing_by guests header (call_of_kept (kept last)) ∙ ap (λ line. call_by guests (call_in header line)) (sym same)

pub returns-clause-call : goal.returns-clause-call
returns-clause-call c = λ header read.
    let guests = c.args.guests in
    let line = c.as_slice.result.now in
    let seen : longer_line c.args.self.now.line c.args.last.now ≡ Some line =
    ap (λ (p : Progress). p.line) (sym c.push_each.ensures) ∙ ap (λ (p : Progress). p.line) (sym c.self-2.view_is)
    ∙ ap (λ too_long. cond too_long None (Some c.self-2.inside.line.items)) c.if-self.false ∙ ap (λ bytes. Some bytes) (sym c.as_slice.ensures.value) in
    c.standing-2.ensures header (ap (λ (p : Progress). p.header) c.push_each.ensures ∙ read) ∙ ap (standing header) c.in_ok-call-2.ensures ∙ standing_by guests header (call_of line)
    ∙ ap (λ line. call_by guests (call_in header line)) (sym seen)
