use Rattle.std.proofs.Common.{ℕ, List, take, subst, ◌∙◌}
use Rattle.std.specs.Io.KnownBytes.{Appends}
use Rattle.kc_html.specs.Html.{html_text_of}
use Rattle.kc_cli.proofs.Plain.{framed_is_lined}
use Rattle.kc_cli.proofs.Told.{gives, gives_to}
use Rattle.kc_cli.proofs.lined.give_lines.Goals as goal

pub returns-in-Text-clause-ok : goal.returns-in-Text-clause-ok
returns-in-Text-clause-ok g c =
    let text = framed_is_lined g.L.Placed.place g.L.Line.line c.args.subject.now c.args.lines.items _ _ _ (c.len.ensures ∙ c.args.lines.ok.0) c.in-Ok.ensures.piece c.in-Ok.ensures.end in
    rw (c.in-Text.is, c.written.ensures) (gives c.give_text.result _ _ (λ given. subst (λ (given : List ℕ). Appends (g.K.Sink.taken c.args.out.now) (g.K.Sink.taken c.give_text.new.out) given) text given) (rw c.as_slice-volumes.ensures.value at c.give_text.ensures.ok))

pub returns-in-Text-clause-sink : goal.returns-in-Text-clause-sink
returns-in-Text-clause-sink g c =
    let text = framed_is_lined g.L.Placed.place g.L.Line.line c.args.subject.now c.args.lines.items _ _ _ (c.len.ensures ∙ c.args.lines.ok.0) c.in-Ok.ensures.piece c.in-Ok.ensures.end in
    rw (c.in-Text.is, c.written.ensures) (gives_to c.give_text.result _ _ _ _ (λ begun. subst (λ (given : List ℕ). (n : ℕ) × Appends (g.K.Sink.taken c.args.out.now) (g.K.Sink.taken c.give_text.new.out) (take n given)) text begun) (rw c.as_slice-volumes.ensures.value at c.give_text.ensures.begun) c.give_text.ensures.mark)

pub returns-in-Page-clause-ok : goal.returns-in-Page-clause-ok
returns-in-Page-clause-ok g c =
    let text = framed_is_lined g.L.Placed.place g.L.Line.line c.args.subject.now c.args.lines.items _ _ _ (c.len.ensures ∙ c.args.lines.ok.0) c.in-Ok.ensures.piece c.in-Ok.ensures.end in
    rw (c.in-Page.is, c.written-in-Page.ensures) (gives c.give_page.result _ _ (λ given. subst (λ (given : List ℕ). Appends (g.K.Sink.taken c.args.out.now) (g.K.Sink.taken c.give_page.new.out) (html_text_of given)) text given) (rw c.as_slice-volumes.ensures.value at c.give_page.ensures.ok))

pub returns-in-Page-clause-sink : goal.returns-in-Page-clause-sink
returns-in-Page-clause-sink g c =
    let text = framed_is_lined g.L.Placed.place g.L.Line.line c.args.subject.now c.args.lines.items _ _ _ (c.len.ensures ∙ c.args.lines.ok.0) c.in-Ok.ensures.piece c.in-Ok.ensures.end in
    rw (c.in-Page.is, c.written-in-Page.ensures) (gives_to c.give_page.result _ _ _ _ (λ begun. subst (λ (given : List ℕ). (n : ℕ) × Appends (g.K.Sink.taken c.args.out.now) (g.K.Sink.taken c.give_page.new.out) (take n (html_text_of given))) text begun) (rw c.as_slice-volumes.ensures.value at c.give_page.ensures.begun) c.give_page.ensures.mark)
