use Rattle.std.proofs.Common.{◌≡◌, ◌++◌, None, Some, refl, ap, sym, ◌∙◌}
use Rattle.kc_trace.specs.declared.head_reader.NextLine.TheVariants.{More, Whole}
use Rattle.kc_trace.specs.Header.{ended_lines}
use Rattle.kc_trace.specs.HeadReading.{next_line}
use Rattle.kc_trace.proofs.HeadStages.{lines_so_far, line_next}
use Rattle.kc_trace.proofs.Headers.{ended_more}
use Rattle.kc_trace.proofs.HeaderCuts.{has_line, is_read, goes_on_whole, goes_on_after}
use Rattle.kc_trace.proofs.head_reader.read_header.Goals as goal

pub returns-in-Some-Whole-clause-found : goal.returns-in-Some-Whole-clause-found
returns-in-Some-Whole-clause-found c =
    let line = c.in-Some.line.now in
    let rest = c.in-Some.more.now in
    let read : next_line c.loop-line.head line ≡ Some (Whole c.in-Some-Whole.header) = sym c.in_ok-next.ensures ∙ c.in-Some-Whole.is ∙ ap (λ next. Some next) c.in-Some-Whole.field-0-is in
    let made = line_next c.loop-line.head line (Whole c.in-Some-Whole.header) c.loop-line.invariant.is read in
    (made.is, c.loop-line.invariant.whole ∙ ap (λ bytes. ended_lines (lines_so_far c.loop-line.head) ++ bytes) c.in-Some.ensures.1 ∙ sym (ended_more (lines_so_far c.loop-line.head) line rest) ∙ ap (λ lines. ended_lines lines ++ rest) (sym made.lines))

pub loop-line-preserved : goal.loop-line-preserved
loop-line-preserved c =
    let line = c.in-Some.line.now in
    let rest = c.in-Some.more.now in
    let read : next_line c.loop-line.head line ≡ Some (More c.in-Some-More.next) = sym c.in_ok-next.ensures ∙ c.in-Some-More.is ∙ ap (λ next. Some next) c.in-Some-More.field-0-is in
    let made = line_next c.loop-line.head line (More c.in-Some-More.next) c.loop-line.invariant.is read in
    record {
      whole = c.loop-line.invariant.whole ∙ ap (λ bytes. ended_lines (lines_so_far c.loop-line.head) ++ bytes) c.in-Some.ensures.1 ∙ sym (ended_more (lines_so_far c.loop-line.head) line rest) ∙ ap (λ lines. ended_lines lines ++ rest) (sym made.lines);
      is = made.is;
      on = λ header after header_is e.
          let on = c.loop-line.invariant.on header after header_is e in
          let found = is_read c.loop-line.head c.loop-line.rest.now line rest header after c.loop-line.invariant.is header_is on c.in-Some.ensures.0 c.in-Some.ensures.1 in
          goes_on_after c.loop-line.head c.in-Some-More.next line rest header after c.loop-line.invariant.is header_is found read;
    }

pub returns-in_default-clause-none : goal.returns-in_default-clause-none
returns-in_default-clause-none c = λ same header after header_is e. has_line c.loop-line.head c.loop-line.rest.now header after (c.loop-line.invariant.on header after header_is e) c.in_default.ensures

pub returns-in-None-clause-none : goal.returns-in-None-clause-none
returns-in-None-clause-none c = λ same header after header_is e.
    let on = c.loop-line.invariant.on header after header_is e in
    let found = is_read c.loop-line.head c.loop-line.rest.now c.in-Some.line.now c.in-Some.more.now header after c.loop-line.invariant.is header_is on c.in-Some.ensures.0 c.in-Some.ensures.1 in
    let both : None ≡ Some found.next = sym (sym c.in_ok-next.ensures ∙ c.in-None.is) ∙ found.read in
    absurd cc

pub loop-line-init : goal.loop-line-init
loop-line-init c = record { whole = refl; is = tt; on = λ header after header_is e. goes_on_whole header c.args.bytes.now after e }
