use Rattle.std.proofs.Common.{◌≡◌, ◌++◌, refl, ap}
use Rattle.kc_trace.specs.Spelling.{lines_of, trace_of, header_of}
use Rattle.kc_trace.specs.Header.{trace_header}
use Rattle.kc_texts.proofs.lines.give_trace.Goals as goal

pub returns-clause-begun : goal.returns-clause-begun
returns-clause-begun g c =
    let calls = c.args.calls.items in
    let front : c.push_header.new.text.items ≡ trace_header (header_of calls) = rw (c.push_header.ensures.line, c.requires.empty, c.header_of.ensures, c.deref.ensures.value) refl in
    let all : c.push_header.new.text.items ++ lines_of calls ≡ trace_of calls = ap (λ text. text ++ lines_of calls) front in
    rw all at c.give_lines.ensures.begun
