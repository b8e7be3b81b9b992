use Rattle.std.proofs.Common.{sym, ◌∙◌}
use Rattle.std.specs.List.{flat_map}
use Rattle.kc_dump_text.specs.DumpText.{spell}
use Rattle.kc_dump_text.specs.Begun.{begun_lines}
use Rattle.kc_dump_text.proofs.Stopped.{all-read, frame-missing, bad-line}
use Rattle.kc_dump_text.proofs.reader.finish.Goals as goal

pub into_dump-requires : goal.into_dump-requires
into_dump-requires c = (all-read c.args.sizes.version c.args.text.now c.args.sizes.frames c.args.begun c.args.place c.args.rest.now c.requires.begun c.requires.whole (sym c.is_whole.ensures ∙ c.if-is_whole.true)).range

pub returns-then-is_whole : goal.returns-then-is_whole
returns-then-is_whole c = rw c.into_dump.ensures (all-read c.args.sizes.version c.args.text.now c.args.sizes.frames c.args.begun c.args.place c.args.rest.now c.requires.begun c.requires.whole (sym c.is_whole.ensures ∙ c.if-is_whole.true))

pub returns-then-lacks_frame : goal.returns-then-lacks_frame
returns-then-lacks_frame c =
    let lacks = c.lacks_frame.ensures.yes c.if-lacks_frame.true in
    frame-missing c.args.sizes.version c.args.text.now c.args.sizes.frames c.args.begun c.args.place c.args.rest.now c.requires.begun c.requires.whole c.requires.none lacks.0 lacks.1 lacks.2

pub returns : goal.returns
returns c =
    bad-line c.args.sizes.version c.args.text.now c.args.sizes.frames c.args.begun c.args.place c.args.rest.now c.requires.begun c.requires.whole c.requires.none c.line_number.result
    (c.line_number.ensures (flat_map spell (begun_lines c.args.sizes.frames c.args.begun)) c.requires.whole) (sym c.is_whole.ensures ∙ c.if-is_whole.false) (c.lacks_frame.ensures.no c.if-lacks_frame.false)
