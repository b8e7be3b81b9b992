use Rattle.std.proofs.Common.{◌++◌, ◌==◌, [], codes, if◌then◌else◌}
use Rattle.std.proofs.lemmas.Bool.{eq-eqb, ne_eqb}
use Rattle.kc_picture.specs.Words.{Puts, length_words}
use Rattle.kc_picture.specs.OutlineWords.{top_of, approach_words}
use Rattle.kc_picture.proofs.Put.{puts-two, puts-none}
use Rattle.kc_picture.proofs.lane_drawing.put_edge.Goals as goal

pub returns-then-height-eq0 : goal.returns-then-height-eq0
returns-then-height-eq0 c =
    let near = c.put_approach.new.path in
    let up = c.put_length.new.self in
    let approach = approach_words c.args.place.now.scale.last c.args.place.now.base c.args.before c.args.column in
    let rise = codes "V" ++ length_words (top_of c.args.place.now c.args.height) in
    let rises : Puts near up rise = rw (← c.top_of.ensures) c.put_length.ensures in
    let ends : Puts up c.put.new.self (if c.args.height == 0 then codes "Z" else []) = rw (eq-eqb c.args.height 0 c.if-height-eq0.true) c.put.ensures in
    puts-two c.args.path.now near c.put.new.self approach (rise ++ (if c.args.height == 0 then codes "Z" else [])) c.put_approach.ensures (puts-two near up c.put.new.self rise (if c.args.height == 0 then codes "Z" else []) rises ends)

pub returns-else-height-eq0 : goal.returns-else-height-eq0
returns-else-height-eq0 c =
    let near = c.put_approach.new.path in
    let up = c.put_length.new.self in
    let approach = approach_words c.args.place.now.scale.last c.args.place.now.base c.args.before c.args.column in
    let rise = codes "V" ++ length_words (top_of c.args.place.now c.args.height) in
    let rises : Puts near up rise = rw (← c.top_of.ensures) c.put_length.ensures in
    let ends : Puts up up (if c.args.height == 0 then codes "Z" else []) = rw (ne_eqb c.args.height 0 c.if-height-eq0.false) (puts-none up) in
    puts-two c.args.path.now near up approach (rise ++ (if c.args.height == 0 then codes "Z" else [])) c.put_approach.ensures (puts-two near up up rise (if c.args.height == 0 then codes "Z" else []) rises ends)
