use Rattle.std.proofs.Common.{◌≡◌, ◌<◌, ◌≢◌, length, ap, rules}
use Rattle.std.proofs.Math.ListN.{set}
use Rattle.kc_texts.proofs.Volumes.{begun}
use Rattle.kc_texts.proofs.placed.push_placed.Goals as goal

pub returns-then-len-start-clause-line : goal.returns-then-len-start-clause-line
returns-then-len-start-clause-line g c =
    let front = c.push_place.new.text.items in
    let whole = c.push-2.new.text.items in
    let some : length c.args.volumes.now ≢ 0 = search rules in
    let at : c.len-start.result ≡ length front = search rules in
    let longer : length front < length whole = search rules in
    begun c.args.volumes.now (g.L.Placed.place c.args.line.now) c.args.text.now.items front whole (g.L.Line.line c.args.line.now) _ some
    (rw (c.volume_of.ensures, c.place.ensures) at c.push_place.ensures.items) c.push-2.ensures.line longer (ap (λ n. set whole n 44) at)
