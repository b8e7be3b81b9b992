use Rattle.std.proofs.Common.{◌≡◌, true, false, length, sym, ◌∙◌, arith}
use Rattle.kc_parts.specs.Parts.{place_of, is_filled}
use Rattle.kc_parts.proofs.Places.{filled-at, filled-nowhere}
use Rattle.kc_parts.proofs.parts.Parts.place_in.Goals.{else-at-count-via-then-at-count+else-get, else-at-count-via-else-at-count}
use Rattle.kc_parts.proofs.parts.Parts.place_in.Goals as goal

pub returns-then-get : goal.returns-then-get
returns-then-get c =
    let p = c.self.inside in
    let at : c.place_of-at.result ≡ place_of p.numbers c.args.frame = rw c.number.ensures.value at c.place_of-at.ensures in
    let flags : length p.filled ≡ length p.numbers = c.self.invariant.flags in
    let filled : is_filled p.numbers p.filled c.args.frame ≡ true = filled-at p.numbers p.filled c.args.frame true true (rw (← at) (let low = c.if-at-count.true in let count = c.len-count.ensures in omega (arith, low, count, flags))) flags (rw (← at) (sym c.get.ensures ∙ c.if-get.true)) in
    rw (← c.self.view_is, filled) at

pub returns-else-at-count : goal.returns-else-at-count
returns-else-at-count c =
    let p = c.self.inside in
    let at : c.place_of-at.result ≡ place_of p.numbers c.args.frame = rw c.number.ensures.value at c.place_of-at.ensures in
    let flags : length p.filled ≡ length p.numbers = c.self.invariant.flags in
    let count = c.len-count.ensures in
    let pages : length p.pages ≡ length p.numbers = c.self.invariant.pages in
    let empty : is_filled p.numbers p.filled c.args.frame ≡ false = elim c.else-at-count.branch [
      | else-at-count-via-then-at-count+else-get w ↦ filled-at p.numbers p.filled c.args.frame true false (rw (← at) (let low = w.if-at-count.true in omega (arith, low, count, flags))) flags (rw (← at) (sym w.get.ensures ∙ w.if-get.false))
      | else-at-count-via-else-at-count w ↦ filled-nowhere p.numbers p.filled c.args.frame (rw (← at) (let no = w.if-at-count.false in omega (arith, no, count))) flags
    ] in
    rw (← c.self.view_is, empty) (omega (arith, count, pages))
