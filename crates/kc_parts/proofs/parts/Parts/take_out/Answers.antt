use Rattle.std.proofs.Common.{get_or, ap, ◌∙◌}
use Rattle.kc_parts.specs.Parts.{Held}
use Rattle.kc_parts.proofs.Taking.{pages-here, same-pages, held-taken, split-end, taken-full}
use Rattle.kc_parts.proofs.Cells.{cell-none}
use Rattle.kc_parts.proofs.Splits.{split_fits}
use Rattle.kc_parts.proofs.parts.Parts.take_out.Goals as goal

pub lift_slots-requires : goal.lift_slots-requires
lift_slots-requires c = λ v. rw c.in_ok-vms.ensures (cell-none _ _ v)

pub lift_pages-requires-clause-here : goal.lift_pages-requires-clause-here
lift_pages-requires-clause-here c = λ i low.
    let ns = c.in_ok-numbers.numbers.items in
    let start = c.args.self.now in
    let same = same-pages start c.lift_slots.new.self c.lift_free-free.new.self _ c.lift_slots.ensures.rest c.lift_free-free.ensures.rest in
    let here = pages-here start c.args.wanted.now ns c.requires c.in_ok-numbers.ensures.members i (rw c.as_slice.ensures.value at low) in
    rw (c.as_slice.ensures.value, same (get_or ns i 0)) here

pub lift_pages-requires-clause-rising : goal.lift_pages-requires-clause-rising
lift_pages-requires-clause-rising c = rw c.as_slice.ensures.value c.in_ok-numbers.ensures.rising

pub invariant_of-result : goal.invariant_of-result
invariant_of-result c =
    let numbers = c.in_ok-numbers.numbers in
    rw c.listed.ensures
    (held-taken c.args.wanted.now numbers.items c.in_ok-filled.filled c.lift_pages.new.pages c.lift_free-free.new.self c.len.result
    c.in_ok-numbers.ensures c.in_ok-filled.ensures (c.len.ensures ∙ numbers.ok.0) (rw c.as_slice.ensures.value at c.lift_pages.ensures.taken))

pub returns-clause-ok : goal.returns-clause-ok
returns-clause-ok c =
    let numbers = c.in_ok-numbers.numbers in
    let value = c.as_slice.ensures.value in
    rw c.listed.ensures
    (split-end c.args.wanted.now numbers.items c.in_ok-filled.filled c.lift_pages.new.pages c.in_ok-vms.vms c.lift_slots.new.vms c.lift_free-free.result
    c.args.self.now c.lift_slots.new.self c.lift_free-free.new.self c.lift_pages.new.self c.wants_free.result c.self.inside.is_reserved c.len.result
    c.in_ok-numbers.ensures c.in_ok-filled.ensures (c.len.ensures ∙ numbers.ok.0) (rw value at c.lift_pages.ensures.taken) (rw value at c.lift_pages.ensures.rest)
    (rw c.in_ok-vms.ensures c.in_ok-slots.ensures) (λ v. rw c.in_ok-vms.ensures (cell-none _ _ v)) c.lift_slots.ensures.moved c.lift_slots.ensures.rest c.lift_free-free.ensures.ends c.lift_free-free.ensures.rest c.wants_free.ensures (ap (λ (h : Held). h.is_reserved) c.self.view_is))

pub returns-clause-full : goal.returns-clause-full
returns-clause-full c = taken-full c.args.wanted.now c.args.self.now c.lift_pages.new.self _ c.requires (returns-clause-ok c) (rw c.listed.ensures c.in_ok-numbers.ensures.members)

pub returns-clause-fits : goal.returns-clause-fits
returns-clause-fits c = split_fits _ _ _ _ (returns-clause-ok c)
