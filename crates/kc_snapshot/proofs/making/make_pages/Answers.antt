use Rattle.std.proofs.Common.{ℕ, false, ◌≡◌, ◌<◌, ◌≤◌, ◌+◌, ◌∷◌, ◌++◌, [], drop, get_or, refl, sym, ap, ◌∙◌, length, vec_len, vec_capacity, suc, arith}
use Rattle.std.proofs.lemmas.List.{get_or_read}
use Rattle.std.specs.Vec.Iter.{into_iter_items, into_iter_len}
use Rattle.kc_model.specs.State.{zero_page}
use Rattle.kc_dump.specs.Dump.{line_at, absent_line}
use Rattle.kc_snapshot.specs.Making.{content_of, page_told}
use Rattle.kc_snapshot.proofs.Mappings.{first-left, rest-left, more-told}
use Rattle.kc_snapshot.proofs.making.make_pages.Goals as goal

pub make_page-page-requires : goal.make_page-page-requires
make_page-page-requires c =
    let i = c.loop-line.line-index in
    let line : c.line-item.result ≡ line_at c.args.lines.now i = get_or_read c.args.lines.now i c.line-item.result c.loop-line-test.true c.line-item.is absent_line in
    rw line (c.requires.shares i c.loop-line-test.true)

pub loop-line-preserved : goal.loop-line-preserved
loop-line-preserved c =
    let i = c.loop-line.line-index in
    let so_far = c.loop-line.invariant in
    let given = c.args.bytes.items in
    let left : drop i given ≡ c.unwrap.result ∷ into_iter_items c.next.new.self = sym so_far.rest ∙ rw c.unwrap.ensures at c.next.ensures.items in
    let bytes : c.unwrap.result ≡ content_of given i = first-left given i c.unwrap.result (record { bytes = zero_page; is_reserved = false }) (into_iter_items c.next.new.self) left in
    let line : c.line-item.result ≡ line_at c.args.lines.now i = get_or_read c.args.lines.now i c.line-item.result c.loop-line-test.true c.line-item.is absent_line in
    let page = c.make_page-page.ensures ∙ (λ k. page_told (line k) (bytes k)) in
    let pushed = rw c.unwrap-in-loop-line.ensures at c.push.ensures.items in
    let len = rw c.unwrap-in-loop-line.ensures at c.push.ensures.len in
    let space = c.push.ensures.capacity in
    let one = rw c.unwrap.ensures at c.next.ensures.len in
    let before = so_far.left in
    let count = so_far.count in
    let room = so_far.room in
    record {
      made = more-told (λ f. page_told (line_at c.args.lines.now f) (content_of given f)) i c.loop-line.pages.items c.push.new.self.items c.make_page-page.result so_far.made pushed page;
      rest = rest-left given i c.unwrap.result (into_iter_items c.next.new.self) left ∙ ap (λ n. drop n given) (let e : suc i ≡ i + 1 = omega arith in e);
      left = omega (arith, one, before);
      count = omega (arith, len, count);
      room = omega (arith, space, room);
    }
