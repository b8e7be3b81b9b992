use Rattle.std.proofs.Common.{length, sym, ap, refl, ◌∙◌}
use Rattle.kc_parts.proofs.Chunked.{none-at-boot, more-at-boot, length-at-boot}
use Rattle.kc_parts.proofs.chunk.push_pages.Goals as goal

pub loop-i-init : goal.loop-i-init
loop-i-init c = record {
  items = c.requires.nothing ∙ sym (none-at-boot c.args.layout c.args.first);
  long = ap length c.requires.nothing;
  capacity = refl;
}

pub loop-i-preserved : goal.loop-i-preserved
loop-i-preserved c =
    let items = more-at-boot c.args.layout c.args.first c.loop-i.i c.loop-i.pages.items c.push_reserved.new.self.items _ c.loop-i.invariant.items c.push_reserved.ensures.items (λ i. record { meta = c.record.ensures i; bytes = c.sparse.ensures i }) in
    record {
      items = items;
      long = ap length items ∙ length-at-boot c.args.layout c.args.first _;
      capacity = c.push_reserved.ensures.capacity ∙ c.loop-i.invariant.capacity;
    }
