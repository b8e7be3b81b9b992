use Rattle.std.proofs.Common.{◌≡◌, ◌+◌, true, refl, sym, ap, ◌∙◌, arith}
use Rattle.std.proofs.lemmas.List.FromFn.{map-range_with_len_more}
use Rattle.kc_parts.specs.Booting.{boot_page}
use Rattle.kc_parts.specs.Chunks.{record_at_boot}
use Rattle.kc_parts.proofs.Layouts.{record-at-boot}
use Rattle.kc_parts.proofs.boot.reserved_pages.Goals as goal

pub loop-i-preserved : goal.loop-i-preserved
loop-i-preserved c =
    let config = c.args.config.now in
    let f = c.args.first + c.loop-i.i in
    let meta : c.record.result ≡ (boot_page true config f).meta = c.record.ensures ∙ ap (λ l. record_at_boot l f) c.of-layout.ensures.value ∙ record-at-boot true config f (let within = c.requires in omega (arith, within)) in
    let bytes : c.in_ok-reserved.field-0 ≡ (boot_page true config f).bytes = c.in_ok-reserved.ensures in
    let page : record { meta = c.record.result; bytes = c.in_ok-reserved.field-0 } ≡ boot_page true config f = λ i. record { meta = meta i; bytes = bytes i } in
    rw (c.in_ok-push.ensures.items, c.loop-i.invariant, page) (sym (map-range_with_len_more (boot_page true config) c.args.first c.loop-i.i f refl))
