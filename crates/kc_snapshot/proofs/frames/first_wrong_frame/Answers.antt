use Rattle.std.proofs.Common.{ℕ, ◌≡◌, ◌<◌, false, List, [], inl, inr, length, get_or, ap, sym, subst, ◌∙◌, arith}
use Rattle.std.proofs.lemmas.Bool.{cases_lt}
use Rattle.std.proofs.lemmas.List.{get_or_read}
use Rattle.sha2.specs.Sha256.{sha256}
use Rattle.kc_model.specs.State.{zero_page}
use Rattle.kc_model.specs.Lawful.{IsPage}
use Rattle.kc_page.specs.PageBytes.{Content}
use Rattle.kc_dump.specs.declared.line.FrameLine.{FrameLine}
use Rattle.kc_dump.specs.Dump.{absent_line, line_at}
use Rattle.kc_snapshot.specs.Told.{bytes_of}
use Rattle.kc_snapshot.specs.Unlawful.{IsFrameOf, page_of}
use Rattle.kc_snapshot.proofs.Pages.{page_read, digest_read}
use Rattle.kc_snapshot.proofs.frames.first_wrong_frame.Goals as goal

pub is_frame_of-requires : goal.is_frame_of-requires
is_frame_of-requires c =
    let n = c.loop-frame.frame in
    let pages = c.args.pages.now in
    let test = c.loop-frame-test.true in
    let end = ap length c.frames-frame-end.ensures.value in
    let count = c.requires.count in
    let low : n < length pages = omega (arith, test, end, count) in
    ap (λ (all : List (List ℕ)). get_or all n []) c.requires.digests
    ∙ digest_read pages n [] low
    ∙ ap (λ (page : Content). sha256 page.bytes) (sym (get_or_read pages n c.index-pages-frame.result low c.index-pages-frame.is (record { bytes = zero_page; is_reserved = false })))

pub loop-frame-preserved : goal.loop-frame-preserved
loop-frame-preserved c =
    let n = c.loop-frame.frame in
    let d = c.args.dump.now in
    let pages = c.args.pages.now in
    let test = c.loop-frame-test.true in
    let end : length c.frames-frame-end.result.now ≡ length d.frames = ap length c.frames-frame-end.ensures.value in
    let count = c.requires.count in
    let low : n < length d.frames = omega (arith, test, end) in
    let within : n < length pages = omega (arith, low, count) in
    let line : c.index-frames-frame.result ≡ line_at d.frames n = get_or_read d.frames n c.index-frames-frame.result low (c.index-frames-frame.is ∙ ap (λ (l : List FrameLine). get_or l n c.index-frames-frame.result) c.frames.ensures.value) absent_line in
    let page : c.index-pages-frame.result.bytes ≡ page_of (bytes_of pages) n = ap (λ (page : Content). page.bytes) (get_or_read pages n c.index-pages-frame.result within c.index-pages-frame.is (record { bytes = zero_page; is_reserved = false })) ∙ sym (page_read pages n) in
    let here : IsFrameOf d (line_at d.frames n) (page_of (bytes_of pages) n) = subst (λ (l : FrameLine). IsFrameOf d l (page_of (bytes_of pages) n)) line (subst (λ (bytes : List ℕ). IsFrameOf d c.index-frames-frame.result bytes) page (c.is_frame_of.ensures.value.0 c.if-not-is_frame_of.false)) in
    let whole : IsPage (page_of (bytes_of pages) n) = subst IsPage page c.is_frame_of.ensures.page in
    record {
      frames = λ f lt. elim (cases_lt f n) [
        | inl less ↦ c.loop-frame.invariant.frames f less
        | inr more ↦ let same : f ≡ n = omega (arith, lt, more) in rw same here
      ];
      pages = λ f lt. elim (cases_lt f n) [
        | inl less ↦ c.loop-frame.invariant.pages f less
        | inr more ↦ let same : f ≡ n = omega (arith, lt, more) in rw same whole
      ];
    }
