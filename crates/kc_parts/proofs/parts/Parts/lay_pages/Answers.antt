use Rattle.std.proofs.Common.{ℕ, zero, suc, ◌≡◌, ◌<◌, length, ◌∙◌, sym, ap, refl, arith}
use Rattle.kc_parts.specs.Parts.{page_at}
use Rattle.kc_parts.specs.Cuts.{either}
use Rattle.kc_parts.proofs.Filled.{cells, page_at-cells}
use Rattle.kc_parts.proofs.SlotMoves.{either-none}
use Rattle.kc_parts.proofs.Putting.{IsLast, front-held, last-empty, put-last, cells-end}
use Rattle.kc_parts.proofs.parts.Parts.lay_pages.Goals as goal

pub loop-number-init : goal.loop-number-init
loop-number-init c =
    let held = c.requires.held in
    record {
      held = held;
      places = refl;
      vms = refl;
      free = refl;
      reserved = refl;
      fits = λ f page e. c.requires.fits f page (page_at-cells c.args.numbers c.args.filled c.args.pages f held.flags held.pages ∙ e);
      joined = λ f. refl;
    }

pub lay_back-requires : goal.lay_back-requires
lay_back-requires c =
    let l = c.loop-number in
    let last : IsLast l.numbers c.pop.new.self l.filled c.pop-in-Some.new.self l.pages c.pop-in-Some-2.new.self c.in-Some.number c.in-Some-Some.flag c.in-Some-Some.page =
    record { held = l.invariant.held; numbers = c.in-Some.ensures.items; filled = c.in-Some-Some.ensures.items; pages = c.in-Some-Some.ensures'.items } in
    last-empty last l.self l.invariant.fits

pub loop-number-preserved : goal.loop-number-preserved
loop-number-preserved c =
    let l = c.loop-number in
    let was = l.invariant in
    let last : IsLast l.numbers c.pop.new.self l.filled c.pop-in-Some.new.self l.pages c.pop-in-Some-2.new.self c.in-Some.number c.in-Some-Some.flag c.in-Some-Some.page =
    record { held = was.held; numbers = c.in-Some.ensures.items; filled = c.in-Some-Some.ensures.items; pages = c.in-Some-Some.ensures'.items } in
    let step = put-last last l.self c.lay_back.new.self was.fits c.lay_back.ensures in
    record {
      held = front-held last;
      places = c.lay_back.ensures.numbers ∙ was.places;
      vms = c.lay_back.ensures.vms ∙ was.vms;
      free = c.lay_back.ensures.free ∙ was.free;
      reserved = c.lay_back.ensures.reserved ∙ was.reserved;
      fits = step.fits;
      joined = λ f. step.joined f ∙ was.joined f;
    }

no-number : (n : ℕ) → (0 < n → ⊥) → n ≡ 0
no-number zero none = refl
no-number (suc n) none = absurd (none (omega arith))

pub returns : goal.returns
returns c =
    let l = c.loop-number in
    let was = l.invariant in
    let held = c.requires.held in
    record {
      numbers = was.places;
      vms = was.vms;
      free = was.free;
      reserved = was.reserved;
      pages = λ f.
          sym (either-none (page_at l.self f))
          ∙ ap (either (page_at l.self f)) (sym (cells-end l.numbers (cells l.filled l.pages) f (no-number (length l.numbers) (λ some. (let never = c.in_default.ensures.some.1 some in cc)))))
          ∙ was.joined f
          ∙ ap (either (page_at c.args.self.now f)) (sym (page_at-cells c.args.numbers c.args.filled c.args.pages f held.flags held.pages));
    }
