use Rattle.std.proofs.Common.{ℕ, zero, suc, ◌≡◌, ◌+◌, ◌-◌, [], ◌∷◌, Option, Some, None, refl, sym, ap, ◌∙◌, arith}
use Rattle.kc_types.specs.declared.link.Ends.{Ends}
use Rattle.kc_links.specs.Chain.{Links, spelled, next_of}
use Rattle.kc_links.specs.Ending.{listed}
use Rattle.kc_parts.specs.Parts.{Held, links_of}
use Rattle.kc_parts.specs.Emptying.{with_scrubbed, all_scrubbed}
use Rattle.kc_parts.proofs.Emptied.{scrubbing}
use Rattle.kc_parts.proofs.parts.Parts.scrub_list.Goals.{in-Some, in_default}
use Rattle.kc_parts.proofs.parts.Parts.scrub_list.Goals as goal

-- what a walk of a list scrubs, step by step
walk-none : (h : Held) (n : ℕ) → all_scrubbed h (spelled (links_of h) n None) ≡ h
walk-none h zero = refl
walk-none h (suc n) = refl

walk-step : (h : Held) (n left f : ℕ) → left ≡ suc n
    → all_scrubbed (with_scrubbed h f) (spelled (links_of (with_scrubbed h f)) n (next_of (links_of h f))) ≡ all_scrubbed h (spelled (links_of h) left (Some f))
walk-step h n left f is = rw is (ap (λ (links : Links). all_scrubbed (with_scrubbed h f) (spelled links n (next_of (links_of h f)))) (scrubbing h (f ∷ [])).links)

-- at its end all are scrubbed
walk-listed : (old new : Held) (ends : Ends) (left : ℕ) (at : Option ℕ) → left ≡ 0
    → all_scrubbed new (spelled (links_of new) left at) ≡ all_scrubbed old (spelled (links_of old) ends.count ends.head) → new ≡ all_scrubbed old (listed (links_of old) ends)
unfolding listed
walk-listed old new ends left at none walked = ap (λ n. all_scrubbed new (spelled (links_of new) n at)) (sym none) ∙ walked

pub loop-preserved : goal.loop-preserved
loop-preserved c =
    let before = c.loop.invariant in
    let left = c.args.list.now.count - c.loop.counter in
    let n = c.args.list.now.count - (c.loop.counter + 1) in
    let low = c.loop-test.true in
    elim c.match-at.branch [
      | in-Some w ↦
          ap (λ (h : Held). all_scrubbed h (spelled (links_of h) n c.match-at.at)) (w.self-is ∙ w.scrub_frame.ensures)
          ∙ ap (λ at. all_scrubbed (with_scrubbed c.loop.self w.in-Some.frame) (spelled (links_of (with_scrubbed c.loop.self w.in-Some.frame)) n at)) (w.at-is ∙ w.frame_after-at.ensures)
          ∙ walk-step c.loop.self n left w.in-Some.frame (omega (arith, low))
          ∙ ap (λ at. all_scrubbed c.loop.self (spelled (links_of c.loop.self) left at)) (sym w.in-Some.is)
          ∙ before
      | in_default w ↦
          ap (λ (h : Held). all_scrubbed h (spelled (links_of h) n c.match-at.at)) w.self-is
          ∙ ap (λ at. all_scrubbed c.loop.self (spelled (links_of c.loop.self) n at)) (w.at-is ∙ w.in_default.is)
          ∙ walk-none c.loop.self n
          ∙ sym (walk-none c.loop.self left)
          ∙ ap (λ at. all_scrubbed c.loop.self (spelled (links_of c.loop.self) left at)) (sym w.in_default.is)
          ∙ before
    ]

pub returns : goal.returns
returns c =
    let past = c.loop-test.false in
    walk-listed c.args.self.now c.loop.self c.args.list.now (c.args.list.now.count - c.loop.counter) c.loop.at (omega (arith, past)) c.loop.invariant
