-- A walk that counts all frames of an owner finds its list, if there is one.
use Rattle.std.proofs.Common.{◌≡◌, ℕ, ◌<◌, ◌≤◌, zero, suc, inl, inr, Bool, true, false, cond, Option, Some, None, List, [], ◌∷◌, length, get_or, refl, ap, sym, ◌∙◌, arith}
use Rattle.std.specs.Prelude.{slice_get}
use Rattle.std.specs.Option.{option_map}
use Rattle.std.proofs.lemmas.Bool.{cases_eq, cases_lt}
use Rattle.std.proofs.lemmas.List.{get_or_past}
use Rattle.std.proofs.lemmas.Option.{slice_get_within, slice_get-get_or, same_Some}
use Rattle.kc_types.specs.declared.link.Link.{Link}
use Rattle.kc_types.specs.declared.link.Ends.{Ends}
use Rattle.kc_types.specs.declared.owner.Owner.{Owner}
use Rattle.kc_types.specs.declared.owner.Owner.TheVariants.{Core}
use Rattle.kc_model.specs.Lawful.{same_owner, times_in}
use Rattle.kc_links.specs.Chain.{NamesNeighbours, first_or, last_or}
use Rattle.kc_links.specs.Ending.{Chain}
use Rattle.kc_links.proofs.Times.{times-same, times-other}
use Rattle.kc_links.proofs.Chains.{chain-once}
use Rattle.kc_dump.specs.declared.line.FrameLine.{FrameLine}
use Rattle.kc_dump.specs.Dump.{absent_line, line_owner, line_link, line_links}
use Rattle.kc_dump.specs.Lists.{owned, HasList}
use Rattle.kc_dump.specs.Sums.{sum_below}
use Rattle.kc_audit.specs.Walking.{Walks, next_in, count_owned}
use Rattle.kc_dump.proofs.Sums.{sum-same, sum-tight, sum-times}
use Rattle.kc_model.proofs.States.Owners.{same-itself, same-is}

module _ (lines : List FrameLine) (owner : Owner) where
  -- the rest of a sequence, from here on
  record Part (tail before here : Option ℕ) (n : ℕ) (fs : List ℕ) : Type 0 where
    head : here ≡ first_or None fs
    last : tail ≡ last_or before fs
    count : n ≡ length fs
    linked : NamesNeighbours (line_links lines) before fs None
    mine : (f : ℕ) → 0 < times_in fs f → (f < length lines) × (line_owner lines f ≡ owner)

  line-is : (f : ℕ) (line : FrameLine) → slice_get lines f ≡ Some line → get_or lines f absent_line ≡ line
  line-is f line is = same_Some (get_or lines f absent_line) line (sym (slice_get-get_or lines f absent_line (slice_get_within lines f line is)) ∙ is)

  finds : (tail before here : Option ℕ) (n : ℕ) → Walks lines owner tail before here n → (fs : List ℕ) × Part tail before here n fs
  finds tail before here zero w = ([], record { head = w.0; last = sym w.1; count = refl; linked = tt; mine = λ f some. absurd (omega (arith, some)) })
  finds tail before None (suc n) w = absurd w
  finds tail before (Some f) (suc n) w =
      let fits = w.0 in
      let rest = finds tail (Some f) (next_in (slice_get lines f)) n w.1 in
      let p = rest.1 in
      let next : fits.line.next ≡ first_or None rest.0 = sym (ap next_in fits.is) ∙ p.head in (
        f ∷ rest.0,
        record {
          head = refl;
          last = p.last;
          count = ap suc p.count;
          linked = (ap (option_map line_link) fits.is ∙ (λ i. Some (record { prev = fits.prev i; next = next i })), p.linked);
          mine = λ g some. elim (cases_eq g f) [
            | inl same ↦ rw same (slice_get_within lines f fits.line fits.is, ap (λ (l : FrameLine). l.owner) (line-is f fits.line fits.is) ∙ fits.mine)
            | inr other ↦ p.mine g (rw (times-other f rest.0 g other) at some)
          ];
        },
      )

  follows : (tail before : Option ℕ) (fs : List ℕ) → NamesNeighbours (line_links lines) before fs None → tail ≡ last_or before fs → ((f : ℕ) → 0 < times_in fs f → line_owner lines f ≡ owner)
      → Walks lines owner tail before (first_or None fs) (length fs)
  follows tail before [] linked last mine = (refl, sym last)
  follows tail before (x ∷ xs) linked last mine =
      by_line (follows tail (Some x) xs linked.1 last (λ f some. mine f (omega (arith, some)))) (slice_get lines x) refl
    where
      by_line : Walks lines owner tail (Some x) (first_or None xs) (length xs) → (there : Option FrameLine) → slice_get lines x ≡ there → Walks lines owner tail before (Some x) (suc (length xs))
      by_line rest None e = let some = linked.0 in let none : line_links lines x ≡ None = ap (option_map line_link) e in absurd cc
      by_line rest (Some line) e =
          let link : line_link line ≡ record { prev = before; next = first_or None xs } = same_Some (line_link line) _ (sym (ap (option_map line_link) e) ∙ linked.0) in
          let here : 0 < times_in (x ∷ xs) x = (let t = times-same x xs in omega (arith, t)) in
          let owns : line.owner ≡ owner = ap (λ (l : FrameLine). l.owner) (sym (line-is x line e)) ∙ mine x here in
          let next : next_in (slice_get lines x) ≡ first_or None xs = ap next_in e ∙ ap (λ (l : Link). l.next) link in (
            record { line = line; is = e; mine = owns; prev = ap (λ (l : Link). l.prev) link },
            rw next rest,
          )

  owned-past : same_owner Core owner ≡ false → (f : ℕ) → length lines ≤ f → owned lines owner f ≡ 0
  owned-past differs f past = ap (λ (l : FrameLine). cond (same_owner l.owner owner) 1 0) (get_or_past lines f absent_line past) ∙ ap (λ b. cond b 1 0) differs

  owned-mine : (f : ℕ) → line_owner lines f ≡ owner → owned lines owner f ≡ 1
  owned-mine f mine = rw (mine, same-itself owner) refl

  mine-owned : (f : ℕ) → 0 < owned lines owner f → line_owner lines f ≡ owner
  mine-owned f some = same-is (line_owner lines f) owner (by_test (same_owner (line_owner lines f) owner) some)
    where
      by_test : (b : Bool) → 0 < cond b 1 0 → b ≡ true
      by_test true h = refl
      by_test false h = absurd (omega (arith, h))

  few : (fs : List ℕ) → ((f : ℕ) → times_in fs f ≤ 1) → ((f : ℕ) → 0 < times_in fs f → (f < length lines) × (line_owner lines f ≡ owner)) → (f : ℕ) → times_in fs f ≤ owned lines owner f
  few fs once mine f = elim (cases_lt 0 (times_in fs f)) [
    | inl some ↦ let one = owned-mine f (mine f some).1 in let most = once f in omega (arith, one, most)
    | inr none ↦ omega (arith, none)
  ]

  pub has-list : same_owner Core owner ≡ false → (ends : Ends) → ends.count ≡ count_owned lines owner → Walks lines owner ends.tail None ends.head ends.count → HasList lines owner ends
  has-list differs ends count w =
      let found = finds ends.tail None ends.head ends.count w in
      let fs = found.0 in
      let p = found.1 in
      let chain : Chain (line_links lines) ends fs = record { head = p.head; tail = p.last; count = p.count; linked = p.linked } in
      let most = few fs (chain-once (line_links lines) ends fs chain) p.mine in
      let long = sum-times fs (length lines) (λ f some. (p.mine f some).0) in
      let counted = p.count in
      let all : sum_below (owned lines owner) (length lines) ≤ sum_below (times_in fs) (length lines) = omega (arith, long, counted, count) in
      record {
        frames = fs;
        spelled = record {
          chain = chain;
          each = λ f. elim (cases_lt f (length lines)) [
            | inl low ↦ sum-tight (times_in fs) (owned lines owner) (length lines) most all f low
            | inr past ↦ let none = owned-past differs f past in let m = most f in omega (arith, none, m)
          ];
        };
      }

  pub list-walks : same_owner Core owner ≡ false → (ends : Ends) → HasList lines owner ends → (ends.count ≡ count_owned lines owner) × Walks lines owner ends.tail None ends.head ends.count
  list-walks differs ends h =
      let fs = h.frames in
      let chain = h.spelled.chain in
      let each = h.spelled.each in
      let low : (f : ℕ) → 0 < times_in fs f → f < length lines = λ f some. elim (cases_lt f (length lines)) [
        | inl l ↦ l
        | inr past ↦ let none = owned-past differs f past in let e = each f in absurd (omega (arith, none, e, some))
      ] in
      let long = sum-times fs (length lines) low in
      let same = sum-same (times_in fs) (owned lines owner) (length lines) each in
      let counted = chain.count in (
        omega (arith, long, same, counted),
        rw (chain.head, chain.count) (follows ends.tail None fs chain.linked chain.tail (λ f some. mine-owned f (let e = each f in omega (arith, e, some)))),
      )
