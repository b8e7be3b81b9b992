-- A principal gains a frame, and the free list what a slot may have.
use Rattle.std.proofs.Common.{◌≡◌, ℕ, ◌+◌, ◌<◌, ◌≤◌, true, ◌&&◌, ◌||◌, List, [], length, get_or, set, take, refl, sym, ◌∙◌, ap, arith, inl, inr}
use Rattle.std.specs.Prelude.{eqb}
use Rattle.std.proofs.lemmas.Bool.{and_from, cases_Bool, cases_eq, eq-eqb, or_left, or_right}
use Rattle.std.proofs.lemmas.Bool.Decides.{nat_tests}
use Rattle.std.proofs.lemmas.List.{get_or-set_same, get_or-set_other, length-set, take_all}
use Rattle.std.proofs.lemmas.List.Folds.{list_any_more}
use Rattle.kc_footprints.specs.Members.{has_member, with_member}
use Rattle.kc_footprints.specs.Planner.{Reached, members_of, is_near, is_related, IsExact, IsGrown, IsRelated, IsJoined, IsWider}
use Rattle.kc_footprints.proofs.Near.{near_is}
use Rattle.kc_footprints.proofs.Added.{other_set, set_has, set_once, set_grown}

-- the principal p is related to one more that may have the frame
pub related_more : (n p f : ℕ) (a b : Reached) (near : List (List ℕ)) → p < length b.near → has_member (members_of a p) f ≡ true → has_member (members_of a n) f ≡ true → near ≡ set b.near p (with_member (get_or b.near p []) n)
    → IsRelated n p f a b → IsRelated (n + 1) p f a (record { sets = b.sets; near = near; freed = b.freed })
related_more n p f a b near low has_p has_n is so_far = record {
  sets = so_far.sets;
  freed = so_far.freed;
  near_len = rw is (length-set b.near p (with_member (get_or b.near p []) n)) ∙ so_far.near_len;
  keeps = λ q r h. old q r (so_far.keeps q r h);
  only = λ q r h. grind (arith, nat_tests, raised q r, so_far.only q r, cases_Bool (is_related b q r));
  there = λ q under h. grind (arith, nat_tests, raised p q, so_far.there q, cases_Bool (is_related b p q));
}
  where
    raised : (q r : ℕ) → has_member (get_or near q []) r ≡ (is_related b q r || (eqb p q && eqb n r))
    raised = set_has p n b.near near low is

    old : (q r : ℕ) → is_related b q r ≡ true → has_member (get_or near q []) r ≡ true
    old q r h = raised q r ∙ or_left (is_related b q r) (eqb p q && eqb n r) h

-- principals stay near if the same ones are related, and more
near_stays : (a b : Reached) → ((p q : ℕ) → is_related a p q ≡ true → is_related b p q ≡ true) → (p q : ℕ) → is_near a p q ≡ true → is_near b p q ≡ true
near_stays a b more p q near =
    let was : (eqb p q || (is_related a p q || is_related a q p)) ≡ true = sym (near_is a p q) ∙ near in
    near_is b p q ∙ grind (arith, nat_tests, more p q, more q p, cases_Bool (is_related a p q), cases_Bool (is_related a q p), cases_Bool (is_related b p q))

-- m has the frame in the set of p, and b has the principals related to p too
module _ (size free p f n : ℕ) (a m b : Reached) (low : p < size) (exact : IsExact size free a) (added : m.sets ≡ set a.sets p (with_member (members_of a p) f)) (near : m.near ≡ a.near) (freed : m.freed ≡ a.freed)
    (count : n ≡ size) (related : IsRelated n p f m b) where
  sets : b.sets ≡ set a.sets p (with_member (members_of a p) f)
  sets = related.sets ∙ added

  there : p < length a.sets
  there = let l = exact.sets_len in omega arith

  has : (q g : ℕ) → has_member (members_of b q) g ≡ (has_member (members_of a q) g || (eqb p q && eqb f g))
  has = set_has p f a.sets b.sets there sets

  keeps : (q g : ℕ) → has_member (members_of a q) g ≡ true → has_member (members_of b q) g ≡ true
  keeps q g h = has q g ∙ or_left (has_member (members_of a q) g) (eqb p q && eqb f g) h

  grown : IsGrown a b
  grown = set_grown p f a.sets b.sets there sets

  same_freed : b.freed ≡ a.freed
  same_freed = related.freed ∙ freed

  related_p : (q g : ℕ) → q < size → f ≡ g → has_member (members_of b q) g ≡ true → is_related b p q ≡ true
  related_p q g below is h = related.there q (rw count below) (rw (is, ← related.sets) h)

  near_then : (q r g : ℕ) → q < size → r < size → has_member (members_of b q) g ≡ true → has_member (members_of b r) g ≡ true → is_near b q r ≡ true
  near_then q r g q_low r_low hq hr =
      let had_q = cases_Bool (has_member (members_of a q) g) in
      let had_r = cases_Bool (has_member (members_of a r) g) in
      let stays : is_near a q r ≡ true → is_near b q r ≡ true = near_stays a b (λ x y was. related.keeps x y (rw near was)) q r in
      let to_q : f ≡ g → is_related b p q ≡ true = λ is. related_p q g q_low is hq in
      let to_r : f ≡ g → is_related b p r ≡ true = λ is. related_p r g r_low is hr in
      grind (arith, nat_tests, has q g, has r g, exact.shared q r g q_low r_low, near_is b q r, cases_Bool (is_related b q r))

  pub joined : IsJoined size free p f a b
  joined = record {
    wider = record {
      exact = record {
        few = exact.few;
        sets_len = rw sets (length-set a.sets p (with_member (members_of a p) f)) ∙ exact.sets_len;
        near_len = related.near_len ∙ ap (λ (x : List (List ℕ)). length x) near ∙ exact.near_len;
        freed_len = ap (λ (x : List ℕ). length x) same_freed ∙ exact.freed_len;
        freed_in = λ q g h. keeps free g (exact.freed_in q g (rw (same_freed, (grown q (get_or a.freed q 0) (exact.freed_low q)).1) at h));
        freed_low = λ q. rw same_freed (grown q (get_or a.freed q 0) (exact.freed_low q)).0;
        related = λ q r h.
            elim (related.only q r h) [
              | inl old ↦ (let it = exact.related q r (rw near at old) in (it.0, keeps q it.0 it.1, keeps r it.0 it.2))
              | inr new ↦ (f, rw related.sets new.0, rw related.sets new.1)
            ];
        shared = near_then;
        once = λ q. set_once p f a.sets b.sets there sets q (exact.once q);
      };
      sets = has;
      grown = grown;
    };
    others = other_set p f a.sets b.sets there sets;
    freed = same_freed;
  }

-- the free list may have the first n of what the slot v may have
pub record IsFreeing (size free v n : ℕ) (a b : Reached) : Type 0 where
  pub wider : IsWider size free (λ p f. eqb free p && has_member (take n (members_of a v)) f) a b
  pub slot : members_of b v ≡ members_of a v
  pub freed : b.freed ≡ a.freed

-- those that it has taken over already
pub freeing_start : (size free v : ℕ) (a : Reached) → IsExact size free a → IsFreeing size free v (get_or a.freed v 0) a a
freeing_start size free v a exact = record {
  wider = record { exact = exact; sets = same; grown = λ p n under. (under, refl) };
  slot = refl;
  freed = refl;
}
  where
    same : (p f : ℕ) → has_member (members_of a p) f ≡ (has_member (members_of a p) f || (eqb free p && has_member (take (get_or a.freed v 0) (members_of a v)) f))
    same p f =
        grind (arith, nat_tests, exact.freed_in v f, cases_Bool (has_member (members_of a p) f), cases_Bool (has_member (take (get_or a.freed v 0) (members_of a v)) f))

-- one more of them
pub freeing_more : (size free v n f : ℕ) (a b c : Reached) → v < free → n < length (members_of a v) → get_or (members_of a v) n 0 ≡ f → IsFreeing size free v n a b → IsJoined size free free f b c → IsFreeing size free v (n + 1) a c
freeing_more size free v n f a b c low under at so_far joined = record {
  wider = record {
    exact = joined.wider.exact;
    sets = λ p g.
        joined.wider.sets p g ∙ ap (λ x. x || (eqb free p && eqb f g)) (so_far.wider.sets p g)
        ∙ rw (list_any_more (eqb g) (members_of a v) n 0 under, at)
        (grind (arith, nat_tests, cases_Bool (has_member (members_of a p) g), cases_Bool (has_member (take n (members_of a v)) g)));
    grown = λ p m below.
        let first = so_far.wider.grown p m below in
        let second = joined.wider.grown p m first.0 in
        (second.0, second.1 ∙ first.1);
  };
  slot = joined.others v (λ same. absurd (omega arith)) ∙ so_far.slot;
  freed = joined.freed ∙ so_far.freed;
}

-- after that all are there
pub freed_all : (size free v n : ℕ) (a b : Reached) → v < free → free < size → length (members_of a v) ≤ n → IsFreeing size free v n a b
    → IsWider size free (λ p f. eqb free p && has_member (members_of a v) f) a (record { sets = b.sets; near = b.near; freed = set b.freed v (length (members_of a v)) })
freed_all size free v n a b low free_low all so_far = record {
  exact = record {
    few = exact.few;
    sets_len = exact.sets_len;
    near_len = exact.near_len;
    freed_len = length-set b.freed v (length (members_of a v)) ∙ exact.freed_len;
    freed_in = λ p f h. (freed_at p).1 f h;
    freed_low = λ p. (freed_at p).0;
    related = exact.related;
    shared = λ p q f bp bq hp hq. near_stays b _ (λ x y is. is) p q (exact.shared p q f bp bq hp hq);
    once = exact.once;
  };
  sets = has;
  grown = so_far.wider.grown;
}
  where
    exact : IsExact size free b
    exact = so_far.wider.exact

    has : (p f : ℕ) → has_member (members_of b p) f ≡ (has_member (members_of a p) f || (eqb free p && has_member (members_of a v) f))
    has p f = rw (take_all n (members_of a v) all) at (so_far.wider.sets p f)

    now : List ℕ
    now = set b.freed v (length (members_of a v))

    freed_at : (p : ℕ) → (get_or now p 0 ≤ length (members_of b p)) × ((f : ℕ) → has_member (take (get_or now p 0) (members_of b p)) f ≡ true → has_member (members_of b free) f ≡ true)
    freed_at p =
        elim (cases_eq p v) [
          | inl same ↦
              (let at : get_or now v 0 ≡ length (members_of a v) = get_or-set_same b.freed v (length (members_of a v)) 0 (let l = exact.freed_len in omega arith) in
              rw (same, at, so_far.slot, take_all (length (members_of a v)) (members_of a v) (omega arith)) (omega arith, λ f h. has free f ∙ or_right (has_member (members_of a free) f) (eqb free free && has_member (members_of a v) f) (and_from (eqb free free) (has_member (members_of a v) f) (eq-eqb free free refl) h)))
          | inr differ ↦ rw (get_or-set_other b.freed v p (length (members_of a v)) 0 differ) (exact.freed_low p, exact.freed_in p)
        ]
