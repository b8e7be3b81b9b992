-- What principals may have at the start.
use Rattle.std.proofs.Common.{◌≡◌, ℕ, ◌+◌, ◌<◌, ◌^◌, Bool, ◌&&◌, ◌||◌, List, [], length, get_or, set, take, replicate, refl, sym, ◌∙◌, ap, arith}
use Rattle.std.specs.Prelude.{eqb}
use Rattle.std.specs.List.{IsDistinct}
use Rattle.std.proofs.lemmas.List.{length-set, length-replicate}
use Rattle.std.proofs.lemmas.List.Folds.{list_any_more}
use Rattle.std.proofs.lemmas.Map.Keys.{IsDistinct-from_apart}
use Rattle.kc_model.proofs.States.Slots.{get_or-same}
use Rattle.kc_footprints.specs.Members.{has_member, with_member}
use Rattle.kc_footprints.specs.Planner.{Reached, HasOneOwnerEach, IsStart, has_pair}
use Rattle.kc_footprints.proofs.Near.{near_same}
use Rattle.kc_footprints.proofs.Added.{set_has, set_once}

-- the sets have the pairs so far
pub record AreOwned (size : ℕ) (pairs : List (ℕ × ℕ)) (sets : List (List ℕ)) : Type 0 where
  pub count : length sets ≡ size
  pub has : (p f : ℕ) → has_member (get_or sets p []) f ≡ has_pair pairs p f
  pub once : (p : ℕ) → IsDistinct eqb (get_or sets p [])

pub none_owned : (n : ℕ) → AreOwned n [] (replicate n [])
none_owned n = record {
  count = length-replicate n [];
  has = λ p f. let e : get_or {A = List ℕ} (replicate n []) p [] ≡ [] = get_or-same {X = List ℕ} n [] p in rw e refl;
  once = λ p. let e : get_or {A = List ℕ} (replicate n []) p [] ≡ [] = get_or-same {X = List ℕ} n [] p in rw e (IsDistinct-from_apart eqb [] (λ i j d low below. absurd (omega arith)));
}

pub owned_more : (n i p f : ℕ) (pairs : List (ℕ × ℕ)) (d : ℕ × ℕ) (a b : List (List ℕ)) → p < n → i < length pairs → (get_or pairs i d).0 ≡ p → (get_or pairs i d).1 ≡ f
    → b ≡ set a p (with_member (get_or a p []) f) → AreOwned n (take i pairs) a → AreOwned n (take (i + 1) pairs) b
owned_more n i p f pairs d a b low below first second is so_far =
    let there : p < length a = let c = so_far.count in omega arith in
    record {
      count = rw is (length-set a p (with_member (get_or a p []) f) ∙ so_far.count);
      has = λ q g.
          let more = list_any_more (λ (x : ℕ × ℕ). eqb x.0 q && eqb x.1 g) pairs i d below in
          set_has p f a b there is q g ∙ ap (λ (x : Bool). x || (eqb p q && eqb f g)) (so_far.has q g) ∙ sym (more ∙ rw (first, second) refl);
      once = λ q. set_once p f a b there is q (so_far.once q);
    }

-- if no frame has two owners, no principals are related
pub start_of : (n free : ℕ) (pairs : List (ℕ × ℕ)) (h : Reached) → n < 2 ^ 32 → HasOneOwnerEach pairs → AreOwned n pairs h.sets → h.near ≡ replicate n [] → h.freed ≡ replicate n 0 → IsStart n free pairs h
start_of n free pairs h few one owned near freed = record {
  exact = record {
    few = few;
    sets_len = owned.count;
    near_len = rw near (length-replicate n []);
    freed_len = rw freed (length-replicate n 0);
    freed_in = λ p f h. let none = rw (freed, get_or-same {X = ℕ} n 0 p) at h in cc;
    freed_low = λ p. rw (freed, get_or-same {X = ℕ} n 0 p) (omega arith);
    related = λ p q h. let none = rw (near, get_or-same {X = List ℕ} n [] p) at h in cc;
    shared = λ p q f bp bq hp hq. near_same h p q (one.same p q f (sym (owned.has p f) ∙ hp) (sym (owned.has q f) ∙ hq));
    once = owned.once;
  };
  sets = owned.has;
}
