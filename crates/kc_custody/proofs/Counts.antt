-- No count of a life exceeds the number of events.
use Rattle.std.proofs.Common.{ℕ, ◌≤◌, Bool, true, false, cond, List, [], ◌∷◌, length, filter, arith}
use Rattle.std.proofs.lemmas.List.Sums.{length-filter, count_by-le-length}
use Rattle.kc_types.specs.declared.slot.Phase.TheVariants.{Empty, Booting}
use Rattle.kc_types.specs.declared.custody.Event.{Event}
use Rattle.kc_model.specs.Lives.{is_turn, life_in}

-- a life is no longer than the events after its registering
life-short : (v : ℕ) (more : List Event) → length (life_in v more) ≤ length more
life-short v [] = omega arith
life-short v (told ∷ more) = by_turns (is_turn v Booting told) (is_turn v Empty told) (life-short v more)
  where
    by_turns : (begins ends : Bool) → length (life_in v more) ≤ length more → length (cond begins [] (cond ends (told ∷ []) (told ∷ life_in v more))) ≤ length (told ∷ more)
    by_turns true ends rest = omega arith
    by_turns false true rest = omega arith
    by_turns false false rest = omega (arith, rest)

pub counted-short : (p : Event → Bool) (v : ℕ) (more : List Event) → length (filter p (life_in v more)) ≤ length more
counted-short p v more = omega (arith, length-filter p (life_in v more), count_by-le-length p (life_in v more), life-short v more)
