-- The changes among events, of one slot if one is named.
use Rattle.std.proofs.Common.{ℕ, ◌≡◌, Bool, true, false, cond, List, [], ◌∷◌, map, filter, Option, Some, None, refl, ap}
use Rattle.kc_types.specs.declared.custody.Change.{Change}
use Rattle.kc_types.specs.declared.custody.Event.{Event}
use Rattle.kc_types.specs.declared.custody.Event.TheVariants as event
use Rattle.kc_model.specs.Events.{changes_in}
use Rattle.kc_custody.specs.Selected.{is_for, is_selected, selected}

all : (told : List Event) → filter (is_selected None) told ≡ map event.Change (changes_in told)
all [] = refl
all (event.Change change ∷ more) = ap (λ rest. event.Change change ∷ rest) (all more)
all (event.Read v ∷ more) = all more
all (event.Write v ∷ more) = all more

of-one : (v : ℕ) (told : List Event) → filter (is_selected (Some v)) told ≡ map event.Change (filter (is_for v) (changes_in told))
of-one v [] = refl
of-one v (event.Change change ∷ more) = by_test (is_for v change) _ _ (of-one v more)
  where
    by_test : (b : Bool) (rest : List Event) (changes : List Change) → rest ≡ map event.Change changes → cond b (event.Change change ∷ rest) rest ≡ map event.Change (cond b (change ∷ changes) changes)
    by_test true rest changes same = ap (λ rest. event.Change change ∷ rest) same
    by_test false rest changes same = same
of-one v (event.Read w ∷ more) = of-one v more
of-one v (event.Write w ∷ more) = of-one v more

pub picked : (vm : Option ℕ) (told : List Event) → filter (is_selected vm) told ≡ map event.Change (selected vm (changes_in told))
picked None told = all told
picked (Some v) told = of-one v told
