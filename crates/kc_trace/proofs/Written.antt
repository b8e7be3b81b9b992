-- Calls that were written are those of a trace.
use Rattle.std.proofs.Common.{◌≡◌, Bool, true, false, cond, List, [], ◌∷◌, ◌++◌, refl, inl, inr}
use Rattle.std.specs.List.{AllByRecursion, list_any}
use Rattle.std.proofs.lemmas.Bool.{cases_Bool, or_parts}
use Rattle.kc_trace.specs.declared.header.Header.TheVariants.{One, Two}
use Rattle.kc_types.specs.declared.call.Call.{Call}
use Rattle.kc_model.specs.Ranged.{IsRanged}
use Rattle.kc_trace.specs.Spelling.{is_range_call, header_of}
use Rattle.kc_trace.specs.Header.{IsHeader}
use Rattle.kc_trace.specs.Trace.{AreCalls}

in_the_second : (calls : List Call) → AllByRecursion IsRanged calls → AreCalls Two calls
in_the_second [] all = tt
in_the_second (call ∷ calls) all = ((all.0, refl), in_the_second calls all.1)

in_the_first : (calls : List Call) → list_any is_range_call calls ≡ false → AllByRecursion IsRanged calls → AreCalls One calls
in_the_first [] none all = tt
in_the_first (call ∷ calls) none all =
    let parts = or_parts (is_range_call call) (list_any is_range_call calls) none in
    ((all.0, rw parts.0 refl), in_the_first calls parts.1 all.1)

pub valid_header : (calls : List Call) → IsHeader (header_of calls)
unfolding header_of
valid_header calls = by_test (list_any is_range_call calls)
  where
    by_test : (b : Bool) → IsHeader (cond b Two One)
    by_test true = tt
    by_test false = tt

pub are_calls : (calls : List Call) → AllByRecursion IsRanged calls → AreCalls (header_of calls) calls
unfolding header_of
are_calls calls all =
    elim (cases_Bool (list_any is_range_call calls)) [
      | inl new ↦ rw new (in_the_second calls all)
      | inr old ↦ rw old (in_the_first calls old all)
    ]
