use Rattle.std.proofs.Common.{ℕ, List, Option, Result, Ok, Err, length, arith, subst, sym, ◌∙◌}
use Rattle.std.proofs.lemmas.List.{take_all}
use Rattle.std.specs.Prelude.{OnErr, OnOk}
use Rattle.std.specs.Io.KnownBytes.{Appends}
use Rattle.kc_texts.specs.Written.{AppendsBeginning}
use Rattle.kc_faults.proofs.telling.say.Goals as goal

-- all of a text is a beginning of it
begun : {T E : Type 0} (r : Result T E) (old new : Option (List ℕ)) (text : List ℕ) → OnOk r (Appends old new text) → OnErr r (AppendsBeginning old new text) → AppendsBeginning old new text
begun (Ok x) old new text whole cut = (length text, subst (λ (taken : List ℕ). Appends old new taken) (sym (take_all (length text) text (omega arith))) whole)
begun (Err e) old new text whole cut = cut

pub returns-clause-begun : goal.returns-clause-begun
returns-clause-begun g c =
    let held = c.as_bytes.ensures.value ∙ c.deref.ensures.0 in
    begun c.write_whole.result _ _ _ (rw held at c.write_whole.ensures.ok) (rw held at c.write_whole.ensures.begun)
