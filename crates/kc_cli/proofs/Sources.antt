-- What is said of two sources if there is a third.
use Rattle.std.proofs.Common.{ℕ, ◌≡◌, ◌++◌, ◌∙◌, Bool, true, false, List, [], ◌∷◌, Option, Some, None, Result, Ok, Err, inl, inr, ap, sym, subst}
use Rattle.std.proofs.lemmas.List.{append-nil}
use Rattle.std.specs.Prelude.{IfSome}
use Rattle.std.specs.Io.KnownBytes.{Consumes, IsAtEnd}
use Rattle.kc_texts.specs.Ends.{ReadFailed, Seen, HasFailedRead, HasFailed}
use Rattle.kc_faults.specs.Outcomes.{TellsSources, TellsSink}
use Rattle.kc_faults.specs.declared.fault.TextFault.{TextFault}
use Rattle.kc_faults.specs.declared.fault.TextFault.TheVariants as texts

one_more : (start trace last : Seen) → HasFailedRead (start ∷ trace ∷ []) → HasFailedRead (start ∷ trace ∷ last ∷ [])
one_more start trace last (inl is) = inl is
one_more start trace last (inr (inl is)) = inr (inl is)
one_more start trace last (inr (inr never)) = absurd never

-- a fault that came before anything was read of the third
pub sources_with : {A B : Type 0} (start trace last : Seen) (f : TextFault) → TellsSources {A = A} (start ∷ trace ∷ []) (Err f) → last.failed ≡ false → TellsSources {A = B} (start ∷ trace ∷ last ∷ []) (Err f)
sources_with {A} {B} start trace last f h whole = record { ended = tt; read = λ e. one_more start trace last (h.read (let same : f ≡ texts.Read = cc in cc)); failed = by_source }
  where
    by_source : HasFailed (start ∷ trace ∷ last ∷ []) → ◌≡◌ {A = Result B TextFault} (Err f) (Err texts.Read)
    by_source (inl bad) = let e = h.failed (inl bad) in let same : f ≡ texts.Read = cc in cc
    by_source (inr (inl bad)) = let e = h.failed (inr (inl bad)) in let same : f ≡ texts.Read = cc in cc
    by_source (inr (inr (inl bad))) = cc
    by_source (inr (inr (inr never))) = absurd never

-- a fault of the third, after the two
pub sources_last : {A B : Type 0} (start trace last : Seen) (x : A) (f : TextFault) → TellsSources (start ∷ trace ∷ []) (Ok x) → (f ≡ texts.Read → ReadFailed last.failed last.had last.has) → (last.failed ≡ true → f ≡ texts.Read) → TellsSources {A = B} (start ∷ trace ∷ last ∷ []) (Err f)
sources_last {A} {B} start trace last x f h read bad = record { ended = tt; read = λ e. inr (inr (inl (read (let same : f ≡ texts.Read = cc in same)))); failed = by_source }
  where
    by_source : HasFailed (start ∷ trace ∷ last ∷ []) → ◌≡◌ {A = Result B TextFault} (Err f) (Err texts.Read)
    by_source (inl is) = let e = h.failed (inl is) in absurd cc
    by_source (inr (inl is)) = let e = h.failed (inr (inl is)) in absurd cc
    by_source (inr (inr (inl is))) = let same = bad is in cc
    by_source (inr (inr (inr never))) = absurd never

-- a fault of giving, of an engine that answers more; the sink took a beginning of what more is said of
pub sink_err : {A B : Type 0} (failed : Bool) (begun more untouched : Type 0) (f : TextFault) → (begun → more) → TellsSink {A = A} failed begun untouched (Err f) → TellsSink {A = B} failed more untouched (Err f)
sink_err failed begun more untouched f step h = record {
  write = λ e. (let one = h.write (let same : f ≡ texts.Write = cc in cc) in (one.0, step one.1));
  failed_is = λ bad. (let e = h.failed_is bad in let same : f ≡ texts.Write = cc in cc);
  kept = elim h.kept [
    | inl same ↦ inl same
    | inr e ↦ inr (let same : f ≡ texts.Write = cc in cc)
  ];
}

-- an answer, of an engine that answers more
pub sink_ok : {A B : Type 0} (failed : Bool) (begun untouched : Type 0) (x : A) (y : B) → TellsSink failed begun untouched (Ok x) → TellsSink failed begun untouched (Ok y)
sink_ok failed begun untouched x y h = record { write = λ e. absurd cc; failed_is = λ bad. let e = h.failed_is bad in absurd cc; kept = tt }

-- what holds of all that was read holds of what the source held
pub of_whole : (P : List ℕ → Type 0) (first now : Option (List ℕ)) (bytes : List ℕ) → Consumes first now bytes → IsAtEnd now → P bytes → IfSome first P
of_whole P None now bytes read end is = tt
of_whole P (Some text) None bytes read end is = absurd read
of_whole P (Some text) (Some rest) bytes read end is = subst P (sym (read ∙ ap (λ (more : List ℕ). bytes ++ more) end ∙ append-nil bytes)) is
