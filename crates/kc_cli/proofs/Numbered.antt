-- The numbers of volumes that follow one another rise by one.
use Rattle.std.proofs.Common.{◌≡◌, ◌+◌, ℕ, suc, Bool, true, false, cond, List, [], ◌∷◌, length, Option, Some, None, refl, ap, sym, ◌∙◌, arith}
use Rattle.std.specs.Prelude.{IfSome}
use Rattle.kc_types.specs.Configuration.{Configuration}
use Rattle.kc_trace.specs.declared.header.Header.{Header}
use Rattle.kc_trace.specs.declared.header.Header.TheVariants.{One, Two, Three}
use Rattle.kc_trace.specs.declared.expected.Expected.{Expected}
use Rattle.kc_trace.specs.declared.expected.Expected.TheVariants.{After, AfterNumber}
use Rattle.kc_trace.specs.declared.volume_writer.VolumeEntry.{VolumeEntry}
use Rattle.kc_trace.specs.Expected.{MayHave, number_of, head_number}
use Rattle.kc_cli.specs.Traced.{Traced, expected_next}
use Rattle.kc_cli.specs.Custody.{AreVolumes, AreNumbered, entries_of, last_number, numbers_between}

-- a header that may come after a head has the next number
after_number : (config : Configuration) (number : ℕ) (digest : List ℕ) (flag : Bool) (header : Header) → MayHave config (cond flag (AfterNumber number) (After number digest)) header → head_number header ≡ Some (number + 1)
after_number config number digest true One may = absurd may
after_number config number digest true Two may = absurd may
after_number config number digest true (Three head) may = ap Some may.1
after_number config number digest false One may = absurd may
after_number config number digest false Two may = absurd may
after_number config number digest false (Three head) may = ap (λ place. Some (number_of place)) may.1

next_number : (config : Configuration) (volume : Traced) (header : Header) (number : ℕ) → head_number volume.header ≡ Some number → MayHave config (expected_next volume) header → head_number header ≡ Some (number + 1)
next_number config volume header number is may = by_header volume.header refl is may
  where
    by_header : (own : Header) → volume.header ≡ own → head_number volume.header ≡ Some number → MayHave config (expected_next volume) header → head_number header ≡ Some (number + 1)
    by_header One own is may = absurd (let none : None ≡ Some number = sym (ap head_number own) ∙ is in cc)
    by_header Two own is may = absurd (let none : None ≡ Some number = sym (ap head_number own) ∙ is in cc)
    by_header (Three head) own is may =
        let same : number_of head.position ≡ number = let both : Some (number_of head.position) ≡ Some number = sym (ap head_number own) ∙ is in cc in
        after_number config (number_of head.position) _ head.is_host_redacted header (rw own at may) ∙ ap (λ n. Some (n + 1)) same

-- the number before that of the first of some volumes
one_before : (first : ℕ) (entries : List VolumeEntry) (last : Option ℕ) → IfSome (numbers_between (Some (first + 1)) last) (λ numbers. numbers.last + 1 ≡ numbers.first + length entries)
    → IfSome (numbers_between (Some first) last) (λ numbers. numbers.last + 1 ≡ numbers.first + suc (length entries))
one_before first entries None is = tt
one_before first entries (Some last) is = omega (arith, is)

alone : (number : Option ℕ) → IfSome (numbers_between number number) (λ numbers. numbers.last + 1 ≡ numbers.first + 1)
alone None = tt
alone (Some number) = refl

numbered_more : (config : Configuration) (volume next : Traced) (volumes : List Traced) (named : Bool) (line : ℕ) → MayHave config (expected_next volume) next.header → AreNumbered (entries_of named (line + length volume.calls) (next ∷ volumes))
    → AreNumbered (entries_of named line (volume ∷ next ∷ volumes))
numbered_more config volume next volumes named line may others = by_number (head_number volume.header) refl
  where
    rest : List VolumeEntry
    rest = entries_of named (line + length volume.calls) (next ∷ volumes)

    by_number : (number : Option ℕ) → head_number volume.header ≡ number → AreNumbered (entries_of named line (volume ∷ next ∷ volumes))
    by_number None none = rw none tt
    by_number (Some number) some = let after = next_number config volume next.header number some may in rw some (one_before number rest (last_number rest) (rw after at others))

pub numbered : (config : Configuration) (expected : Expected) (sources : List (Option (List ℕ))) (volumes : List Traced) (named : Bool) (line : ℕ) → AreVolumes config expected sources volumes → AreNumbered (entries_of named line volumes)
numbered config expected sources [] named line are = tt
numbered config expected [] (volume ∷ volumes) named line are = absurd are
numbered config expected (source ∷ sources) (volume ∷ []) named line are = alone (head_number volume.header)
numbered config expected (source ∷ []) (volume ∷ next ∷ volumes) named line are = absurd are.3
numbered config expected (source ∷ other ∷ sources) (volume ∷ next ∷ volumes) named line are =
    numbered_more config volume next volumes named line are.3.0 (numbered config (expected_next volume) (other ∷ sources) (next ∷ volumes) named (line + length volume.calls) are.3)
