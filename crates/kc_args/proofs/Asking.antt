-- What clap's clauses say of the program's command.
use Rattle.std.proofs.Common.{◌≡◌, ◌⊎◌, ◌^◌, ◌&&◌, ℕ, Bool, nat_lt, map, length, inl, inr, List, [], ◌∷◌, Option, Some, None, Result, Ok, Err, refl, ap, true, false, lt-ltb, ltb-true}
use Rattle.std.proofs.lemmas.Bool.{and_parts}
use Rattle.std.proofs.lemmas.List.{length-map}
use Rattle.std.specs.Option.{option_map_or}
use Rattle.std.specs.List.{list_all}
use Rattle.std.specs.Char.{digit_value}
use Rattle.std.specs.Result.{result_unwrap_or}
use Rattle.std.specs.Str.Parse.{AllDigits, ParsesUnsigned, digits_value, without_leading_plus}
use Rattle.std.specs.Prelude.{option_map}
use Rattle.std.specs.Box.{box_value}
use Rattle.std.specs.Prelude.{Box}
use Rattle.clap.specs.Words.{App, Text, Row, ReadsOne, is_simple, is_simple_and_free, subcommand_of, subcommand_name_of, subcommand_rows, subcommand_rows_of, fault_of, IsAmong}
use Rattle.clap.specs.declared.parser.matches.ArgMatches.{ArgMatches}
use Rattle.clap.specs.declared.parser.matches.ArgMatches.TheViews.{out-ArgMatches, out-SubCommand}
use Rattle.clap.specs.declared.parser.matches.SubCommand.{SubCommand}
use Rattle.clap.specs.declared.error.kind.ErrorKind.{ErrorKind}
use Rattle.clap.specs.declared.error.kind.ErrorKind.TheVariants.{OutOfMemory}
use Rattle.clap.proofs.OnLiterals.{clap_on_literals}
use Rattle.kc_args.specs.declared.job.Wanted.{Wanted}
use Rattle.kc_args.specs.declared.arguments.ArgFault.{ArgFault}
use Rattle.kc_args.specs.declared.arguments.ArgFault.TheVariants as faults
use Rattle.kc_args.specs.Commands.{kcore}
use Rattle.std.specs.Borrow.{Bor}
use Rattle.kc_args.specs.Options.{are_several, number_or_zero}
use Rattle.kc_args.specs.Arguments.{Asks, Contradicts, IsWantedIn, IsRefusalIn, HasStatus, IsRefusal}

pub kcore_is_simple : is_simple kcore ≡ true
unfolding clap_on_literals
kcore_is_simple = refl

pub kcore_is_free : is_simple_and_free kcore ≡ true
unfolding clap_on_literals
kcore_is_free = refl

-- a subcommand, if there is one, and its rows
abbrev pub Entered : Type 0
Entered = Option (Text × List Row)

-- what holds of the subcommand's name and rows holds of the subcommand
found_in : (Holds : Text → List Row → Type 0) (found : Text × List Row) (name : Text) (rows : List Row) → Some name ≡ Some found.0 → Some rows ≡ Some found.1 → Holds name rows → Holds found.0 found.1
found_in Holds found name rows n e h = let same : found.1 ≡ rows = cc in let named : found.0 ≡ name = cc in rw (same, named) h

asked_in : (entered : Entered) (name : Text) (rows : List Row) (asked : Wanted) → Some name ≡ option_map (λ p. p.0) entered → Some rows ≡ option_map (λ p. p.1) entered → IsWantedIn name rows asked → Asks entered asked
asked_in None name rows asked n e h = absurd cc
asked_in (Some found) name rows asked n e h = found_in (λ its of. IsWantedIn its of asked) found name rows n e h

pub asked_within : (arguments : List Text) (entered : Entered) (name : Text) (rows : List Row) (asked : Wanted) → entered ≡ subcommand_of kcore arguments → Some name ≡ option_map (λ p. p.0) entered → Some rows ≡ option_map (λ p. p.1) entered → IsWantedIn name rows asked → Asks (subcommand_of kcore arguments) asked
asked_within arguments entered name rows asked is n e h = rw is at (asked_in entered name rows asked n e h)

nothing_in : (Holds : Entered → Type 0) (entered : Entered) → None ≡ option_map (λ p. p.0) entered → Holds None → Holds entered
nothing_in Holds None n h = h
nothing_in Holds (Some found) n h = absurd cc

-- what holds without a subcommand holds if the parse found none
pub nothing_within : (Holds : Entered → Type 0) (arguments : List Text) (entered : Entered) → entered ≡ subcommand_of kcore arguments → None ≡ option_map (λ p. p.0) entered → Holds None → Holds (subcommand_of kcore arguments)
nothing_within Holds arguments entered is n h = rw is at (nothing_in Holds entered n h)

contradicts_in : (entered : Entered) (name : Text) (rows : List Row) (fault : ArgFault) → Some name ≡ option_map (λ p. p.0) entered → Some rows ≡ option_map (λ p. p.1) entered → IsRefusalIn name rows fault → Contradicts entered fault
contradicts_in None name rows fault n e h = absurd cc
contradicts_in (Some found) name rows fault n e h = found_in (λ its of. IsRefusalIn its of fault) found name rows n e h

pub refused_within : (arguments : List Text) (entered : Entered) (name : Text) (rows : List Row) (fault : ArgFault) → fault_of kcore arguments ≡ [] → entered ≡ subcommand_of kcore arguments → Some name ≡ option_map (λ p. p.0) entered → Some rows ≡ option_map (λ p. p.1) entered → IsRefusalIn name rows fault → IsRefusal arguments fault
refused_within arguments entered name rows faults.Memory none is n e h = tt
refused_within arguments entered name rows (faults.Message text status) none is n e h = absurd h
refused_within arguments entered name rows (faults.Clash clash) none is n e h = (none, rw is at (contradicts_in entered name rows (faults.Clash clash) n e h))

named_in : {Z : Type 0} (found : Option (Box SubCommand Z)) → option_map (λ b. (out-SubCommand (box_value b)).name.now) found ≡ option_map (λ p. p.0) (subcommand_rows found)
named_in None = refl
named_in (Some b) = refl

-- the name of the subcommand that the parse found
pub named : (m : ArgMatches) → subcommand_name_of m ≡ option_map (λ p. p.0) (subcommand_rows_of m)
named m = named_in (out-ArgMatches m).subcommand

pub refused_for : (arguments : List Text) (app : App) (kind : ErrorKind) (fault : ArgFault) → app ≡ kcore → (kind ≡ OutOfMemory) ⊎ IsAmong kind (fault_of app arguments) → HasStatus kind fault → IsRefusal arguments fault
refused_for arguments app kind faults.Memory same among h = tt
refused_for arguments app kind (faults.Message text status) same (inl none) h = absurd (h.0 none)
refused_for arguments app kind (faults.Message text status) same (inr among) h = (kind, rw same at among, h.1)
refused_for arguments app kind (faults.Clash clash) same among h = absurd h

digits_pass : (digits : List ℕ) → AllDigits 10 digits → list_all (λ digit. nat_lt (digit_value digit) 10) digits ≡ true
digits_pass [] each = refl
digits_pass (digit ∷ digits) each = rw (lt-ltb (digit_value digit) 10 each.0) (digits_pass digits each.1)

digits_are : (digits : List ℕ) → list_all (λ digit. nat_lt (digit_value digit) 10) digits ≡ true → AllDigits 10 digits
digits_are [] pass = tt
digits_are (digit ∷ digits) pass = let parts = and_parts _ _ pass in (ltb-true _ _ parts.0, digits_are digits parts.1)

abbrev is_number : ℕ → List ℕ → Bool
is_number limit digits = nat_lt 0 (length digits) && list_all (λ digit. nat_lt (digit_value digit) 10) digits && nat_lt (digits_value 10 digits) limit

-- what a text is parsed as, or 0
parsed : {E : Type 0} (bits : ℕ) (text : Text) (r : Result ℕ E) → ParsesUnsigned bits 10 text r → result_unwrap_or r 0 ≡ number_or_zero bits text
parsed bits text (Ok n) h =
    let digits = without_leading_plus text in
    rw (lt-ltb 0 (length digits) h.0.0.0, digits_pass digits h.0.0.1, lt-ltb (digits_value 10 digits) (2 ^ bits) h.0.1) h.1
parsed bits text (Err e) h = by_test (is_number (2 ^ bits) (without_leading_plus text)) refl
  where
    by_test : (b : Bool) → is_number (2 ^ bits) (without_leading_plus text) ≡ b → 0 ≡ number_or_zero bits text
    by_test false e = rw e refl
    by_test true e =
        let outer = and_parts _ _ e in
        let inner = and_parts _ _ outer.0 in
        absurd (h ((ltb-true _ _ inner.0, digits_are (without_leading_plus text) inner.1), ltb-true _ _ outer.1))

-- what is read of an option, as a number of this many bits, is what its text says
pub number_read : {E : Type 0} (bits : ℕ) (f : ℕ → ℕ) (G : Text → Result ℕ E → Type 0) (said : Option Text) (read : Option ℕ) → ((text : Text) (r : Result ℕ E) → G text r → ParsesUnsigned bits 10 text r)
    → (said ≡ None → read ≡ None) → ((text : Text) → said ≡ Some text → ReadsOne G text read)
    → option_map_or f read (f 0) ≡ option_map_or (λ text. f (number_or_zero bits text)) said (f 0)
number_read {E} bits f G None read gives none value = rw (none refl) refl
number_read {E} bits f G (Some text) (Some n) gives none value = ap f (parsed {E = E} bits text (Ok n) (gives text (Ok n) (value text refl)))
number_read {E} bits f G (Some text) None gives none value = let read = value text refl in ap f (parsed {E = E} bits text (Err read.0) (gives text (Err read.0) read.1))

pub nothing_refused : (arguments : List Text) (app : App) → app ≡ kcore → fault_of app arguments ≡ [] → fault_of kcore arguments ≡ []
nothing_refused arguments app same none = rw same at none

-- whether several files are named
pub several_named : (found : Option (List Text)) (files : List (Bor Text)) (count : ℕ) → Some (map (λ file. file.now) files) ≡ found → count ≡ length files → nat_lt 1 count ≡ are_several found
several_named found files count is long = rw (← is, long, length-map files (λ (file : Bor Text). file.now)) refl
