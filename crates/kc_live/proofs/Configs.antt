-- What a comparison of two configurations shows.
use Rattle.std.proofs.Common.{◌≡◌, ℕ, Bool, true, ◌&&◌, eqb, nat_eq, List, [], ◌∷◌, refl, ap, sym, ◌∙◌}
use Rattle.std.specs.Prelude.{IsTrue, ◌↔◌}
use Rattle.std.specs.Cmp.Lexicographic.{pointwise, same_text}
use Rattle.std.proofs.lemmas.Bool.{and_parts, eq-eqb, eqb-true, false≢true}
use Rattle.kc_types.specs.Configuration.{Configuration}
use denote.Enum.Bare.{sameb}
use Rattle.kc_types.specs.contracts.version.Version.{the_type}
use Rattle.kc_types.specs.declared.version.Version.{Version}
use Rattle.kc_types.specs.declared.version.Version.TheVariants.{One, Two, Three}

same_lists : (xs ys : List (List ℕ)) → pointwise (pointwise nat_eq) xs ys ≡ true → xs ≡ ys
same_lists [] [] h = refl
same_lists [] (y ∷ ys) h = absurd (false≢true h)
same_lists (x ∷ xs) [] h = absurd (false≢true h)
same_lists (x ∷ xs) (y ∷ ys) h =
    let both = and_parts (pointwise nat_eq x y) (pointwise (pointwise nat_eq) xs ys) h in
    rw (same_text x y (sym both.0), same_lists xs ys both.1) refl

text_itself : (xs : List ℕ) → pointwise nat_eq xs xs ≡ true
text_itself [] = refl
text_itself (x ∷ xs) = rw (eq-eqb x x refl, text_itself xs) refl

lists_themselves : (xs : List (List ℕ)) → pointwise (pointwise nat_eq) xs xs ≡ true
lists_themselves [] = refl
lists_themselves (x ∷ xs) = rw (text_itself x, lists_themselves xs) refl

version_itself : (version : Version) → sameb the_type version version ≡ true
version_itself One = refl
version_itself Two = refl
version_itself Three = refl

version_is : (a b : Version) → sameb the_type a b ≡ true → a ≡ b
version_is One One h = refl
version_is One Two h = absurd (false≢true h)
version_is One Three h = absurd (false≢true h)
version_is Two One h = absurd (false≢true h)
version_is Two Two h = refl
version_is Two Three h = absurd (false≢true h)
version_is Three One h = absurd (false≢true h)
version_is Three Two h = absurd (false≢true h)
version_is Three Three h = refl

abbrev same : Configuration → Configuration → Bool
same a b = sameb the_type a.version b.version && (eqb a.frames b.frames && (eqb a.core b.core && (eqb a.host b.host && (eqb a.leaves b.leaves && pointwise (pointwise nat_eq) a.approved b.approved))))

same_itself : (a : Configuration) → same a a ≡ true
same_itself a = rw (version_itself a.version, eq-eqb a.frames a.frames refl, eq-eqb a.core a.core refl, eq-eqb a.host a.host refl, eq-eqb a.leaves a.leaves refl, lists_themselves a.approved) refl

same_parts : (a b : Configuration) → same a b ≡ true → a ≡ b
same_parts a b h =
    let p = and_parts (sameb the_type a.version b.version) _ h in
    let p0 = and_parts (eqb a.frames b.frames) _ p.1 in
    let p1 = and_parts (eqb a.core b.core) _ p0.1 in
    let p2 = and_parts (eqb a.host b.host) _ p1.1 in
    let p3 = and_parts (eqb a.leaves b.leaves) _ p2.1 in
    let version = version_is a.version b.version p.0 in
    let frames = eqb-true a.frames b.frames p0.0 in
    let core = eqb-true a.core b.core p1.0 in
    let host = eqb-true a.host b.host p2.0 in
    let leaves = eqb-true a.leaves b.leaves p3.0 in
    let approved = same_lists a.approved b.approved p3.1 in
    let parts : a ≡ record { version = b.version; frames = b.frames; core = b.core; host = b.host; leaves = b.leaves; approved = b.approved } = rw (← version, ← frames, ← core, ← host, ← leaves, ← approved) refl in
    parts

-- the test of each part is the test of the whole
pub same_config : (a b : Configuration) (r : Bool) → r ≡ same a b → IsTrue r ↔ (a ≡ b)
same_config a b r told = (λ yes. same_parts a b (sym told ∙ yes), λ equal. told ∙ (ap (same a) (sym equal) ∙ same_itself a))
