-- The tests of frames' custody and slots' phases hold exactly if they are the same.
use Rattle.std.proofs.Common.{ℕ, ◌≡◌, Bool, true, false, not, ◌&&◌, nat_eq, Option, None, Some, refl, sym, ap, ◌∙◌}
use Rattle.std.proofs.lemmas.Bool.{eq-eqb, eqb-true, and_parts}
use Rattle.kc_types.specs.declared.owner.Owner.{Owner}
use Rattle.kc_types.specs.declared.slot.Phase.{Phase}
use Rattle.kc_types.specs.declared.slot.Phase.TheVariants.{Empty, Booting, Active, Dead}
use Rattle.kc_types.specs.declared.custody.Custody.{Custody}
use Rattle.kc_model.specs.State.{State, slot_at}
use Rattle.kc_model.specs.Lawful.{same_owner}
use Rattle.kc_model.proofs.States.Owners.{same-itself, same-is}
use Rattle.kc_model.specs.Custody.{custody_at, same_custody, same_gfn, same_flag, has_moved, same_phase, has_turned}

same_gfn-refl : (g : Option ℕ) → same_gfn g g ≡ true
same_gfn-refl None = refl
same_gfn-refl (Some g) = eq-eqb g g refl

same_flag-refl : (b : Bool) → same_flag b b ≡ true
same_flag-refl true = refl
same_flag-refl false = refl

four : (a b c d : Bool) → a ≡ true → b ≡ true → c ≡ true → d ≡ true → (a && b && c && d) ≡ true
four a b c d x y z w = rw (x, y, z, w) refl

pub same_custody-refl : (c : Custody) → same_custody c c ≡ true
same_custody-refl c = four _ _ _ _ (same-itself c.owner) (same_gfn-refl c.gfn) (eq-eqb c.share c.share refl) (same_flag-refl c.present)

gfn-is : (a b : Option ℕ) → same_gfn a b ≡ true → a ≡ b
gfn-is None None e = refl
gfn-is None (Some h) e = cc
gfn-is (Some g) None e = cc
gfn-is (Some g) (Some h) e = ap Some (eqb-true g h e)

flag-is : (a b : Bool) → same_flag a b ≡ true → a ≡ b
flag-is true true e = refl
flag-is true false e = cc
flag-is false true e = cc
flag-is false false e = refl

abbrev custody : Owner → Option ℕ → ℕ → Bool → Custody
custody owner gfn share present = record { owner = owner; gfn = gfn; share = share; present = present }

-- two custodies that pass the test are the same
pub same_custody-is : (a b : Custody) → same_custody a b ≡ true → a ≡ b
same_custody-is a b e =
    let three = and_parts (same_owner a.owner b.owner && same_gfn a.gfn b.gfn && nat_eq a.share b.share) (same_flag a.present b.present) e in
    let two = and_parts (same_owner a.owner b.owner && same_gfn a.gfn b.gfn) (nat_eq a.share b.share) three.0 in
    let one = and_parts (same_owner a.owner b.owner) (same_gfn a.gfn b.gfn) two.0 in
    let owner : a.owner ≡ b.owner = same-is a.owner b.owner one.0 in
    let gfn : a.gfn ≡ b.gfn = gfn-is a.gfn b.gfn one.1 in
    let share : a.share ≡ b.share = eqb-true a.share b.share two.1 in
    let present : a.present ≡ b.present = flag-is a.present b.present three.1 in
    let first : custody a.owner a.gfn a.share a.present ≡ custody b.owner b.gfn a.share a.present = rw (owner, gfn) refl in
    let second : custody b.owner b.gfn a.share a.present ≡ custody b.owner b.gfn b.share b.present = rw (share, present) refl in
    first ∙ second

-- if the negation is false, the proposition is true
not-is : (b : Bool) → not b ≡ false → b ≡ true
not-is true h = refl
not-is false h = cc

-- a frame of the same custody has not moved
pub not-moved : (old new : State) (f : ℕ) → custody_at new f ≡ custody_at old f → has_moved old new f ≡ false
not-moved old new f same = ap (λ c. not (same_custody (custody_at old f) c)) same ∙ ap not (same_custody-refl (custody_at old f))

-- a frame that has not moved is of the same custody
pub is-same : (old new : State) (f : ℕ) → has_moved old new f ≡ false → custody_at new f ≡ custody_at old f
is-same old new f still = sym (same_custody-is (custody_at old f) (custody_at new f) (not-is (same_custody (custody_at old f) (custody_at new f)) still))

pub same_phase-refl : (p : Phase) → same_phase p p ≡ true
same_phase-refl Empty = refl
same_phase-refl Booting = refl
same_phase-refl Active = refl
same_phase-refl Dead = refl

-- a slot of the same phase has not turned
pub not-turned : (old new : State) (v : ℕ) → (slot_at new v).phase ≡ (slot_at old v).phase → has_turned old new v ≡ false
not-turned old new v same = ap (λ p. not (same_phase (slot_at old v).phase p)) same ∙ ap not (same_phase-refl (slot_at old v).phase)
