-- Which open lives an event is given to.
use Rattle.std.proofs.Common.{ℕ, ◌≡◌, ◌≢◌, ◌<◌, ◌==◌, ◌||◌, Bool, true, false, length, get_or, set, Some, None, refl, sym, ap, ◌∙◌, inl, inr, get_or-set_other, get_or-set_same}
use Rattle.std.proofs.Math.ListN.{length-set}
use Rattle.std.proofs.lemmas.Bool.{cases_eq, eqb-true, eq-eqb}
use Rattle.kc_types.specs.declared.owner.Owner.{Owner}
use Rattle.kc_types.specs.declared.owner.Owner.TheVariants.{Core, Host, Free, Vm}
use Rattle.kc_types.specs.declared.custody.FrameChange.{FrameChange}
use Rattle.kc_types.specs.declared.custody.Change.TheVariants as change
use Rattle.kc_types.specs.declared.custody.Event.{Event}
use Rattle.kc_types.specs.declared.custody.Event.TheVariants as event
use Rattle.kc_model.specs.Lives.{is_owned_by}
use Rattle.kc_custody.specs.declared.register.Register.{Register}
use Rattle.kc_custody.specs.Growing.{Growing, TakesIn, concerns}
use Rattle.kc_custody.specs.Grown.{no_life, HaveOwnPlaces, GivesTo}

some-is : (i j : ℕ) → Some i ≡ Some j → i ≡ j
some-is i j same = cc

-- the open life of one slot takes it in
pub gives-one : (w place ending : ℕ) (told : Event) (old new : Register) (was own : Growing) → new.places.items ≡ old.places.items → new.lives.items ≡ set old.lives.items place own
    → get_or old.places.items w None ≡ Some place → place < length old.lives.items → was ≡ get_or old.lives.items place no_life → TakesIn told ending was own → GivesTo (λ v. w == v) told ending old new
gives-one w place ending told old new was own places lives at here is takes = record {
  places = places;
  count = ap length lives ∙ length-set old.lives.items place own;
  taken = λ v i passes low marked. elim (cases_eq i place) [
    | inl same ↦ rw (lives, same, get_or-set_same old.lives.items place own no_life here, ← is) takes
    | inr other ↦ absurd (other (some-is i place (sym marked ∙ ap (λ v. get_or old.places.items v None) (sym (eqb-true w v passes)) ∙ at)))
  ];
  left = λ i none. elim (cases_eq i place) [
    | inl same ↦ absurd (none w (eq-eqb w w refl) (at ∙ ap Some (sym same)))
    | inr other ↦ ap (λ xs. get_or xs i no_life) lives ∙ get_or-set_other old.lives.items place i own no_life other
  ];
}

-- none is open in the slots that pass
pub gives-none : (passes : ℕ → Bool) (told : Event) (ending : ℕ) (old : Register) → ((v i : ℕ) → passes v ≡ true → i < length old.lives.items → get_or old.places.items v None ≢ Some i) → GivesTo passes told ending old old
gives-none passes told ending old none = record {
  places = refl;
  count = refl;
  taken = λ v i pass low at. absurd (none v i pass low at);
  left = λ i others. refl;
}

owner-is : (v : ℕ) (owner : Owner) → is_owned_by v owner ≡ true → owner ≡ Vm v
owner-is v Core owned = cc
owner-is v Host owned = cc
owner-is v Free owned = cc
owner-is v (Vm w) owned = ap Vm (eqb-true w v owned)

-- the owner of a frame before a change of it and its owner after it are two
pub gives-twice : (told : FrameChange) (ending : ℕ) (old mid new : Register) → HaveOwnPlaces old.places.items → told.before.owner ≢ told.after.owner
    → GivesTo (λ v. is_owned_by v told.before.owner) (event.Change (change.Frame told)) ending old mid → GivesTo (λ v. is_owned_by v told.after.owner) (event.Change (change.Frame told)) ending mid new
    → GivesTo (λ v. concerns v (event.Change (change.Frame told))) (event.Change (change.Frame told)) ending old new
gives-twice told ending old mid new apart differ first second = record {
  places = second.places ∙ first.places;
  count = second.count ∙ first.count;
  taken = λ v i passes low at. by_owner v i low at (is_owned_by v told.before.owner) (is_owned_by v told.after.owner) refl refl passes;
  left = λ i none. second.left i (λ v passes at. none v (or-right (is_owned_by v told.before.owner) (is_owned_by v told.after.owner) passes) (rw first.places at at)) ∙ first.left i (λ v passes at. none v (rw passes refl) at);
}
  where
    or-right : (b c : Bool) → c ≡ true → (b || c) ≡ true
    or-right true c is = refl
    or-right false c is = is

    by_owner : (v i : ℕ) → i < length old.lives.items → get_or old.places.items v None ≡ Some i → (had has : Bool) → is_owned_by v told.before.owner ≡ had → is_owned_by v told.after.owner ≡ has → (had || has) ≡ true
        → TakesIn (event.Change (change.Frame told)) ending (get_or old.lives.items i no_life) (get_or new.lives.items i no_life)
    by_owner v i low at true true was owned either = absurd (differ (owner-is v told.before.owner was ∙ sym (owner-is v told.after.owner owned)))
    by_owner v i low at true false was owned either =
        let kept = second.left i (λ w passes there. let other : is_owned_by v told.after.owner ≡ true = rw (apart w v i (rw first.places at there) at) at passes in let never = sym owned ∙ other in cc) in
        rw kept (first.taken v i was low at)
    by_owner v i low at false true was owned either =
        let kept = first.left i (λ w passes there. let other : is_owned_by v told.before.owner ≡ true = rw (apart w v i there at) at passes in let never = sym was ∙ other in cc) in
        rw kept at (second.taken v i owned (rw first.count low) (rw first.places at))
    by_owner v i low at false false was owned either = cc

-- and if they are one
pub gives-once : (told : FrameChange) (ending : ℕ) (old new : Register) → told.before.owner ≡ told.after.owner
    → GivesTo (λ v. is_owned_by v told.before.owner) (event.Change (change.Frame told)) ending old new → GivesTo (λ v. concerns v (event.Change (change.Frame told))) (event.Change (change.Frame told)) ending old new
gives-once told ending old new same first = record {
  places = first.places;
  count = first.count;
  taken = λ v i passes low at. first.taken v i (either (is_owned_by v told.before.owner) (is_owned_by v told.after.owner) (ap (is_owned_by v) same) passes) low at;
  left = λ i none. first.left i (λ v passes at. none v (rw passes refl) at);
}
  where
    either : (had has : Bool) → had ≡ has → (had || has) ≡ true → had ≡ true
    either true has one both = refl
    either false has one both = one ∙ both
