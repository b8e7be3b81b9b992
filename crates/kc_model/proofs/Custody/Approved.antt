-- A slot that becomes active has a boot that is approved.
use Rattle.std.proofs.Common.{ℕ, ◌≡◌, inl, inr, Bool, true, false, cond, List, [], ◌∷◌, All, refl, sym, ap, subst, ◌∙◌}
use Rattle.std.specs.Prelude.{◌==◌, Contains}
use Rattle.std.specs.List.{list_any, list_all}
use Rattle.std.proofs.lemmas.Bool.{eqb-true}
use Rattle.std.proofs.lemmas.List.Elements.{All-map}
use Rattle.std.proofs.lemmas.List.Folds.{Any-from_list_any}
use Rattle.std.proofs.lemmas.List.Sums.{AllPass-from_list_all}
use Rattle.kc_types.specs.Configuration.{measures_launch}
use Rattle.kc_types.specs.declared.call.Call.{Call}
use Rattle.kc_types.specs.declared.call.Call.TheVariants.{Verify}
use Rattle.kc_types.specs.declared.reply.Reply.{Reply}
use Rattle.kc_types.specs.declared.reply.Reply.TheVariants as reply
use Rattle.kc_types.specs.declared.custody.MeasuredImage.{MeasuredImage}
use Rattle.kc_model.specs.State.{State, slot_at}
use Rattle.kc_model.specs.Effects.{same_bytes, is_approved, launch_digest, is_launch_approved, is_boot_approved}
use Rattle.kc_model.specs.Next.{next}
use Rattle.kc_model.specs.Safety.{IsActive, Measures}
use Rattle.kc_model.specs.Custody.{has_turned, measured_image, measured_images}
use Rattle.kc_model.proofs.Safe.Measured.{becomes_active}
use Rattle.kc_model.proofs.Custody.Same.{not-turned}

-- bytes are the same if the test says so
pub same_bytes-is : (xs ys : List ℕ) → same_bytes xs ys ≡ true → xs ≡ ys
same_bytes-is [] [] same = refl
same_bytes-is [] (y ∷ ys) same = cc
same_bytes-is (x ∷ xs) [] same = cc
same_bytes-is (x ∷ xs) (y ∷ ys) same = by_first (x == y) refl (same_bytes-is xs ys) same
  where
    by_first : (first : Bool) → (x == y) ≡ first → (same_bytes xs ys ≡ true → xs ≡ ys) → cond first (same_bytes xs ys) false ≡ true → x ∷ xs ≡ y ∷ ys
    by_first true is later rest = rw (eqb-true x y is, later rest) refl
    by_first false is later rest = cc

-- a digest that passes is one of the list
listed : (approved : List (List ℕ)) (digest : List ℕ) → list_any (λ other. same_bytes other digest) approved ≡ true → Contains approved digest
listed approved digest any =
    let found = Any-from_list_any (λ other. same_bytes other digest) approved any in
    subst (λ other. Contains approved other) (same_bytes-is found.1 digest found.4) (found.0, found.2, found.3)

-- a call that measures a slot finds its boot approved
found-approved : (v : ℕ) (m : State) (call : Call) (answer : Reply) → Measures v m call answer → is_boot_approved m v ≡ true
found-approved v m (Verify w) reply.Done measures = measures.1
found-approved v m _ _ measures = absurd measures

boot-approved : (m : State) (call : Call) (v : ℕ) → has_turned m (next m call).1 v ≡ true → IsActive (next m call).1 v → is_boot_approved m v ≡ true
boot-approved m call v turned active = elim (becomes_active v m call active) [
  | inl before ↦ let still = not-turned m (next m call).1 v (active ∙ sym before.1) in absurd cc
  | inr measures ↦ found-approved v m call _ measures
]

pub all_approved : (m : State) (call : Call) (v : ℕ) → measures_launch m.config.version ≡ false → has_turned m (next m call).1 v ≡ true → IsActive (next m call).1 v
    → All (λ (image : MeasuredImage). Contains m.config.approved image.digest) (measured_images m v)
all_approved m call v each turned active =
    let passes : list_all (is_approved m v) (slot_at m v).images ≡ true = sym (ap (λ whole. cond whole (is_launch_approved m v) (list_all (is_approved m v) (slot_at m v).images)) each) ∙ boot-approved m call v turned active in
    let all = AllPass-from_list_all (is_approved m v) (slot_at m v).images passes in
    All-map (λ (image : MeasuredImage). Contains m.config.approved image.digest) (measured_image m v) (slot_at m v).images (λ i d lt. listed m.config.approved _ (all i d lt))

pub launch_approved : (m : State) (call : Call) (v : ℕ) → measures_launch m.config.version ≡ true → has_turned m (next m call).1 v ≡ true → IsActive (next m call).1 v → Contains m.config.approved (launch_digest m v)
launch_approved m call v whole turned active =
    listed m.config.approved (launch_digest m v) (sym (ap (λ whole. cond whole (is_launch_approved m v) (list_all (is_approved m v) (slot_at m v).images)) whole) ∙ boot-approved m call v turned active)
