-- What was taken out fits back, and gives what there was before.
use Rattle.std.proofs.Common.{◌≡◌, Bool, true, false, cond, refl}
use Rattle.std.specs.Prelude.{Option, Some, None}
use Rattle.std.specs.Option.{option_map}
use Rattle.kc_types.specs.declared.resource.Resource.{Resource}
use Rattle.kc_types.specs.declared.resource.Resource.TheVariants as resource
use Rattle.kc_parts.specs.Parts.{Held, page_at, vm_at}
use Rattle.kc_parts.specs.Cuts.{HeldPart, IsSplit, FitsInto}
use Rattle.kc_parts.specs.Cuts.HeldPart.{page_part, slot_part, ends_part}
use Rattle.kc_parts.proofs.Writing.{place-here}
use Rattle.kc_parts.proofs.Cells.{place-held}

none-of : {A : Type 0} → (part : A → HeldPart) (o : Option A) → option_map part o ≡ None → o ≡ None
none-of part None e = refl
none-of part (Some x) e = cc

-- what is in the one part was in the whole, and is not in the other
some-split : {A : Type 0} → (part : A → HeldPart) (b : Bool) (before rest taken : Option A) → ((x y : A) → part x ≡ part y → x ≡ y)
    → option_map part taken ≡ cond b (option_map part before) None → option_map part rest ≡ cond b None (option_map part before)
    → (x : A) → taken ≡ Some x → (before ≡ Some x) × (rest ≡ None)
some-split part true None rest None one took left x e = cc
some-split part true None rest (Some y) one took left x e = cc
some-split part true (Some z) rest None one took left x e = cc
some-split part true (Some z) rest (Some y) one took left x e = let same : y ≡ z = one y z cc in (cc, none-of part rest left)
some-split part false before rest None one took left x e = cc
some-split part false before rest (Some y) one took left x e = cc

pub split_fits : (before : Held) (test : Resource → Bool) (rest taken : Held) → IsSplit before test rest taken → FitsInto rest taken
split_fits before test rest taken split = record {
  pages = λ f page e.
      let both = some-split page_part (test (resource.Frame f)) (page_at before f) (page_at rest f) (page_at taken f) (λ x y same. cc) (split.taken_is (resource.Frame f)) (split.rest_is (resource.Frame f)) page e in
      (rw split.places (place-here before.numbers before.filled before.pages f (rw both.0 refl)), both.1);
  slots = λ v vm e.
      let both = some-split slot_part (test (resource.Vm v)) (vm_at before v) (vm_at rest v) (vm_at taken v) (λ x y same. cc) (split.taken_is (resource.Vm v)) (split.rest_is (resource.Vm v)) vm e in
      (rw split.slots (place-held before.vms.numbers before.vms.slots v vm both.0), both.1);
  ends = λ ends e.
      let both = some-split ends_part (test resource.Free) before.free rest.free taken.free (λ x y same. cc) (split.taken_is resource.Free) (split.rest_is resource.Free) ends e in
      both.1;
}
