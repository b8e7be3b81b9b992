-- When two owners are the same.
use Rattle.std.proofs.Common.{◌≡◌, true, eq-eqb, refl, ap}
use Rattle.std.proofs.lemmas.Bool.{eqb-true}
use Rattle.kc_types.specs.declared.owner.Owner.{Owner}
use Rattle.kc_types.specs.declared.owner.Owner.TheVariants.{Core, Host, Free, Vm}
use Rattle.kc_model.specs.Lawful.{same_owner}

pub same-itself : (owner : Owner) → same_owner owner owner ≡ true
same-itself Core = refl
same-itself Host = refl
same-itself Free = refl
same-itself (Vm v) = eq-eqb v v refl

pub same-is : (a b : Owner) → same_owner a b ≡ true → a ≡ b
same-is Core Core h = refl
same-is Core Host h = cc
same-is Core Free h = cc
same-is Core (Vm w) h = cc
same-is Host Core h = cc
same-is Host Host h = refl
same-is Host Free h = cc
same-is Host (Vm w) h = cc
same-is Free Core h = cc
same-is Free Host h = cc
same-is Free Free h = refl
same-is Free (Vm w) h = cc
same-is (Vm v) Core h = cc
same-is (Vm v) Host h = cc
same-is (Vm v) Free h = cc
same-is (Vm v) (Vm w) h = ap Vm (eqb-true v w h)
