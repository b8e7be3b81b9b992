-- An owner, kept as a number.
use Rattle.std.specs.Prelude.{ℕ, suc, zero, ◌+◌, refl}
use Rattle.std.proofs.Common.{◌≡◌, arith}
use Rattle.kc_types.specs.declared.owner.Owner.{Owner}
use Rattle.kc_types.specs.declared.owner.Owner.TheVariants.{Core, Host, Free, Vm}

-- the owner that a number keeps
abbrev pub owner_of : ℕ → Owner
owner_of zero = Core
owner_of (suc zero) = Host
owner_of (suc (suc zero)) = Free
owner_of (suc (suc (suc v))) = Vm v

-- the number that keeps an owner
abbrev pub code_of : Owner → ℕ
code_of Core = 0
code_of Host = 1
code_of Free = 2
code_of (Vm v) = v + 3

-- each number is the one that keeps its owner
pub back_owner : (n : ℕ) → code_of (owner_of n) ≡ n
back_owner zero = refl
back_owner (suc zero) = refl
back_owner (suc (suc zero)) = refl
back_owner (suc (suc (suc v))) = omega arith
