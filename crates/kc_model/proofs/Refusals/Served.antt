-- What is known of a call that is not refused.
use Rattle.std.proofs.Common.{ℕ, zero, suc, List, [], ◌∷◌, get_or, ◌≡◌, ◌<◌, ◌≤◌, ◌+◌, ◌⊎◌, inl, inr, Bool, true, false, not, ◌&&◌, ◌||◌, Option, Some, None, nat_lt, nat_eq, refl, arith}
use Rattle.std.proofs.lemmas.Grind.{common_steps}
use Rattle.std.proofs.lemmas.Bool.{leb-false, not-false}
use Rattle.kc_types.specs.declared.refusal.Refusal.{Refusal}
use Rattle.kc_types.specs.declared.call.Call.TheVariants.{HostFault, HostRead}
use Rattle.kc_types.specs.declared.owner.Owner.{Owner}
use Rattle.kc_types.specs.declared.owner.Owner.TheVariants.{Core, Host, Free, Vm}
use Rattle.kc_model.specs.State.{State, frame_at}
use Rattle.kc_model.specs.Refusals.{refusal, conditions, first_of_these, or_else, when, is_host}

or_else-none : (a b : Option Refusal) → or_else a b ≡ None → (a ≡ None) × (b ≡ None)
or_else-none None b h = (refl, h)
or_else-none (Some r) b h = cc

-- none of the conditions of a served call holds
pub none-of : (conditions : List (Option Refusal)) → first_of_these conditions ≡ None → (n : ℕ) → get_or conditions n None ≡ None
none-of [] served n = refl
none-of (condition ∷ later) served zero = (or_else-none condition (first_of_these later) served).0
none-of (condition ∷ later) served (suc n) = none-of later (or_else-none condition (first_of_these later) served).1 n

pub when-none : (b : Bool) (r : Refusal) → when b r ≡ None → b ≡ false
when-none true r h = cc
when-none false r h = refl

pub positive : (n : ℕ) → nat_eq n 0 ≡ false → 0 < n
positive n h = grind (arith, common_steps)

-- a frame that the host may reach
pub reachable : (owner : Owner) (share : ℕ) → (not (is_host owner) && nat_eq share 0) ≡ false → (owner ≡ Host) ⊎ (0 < share)
reachable Host share h = inl refl
reachable Core share h = inr (grind (arith, common_steps))
reachable Free share h = inr (grind (arith, common_steps))
reachable (Vm v) share h = inr (grind (arith, common_steps))

pub host_fault-served : (m : State) (f : ℕ) → refusal m (HostFault f) ≡ None → (f < m.config.frames) × (((frame_at m f).owner ≡ Host) ⊎ (0 < (frame_at m f).share))
host_fault-served m f served =
    let none = none-of (conditions m (HostFault f)) served in
    (leb-false _ _ (when-none _ _ (none 0)), reachable _ _ (when-none _ _ (none 1)))

pub range-served : (off len : ℕ) → (nat_eq len 0 || nat_lt 4096 (off + len)) ≡ false → (0 < len) × (off + len ≤ 4096)
range-served off len h = (grind (arith, common_steps), grind (arith, common_steps))

-- a served access of the host
pub record IsHostAccess (m : State) (f off len : ℕ) : Type 0 where
  pub frame : f < m.config.frames
  pub some : 0 < len
  pub within : off + len ≤ 4096
  pub present : (frame_at m f).present ≡ true

pub host_access-served : (m : State) (f off len : ℕ) → refusal m (HostRead f off len) ≡ None → IsHostAccess m f off len
host_access-served m f off len served =
    let none = none-of (conditions m (HostRead f off len)) served in
    let range = range-served off len (when-none _ _ (none 1)) in
    record {
      frame = leb-false _ _ (when-none _ _ (none 0));
      some = range.0;
      within = range.1;
      present = not-false _ (when-none _ _ (none 2));
    }
