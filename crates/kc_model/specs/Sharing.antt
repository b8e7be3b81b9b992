-- How often a page is shared: as often as its own VM granted it, less the times that it took it back.
use Rattle.std.specs.Prelude.{ℕ, ◌≡◌, ◌==◌, ◌&&◌, ◌+◌, ◌-◌, nat_le, nat_lt, Bool, false, List, Some, if◌then◌else◌}
use Rattle.kc_types.specs.declared.call.Call.{Call}
use Rattle.kc_types.specs.declared.call.Call.TheVariants.{Grant, Revoke, GrantRange, RevokeRange}
use Rattle.kc_types.specs.declared.reply.Reply.{Reply}
use Rattle.kc_types.specs.declared.reply.Reply.TheVariants as reply
use Rattle.kc_types.specs.declared.owner.Owner.TheVariants.{Host, Vm}
use Rattle.kc_model.specs.State.{State, frame_at, mapped_at}
use Rattle.kc_model.specs.Safety.{EachStep}
use Rattle.kc_model.specs.Availability.{takes_page}

-- one of `n` guest frames from `h` on
abbrev pub is_within : ℕ → ℕ → ℕ → Bool
is_within g h n = nat_le h g && nat_lt g (h + n)

-- the number of grants of the page at a guest frame of a VM after a call with this reply
abbrev pub share_after : ℕ → ℕ → Call → Reply → ℕ → ℕ
share_after v g (Grant w c h) reply.Done share = if (w == v) && (h == g) then share + 1 else share
share_after v g (Revoke w c h) reply.Done share = if (w == v) && (h == g) then share - 1 else share
share_after v g (GrantRange w c h n) reply.Done share = if (w == v) && is_within g h n then share + 1 else share
share_after v g (RevokeRange w c h n) reply.Done share = if (w == v) && is_within g h n then share - 1 else share
share_after v g _ _ share = share

-- only the VM's own grants and revokes change it, while it has the page
abbrev pub CountsGrants : State → Call → Reply → State → Type 0
CountsGrants old call answer new = (v g f : ℕ) → mapped_at old v g ≡ Some f → takes_page v g call ≡ false → (frame_at new f).share ≡ share_after v g call answer (frame_at old f).share

-- and a page comes to a VM unshared
abbrev pub ComesUnshared : State → Call → Reply → State → Type 0
ComesUnshared old call answer new = (v f : ℕ) → (frame_at old f).owner ≡ Host → (frame_at new f).owner ≡ Vm v → (frame_at new f).share ≡ 0

pub record IsShared (m : State) (calls : List Call) : Type 0 where
  pub counted : EachStep CountsGrants m calls
  pub comes : EachStep ComesUnshared m calls
