-- The replies to reads are bytes, and writes are done.
use Rattle.std.proofs.Common.{ℕ, ◌≡◌, List, true, None, Some, Option, is_some, refl}
use Rattle.kc_types.specs.ReplyBytes.{is_data, may_lack}
use Rattle.kc_types.specs.declared.call.Call.TheVariants.{HostRead, HostWrite, GuestRead, GuestWrite}
use Rattle.kc_model.specs.State.{State, mapped_at}
use Rattle.kc_model.specs.Refusals.{refusal}
use Rattle.kc_model.specs.Effects.{guest_read, guest_written}
use Rattle.kc_model.specs.Next.{next}

data-mapped : (m : State) (v c g off len : ℕ) (at : Option ℕ) → is_some at ≡ true → is_data (guest_read m v c g off len at).0 ≡ true
data-mapped m v c g off len None is = cc
data-mapped m v c g off len (Some f) is = refl

-- a guest frame that is mapped is read
pub guest-data : (m : State) (v c g off len : ℕ) → refusal m (GuestRead v c g off len) ≡ None → is_some (mapped_at m v g) ≡ true → is_data (next m (GuestRead v c g off len)).0 ≡ true
guest-data m v c g off len served is = unfold next in rw served (data-mapped m v c g off len (mapped_at m v g) is)

-- a frame that the host may read is read
pub host-data : (m : State) (f off len : ℕ) → refusal m (HostRead f off len) ≡ None → is_data (next m (HostRead f off len)).0 ≡ true
host-data m f off len served = unfold next in rw served refl

done-mapped : (m : State) (v c g off : ℕ) (bytes : List ℕ) (at : Option ℕ) → is_some at ≡ true → may_lack (GuestWrite v c g off bytes) (guest_written m v c g off bytes at).0 ≡ true
done-mapped m v c g off bytes None is = cc
done-mapped m v c g off bytes (Some f) is = refl

-- a guest frame that is mapped is written
pub guest-done : (m : State) (v c g off : ℕ) (bytes : List ℕ) → refusal m (GuestWrite v c g off bytes) ≡ None → is_some (mapped_at m v g) ≡ true → may_lack (GuestWrite v c g off bytes) (next m (GuestWrite v c g off bytes)).0 ≡ true
guest-done m v c g off bytes served is = unfold next in rw served (done-mapped m v c g off bytes (mapped_at m v g) is)

-- a frame that the host may write is written
pub host-done : (m : State) (f off : ℕ) (bytes : List ℕ) → refusal m (HostWrite f off bytes) ≡ None → may_lack (HostWrite f off bytes) (next m (HostWrite f off bytes)).0 ≡ true
host-done m f off bytes served = unfold next in rw served refl
