-- Why a call is refused: the first condition of its row that holds.
use Rattle.std.specs.Prelude.{ℕ, ◌+◌, ◌-◌, ◌/◌, Bool, true, false, not, ◌&&◌, ◌||◌, ◌==◌, nat_lt, nat_le, List, [], ◌∷◌, length, if◌then◌else◌, Option, Some, None, is_some, is_none}
use Rattle.std.specs.List.{list_any, range_with_len}
use Rattle.kc_types.specs.declared.call.Call.{Call}
use Rattle.kc_types.specs.declared.call.Call.TheVariants.{Take, Give, HostFault, HostRead, HostWrite, RegisterVm, RegisterVcpu, SetBoot, Remap, Verify, Map, GuestRead, GuestWrite, Grant, Revoke, GrantRange, RevokeRange, Drop, Clear}
use Rattle.kc_types.specs.declared.refusal.Refusal.{Refusal}
use Rattle.kc_types.specs.declared.refusal.Refusal.TheVariants.{BadVm, BadVcpu, BadFrame, BadGfn, BadRange, SlotUsed, NoVm, WrongPhase, VcpuUsed, NoVcpu, ImagesFull, Overlap, NoImage, ImageFull, ImageShort, NoFault, Mapped, NotMapped, NotHost, Protected, NotPresent, TablesFull, ShareFull, NotShared, Shared, NoFree}
use Rattle.kc_types.specs.declared.owner.Owner.{Owner}
use Rattle.kc_types.specs.declared.owner.Owner.TheVariants.{Host}
use Rattle.kc_types.specs.declared.slot.Phase.{Phase}
use Rattle.kc_types.specs.declared.slot.Phase.TheVariants.{Empty, Booting, Active}
use Rattle.kc_model.specs.State.{State, Image, frame_at, slot_at, vcpu_at, image_at, mapped_at}
use Rattle.kc_model.specs.Slot.{next_gfn_of}
use Rattle.kc_types.specs.Configuration.{slot_count, vcpus_of, gfns_of, most_images, most_image_bytes}
use Rattle.kc_types.specs.Limits.{page_size, leaf_entries, share_limit, range_limit}

-- the refusal if the condition holds
abbrev pub when : Bool → Refusal → Option Refusal
when condition refusal = if condition then Some refusal else None

abbrev pub or_else : Option Refusal → Option Refusal → Option Refusal
or_else None later = later
or_else (Some refusal) later = Some refusal

abbrev pub first_of_these : List (Option Refusal) → Option Refusal
first_of_these [] = None
first_of_these (refusal ∷ later) = or_else refusal (first_of_these later)

abbrev pub is_host : Owner → Bool
is_host Host = true
is_host _ = false

abbrev pub is_empty : Phase → Bool
is_empty Empty = true
is_empty _ = false

abbrev pub is_booting : Phase → Bool
is_booting Booting = true
is_booting _ = false

abbrev pub is_active : Phase → Bool
is_active Active = true
is_active _ = false

abbrev pub pages_of : ℕ → ℕ
pages_of len = (len + (page_size - 1)) / page_size

-- the conditions that several calls share
abbrev pub bad_vm : State → ℕ → Option Refusal
bad_vm m v = when (nat_le (slot_count m.config) v) BadVm

abbrev pub bad_vcpu : State → ℕ → Option Refusal
bad_vcpu m c = when (nat_le (vcpus_of m.config.version) c) BadVcpu

abbrev pub bad_frame : State → ℕ → Option Refusal
bad_frame m f = when (nat_le m.config.frames f) BadFrame

abbrev pub bad_gfn : State → ℕ → Option Refusal
bad_gfn m g = when (nat_le (gfns_of m.config.version) g) BadGfn

abbrev pub bad_range : ℕ → ℕ → Option Refusal
bad_range off len = when (len == 0 || nat_lt page_size (off + len)) BadRange

abbrev pub no_vm : State → ℕ → Option Refusal
no_vm m v = when (is_empty (slot_at m v).phase) NoVm

abbrev pub not_booting : State → ℕ → Option Refusal
not_booting m v = when (not (is_booting (slot_at m v).phase)) WrongPhase

abbrev pub not_active : State → ℕ → Option Refusal
not_active m v = when (not (is_active (slot_at m v).phase)) WrongPhase

abbrev pub no_vcpu : State → ℕ → ℕ → Option Refusal
no_vcpu m v c = when (not (vcpu_at m v c).registered) NoVcpu

abbrev pub not_mapped : State → ℕ → ℕ → Option Refusal
not_mapped m v g = when (is_none (mapped_at m v g)) NotMapped

abbrev pub not_host : State → ℕ → Option Refusal
not_host m f = when (not (is_host (frame_at m f).owner)) NotHost

abbrev pub not_present : State → ℕ → Option Refusal
not_present m f = when (not (frame_at m f).present) NotPresent

-- the frame at a mapped guest frame
abbrev pub backing : Option ℕ → ℕ
backing None = 0
backing (Some f) = f

abbrev pub share_at : State → ℕ → ℕ → ℕ
share_at m v g = (frame_at m (backing (mapped_at m v g))).share

-- the root slot of the guest frame has no leaf, and the pool has none left
abbrev pub tables_full : State → ℕ → ℕ → Option Refusal
tables_full m v g = when (not (list_any (λ root. root == g / leaf_entries) (slot_at m v).leaves) && nat_le m.config.leaves (length (slot_at m v).leaves)) TablesFull

-- two images have a guest frame in common
abbrev pub overlaps : ℕ → ℕ → Image → Bool
overlaps base len image = nat_lt base (image.base + pages_of image.len) && nat_lt image.base (base + pages_of len)

abbrev pub is_short : Image → Bool
is_short image = nat_lt image.pages (pages_of image.len)

-- the guest frame of the next page of an image
abbrev pub next_gfn : State → ℕ → ℕ → ℕ
next_gfn m v i = next_gfn_of (slot_at m v) i

-- the guest frame that a virtual processor waits for
abbrev pub pending : State → ℕ → ℕ → ℕ
pending m v c = backing (vcpu_at m v c).fault

-- why a virtual processor's read or write is refused
abbrev pub guest_access : State → ℕ → ℕ → ℕ → ℕ → ℕ → List (Option Refusal)
guest_access m v c g off len = bad_vm m v ∷ bad_vcpu m c ∷ bad_gfn m g ∷ bad_range off len ∷ no_vm m v ∷ not_active m v ∷ no_vcpu m v c ∷ []

-- why a virtual processor's call on a mapped guest frame is refused; `last` is the condition of its own
abbrev pub guest_frame : State → ℕ → ℕ → ℕ → Option Refusal → List (Option Refusal)
guest_frame m v c g last = bad_vm m v ∷ bad_vcpu m c ∷ bad_gfn m g ∷ no_vm m v ∷ not_active m v ∷ no_vcpu m v c ∷ not_mapped m v g ∷ last ∷ []

-- whether one of `n` numbers from `g` on passes the test
abbrev pub any_from : ℕ → ℕ → (ℕ → Bool) → Bool
any_from g n test = list_any test (range_with_len g n)

-- the same of a call on `n` mapped guest frames from `g` on
abbrev pub guest_range : State → ℕ → ℕ → ℕ → ℕ → Option Refusal → List (Option Refusal)
guest_range m v c g n last = bad_vm m v ∷ bad_vcpu m c
    ∷ when (nat_le (gfns_of m.config.version) g || nat_lt (gfns_of m.config.version) (g + n)) BadGfn
    ∷ when (n == 0 || nat_lt range_limit n) BadRange
    ∷ no_vm m v ∷ not_active m v ∷ no_vcpu m v c
    ∷ when (any_from g n (λ h. is_none (mapped_at m v h))) NotMapped
    ∷ last ∷ []

-- the conditions for which a call is refused, in the order in which they are tried
abbrev pub conditions : State → Call → List (Option Refusal)
conditions m Take = when (length m.free == 0) NoFree ∷ []
conditions m (Give f) = bad_frame m f ∷ not_host m f ∷ []
conditions m (HostFault f) = bad_frame m f ∷ when (not (is_host (frame_at m f).owner) && ((frame_at m f).share == 0)) Protected ∷ []
conditions m (HostRead f off len) = bad_frame m f ∷ bad_range off len ∷ not_present m f ∷ []
conditions m (HostWrite f off bytes) = bad_frame m f ∷ bad_range off (length bytes) ∷ not_present m f ∷ []
conditions m (RegisterVm v) = bad_vm m v ∷ when (not (is_empty (slot_at m v).phase)) SlotUsed ∷ []
conditions m (RegisterVcpu v c) = bad_vm m v ∷ bad_vcpu m c ∷ no_vm m v ∷ not_booting m v ∷ when (vcpu_at m v c).registered VcpuUsed ∷ []
conditions m (SetBoot v base len) = bad_vm m v
    ∷ when (nat_le (gfns_of m.config.version) base || nat_lt (gfns_of m.config.version) (base + pages_of len)) BadGfn
    ∷ when (len == 0 || nat_lt (most_image_bytes m.config.version) len) BadRange
    ∷ no_vm m v ∷ not_booting m v
    ∷ when (nat_le (most_images m.config.version) (length (slot_at m v).images)) ImagesFull
    ∷ when (list_any (overlaps base len) (slot_at m v).images) Overlap ∷ []
conditions m (Remap v i f) = bad_vm m v ∷ bad_frame m f ∷ no_vm m v ∷ not_booting m v
    ∷ when (nat_le (length (slot_at m v).images) i) NoImage
    ∷ when (not (is_short (image_at m v i))) ImageFull
    ∷ not_host m f ∷ tables_full m v (next_gfn m v i) ∷ []
conditions m (Verify v) = bad_vm m v ∷ no_vm m v ∷ not_booting m v
    ∷ when (length (slot_at m v).images == 0 || list_any is_short (slot_at m v).images) ImageShort ∷ []
conditions m (Map v c f) = bad_vm m v ∷ bad_vcpu m c ∷ bad_frame m f ∷ no_vm m v ∷ not_active m v ∷ no_vcpu m v c
    ∷ when (is_none (vcpu_at m v c).fault) NoFault
    ∷ when (is_some (mapped_at m v (pending m v c))) Mapped
    ∷ not_host m f ∷ tables_full m v (pending m v c) ∷ []
conditions m (GuestRead v c g off len) = guest_access m v c g off len
conditions m (GuestWrite v c g off bytes) = guest_access m v c g off (length bytes)
conditions m (Grant v c g) = guest_frame m v c g (when (nat_le share_limit (share_at m v g)) ShareFull)
conditions m (Revoke v c g) = guest_frame m v c g (when (share_at m v g == 0) NotShared)
conditions m (GrantRange v c g n) = guest_range m v c g n (when (any_from g n (λ h. nat_le share_limit (share_at m v h))) ShareFull)
conditions m (RevokeRange v c g n) = guest_range m v c g n (when (any_from g n (λ h. share_at m v h == 0)) NotShared)
conditions m (Drop v c g) = guest_frame m v c g (when (nat_lt 0 (share_at m v g)) Shared)
conditions m (Clear v) = bad_vm m v ∷ no_vm m v ∷ []

-- why a call is refused: the first of its conditions that holds
abbrev pub refusal : State → Call → Option Refusal
refusal m call = first_of_these (conditions m call)
