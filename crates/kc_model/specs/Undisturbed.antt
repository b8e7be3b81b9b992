-- What reaches a VM by a trace, and that nothing else changes what it is answered.
use Rattle.std.specs.Prelude.{ℕ, ◌≡◌, ◌⊎◌, ◌==◌, ◌&&◌, Bool, true, false, List, [], ◌∷◌, Option, Some, None, if◌then◌else◌, slice_index_or, length, replicate}
use Rattle.std.specs.List.{AllByRecursion}
use Rattle.std.specs.FinMap as map
use Rattle.kc_types.specs.Configuration.{Configuration, IsConfiguration, slot_count}
use Rattle.kc_types.specs.declared.call.Call.{Call}
use Rattle.kc_types.specs.declared.call.Call.TheVariants.{HostWrite, RegisterVm, RegisterVcpu, SetBoot, Remap, Verify, Map, GuestRead, GuestWrite, Clear}
use Rattle.kc_types.specs.declared.reply.Reply.{Reply}
use Rattle.kc_types.specs.declared.reply.Reply.TheVariants as reply
use Rattle.kc_types.specs.declared.refusal.Refusal.{Refusal}
use Rattle.kc_types.specs.declared.owner.Owner.TheVariants.{Core, Vm}
use Rattle.kc_types.specs.Slots.{slot_of}
use Rattle.kc_model.specs.State.{State, Frame, SlotOf, Slot, frame_at, slot_at, mapped_at, untouched}
use Rattle.kc_model.specs.Refusals.{refusal, backing, next_gfn, pending}
use Rattle.kc_model.specs.Next.{next, state_after}
use Rattle.kc_model.specs.Lawful.{IsLawful, same_owner}
use Rattle.kc_model.specs.Boot.{boot}
use Rattle.kc_model.specs.Blind.{Secret, IsPrivate, has_gfn, grants_secret}

-- what a VM has at a guest frame: how often the frame there is shared, and its bytes if the guest frame is watched
pub record Page : Type 0 where
  pub share : ℕ
  pub bytes : List ℕ

abbrev pub watched : (ℕ → Bool) → ℕ → List ℕ → List ℕ
watched s g bytes = if s g then bytes else []

abbrev pub page_of : (ℕ → Bool) → ℕ → Frame → Page
page_of s g frame = record { share = frame.share; bytes = watched s g frame.bytes }

abbrev pub page_under : (ℕ → Bool) → List Frame → ℕ → Option ℕ → Option Page
page_under s frames g None = None
page_under s frames g (Some f) = Some (page_of s g (slice_index_or frames f (untouched Core)))

abbrev pub page_at : (ℕ → Bool) → State → ℕ → ℕ → Option Page
page_at s m v g = page_under s m.frames g (mapped_at m v g)

-- a slot without the numbers of frames
abbrev pub own_slot : Slot → SlotOf (Unit {0})
own_slot there = record { phase = there.phase; vcpus = there.vcpus; images = there.images; frames = tt; mapped = map.empty; leaves = there.leaves }

-- the VM has the same in both states: the limits, its slot, and its pages by guest frames; which frames they are, and
-- all that belongs to others, may differ
pub record HasTheSame (s : ℕ → Bool) (v : ℕ) (m n : State) : Type 0 where
  pub slots : slot_count m.config ≡ slot_count n.config
  pub leaves : m.config.leaves ≡ n.config.leaves
  pub approved : m.config.approved ≡ n.config.approved
  pub slot : own_slot (slot_at m v) ≡ own_slot (slot_at n v)
  pub pages : (g : ℕ) → page_at s m v g ≡ page_at s n v g

-- what reaches a VM by a call: a call that names it; a page of an image, or one that a virtual processor waits for,
-- with its bytes; or bytes that the host writes to a page
pub data Input : Type 0 where
  own_call : Call → Input
  image_page : ℕ → List ℕ → Input
  fresh_page : ℕ → List ℕ → Input
  host_bytes : ℕ → ℕ → List ℕ → Input

-- the call without the bytes that it writes to guest frames that are not watched, but with their number
abbrev pub watched_call : (ℕ → Bool) → Call → Call
watched_call s (GuestWrite v c g off bytes) = GuestWrite v c g off (if s g then bytes else replicate (length bytes) 0)
watched_call s call = call

abbrev pub if_served : Option Refusal → Option Input → Option Input
if_served None input = input
if_served (Some refused) input = None

abbrev pub if_named : ℕ → Option ℕ → Option Input → Option Input
if_named v None input = None
if_named v (Some w) input = if w == v then input else None

-- what the host's write to a frame means for the VM: something only if the frame is at a watched guest frame
abbrev pub by_host : (ℕ → Bool) → ℕ → Frame → ℕ → List ℕ → Option Input
by_host s v frame off bytes = if same_owner frame.owner (Vm v) && has_gfn s frame.gfn then Some (host_bytes (backing frame.gfn) off bytes) else None

-- nothing reaches a VM by a refused call of the host, and by a call that does not name it only what the host writes to
-- its pages
abbrev pub input : (ℕ → Bool) → ℕ → State → Call → Option Input
input s v m (HostWrite f off bytes) = if_served (refusal m (HostWrite f off bytes)) (by_host s v (frame_at m f) off bytes)
input s v m (Remap w i f) = if_named v (Some w) (if_served (refusal m (Remap w i f)) (Some (image_page i (watched s (next_gfn m w i) (frame_at m f).bytes))))
input s v m (Map w c f) = if_named v (Some w) (if_served (refusal m (Map w c f)) (Some (fresh_page c (watched s (pending m w c) (frame_at m f).bytes))))
input s v m (RegisterVm w) = if_named v (Some w) (if_served (refusal m (RegisterVm w)) (Some (own_call (RegisterVm w))))
input s v m (RegisterVcpu w c) = if_named v (Some w) (if_served (refusal m (RegisterVcpu w c)) (Some (own_call (RegisterVcpu w c))))
input s v m (SetBoot w base len) = if_named v (Some w) (if_served (refusal m (SetBoot w base len)) (Some (own_call (SetBoot w base len))))
input s v m (Verify w) = if_named v (Some w) (if_served (refusal m (Verify w)) (Some (own_call (Verify w))))
input s v m (Clear w) = if_named v (Some w) (if_served (refusal m (Clear w)) (Some (own_call (Clear w))))
input s v m call = if_named v (slot_of call) (Some (own_call (watched_call s call)))

abbrev pub with_input : Option Input → List Input → List Input
with_input None later = later
with_input (Some first) later = first ∷ later

-- what reaches the VM by a trace, in order
abbrev pub inputs : (ℕ → Bool) → ℕ → State → List Call → List Input
inputs s v m [] = []
inputs s v m (call ∷ calls) = with_input (input s v m call) (inputs s v (next m call).1 calls)

-- a reply without the bytes of a page that is not watched
abbrev pub watched_reply : (ℕ → Bool) → Call → Reply → Reply
watched_reply s (GuestRead v c g off len) (reply.Data bytes) = reply.Data (watched s g bytes)
watched_reply s _ answer = answer

abbrev pub with_answer : (ℕ → Bool) → Option Input → Reply → List Reply → List Reply
with_answer s (Some (own_call call)) answer later = watched_reply s call answer ∷ later
with_answer s _ answer later = later

-- the replies to the calls of its virtual processors, and to the host's calls that name the VM and are served, except
-- hand-overs
abbrev pub answers : (ℕ → Bool) → ℕ → State → List Call → List Reply
answers s v m [] = []
answers s v m (call ∷ calls) = with_answer s (input s v m call) (next m call).0 (answers s v (next m call).1 calls)

abbrev pub verifies : ℕ → Call → Bool
verifies v (Verify w) = w == v
verifies v _ = false

-- all guest frames are watched, or the trace does not measure the VM
abbrev pub IsMeasuredWhole : (ℕ → Bool) → ℕ → List Call → Type 0
IsMeasuredWhole s v calls = ((g : ℕ) → s g ≡ true) ⊎ AllByRecursion (λ call. verifies v call ≡ false) calls

pub record IsTreatedAlike (s : ℕ → Bool) (v : ℕ) (m n : State) (calls others : List Call) : Type 0 where
  pub told : answers s v m calls ≡ answers s v n others
  pub states : HasTheSame s v (state_after m calls) (state_after n others)

-- noninterference (integrity): for every VM and every choice of watched guest frames, two traces by which the same
-- reaches it, from states in which it has the same, answer it the same and leave it the same, whatever else the host
-- and the other VMs do in them
abbrev pub TreatsAlike : State → List Call → Type 0
TreatsAlike m calls = (s : ℕ → Bool) (v : ℕ) (n : State) (others : List Call) → IsLawful n → HasTheSame s v m n
    → inputs s v m calls ≡ inputs s v n others → IsMeasuredWhole s v calls → IsTreatedAlike s v m n calls others

abbrev pub is_by_host : Input → Bool
is_by_host (host_bytes g off bytes) = true
is_by_host _ = false

-- if no watched page is shared, and the trace grants none, nothing that the host writes reaches the VM
abbrev pub KeepsUnwritten : State → List Call → Type 0
KeepsUnwritten m calls = (s : Secret) → IsPrivate s m → AllByRecursion (λ call. grants_secret s call ≡ false) calls → AllByRecursion (λ i. is_by_host i ≡ false) (inputs s.gfns s.vm m calls)

-- fewer guest frames may be watched at any time
abbrev pub WatchesFewer : State → Type 0
WatchesFewer m = (s t : ℕ → Bool) (v : ℕ) (n : State) → ((g : ℕ) → t g ≡ true → s g ≡ true) → HasTheSame s v m n → HasTheSame t v m n

pub record IsUndisturbed (m : State) (calls : List Call) : Type 0 where
  pub alike : TreatsAlike m calls
  pub unwritten : KeepsUnwritten m calls
  pub fewer : WatchesFewer m

-- the same from boot, compared to any other trace on any other machine with the same limits of a VM and the same
-- approved images, however many frames it has
abbrev pub IsUndisturbedFromBoot : Configuration → List Call → Type 0
IsUndisturbedFromBoot c calls = (s : ℕ → Bool) (v : ℕ) (d : Configuration) (others : List Call) → IsConfiguration d → slot_count c ≡ slot_count d → c.leaves ≡ d.leaves → c.approved ≡ d.approved
    → inputs s v (boot c) calls ≡ inputs s v (boot d) others → IsMeasuredWhole s v calls → IsTreatedAlike s v (boot c) (boot d) calls others
