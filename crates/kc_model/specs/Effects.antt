-- What each call that is not refused answers, and the state that it leaves.
use Rattle.std.specs.Prelude.{ℕ, ◌+◌, ◌-◌, ◌/◌, ◌%◌, Bool, true, false, not, ◌==◌, List, [], ◌∷◌, ◌++◌, length, take, filter, replicate, slice_set, slice_index_or, slice_range, if◌then◌else◌, Option, Some, None}
use Rattle.std.specs.Int.{w64, to_le_bytes}
use Rattle.std.specs.List.{list_any, list_all, flat_map, range_with_len}
use Rattle.std.specs.Option.{option_map}
use Rattle.std.specs.Ordering.{nat_cmp}
use Rattle.std.specs.FinMap as map
use Rattle.sha2.specs.Sha256.{sha256}
use Rattle.kc_types.specs.Configuration.{measures_launch}
use Rattle.kc_types.specs.Limits.{page_size, leaf_entries}
use Rattle.kc_types.specs.declared.call.Call.{Call}
use Rattle.kc_types.specs.declared.call.Call.TheVariants.{Take, Give, HostFault, HostRead, HostWrite, RegisterVm, RegisterVcpu, SetBoot, Remap, Verify, Map, GuestRead, GuestWrite, Grant, Revoke, GrantRange, RevokeRange, Drop, Clear}
use Rattle.kc_types.specs.declared.reply.Reply.{Reply}
use Rattle.kc_types.specs.declared.reply.Reply.TheVariants as reply
use Rattle.kc_types.specs.declared.owner.Owner.TheVariants.{Core, Host, Free, Vm}
use Rattle.kc_types.specs.declared.slot.Phase.{Phase}
use Rattle.kc_types.specs.declared.slot.Phase.TheVariants.{Booting, Active, Dead}
use Rattle.kc_model.specs.State.{State, Frame, Image, frame_at, slot_at, image_at, mapped_at, with_frame, with_slot, with_vcpu, overwritten, untouched, empty_slot, zero_page}
use Rattle.kc_model.specs.Slot.{in_phase, awaiting, with_image}
use Rattle.kc_model.specs.Refusals.{backing, pending, next_gfn, pages_of}

-- a reply and the state after it
abbrev pub Outcome : Type 0
Outcome = Reply × State

-- the reply has the frame's bytes from an offset on
abbrev pub read : Frame → ℕ → ℕ → Reply
read frame off len = reply.Data (slice_range frame.bytes off (off + len))

abbrev pub written : State → ℕ → ℕ → List ℕ → State
written m f off bytes = with_frame m f (record (frame_at m f) { bytes = overwritten (frame_at m f).bytes off bytes })

abbrev pub with_fault : State → ℕ → ℕ → Option ℕ → State
with_fault m v c fault = with_slot m v (awaiting (slot_at m v) c fault)

abbrev pub host_takes : State → List ℕ → Outcome
host_takes m [] = (reply.Done, m)
host_takes m (f ∷ rest) = (reply.Frame f, record (with_frame m f (record (frame_at m f) { owner = Host; present = false })) { free = rest })

abbrev pub given : State → ℕ → State
given m f = record (with_frame m f (record (frame_at m f) { owner = Free; present = false; bytes = zero_page })) { free = m.free ++ f ∷ [] }

-- the leaves, with one for the guest frame's root slot
abbrev pub with_leaf : List ℕ → ℕ → List ℕ
with_leaf leaves g = if list_any (λ root. root == g / leaf_entries) leaves then leaves else leaves ++ g / leaf_entries ∷ []

-- the frame becomes the slot's, at a guest frame
abbrev pub hand : State → ℕ → ℕ → ℕ → State
hand m v g f = with_slot (with_frame m f (record (frame_at m f) { owner = Vm v; gfn = Some g; present = false })) v
    (record (slot_at m v) {
      frames = (slot_at m v).frames ++ f ∷ [];
      mapped = map.insert (slot_at m v).mapped g f;
      leaves = with_leaf (slot_at m v).leaves g;
    })

-- the place of the first element that fails the test
abbrev pub first_failing : {X : Type 0} → (X → Bool) → List X → Option ℕ
first_failing test [] = None
first_failing test (x ∷ xs) = if test x then option_map (λ place. place + 1) (first_failing test xs) else Some 0

-- an image's guest frames
abbrev pub gfns_of : Image → List ℕ
gfns_of image = range_with_len image.base (pages_of image.len)

abbrev pub bytes_at : State → ℕ → ℕ → List ℕ
bytes_at m v g = (frame_at m (backing (mapped_at m v g))).bytes

-- the bytes of an image: those of its pages, joined
abbrev pub image_bytes : State → ℕ → Image → List ℕ
image_bytes m v image = take image.len (flat_map (bytes_at m v) (gfns_of image))

abbrev pub same_bytes : List ℕ → List ℕ → Bool
same_bytes [] [] = true
same_bytes (x ∷ xs) (y ∷ ys) = if x == y then same_bytes xs ys else false
same_bytes _ _ = false

abbrev pub is_approved : State → ℕ → Image → Bool
is_approved m v image = list_any (λ digest. same_bytes digest (sha256 (image_bytes m v image))) m.config.approved

-- what is measured of an image, if a boot is measured as a whole: its first guest frame and its length in bytes, each
-- as eight bytes with the lowest first, and its bytes
abbrev pub launch_part : State → ℕ → Image → List ℕ
launch_part m v image = to_le_bytes w64 image.base ++ (to_le_bytes w64 image.len ++ image_bytes m v image)

-- the launch measurement of a boot: the digest of what is measured of all its images, in order
abbrev pub launch_digest : State → ℕ → List ℕ
launch_digest m v = sha256 (flat_map (launch_part m v) (slot_at m v).images)

abbrev pub is_launch_approved : State → ℕ → Bool
is_launch_approved m v = list_any (λ digest. same_bytes digest (launch_digest m v)) m.config.approved

-- whether what a slot boots is approved: in version 3 as a whole, in versions 1 and 2 image by image
abbrev pub is_boot_approved : State → ℕ → Bool
is_boot_approved m v = if measures_launch m.config.version then is_launch_approved m v else list_all (is_approved m v) (slot_at m v).images

-- the image for which a boot is rejected: the first that is not approved, and in version 3 the first of all
abbrev pub unapproved : State → ℕ → Option ℕ
unapproved m v =
    if measures_launch m.config.version then (if is_launch_approved m v then None else Some 0)
    else first_failing (is_approved m v) (slot_at m v).images

-- the frame at the last page of an image, with zero bytes past the image's end
abbrev pub trimmed : State → ℕ → Image → State
trimmed m v image =
    let f = backing (mapped_at m v (image.base + pages_of image.len - 1)) in
    let kept = (image.len - 1) % page_size + 1 in
    with_frame m f (record (frame_at m f) { bytes = take kept (frame_at m f).bytes ++ replicate (page_size - kept) 0 })

abbrev pub all_trimmed : State → ℕ → List Image → State
all_trimmed m v [] = m
all_trimmed m v (image ∷ images) = all_trimmed (trimmed m v image) v images

abbrev pub with_phase : State → ℕ → Phase → State
with_phase m v phase = with_slot m v (in_phase (slot_at m v) phase)

abbrev pub verified : State → ℕ → Option ℕ → Outcome
verified m v None = (reply.Done, with_phase (all_trimmed m v (slot_at m v).images) v Active)
verified m v (Some i) = (reply.Rejected i, with_phase m v Dead)

abbrev pub guest_read : State → ℕ → ℕ → ℕ → ℕ → ℕ → Option ℕ → Outcome
guest_read m v c g off len (Some f) = (read (frame_at m f) off len, with_fault m v c None)
guest_read m v c g off len None = (reply.Fault g, with_fault m v c (Some g))

abbrev pub guest_written : State → ℕ → ℕ → ℕ → ℕ → List ℕ → Option ℕ → Outcome
guest_written m v c g off bytes (Some f) = (reply.Done, with_fault (written m f off bytes) v c None)
guest_written m v c g off bytes None = (reply.Fault g, with_fault m v c (Some g))

-- a frame to which the host has one more grant
abbrev pub granted : Frame → Frame
granted frame = record frame { share = frame.share + 1 }

-- a frame to which the host has one grant less, and which it no longer reaches if that was the last
abbrev pub revoked : Frame → Frame
revoked frame = record frame { share = frame.share - 1; present = if frame.share == 1 then false else frame.present }

-- the frames with each of these changed
abbrev pub changed_each : (Frame → Frame) → List Frame → List ℕ → List Frame
changed_each change frames [] = frames
changed_each change frames (f ∷ fs) = changed_each change (slice_set frames f (change (slice_index_or frames f (untouched Core)))) fs

-- the frames at these guest frames of a table
abbrev pub frames_under : map.FinMap nat_cmp ℕ → List ℕ → List ℕ
frames_under mapped [] = []
frames_under mapped (g ∷ gs) = backing (map.get mapped g) ∷ frames_under mapped gs

-- the state with each frame at these guest frames of a slot changed
abbrev pub with_each : State → ℕ → List ℕ → (Frame → Frame) → State
with_each m v gs change = record m { frames = changed_each change m.frames (frames_under (slot_at m v).mapped gs) }

abbrev pub without : List ℕ → ℕ → List ℕ
without frames f = filter (λ other. not (other == f)) frames

-- the frame is the last of the free ones, at no guest frame and with zero bytes
abbrev pub freed : State → ℕ → State
freed m f = record (with_frame m f (record (frame_at m f) { owner = Free; gfn = None; present = false; bytes = zero_page })) { free = m.free ++ f ∷ [] }

-- the frame goes to the free list, and leaves the slot's list and table
abbrev pub dropped : State → ℕ → ℕ → ℕ → State
dropped m v g f = with_slot (freed m f) v (record (slot_at m v) { frames = without (slot_at m v).frames f; mapped = map.remove (slot_at m v).mapped g })

-- each frame of the list is as at boot
abbrev pub scrubbed : List Frame → List ℕ → List Frame
scrubbed frames [] = frames
scrubbed frames (f ∷ fs) = scrubbed (slice_set frames f (untouched Free)) fs

abbrev pub cleared : State → ℕ → State
cleared m v = record m {
  frames = scrubbed m.frames (slot_at m v).frames;
  free = m.free ++ (slot_at m v).frames;
  slots = slice_set m.slots v (empty_slot m.config.version);
}

abbrev pub effect : State → Call → Outcome
effect m Take = host_takes m m.free
effect m (Give f) = (reply.Done, given m f)
effect m (HostFault f) = (reply.Done, with_frame m f (record (frame_at m f) { present = true }))
effect m (HostRead f off len) = (read (frame_at m f) off len, m)
effect m (HostWrite f off bytes) = (reply.Done, written m f off bytes)
effect m (RegisterVm v) = (reply.Done, with_phase m v Booting)
effect m (RegisterVcpu v c) = (reply.Done, with_slot m v (with_vcpu (slot_at m v) c (record { registered = true; fault = None })))
effect m (SetBoot v base len) = (reply.Image (length (slot_at m v).images), with_slot m v (with_image (slot_at m v) base len))
effect m (Remap v i f) =
    let handed = hand m v (next_gfn m v i) f in
    (reply.Done, with_slot handed v (record (slot_at handed v) { images = slice_set (slot_at m v).images i (record (image_at m v i) { pages = (image_at m v i).pages + 1 }) }))
effect m (Verify v) = verified m v (unapproved m v)
effect m (Map v c f) = (reply.Done, with_fault (hand m v (pending m v c) f) v c None)
effect m (GuestRead v c g off len) = guest_read m v c g off len (mapped_at m v g)
effect m (GuestWrite v c g off bytes) = guest_written m v c g off bytes (mapped_at m v g)
effect m (Grant v c g) = (reply.Done, with_each m v (g ∷ []) granted)
effect m (Revoke v c g) = (reply.Done, with_each m v (g ∷ []) revoked)
effect m (GrantRange v c g n) = (reply.Done, with_each m v (range_with_len g n) granted)
effect m (RevokeRange v c g n) = (reply.Done, with_each m v (range_with_len g n) revoked)
effect m (Drop v c g) = (reply.Done, dropped m v g (backing (mapped_at m v g)))
effect m (Clear v) = (reply.Done, cleared m v)
