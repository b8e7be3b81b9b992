-- No call changes the configuration or the number of frames and slots.
use Rattle.std.proofs.Common.{ℕ, ◌≡◌, Option, Some, None, List, [], ◌∷◌, length, set, refl, ◌∙◌, length-set}
use Rattle.std.specs.List.{range_with_len}
use Rattle.kc_types.specs.declared.call.Call.{Call}
use Rattle.kc_types.specs.declared.call.Call.TheVariants.{Take, Give, HostFault, HostRead, HostWrite, RegisterVm, RegisterVcpu, SetBoot, Remap, Verify, Map, GuestRead, GuestWrite, Grant, Revoke, GrantRange, RevokeRange, Drop, Clear}
use Rattle.kc_types.specs.declared.refusal.Refusal.{Refusal}
use Rattle.kc_types.specs.declared.owner.Owner.TheVariants.{Free}
use Rattle.kc_model.specs.State.{State, Frame, Slot, Image, mapped_at, slot_at, untouched}
use Rattle.kc_model.specs.Refusals.{refusal}
use Rattle.kc_model.specs.Effects.{effect, host_takes, guest_read, guest_written, verified, all_trimmed, trimmed, scrubbed, granted, revoked, frames_under, with_each, unapproved}
use Rattle.kc_model.specs.Next.{next, unless_refused, state_after}
use Rattle.kc_model.specs.Local.{IsSameSize}
use Rattle.kc_model.proofs.States.Each.{length-changed}

pub sized-then : (a b c : State) → IsSameSize a b → IsSameSize b c → IsSameSize a c
sized-then a b c ab bc = record { config = bc.config ∙ ab.config; frames = bc.frames ∙ ab.frames; slots = bc.slots ∙ ab.slots }

sized-one : (m : State) (f : ℕ) (frame : Frame) (free : List ℕ) → IsSameSize m (record m { frames = set m.frames f frame; free = free })
sized-one m f frame free = record { config = refl; frames = length-set m.frames f frame; slots = refl }

sized-slot : (m : State) (v : ℕ) (slot : Slot) → IsSameSize m (record m { slots = set m.slots v slot })
sized-slot m v slot = record { config = refl; frames = refl; slots = length-set m.slots v slot }

sized-both : (m : State) (f v : ℕ) (frame : Frame) (slot : Slot) (free : List ℕ) → IsSameSize m (record m { frames = set m.frames f frame; free = free; slots = set m.slots v slot })
sized-both m f v frame slot free = record { config = refl; frames = length-set m.frames f frame; slots = length-set m.slots v slot }

sized-twice : (m : State) (f v : ℕ) (frame : Frame) (slot next_slot : Slot) → IsSameSize m (record m { frames = set m.frames f frame; slots = set (set m.slots v slot) v next_slot })
sized-twice m f v frame slot next_slot = record { config = refl; frames = length-set m.frames f frame; slots = length-set (set m.slots v slot) v next_slot ∙ length-set m.slots v slot }

pub sized-same : (m : State) → IsSameSize m m
sized-same m = record { config = refl; frames = refl; slots = refl }

sized-takes : (m : State) (free : List ℕ) → IsSameSize m (host_takes m free).1
sized-takes m [] = sized-same m
sized-takes m (f ∷ rest) = sized-one m f _ rest

sized-trimmed : (m : State) (v : ℕ) (images : List Image) → IsSameSize m (all_trimmed m v images)
sized-trimmed m v [] = sized-same m
sized-trimmed m v (image ∷ images) = sized-then m (trimmed m v image) (all_trimmed m v (image ∷ images)) (sized-one m _ _ m.free) (sized-trimmed (trimmed m v image) v images)

sized-verified : (m : State) (v : ℕ) (failing : Option ℕ) → IsSameSize m (verified m v failing).1
sized-verified m v None = sized-then m (all_trimmed m v (slot_at m v).images) (verified m v None).1 (sized-trimmed m v (slot_at m v).images) (sized-slot (all_trimmed m v (slot_at m v).images) v _)
sized-verified m v (Some i) = sized-slot m v _

sized-guest_read : (m : State) (v c g off len : ℕ) (at : Option ℕ) → IsSameSize m (guest_read m v c g off len at).1
sized-guest_read m v c g off len None = sized-slot m v _
sized-guest_read m v c g off len (Some f) = sized-slot m v _

sized-guest_written : (m : State) (v c g off : ℕ) (bytes : List ℕ) (at : Option ℕ) → IsSameSize m (guest_written m v c g off bytes at).1
sized-guest_written m v c g off bytes None = sized-slot m v _
sized-guest_written m v c g off bytes (Some f) = sized-both m f v _ _ m.free

pub length-scrubbed : (frames : List Frame) (fs : List ℕ) → length (scrubbed frames fs) ≡ length frames
length-scrubbed frames [] = refl
length-scrubbed frames (f ∷ fs) = length-scrubbed (set frames f (untouched Free)) fs ∙ length-set frames f (untouched Free)

sized-each : (m : State) (v : ℕ) (gs : List ℕ) (change : Frame → Frame) → IsSameSize m (with_each m v gs change)
sized-each m v gs change = record { config = refl; frames = length-changed change m.frames (frames_under (slot_at m v).mapped gs); slots = refl }

pub sized-effect : (m : State) (call : Call) → IsSameSize m (effect m call).1
sized-effect m Take = sized-takes m m.free
sized-effect m (Give f) = sized-one m f _ _
sized-effect m (HostFault f) = sized-one m f _ m.free
sized-effect m (HostRead f off len) = sized-same m
sized-effect m (HostWrite f off bytes) = sized-one m f _ m.free
sized-effect m (RegisterVm v) = sized-slot m v _
sized-effect m (RegisterVcpu v c) = sized-slot m v _
sized-effect m (SetBoot v base len) = sized-slot m v _
sized-effect m (Remap v i f) = sized-twice m f v _ _ _
sized-effect m (Verify v) = sized-verified m v (unapproved m v)
sized-effect m (Map v c f) = sized-twice m f v _ _ _
sized-effect m (GuestRead v c g off len) = sized-guest_read m v c g off len (mapped_at m v g)
sized-effect m (GuestWrite v c g off bytes) = sized-guest_written m v c g off bytes (mapped_at m v g)
sized-effect m (Grant v c g) = sized-one m _ _ m.free
sized-effect m (Revoke v c g) = sized-one m _ _ m.free
sized-effect m (GrantRange v c g n) = sized-each m v (range_with_len g n) granted
sized-effect m (RevokeRange v c g n) = sized-each m v (range_with_len g n) revoked
sized-effect m (Drop v c g) = sized-both m _ v _ _ _
sized-effect m (Clear v) = record { config = refl; frames = length-scrubbed m.frames (slot_at m v).frames; slots = length-set m.slots v _ }

sized-unless : (refused : Option Refusal) (m : State) (call : Call) → IsSameSize m (unless_refused refused m call).1
sized-unless None m call = sized-effect m call
sized-unless (Some r) m call = sized-same m

pub sized-next : (m : State) (call : Call) → IsSameSize m (next m call).1
unfolding next
sized-next m call = sized-unless (refusal m call) m call

-- calls leave the configuration
pub config-after : (m : State) (calls : List Call) → (state_after m calls).config ≡ m.config
config-after m [] = refl
config-after m (call ∷ calls) = config-after (next m call).1 calls ∙ (sized-next m call).config
