-- The dump of a state.
use Rattle.std.specs.Prelude.{ℕ, List, map}
use Rattle.std.specs.List.{range_with_len}
use Rattle.std.specs.FinMap as finite
use Rattle.sha2.specs.Sha256.{sha256}
use Rattle.kc_model.specs.State.{State, Frame, Slot, frame_at, slot_at}
use Rattle.kc_model.specs.Links.{Link, link_at}
use Rattle.kc_model.specs.Linked.{ends_of}
use Rattle.kc_dump.specs.declared.line.FrameLine.{FrameLine}
use Rattle.kc_dump.specs.Dump.{Dumped, SlotDump}

-- a frame with its neighbours
abbrev pub frame_line : Frame → Link → FrameLine
frame_line frame link = record {
  owner = frame.owner;
  share = frame.share;
  gfn = frame.gfn;
  present = frame.present;
  prev = link.prev;
  next = link.next;
  digest = sha256 frame.bytes;
}

-- the digest of each frame's page
abbrev pub digests_of : State → List (List ℕ)
digests_of m = map (λ (frame : Frame). sha256 frame.bytes) m.frames

-- this many of the first frames
abbrev pub frame_lines : State → ℕ → List FrameLine
frame_lines m n = map (λ f. frame_line (frame_at m f) (link_at m f)) (range_with_len 0 n)

abbrev pub slot_dump : Slot → SlotDump
slot_dump slot = record { phase = slot.phase; list = ends_of slot.frames; leaves = slot.leaves; entries = finite.entries slot.mapped }

-- this many of the first slots
abbrev pub slot_dumps : State → ℕ → List SlotDump
slot_dumps m n = map (λ v. slot_dump (slot_at m v)) (range_with_len 0 n)

abbrev pub dump_of : State → Dumped
dump_of m = record {
  version = m.config.version;
  core = m.config.core;
  leaves = m.config.leaves;
  free = ends_of m.free;
  slots = map slot_dump m.slots;
  frames = frame_lines m m.config.frames;
}
