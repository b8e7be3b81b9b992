-- Which line may come after which.
use Rattle.std.specs.Prelude.{ℕ, ◌+◌, ◌==◌, ◌&&◌, ◌||◌, not, nat_lt, nat_le, Bool, true, false, List, [], ◌∷◌}
use Rattle.kc_types.specs.Limits.{byte_limit}
use Rattle.kc_types.specs.Configuration.{most_frames, slots_of, roots_of, most_leaves}
use Rattle.kc_types.specs.declared.version.Version.{Version}
use Rattle.kc_dump.specs.Ranges.{are_ends, is_entry, is_frame}
use Rattle.kc_dump_text.specs.declared.place.Place.{Place}
use Rattle.kc_dump_text.specs.declared.dump_line.DumpLine.{DumpLine}
use Rattle.kc_dump_text.specs.declared.dump_line.DumpLine.TheVariants.{SizeOf, FreeOf, VmOf, LeafOf, EntryOf, FrameOf}

-- the numbers of a line are in range; no slot shows more leaves than a text of a gigabyte can name
abbrev pub in_range : Version → ℕ → DumpLine → Bool
in_range version n (SizeOf frames core leaves) = nat_lt 0 frames && nat_le frames (most_frames version) && nat_le core frames && nat_lt 0 leaves && nat_le leaves (most_leaves version)
in_range version n (FreeOf ends) = are_ends n ends
in_range version n (VmOf v phase ends) = nat_lt v (slots_of version) && are_ends n ends
in_range version n (LeafOf v i root) = nat_lt v (slots_of version) && nat_lt i byte_limit && nat_lt root (roots_of version)
in_range version n (EntryOf v entry) = is_entry version n v entry
in_range version n (FrameOf f frame) = nat_lt f n && is_frame version n frame

-- the line of sizes
abbrev pub is_size : Version → DumpLine → Bool
is_size version (SizeOf frames core leaves) = in_range version frames (SizeOf frames core leaves)
is_size version _ = false

-- the line of the free list
abbrev pub is_free : ℕ → DumpLine → Bool
is_free frames (FreeOf ends) = are_ends frames ends
is_free frames _ = false

-- the section of a line after these two: slots, leaves, entries, frames
abbrev pub section : DumpLine → ℕ
section (LeafOf v n root) = 1
section (EntryOf v entry) = 2
section (FrameOf f frame) = 3
section _ = 0

-- the line is the next: the next slot; the next leaf of the last slot, or the first of a later one; an entry of the
-- last slot that is not below the lowest guest frame that may follow, or one of a later slot; the next frame
abbrev pub comes : Version → Place → DumpLine → Bool
comes version place (VmOf v phase ends) = v == place.vm
comes version place (LeafOf v n root) = place.vm == slots_of version && ((v == place.leaf.0 && n == place.leaf.1) || (nat_lt place.leaf.0 v && n == 0))
comes version place (EntryOf v entry) = place.vm == slots_of version && (nat_lt place.entry.0 v || (v == place.entry.0 && nat_le place.entry.1 entry.0))
comes version place (FrameOf f frame) = place.vm == slots_of version && f == place.frame
comes version place _ = false

-- the line may come at this place, in a dump of this many frames
abbrev pub may : Version → ℕ → Place → DumpLine → Bool
may version frames place l = nat_le place.section (section l) && comes version place l && in_range version frames l

-- the place after a line
abbrev pub place_after : Place → DumpLine → Place
place_after place (VmOf v phase ends) = record place { vm = v + 1 }
place_after place (LeafOf v n root) = record place { section = 1; leaf = (v, n + 1) }
place_after place (EntryOf v entry) = record place { section = 2; entry = (v, entry.0 + 1) }
place_after place (FrameOf f frame) = record place { section = 3; frame = f + 1 }
place_after place _ = place

-- the place before all slots
abbrev pub start : Place
start = record { section = 0; vm = 0; leaf = (0, 0); entry = (0, 0); frame = 0 }

-- the lines may follow one another from this place on
abbrev pub chain : Version → ℕ → Place → List DumpLine → Bool
chain version frames place [] = true
chain version frames place (l ∷ lines) = may version frames place l && chain version frames (place_after place l) lines

-- the place after them
abbrev pub end : Place → List DumpLine → Place
end place [] = place
end place (l ∷ lines) = end (place_after place l) lines

-- a frame in range with another number
abbrev pub is_other : Version → ℕ → ℕ → DumpLine → Bool
is_other version frames f (FrameOf g frame) = not (g == f) && nat_lt g frames && is_frame version frames frame
is_other version frames f _ = false
