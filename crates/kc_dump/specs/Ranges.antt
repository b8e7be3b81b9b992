-- Which numbers a dump may have.
use Rattle.std.specs.Prelude.{ℕ, suc, ◌≡◌, ◌<◌, ◌≤◌, ◌==◌, ◌&&◌, nat_lt, nat_le, Bool, true, length, Option, Some, None, slice_index_or}
use Rattle.std.specs.List.{list_all}
use Rattle.kc_types.specs.Limits.{byte_limit, share_limit}
use Rattle.kc_types.specs.Configuration.{most_frames, slots_of, gfns_of, roots_of, most_leaves}
use Rattle.kc_types.specs.declared.version.Version.{Version}
use Rattle.kc_types.specs.declared.link.Ends.{Ends}
use Rattle.kc_types.specs.declared.owner.Owner.{Owner}
use Rattle.kc_types.specs.declared.owner.Owner.TheVariants.{Core, Host, Free, Vm}
use Rattle.kc_dump.specs.declared.line.FrameLine.{FrameLine}
use Rattle.kc_dump.specs.Dump.{Dumped, line_at, slot_dump_at}

-- there is no number, or it is below the limit
abbrev pub is_below : ℕ → Option ℕ → Bool
is_below limit None = true
is_below limit (Some n) = nat_lt n limit

-- the ends of a list in a dump of this many frames
abbrev pub are_ends : ℕ → Ends → Bool
are_ends frames ends = is_below frames ends.head && is_below frames ends.tail && nat_le ends.count frames

-- an entry of a slot
abbrev pub is_entry : Version → ℕ → ℕ → ℕ × ℕ → Bool
is_entry version frames v entry = nat_lt v (slots_of version) && nat_lt entry.0 (gfns_of version) && nat_lt entry.1 frames

abbrev pub is_owner : Version → Owner → Bool
is_owner version (Vm v) = nat_lt v (slots_of version)
is_owner version Core = true
is_owner version Host = true
is_owner version Free = true

-- a frame; its digest has 32 bytes
abbrev pub is_frame : Version → ℕ → FrameLine → Bool
is_frame version frames frame =
    is_owner version frame.owner && nat_le frame.share share_limit && is_below (gfns_of version) frame.gfn && is_below frames frame.prev && is_below frames frame.next
    && length frame.digest == 32 && list_all (λ b. nat_lt b 256) frame.digest

-- what is true of every dump
pub record IsDump (d : Dumped) : Type 0 where
  pub some_frames : 0 < length d.frames
  pub few_frames : length d.frames ≤ most_frames d.version
  pub core : d.core ≤ length d.frames
  pub some_leaves : 0 < d.leaves
  pub few_leaves : d.leaves ≤ most_leaves d.version
  pub slots : length d.slots ≡ slots_of d.version
  pub free : are_ends (length d.frames) d.free ≡ true
  pub lists : (v : ℕ) → v < length d.slots → are_ends (length d.frames) (slot_dump_at d v).list ≡ true
  -- a slot may show more leaves than its table can have, but no more than a text of a gigabyte can name
  pub leaves : (v : ℕ) → length (slot_dump_at d v).leaves ≤ byte_limit
  pub roots : (v n : ℕ) → v < length d.slots → n < length (slot_dump_at d v).leaves → slice_index_or (slot_dump_at d v).leaves n 0 < roots_of d.version
  pub entries : (v n : ℕ) → v < length d.slots → n < length (slot_dump_at d v).entries → is_entry d.version (length d.frames) v (slice_index_or (slot_dump_at d v).entries n (0, 0)) ≡ true
  -- by ascending guest frame
  pub rising : (v n : ℕ) → v < length d.slots → suc n < length (slot_dump_at d v).entries → (slice_index_or (slot_dump_at d v).entries n (0, 0)).0 < (slice_index_or (slot_dump_at d v).entries (suc n) (0, 0)).0
  pub frames : (f : ℕ) → f < length d.frames → is_frame d.version (length d.frames) (line_at d.frames f) ≡ true
