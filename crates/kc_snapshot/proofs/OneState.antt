-- A dump and what it leaves out are those of one lawful state.
use Rattle.std.proofs.Common.{ℕ, ◌≡◌, ◌<◌, ◌≤◌, inl, inr, Bool, true, false, cond, List, [], ◌∷◌, length, map, get_or, Option, Some, None, refl, sym, ap, subst, ◌∙◌, arith}
use Rattle.std.specs.List.{slice_get}
use Rattle.std.specs.Option.{option_map}
use Rattle.std.specs.FinMap as finite
use Rattle.std.proofs.lemmas.List.{ext_get_or, get_or-map, length-map}
use Rattle.std.proofs.lemmas.Option.{slice_get-get_or}
use Rattle.kc_types.specs.Configuration.{slot_count, Configuration}
use Rattle.kc_types.specs.declared.owner.Owner.{Owner}
use Rattle.kc_types.specs.declared.owner.Owner.TheVariants.{Core, Host, Free, Vm}
use Rattle.kc_model.specs.State.{State, Frame, Slot, frame_at, slot_at, untouched, no_slot}
use Rattle.kc_model.specs.Lawful.{IsLawful, ListsOnce, times_in}
use Rattle.kc_model.specs.Links.{link_at, link_in, list_of}
use Rattle.kc_model.specs.Linked.{ends_of}
use Rattle.kc_links.specs.Chain.{Links}
use Rattle.kc_links.specs.Ending.{Chain, listed}
use Rattle.kc_links.proofs.Chains.{chain-listed}
use Rattle.kc_links.proofs.Neighbours.{chain-each}
use Rattle.kc_dump.specs.declared.line.FrameLine.{FrameLine}
use Rattle.kc_dump.specs.Dump.{Dumped, SlotDump, absent_line, line_at, line_link, line_links, empty_dump, slot_dump_at}
use Rattle.kc_snapshot.specs.Dumping.{frame_line, slot_dump, dump_of}
use Rattle.kc_snapshot.proofs.Drawn.{long, line-low, slot-low, slots, below, member, at-most}
use Rattle.kc_snapshot.specs.Told.{Told, SlotRest, slot_rest, told_of, config_of}

module _ (m : State) (is : IsLawful m) where
  links-low : (f : ℕ) → f < m.config.frames → line_links (dump_of m).frames f ≡ Some (link_at m f)
  links-low f low =
      let there : slice_get (dump_of m).frames f ≡ Some (get_or (dump_of m).frames f absent_line) = slice_get-get_or (dump_of m).frames f absent_line (rw (long m) low) in
      ap (option_map line_link) there ∙ ap (λ (l : FrameLine). Some (line_link l)) (line-low m is f low)

  -- the links of the dump and the ends of a list spell the list
  list-told : (owner : Owner) (fs : List ℕ) → (owner ≡ Core → ⊥) → list_of m owner ≡ fs → ListsOnce m owner fs → listed (line_links (dump_of m).frames) (ends_of fs) ≡ fs
  list-told owner fs other is-list lists = chain-listed (line_links (dump_of m).frames) (ends_of fs) fs
      (chain-each (line_links (dump_of m).frames) fs (at-most m is owner fs lists) (λ f some.
      let mine = member m is owner fs lists f some in
      links-low f (below m is f (λ core. other (sym mine ∙ core))) ∙ ap (λ l. Some (link_in l f)) (ap (list_of m) mine ∙ is-list)))

  pub free-told : listed (line_links (dump_of m).frames) (dump_of m).free ≡ m.free
  free-told = list-told Free m.free (λ e. cc) refl is.free

  pub frames-told : (v : ℕ) → v < slot_count m.config → listed (line_links (dump_of m).frames) (slot_dump_at (dump_of m) v).list ≡ (slot_at m v).frames
  frames-told v low = ap (λ (s : SlotDump). listed (line_links (dump_of m).frames) s.list) (slot-low m is v (rw (slots m is) low)) ∙ list-told (Vm v) (slot_at m v).frames (λ e. cc) refl (is.listed v low)

-- the configuration follows from the description
pub config-told : (m : State) → IsLawful m → config_of (told_of m) ≡ m.config
config-told m is i = record m.config { frames = long m is i }

pub one-state : (m n : State) → IsLawful m → IsLawful n → told_of m ≡ told_of n → m ≡ n
one-state m n is-m is-n told = λ i. record {
  config = config i;
  frames = ext_get_or (untouched Core) m.frames n.frames (is-m.frames ∙ ap (λ c. c.frames) config ∙ sym is-n.frames) frame-same i;
  free = (sym (free-told m is-m) ∙ ap (λ (d : Dumped). listed (line_links d.frames) d.free) dump ∙ free-told n is-n) i;
  slots = ext_get_or no_slot m.slots n.slots (is-m.slots ∙ ap slot_count config ∙ sym is-n.slots) slot-same i;
}
  where
    config : m.config ≡ n.config
    config = sym (config-told m is-m) ∙ ap config_of told ∙ config-told n is-n

    dump : dump_of m ≡ dump_of n
    dump = ap (λ (t : Told). t.dump) told

    rests : map slot_rest m.slots ≡ map slot_rest n.slots
    rests = ap (λ (t : Told). t.rest.slots) told

    bytes : map (λ (x : Frame). x.bytes) m.frames ≡ map (λ (x : Frame). x.bytes) n.frames
    bytes = ap (λ (t : Told). t.rest.pages) told

    line-same : (f : ℕ) → f < m.config.frames → frame_line (frame_at m f) (link_at m f) ≡ frame_line (frame_at n f) (link_at n f)
    line-same f low = sym (line-low m is-m f low) ∙ ap (λ (d : Dumped). line_at d.frames f) dump ∙ line-low n is-n f (rw (← config) low)

    bytes-at : (f : ℕ) → f < length m.frames → (frame_at m f).bytes ≡ (frame_at n f).bytes
    bytes-at f low =
        sym (get_or-map (λ (x : Frame). x.bytes) m.frames f (untouched Core) [] low) ∙ ap (λ (l : List (List ℕ)). get_or l f []) bytes
        ∙ get_or-map (λ (x : Frame). x.bytes) n.frames f (untouched Core) [] (let same = is-m.frames ∙ ap (λ c. c.frames) config ∙ sym is-n.frames in omega (arith, low, same))

    frame-same : (f : ℕ) → f < length m.frames → get_or m.frames f (untouched Core) ≡ get_or n.frames f (untouched Core)
    frame-same f low =
        let line = line-same f (rw is-m.frames at low) in λ i. record {
          owner = (line i).owner;
          share = (line i).share;
          gfn = (line i).gfn;
          present = (line i).present;
          bytes = bytes-at f low i;
        }

    dumped-same : (v : ℕ) → v < slot_count m.config → slot_dump (slot_at m v) ≡ slot_dump (slot_at n v)
    dumped-same v low = sym (slot-low m is-m v (rw (slots m is-m) low)) ∙ ap (λ (d : Dumped). slot_dump_at d v) dump ∙ slot-low n is-n v (rw (slots n is-n, ← config) low)

    rest-same : (v : ℕ) → v < length m.slots → slot_rest (slot_at m v) ≡ slot_rest (slot_at n v)
    rest-same v low =
        sym (get_or-map slot_rest m.slots v no_slot (slot_rest no_slot) low) ∙ ap (λ (l : List SlotRest). get_or l v (slot_rest no_slot)) rests
        ∙ get_or-map slot_rest n.slots v no_slot (slot_rest no_slot) (let same = is-m.slots ∙ ap slot_count config ∙ sym is-n.slots in omega (arith, low, same))

    frames-same : (v : ℕ) → v < slot_count m.config → (slot_at m v).frames ≡ (slot_at n v).frames
    frames-same v low = sym (frames-told m is-m v low) ∙ ap (λ (d : Dumped). listed (line_links d.frames) (slot_dump_at d v).list) dump ∙ frames-told n is-n v (rw (← config) low)

    slot-same : (v : ℕ) → v < length m.slots → get_or m.slots v no_slot ≡ get_or n.slots v no_slot
    slot-same v low =
        let within : v < slot_count m.config = rw is-m.slots at low in
        let dumped = dumped-same v within in
        let rest = rest-same v low in λ i. record {
          phase = (dumped i).phase;
          vcpus = (rest i).vcpus;
          images = (rest i).images;
          frames = frames-same v within i;
          mapped = finite.same_entries_map (slot_at m v).mapped (slot_at n v).mapped (ap (λ (s : SlotDump). s.entries) dumped) i;
          leaves = (dumped i).leaves;
        }
