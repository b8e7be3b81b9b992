-- What is refused describes no lawful state.
use Rattle.std.proofs.Common.{ℕ, ◌≡◌, ◌<◌, List, [], ◌∷◌, length, map, get_or, refl, sym, ap, subst, ◌∙◌, arith}
use Rattle.std.proofs.lemmas.List.{get_or-map, length-map}
use Rattle.kc_types.specs.Configuration.{Configuration, IsConfiguration, slot_count}
use Rattle.kc_types.specs.declared.owner.Owner.TheVariants.{Core}
use Rattle.kc_types.specs.declared.slot.Phase.TheVariants.{Active}
use Rattle.kc_model.specs.State.{State, Frame, Slot, frame_at, slot_at, zero_page, untouched, no_slot}
use Rattle.kc_model.specs.Links.{link_at}
use Rattle.kc_model.specs.Lawful.{IsLawful, IsLawfulSlot}
use Rattle.kc_dump.specs.declared.line.FrameLine.{FrameLine}
use Rattle.kc_dump.specs.Dump.{SlotDump, line_at, slot_dump_at}
use Rattle.kc_audit.specs.declared.finding.Finding.{Finding}
use Rattle.kc_audit.specs.Findings.{AreFindings}
use Rattle.kc_audit.proofs.AllSound.{none-sound}
use Rattle.kc_snapshot.specs.declared.unlawful.Unlawful.{Unlawful}
use Rattle.kc_snapshot.specs.declared.unlawful.Unlawful.TheVariants as unlawful
use Rattle.kc_snapshot.specs.Dumping.{frame_line, slot_dump, dump_of}
use Rattle.kc_snapshot.specs.Told.{SlotRest, slot_rest, told_of}
use Rattle.kc_snapshot.specs.Unlawful.{IsSized, IsSlotOf, IsFrameOf, IsSlotTold, IsFrameTold, IsUnlawful, slot_rest_at, page_of}
use Rattle.kc_snapshot.proofs.Drawn.{long, line-low, slot-low, slots, sound-drawn}
use Rattle.kc_snapshot.proofs.OneState.{config-told}
use Rattle.kc_snapshot.proofs.Mapped.{entry-key}

slot-of : (config : Configuration) (slot : Slot) → IsLawfulSlot config slot → IsSlotOf config.version (slot_dump slot) (slot_rest slot)
slot-of config slot is = record {
  kept = record {
    vcpu_count = is.vcpus;
    each_vcpu = is.each_vcpu;
    few_images = is.few_images;
    each_image = is.each_image;
    apart = is.apart;
    empty_vcpus = λ none. ap (λ (s : Slot). s.vcpus) (is.empty none);
    empty_images = λ none. ap (λ (s : Slot). s.images) (is.empty none);
  };
  booting = λ booting g. sym (entry-key slot.mapped g) ∙ is.booting booting g;
}

module _ (m : State) (is : IsLawful m) where
  sized-told : IsSized (told_of m)
  sized-told = record {
    config = subst IsConfiguration (sym (config-told m is)) is.config;
    pages = length-map m.frames (λ (frame : Frame). frame.bytes) ∙ is.frames ∙ sym (long m is);
    slots = length-map m.slots slot_rest ∙ sym (length-map m.slots slot_dump);
  }

  slot-told : (v : ℕ) → v < length (dump_of m).slots → IsSlotTold (told_of m) v
  slot-told v low =
      let within : v < length m.slots = rw (length-map m.slots slot_dump) at low in
      let rest : slot_rest_at (map slot_rest m.slots) v ≡ slot_rest (slot_at m v) = get_or-map slot_rest m.slots v no_slot (record { vcpus = []; images = [] }) within in
      rw (slot-low m is v low, rest) (slot-of m.config (slot_at m v) (is.each_slot v (rw is.slots at within)))

  frame-told : (f : ℕ) → f < length (dump_of m).frames → IsFrameTold (told_of m) f
  frame-told f low =
      let exists : f < m.config.frames = rw (long m is) at low in
      let within : f < length m.frames = rw is.frames exists in
      let frame = is.each_frame f within in
      let bytes : page_of (map (λ (frame : Frame). frame.bytes) m.frames) f ≡ (frame_at m f).bytes = get_or-map (λ (frame : Frame). frame.bytes) m.frames f (untouched Core) zero_page within in
      rw (line-low m is f exists, bytes) (record {
        digest = refl;
        zeroed = frame.zeroed;
        sharer = λ v mine some.
            let low : v < slot_count m.config = frame.slot v mine in
            ap (λ (s : SlotDump). s.phase) (slot-low m is v (rw (slots m is) low)) ∙ is.shared v f low mine some;
      })

  pub never-refused : (why : Unlawful) → (why ≡ unlawful.Memory → ⊥) → IsUnlawful (told_of m) why → ⊥
  never-refused unlawful.Sizes other refused = refused sized-told
  never-refused (unlawful.Found finding) other refused = let none = (none-sound (dump_of m) (finding ∷ refused.1.0) refused.1.1).1 (sound-drawn m is) in cc
  never-refused (unlawful.Slot v) other refused = refused.4 (slot-told v refused.2)
  never-refused (unlawful.Frame f) other refused = refused.5 (frame-told f refused.3)
  never-refused unlawful.Memory other refused = other refl
