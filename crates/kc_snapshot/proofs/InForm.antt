-- A state in a form keeps everything but bytes.
use Rattle.std.proofs.Common.{ℕ, ◌≡◌, false, List, [], length, map, refl, sym, ap, ◌∙◌, cond}
use Rattle.std.proofs.lemmas.List.{length-map}
use Rattle.kc_types.specs.declared.owner.Owner.{Owner}
use Rattle.kc_types.specs.declared.owner.Owner.TheVariants.{Core, Host, Free, Vm}
use Rattle.kc_model.specs.State.{State, Frame, frame_at, untouched, zero_page}
use Rattle.kc_model.specs.Links.{Link, list_of, link_in, link_at}
use Rattle.kc_model.specs.Lawful.{IsLawful}
use Rattle.kc_model.specs.Blanking.{is_guests, blank_frame, blank_state}
use Rattle.kc_model.proofs.Blind.Unseen.{at-map}
use Rattle.kc_model.proofs.Redaction.Blank.{audited_blank}
use Rattle.kc_page.specs.declared.page.PageRecord.{PageRecord}
use Rattle.kc_page.specs.Page.{IsRecordOf}
use Rattle.kc_snapshot.specs.declared.form.StateForm.{StateForm}
use Rattle.kc_snapshot.specs.declared.form.StateForm.TheVariants.{Whole, Blank}
use Rattle.kc_dump.specs.declared.line.FrameLine.{FrameLine}
use Rattle.kc_dump.specs.Dump.{Dumped}
use Rattle.kc_model.specs.Linked.{ends_of}
use Rattle.kc_snapshot.specs.Dumping.{dump_of, frame_lines, slot_dump}
use Rattle.kc_snapshot.specs.Form.{in_form}

frame_blank : (m : State) (f : ℕ) → frame_at (blank_state m) f ≡ blank_frame m (frame_at m f)
frame_blank m f = at-map (blank_frame m) m.frames f (untouched Core) refl

same_list : (m : State) (owner : Owner) → list_of (blank_state m) owner ≡ list_of m owner
same_list m Core = refl
same_list m Host = refl
same_list m Free = refl
same_list m (Vm v) = refl

same_link : (m : State) (f : ℕ) → link_at (blank_state m) f ≡ link_at m f
same_link m f = ap (λ (list : List ℕ). link_in list f) (same_list m (frame_at (blank_state m) f).owner ∙ ap (list_of m) (ap (λ (x : Frame). x.owner) (frame_blank m f)))

-- the record of a frame is the same
pub record_in : (form : StateForm) (m : State) (f : ℕ) (meta : PageRecord) → IsRecordOf m f meta → IsRecordOf (in_form form m) f meta
record_in Whole m f meta is = is
record_in Blank m f meta is = record {
  owner = is.owner ∙ sym (ap (λ (x : Frame). x.owner) (frame_blank m f));
  share = is.share ∙ sym (ap (λ (x : Frame). x.share) (frame_blank m f));
  gfn = is.gfn ∙ sym (ap (λ (x : Frame). x.gfn) (frame_blank m f));
  present = is.present ∙ sym (ap (λ (x : Frame). x.present) (frame_blank m f));
  prev = is.prev ∙ sym (ap (λ (link : Link). link.prev) (same_link m f));
  next = is.next ∙ sym (ap (λ (link : Link). link.next) (same_link m f));
}

pub lawful_in : (form : StateForm) (m : State) → IsLawful m → IsLawful (in_form form m)
lawful_in Whole m is = is
lawful_in Blank m is = (audited_blank m [] is).lawful

pub long_in : (form : StateForm) (m : State) → length (in_form form m).frames ≡ length m.frames
long_in Whole m = refl
long_in Blank m = length-map m.frames (blank_frame m)

-- the dump of a state in a form, in which only the frames may be others
abbrev pub dump_with : List FrameLine → State → Dumped
dump_with frames m = record {
  version = m.config.version;
  core = m.config.core;
  leaves = m.config.leaves;
  free = ends_of m.free;
  slots = map slot_dump m.slots;
  frames = frames;
}

pub dump_in : (form : StateForm) (m : State) → dump_of (in_form form m) ≡ dump_with (frame_lines (in_form form m) m.config.frames) m
dump_in Whole m = refl
dump_in Blank m = refl

blank_bytes : (m : State) (f : ℕ) (owner : Owner) → owner ≡ (frame_at m f).owner → (frame_at (blank_state m) f).bytes ≡ cond (is_guests m owner) zero_page (frame_at m f).bytes
blank_bytes m f owner is = ap (λ (x : Frame). x.bytes) (frame_blank m f) ∙ sym (ap (λ (o : Owner). cond (is_guests m o) zero_page (frame_at m f).bytes) is)

pub same_there : (m : State) (f : ℕ) (owner : Owner) → owner ≡ (frame_at m f).owner → is_guests m owner ≡ false → (frame_at (blank_state m) f).bytes ≡ (frame_at m f).bytes
same_there m f owner is guests = blank_bytes m f owner is ∙ ap (λ b. cond b zero_page (frame_at m f).bytes) guests
