-- What is reported of volumes is what is reported of the redacted volumes from the blank state on.
use Rattle.std.proofs.Common.{ℕ, ◌≡◌, ◌++◌, Bool, true, false, cond, not, List, [], ◌∷◌, map, filter, Option, refl, sym, ap, ap₂, subst, ◌∙◌}
use Rattle.std.specs.List.{range_with_len}
use Rattle.kc_types.specs.declared.call.Call.{Call}
use Rattle.kc_types.specs.declared.custody.Custody.{Custody}
use Rattle.kc_types.specs.declared.custody.Event.{Event}
use Rattle.kc_types.specs.declared.custody.FrameChange.{FrameChange}
use Rattle.kc_types.specs.declared.slot.Phase.TheVariants.{Booting}
use Rattle.kc_model.specs.State.{State, slot_at}
use Rattle.kc_model.specs.Boot.{boot}
use Rattle.kc_model.specs.Lawful.{IsLawful}
use Rattle.kc_model.specs.Custody.{custody_at, same_custody, has_moved, frame_change}
use Rattle.kc_model.specs.Lives.{lives, selected_lives}
use Rattle.kc_model.specs.Before.{header_line, is_taken, is_measured, turn_before, frame_before, slots_that, events_before}
use Rattle.kc_model.specs.Redaction.{redacted_call, redacted}
use Rattle.kc_model.specs.Blanking.{blank_state}
use Rattle.kc_model.proofs.Redaction.Blank.{audited_blank}
use Rattle.kc_remarks.specs.declared.remark.Note.{Note}
use Rattle.kc_remarks.specs.Remarks.{notes, events_in}
use Rattle.kc_remarks.specs.Attempts.{attempts_in}
use Rattle.kc_remarks.proofs.Unread.{notes_redacted}
use Rattle.kc_trace.specs.declared.custody_writer.Heading.{Heading}
use Rattle.kc_trace.specs.declared.volume_writer.VolumeEntry.{VolumeEntry}
use Rattle.kc_trace.specs.SummaryText.{summary_text_of}
use Rattle.kc_texts.specs.declared.order.Origin.{Origin}
use Rattle.kc_texts.specs.declared.order.CustodyForm.{CustodyForm}
use Rattle.kc_texts.specs.declared.order.CustodyForm.TheVariants.{Changes, Summary, Picture, Html}
use Rattle.kc_texts.specs.declared.order.Scope.{Scope}
use Rattle.kc_trace.specs.declared.expected.Expected.{Expected}
use Rattle.kc_cli.specs.Traced.{Traced, redacted_trace}
use Rattle.kc_cli.specs.Custody.{joined, IsAccount, listed, entries_in, heading_of, IsMadeOf, IsMadeBlind}
use Rattle.kc_cli.proofs.Digested.{entries_same, heading_same}

-- ---- what is so before the first call

mapped : (change : ℕ → FrameChange) (b : Bool) (f : ℕ) (fs : List ℕ) → map change (cond b (f ∷ fs) fs) ≡ cond b (change f ∷ map change fs) (map change fs)
mapped change true f fs = refl
mapped change false f fs = refl

-- states with the same custody of each frame come about by the same changes
changes_alike : (line : ℕ) (old m n : State) → ((f : ℕ) → custody_at n f ≡ custody_at m f) → (fs : List ℕ)
    → map (frame_change line old n) (filter (has_moved old n) fs) ≡ map (frame_change line old m) (filter (has_moved old m) fs)
changes_alike line old m n same [] = refl
changes_alike line old m n same (f ∷ fs) =
    let changed : Custody → FrameChange = λ after. record { line = line; frame = f; before = custody_at old f; after = after } in
    mapped (frame_change line old n) (has_moved old n f) f (filter (has_moved old n) fs)
    ∙ ap₂ (λ (after : Custody) (rest : List FrameChange). cond (not (same_custody (custody_at old f) after)) (changed after ∷ rest) rest) (same f) (changes_alike line old m n same fs)
    ∙ sym (mapped (frame_change line old m) (has_moved old m f) f (filter (has_moved old m) fs))

before_blank : (m : State) → IsLawful m → events_before (blank_state m) ≡ events_before m
before_blank m is =
    ap (λ (moved : List FrameChange). map (turn_before Booting) (slots_that is_taken m) ++ (map frame_before moved ++ map (λ v. turn_before (slot_at m v).phase v) (slots_that is_measured m)))
    (changes_alike header_line (boot m.config) m (blank_state m) (λ f. ((audited_blank m [] is).differs.frames f).custody) (range_with_len 0 m.config.frames))

-- ---- the calls of all volumes

redacted_both : (xs ys : List Call) → redacted (xs ++ ys) ≡ redacted xs ++ redacted ys
redacted_both [] ys = refl
redacted_both (x ∷ xs) ys = ap (λ (rest : List Call). redacted_call x ∷ rest) (redacted_both xs ys)

joined_redacted : (volumes : List Traced) → redacted (joined volumes) ≡ joined (map redacted_trace volumes)
joined_redacted [] = refl
joined_redacted (volume ∷ volumes) = redacted_both volume.calls (joined volumes) ∙ ap (λ (rest : List Call). redacted volume.calls ++ rest) (joined_redacted volumes)

notes_blank : (m : State) (volumes : List Traced) → IsLawful m → notes (blank_state m) (joined (map redacted_trace volumes)) ≡ notes m (joined volumes)
notes_blank m volumes is = ap (notes (blank_state m)) (sym (joined_redacted volumes)) ∙ (notes_redacted m (joined volumes) is).blank

-- ---- the text

account_blank : (form : CustodyForm) (vm : Option ℕ) (heading : Heading) (m : State) (volumes : List VolumeEntry) (count refused : ℕ) (told : List Note) (text : List ℕ) → IsLawful m
    → IsAccount form vm heading m volumes count refused told text → IsAccount form vm heading (blank_state m) volumes count refused told text
account_blank (Changes remarks) vm heading m volumes count refused told text is given = given
account_blank Summary vm heading m volumes count refused told text is given =
    given
    ∙ ap (λ (before : List Event). summary_text_of heading m.config volumes count refused (attempts_in told) (selected_lives vm (lives (before ++ events_in told)))) (sym (before_blank m is))
account_blank Picture vm heading m volumes count refused told text is given = given
account_blank Html vm heading m volumes count refused told text is given = given

pub made_blind : (origin : Origin) (form : CustodyForm) (scope : Scope) (start : List ℕ) (m : State) (expected : Expected) (volumes : List Traced) (count refused : ℕ) (text : List ℕ) → IsLawful m
    → IsMadeOf origin form scope start m expected volumes count refused text → IsMadeBlind origin form scope start m expected volumes count refused text
made_blind origin form scope start m expected volumes count refused text is given other same =
    let entries = entries_same scope volumes in
    let heading = heading_same scope origin start other m expected volumes is same in
    let blank : List VolumeEntry → Heading → List Note → Type 0 = λ entries heading told. IsAccount form scope.vm heading (blank_state m) (listed entries) count refused told text in
    let now = account_blank form scope.vm (heading_of scope origin start m expected (entries_in scope volumes)) m (listed (entries_in scope volumes)) count refused (notes m (joined volumes)) text is given in
    subst (λ (told : List Note). blank (entries_in scope (map redacted_trace volumes)) (heading_of scope origin other (blank_state m) expected (entries_in scope (map redacted_trace volumes))) told) (sym (notes_blank m volumes is))
    (subst (λ (h : Heading). blank (entries_in scope (map redacted_trace volumes)) h (notes m (joined volumes))) (sym heading)
    (subst (λ (e : List VolumeEntry). blank e (heading_of scope origin start m expected (entries_in scope volumes)) (notes m (joined volumes))) (sym entries) now))
