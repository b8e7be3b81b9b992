-- What was given of a state's text and what is still to come are the whole text.
use Rattle.std.proofs.Common.{ℕ, ◌≡◌, ◌<◌, ◌≤◌, ◌+◌, List, [], ◌++◌, length, map, drop, Option, Some, None, refl, sym, ap, ◌∙◌, append_assoc}
use Rattle.std.specs.List.{flat_map}
use Rattle.std.proofs.lemmas.List.{drop_more, length-map}
use Rattle.std.proofs.Math.ListN.{get_or-map}
use Rattle.kc_types.specs.declared.owner.Owner.TheVariants.{Core}
use Rattle.kc_model.specs.State.{State, Frame, frame_at, untouched, zero_page}
use Rattle.kc_model.specs.Blanking.{blank_frame}
use Rattle.kc_dump_text.specs.DumpText.{dump_text}
use Rattle.kc_snapshot.specs.Dumping.{dump_of}
use Rattle.kc_snapshot.specs.Told.{slot_rest}
use Rattle.kc_trace.specs.declared.header.Position.{Position}
use Rattle.kc_snapshot.specs.Form.{in_form}
use Rattle.kc_snapshot.specs.declared.form.StateForm.{StateForm}
use Rattle.kc_snapshot.specs.declared.form.StateForm.TheVariants.{Whole, Blank}
use Rattle.kc_state_text.proofs.Appended.{whole-text}
use Rattle.kc_state_text.specs.StateText.{state_header, header_of, sizes_line, approved_line, slot_line, page_line, front_begin, state_text, placed_text, placed_state_text}
use Rattle.kc_state_text.specs.Pieces.{Pieces, page_lines, to_come}

abbrev bytes_of : Frame → List ℕ
bytes_of frame = frame.bytes

-- the first of the pages to come has its line first
pub page_first : (m : State) (n : ℕ) → n < length m.frames → page_lines m n ≡ page_line (frame_at m n).bytes ++ page_lines m (n + 1)
page_first m n low =
    let pages = map bytes_of m.frames in
    ap (flat_map page_line) (drop_more pages n zero_page (rw (length-map m.frames bytes_of) low))
    ∙ ap (λ (page : List ℕ). page_line page ++ page_lines m (n + 1)) (get_or-map bytes_of m.frames n (untouched Core))

-- one more page was given
pub page_given : (m : State) (old new : Pieces) (start before after : List ℕ) → old.page < length (in_form old.form m).frames → new.form ≡ old.form → old.front ≡ [] → new.front ≡ [] → new.page ≡ old.page + 1 → new.dump ≡ old.dump
    → before ++ to_come m old ≡ start → after ≡ before ++ page_line (frame_at (in_form old.form m) old.page).bytes → after ++ to_come m new ≡ start
page_given m old new start before after low form front front' page dump given pushed =
    let n = in_form old.form m in
    let line = page_line (frame_at n old.page).bytes in
    let rest = page_lines n (old.page + 1) ++ old.dump in
    let come : to_come m old ≡ line ++ rest = rw front (ap (λ (lines : List ℕ). lines ++ old.dump) (page_first n old.page low) ∙ append_assoc line (page_lines n (old.page + 1)) old.dump) in
    let left : to_come m new ≡ rest = rw (front', form, page, dump) refl in
    rw (left, pushed) (append_assoc before line rest ∙ ap (λ (l : List ℕ). before ++ l) (sym come) ∙ given)

-- the lines before those of the pages are the same in each form
front_in : (form : StateForm) (m : State) → front_begin m ≡ front_begin (in_form form m)
front_in Whole m = refl
front_in Blank m =
    let long : length (map bytes_of m.frames) ≡ length (map bytes_of (map (blank_frame m) m.frames)) =
    length-map m.frames bytes_of ∙ sym (length-map m.frames (blank_frame m)) ∙ sym (length-map (map (blank_frame m) m.frames) bytes_of) in
    ap (λ (n : ℕ). state_header ++ (sizes_line (record { slots = length (map slot_rest m.slots); frames = n; host = m.config.host; approved = length m.config.approved })
    ++ (flat_map approved_line m.config.approved ++ flat_map slot_line (map slot_rest m.slots)))) long

-- what follows the first lines of a text stays, whatever position they say
placed-more : (position : Option Position) (m : State) (more : List ℕ) → placed_text position (front_begin m) ++ more ≡ placed_text position (front_begin m ++ more)
placed-more None m more = refl
placed-more (Some position) m more = append_assoc (header_of (Some position)) (drop 14 (front_begin m)) more

-- the lines before those of the pages, the pages from the first on, and the dump are the whole text
whole_first : (form : StateForm) (m : State) → front_begin m ++ (page_lines (in_form form m) 0 ++ dump_text (dump_of (in_form form m))) ≡ state_text (in_form form m)
whole_first form m = ap (λ (l : List ℕ). l ++ (page_lines (in_form form m) 0 ++ dump_text (dump_of (in_form form m)))) (front_in form m) ∙ whole-text (in_form form m)

pub whole_in : (form : StateForm) (position : Option Position) (m : State)
    → placed_text position (front_begin m) ++ (page_lines (in_form form m) 0 ++ dump_text (dump_of (in_form form m))) ≡ placed_state_text position (in_form form m)
whole_in form position m = placed-more position m (page_lines (in_form form m) 0 ++ dump_text (dump_of (in_form form m))) ∙ ap (placed_text position) (whole_first form m)
