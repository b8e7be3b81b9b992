use Rattle.std.proofs.Common.{rules, ◌≡◌, ◌∷◌, [], length, true, false, Ok, refl, ap, ◌∙◌}
use Rattle.std.proofs.lemmas.List.{nil_from_length}
use Rattle.std.proofs.lemmas.Result.{err_from_is_err_and}
use Rattle.kc_texts.specs.Ends.{seen}
use Rattle.kc_run.specs.Opening.{IsOfFile}
use Rattle.kc_run.proofs.Reading.{unopened}
use Rattle.kc_run.proofs.Measured.{none_left, not_opened, not_read, is_empty, one_added}
use Rattle.kc_run.proofs.measuring.+add_files.Goals as goal

pub returns-in_default : goal.returns-in_default
returns-in_default g t c =
    let zero : length c.args.images.now ≡ 0 = search rules in
    let none : c.args.images.now ≡ [] = nil_from_length c.args.images.now zero in
    rw none (none_left g.F.File.Source.left g.F.File.Source.failed (g.F.Files.held c.args.files.now) (g.F.Files.refused c.args.files.now) c.args.all c.args.measure.now c.requires.files)

pub returns-in_err-file : goal.returns-in_err-file
returns-in_err-file g t c =
    let whole : c.args.images.now ≡ c.in-Some.image.now ∷ c.in-Some.more.now = search rules in
    let made = err_from_is_err_and c.from_residual.result c.from_residual.ensures.1 in
    let is = unopened (record { ref_ptr = (0, 0); now = _ }) (g.F.Files.refused c.open.new.files) c.in_err-file.field-0.0 c.in_err-file.ensures.fault in
    rw (made.1, made.2, whole) (not_opened g.F.File.Source.left g.F.File.Source.failed (g.F.Files.held c.args.files.now) (g.F.Files.refused c.open.new.files) c.args.all c.args.measure.now c.in-Some.image.now c.in-Some.more.now c.in_err-file.field-0.0 is)

pub returns-in_err-added : goal.returns-in_err-added
returns-in_err-added g t c =
    let whole : c.args.images.now ≡ c.in-Some.image.now ∷ c.in-Some.more.now = search rules in
    let made = err_from_is_err_and c.from_residual-in_err-added.result c.from_residual-in_err-added.ensures.1 in
    let source = seen g.F.File.Source.failed g.F.File.Source.left c.in_ok-file.file c.add-added.new.image in
    let file : IsOfFile g.F.File.Source.left g.F.File.Source.failed source = record { old = c.in_ok-file.file; new = c.add-added.new.image; ready = c.in_ok-file.ensures.ready; seen_is = refl } in
    rw (made.1, made.2, whole) (not_read g.F.File.Source.left g.F.File.Source.failed (g.F.Files.held c.args.files.now) (g.F.Files.refused c.close.new.self) c.args.all c.args.measure.now c.add-added.new.self c.in-Some.image.now c.in-Some.more.now source c.in_err-added.field-0.0
    (c.close.ensures.refused ∙ c.in_ok-file.ensures.opened) file c.in_ok-file.ensures.bytes c.in_err-added.ensures.sources c.in_err-added.ensures.fault)

pub returns-then-not-branch : goal.returns-then-not-branch
returns-then-not-branch g t c =
    let whole : c.args.images.now ≡ c.in-Some.image.now ∷ c.in-Some.more.now = search rules in
    let no : c.in_ok-added.field-0 ≡ false = search rules in
    let source = seen g.F.File.Source.failed g.F.File.Source.left c.in_ok-file.file c.add-added.new.image in
    let file : IsOfFile g.F.File.Source.left g.F.File.Source.failed source = record { old = c.in_ok-file.file; new = c.add-added.new.image; ready = c.in_ok-file.ensures.ready; seen_is = refl } in
    rw whole (is_empty g.F.File.Source.left g.F.File.Source.failed (g.F.Files.held c.args.files.now) (g.F.Files.refused c.close.new.self) c.args.all c.args.measure.now c.add-added.new.self c.in-Some.image.now c.in-Some.more.now source _
    (c.close.ensures.refused ∙ c.in_ok-file.ensures.opened) (rw whole at c.requires.within) refl file c.in_ok-file.ensures.bytes (rw no at c.in_ok-added.ensures.sources) (rw no at c.in_ok-added.ensures.some))

pub returns : goal.returns
returns g t c =
    let whole : c.args.images.now ≡ c.in-Some.image.now ∷ c.in-Some.more.now = search rules in
    let yes : c.in_ok-added.field-0 ≡ true = search rules in
    let source = seen g.F.File.Source.failed g.F.File.Source.left c.in_ok-file.file c.add-added.new.image in
    let file : IsOfFile g.F.File.Source.left g.F.File.Source.failed source = record { old = c.in_ok-file.file; new = c.add-added.new.image; ready = c.in_ok-file.ensures.ready; seen_is = refl } in
    rw whole (one_added g.F.File.Source.left g.F.File.Source.failed (g.F.Files.held c.args.files.now) (g.F.Files.refused c.add_files.new.files) c.args.all c.args.measure.now c.add-added.new.self c.add_files.new.measure c.in-Some.image.now c.in-Some.more.now source c.add_files.result
    file c.in_ok-file.ensures.bytes (rw yes at c.in_ok-added.ensures.sources) (rw yes at c.in_ok-added.ensures.some) (c.in_ok-added.ensures.measured (ap Ok yes)) (rw (c.close.ensures.same ∙ c.in_ok-file.ensures.same) at c.add_files.ensures))
