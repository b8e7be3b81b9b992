use Rattle.std.proofs.Common.{rules, ◌∷◌, [], false, refl}
use Rattle.std.proofs.lemmas.Result.{err_from_is_err_and}
use Rattle.kc_texts.specs.Ends.{seen}
use Rattle.kc_run.proofs.Reading.{reads_then, reads_last, some_next}
use Rattle.kc_run.proofs.reporting.read_all.Goals as goal

pub returns-in_err-refusal-clause-read : goal.returns-in_err-refusal-clause-read
returns-in_err-refusal-clause-read g c =
    let made = err_from_is_err_and c.from_residual.result c.from_residual.ensures.1 in
    rw (made.1, made.2, c.requires.files) ([], record { files = tt; are = refl; next = tt }, λ e. absurd cc, reads_last g.A.Account.kind _ _ _ _ _ _ _ c.in_err-refusal.ensures)

pub returns-in-Some-clause-read : goal.returns-in-Some-clause-read
returns-in-Some-clause-read g c = rw c.requires.files ([], record { files = tt; are = refl; next = tt }, λ e. absurd cc, reads_last g.A.Account.kind _ _ _ _ _ _ _ (rw c.in-Some.is at c.in_ok-refusal.ensures))

pub read_files-requires-clause-told : goal.read_files-requires-clause-told
read_files-requires-clause-told g c =
    let told = c.requires.told in
    let first = rw c.in-None.is at c.in_ok-refusal.ensures in
    let next = some_next g.A.Account.kind told.0 _ told.1 _ ((first.told refl told.0 told.1 [] told.2).1 refl) in
    search rules

pub returns-in-None-clause-read : goal.returns-in-None-clause-read
returns-in-None-clause-read g c =
    let first = rw c.in-None.is at c.in_ok-refusal.ensures in
    let rest = c.read_files.ensures.read in
    (rest.sources, rest.opened, rest.all, reads_then g.A.Account.kind _ _ _ _ (seen g.T.Source.failed g.T.Source.left c.args.input.now c.read_volume.new.trace ∷ []) rest.sources 1 2 false _ first rest.reads refl)
