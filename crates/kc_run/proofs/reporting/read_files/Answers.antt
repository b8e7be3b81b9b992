use Rattle.std.proofs.Common.{rules, ◌++◌, ◌∷◌, [], length-append, true, None, Some, Ok, Err, refl, ◌∙◌, arith}
use Rattle.std.proofs.lemmas.Bool.{le-leb}
use Rattle.std.proofs.lemmas.Result.{err_from_is_err_and}
use Rattle.kc_texts.specs.Ends.{seen}
use Rattle.kc_run.specs.Opening.{IsOfFile}
use Rattle.kc_run.proofs.Reading.{reads_then, reads_last, so_followed, some_next, unopened, open_failed, none_read, opened_more, opened_up_to}
use Rattle.kc_run.proofs.reporting.read_files.Goals as goal

pub loop-path-init : goal.loop-path-init
loop-path-init g c = record {
  read = ([], refl, record { files = tt; are = refl; next = tt }, true, λ lt. refl, none_read g.A.Account.kind c.args.account.now 2 (λ order m sources h. g.met.A.Account.leads order c.args.account.now m sources h));
  number = refl;
  shut = c.requires.files;
  same = refl;
}

pub returns-in_err-volume-clause-read : goal.returns-in_err-volume-clause-read
returns-in_err-volume-clause-read g c =
    let made = err_from_is_err_and c.from_residual.result c.from_residual.ensures.1 in
    let so = c.loop-path.invariant.read in
    let is = unopened (record { ref_ptr = (0, 0); now = _ }) (g.F.Files.refused c.open.new.files) c.in_err-volume.field-0.0 c.in_err-volume.ensures.fault in
    rw (made.1, made.2) record {
      sources = so.0;
      opened = opened_up_to (g.F.Files.held c.args.files.now) c.args.after.now so.0 c.loop-path.path-index _ _ c.in_err-volume.field-0.0 so.2 so.1 (omega (arith, c.loop-path-test.true)) is;
      all = λ e. absurd cc;
      reads = open_failed g.A.Account.kind c.args.account.now c.loop-path.account so.0 2 _ _ so.3 c.in_err-volume.field-0.0 so.5 is;
    }

pub read_volume-read-requires-clause-told : goal.read_volume-read-requires-clause-told
read_volume-read-requires-clause-told g c =
    let told = c.requires.told in
    let so = c.loop-path.invariant.read in
    let next = some_next g.A.Account.kind told.0 _ told.1 _ ((so.5.told refl told.0 told.1 told.2 told.3).1 (so.4 (omega (arith, c.loop-path-test.true)))) in
    search rules

pub returns-in_err-refusal-clause-read : goal.returns-in_err-refusal-clause-read
returns-in_err-refusal-clause-read g c =
    let made = err_from_is_err_and c.from_residual-in_err-refusal.result c.from_residual-in_err-refusal.ensures.1 in
    let so = c.loop-path.invariant.read in
    let read = so_followed g.A.Account.kind _ _ _ _ _ _ so.5 (so.4 (omega (arith, c.loop-path-test.true))) in
    let number = c.loop-path.invariant.number in
    let long = so.1 in
    let source = seen g.F.File.Source.failed g.F.File.Source.left c.in_ok-volume.volume c.read_volume-read.new.trace in
    let file : IsOfFile g.F.File.Source.left g.F.File.Source.failed source = record { old = c.in_ok-volume.volume; new = c.read_volume-read.new.trace; ready = c.in_ok-volume.ensures.ready; seen_is = refl } in
    rw (made.1, made.2, c.close.ensures.refused, c.in_ok-volume.ensures.opened) record {
      sources = so.0 ++ source ∷ [];
      opened = opened_more (g.F.Files.held c.args.files.now) c.args.after.now so.0 source c.loop-path.path-index _ so.2 so.1 (omega (arith, c.loop-path-test.true)) file (rw c.loop-path.invariant.same at c.in_ok-volume.ensures.bytes);
      all = λ e. absurd cc;
      reads = reads_last g.A.Account.kind _ _ _ _ _ _ _ (reads_then g.A.Account.kind _ _ _ None so.0 (source ∷ []) 2 _ _ (Err c.in_err-refusal.field-0.0) read c.in_err-refusal.ensures (omega (arith, number, long)));
    }

pub returns-in-Some-clause-read : goal.returns-in-Some-clause-read
returns-in-Some-clause-read g c =
    let so = c.loop-path.invariant.read in
    let read = so_followed g.A.Account.kind _ _ _ _ _ _ so.5 (so.4 (omega (arith, c.loop-path-test.true))) in
    let number = c.loop-path.invariant.number in
    let long = so.1 in
    let source = seen g.F.File.Source.failed g.F.File.Source.left c.in_ok-volume.volume c.read_volume-read.new.trace in
    let file : IsOfFile g.F.File.Source.left g.F.File.Source.failed source = record { old = c.in_ok-volume.volume; new = c.read_volume-read.new.trace; ready = c.in_ok-volume.ensures.ready; seen_is = refl } in
    rw (c.close.ensures.refused, c.in_ok-volume.ensures.opened) record {
      sources = so.0 ++ source ∷ [];
      opened = opened_more (g.F.Files.held c.args.files.now) c.args.after.now so.0 source c.loop-path.path-index _ so.2 so.1 (omega (arith, c.loop-path-test.true)) file (rw c.loop-path.invariant.same at c.in_ok-volume.ensures.bytes);
      all = λ e. absurd cc;
      reads = reads_last g.A.Account.kind _ _ _ _ _ _ _ (reads_then g.A.Account.kind _ _ _ None so.0 (source ∷ []) 2 _ _ (Ok (Some c.in-Some.ending)) read (rw c.in-Some.is at c.in_ok-refusal.ensures) (omega (arith, number, long)));
    }

pub loop-path-preserved : goal.loop-path-preserved
loop-path-preserved g c =
    let so = c.loop-path.invariant.read in
    let read = so_followed g.A.Account.kind _ _ _ _ _ _ so.5 (so.4 (omega (arith, c.loop-path-test.true))) in
    let number = c.loop-path.invariant.number in
    let long = so.1 in
    let source = seen g.F.File.Source.failed g.F.File.Source.left c.in_ok-volume.volume c.read_volume-read.new.trace in
    let file : IsOfFile g.F.File.Source.left g.F.File.Source.failed source = record { old = c.in_ok-volume.volume; new = c.read_volume-read.new.trace; ready = c.in_ok-volume.ensures.ready; seen_is = refl } in
    let both = length-append so.0 (source ∷ []) in
    record {
      read = (
        so.0 ++ source ∷ [],
        omega (arith, both, long),
        opened_more (g.F.Files.held c.args.files.now) c.args.after.now so.0 source c.loop-path.path-index _ so.2 so.1 (omega (arith, c.loop-path-test.true)) file (rw c.loop-path.invariant.same at c.in_ok-volume.ensures.bytes),
        _,
        λ lt. le-leb _ _ (omega (arith, number, lt)),
        reads_then g.A.Account.kind _ _ _ None so.0 (source ∷ []) 2 _ _ (Ok None) read (rw c.in-None.is at c.in_ok-refusal.ensures) (omega (arith, number, long)),
      );
      number = omega (arith, number);
      shut = c.close.ensures.refused ∙ c.in_ok-volume.ensures.opened;
      same = c.close.ensures.same ∙ c.in_ok-volume.ensures.same ∙ c.loop-path.invariant.same;
    }

pub returns-clause-read : goal.returns-clause-read
returns-clause-read g c =
    let so = c.loop-path.invariant.read in
    let reads = reads_last g.A.Account.kind _ _ _ _ _ _ _ so.5 in
    search rules
