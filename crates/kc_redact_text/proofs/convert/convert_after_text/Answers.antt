use Rattle.std.proofs.Common.{Err, ap, refl}
use Rattle.kc_redact_text.proofs.Converts.{writes_next, volume_told, trace_told}
use Rattle.kc_redact_text.proofs.convert.convert_after_text.Goals as goal

pub returns-in-Err : goal.returns-in-Err
returns-in-Err g c =
    let made = c.in-Err.ensures in
    let fault = c.in-Err.fault in
    let told = volume_told _ _ _ _ _ _ _ fault (record {
      trace_is = λ said same. made.trace said (ap Err same);
      read = λ same. made.read (ap Err same);
      failed = λ bad. (let e = made.failed bad in cc);
      whole = c.requires.trace;
      ready = c.requires.out;
      unread_is = refl;
      untouched_is = refl;
    }) made.fault in
    rw c.volume_refused.ensures record { ok = told.ok; read = told.read; failed = told.failed; sink = told.sink; others = told.others }

pub returns-in-Ok-convert_under-clause-ok : goal.returns-in-Ok-convert_under-clause-ok
returns-in-Ok-convert_under-clause-ok g c = (c.in-Ok.ensures.ended, c.in-Ok-convert_under.ensures.ended, writes_next _ _ _ _ c.in-Ok.head c.in-Ok.ensures.ok c.in-Ok-convert_under.ensures.ok)

pub returns-in-Err-convert_under : goal.returns-in-Err-convert_under
returns-in-Err-convert_under g c =
    let made = c.in-Err-convert_under.ensures in
    let fault = c.in-Err-convert_under.fault in
    let told = trace_told _ _ _ _ _ _ _ fault (record {
      head = c.in-Ok.head;
      next = c.in-Ok.ensures.ok;
      before_whole = λ bad. (let e = c.in-Ok.ensures.failed bad in cc);
      trace_is = λ said same. made.trace said (ap Err same);
      read = λ same. made.read (ap Err same);
      failed = λ bad. (let e = made.failed bad in cc);
      sink = made.sink;
    }) made.fault in
    rw c.trace_refused.ensures record { ok = told.ok; read = told.read; failed = told.failed; sink = told.sink; others = told.others }
