-- A history with one call more, and the volume after it.
use Rattle.std.proofs.Common.{◌≡◌, ℕ, ◌≤◌, ◌<◌, [], ◌∷◌, ◌++◌, length, refl, ap, sym, subst, ◌∙◌, arith, length-append}
use Rattle.std.specs.List.{AllByRecursion}
use Rattle.std.proofs.lemmas.List.{map-append}
use Rattle.kc_types.specs.Configuration.{Configuration}
use Rattle.kc_types.specs.declared.call.Call.{Call}
use Rattle.kc_types.specs.declared.reply.Reply.{Reply}
use Rattle.kc_types.specs.ReplyBytes.{bytes_in, most_reply_bytes}
use Rattle.kc_model.specs.State.{State}
use Rattle.kc_model.specs.Boot.{boot}
use Rattle.kc_model.specs.Next.{next, state_after}
use Rattle.kc_model.specs.Lawful.{IsLawful}
use Rattle.kc_model.specs.Volumes.{IsDigest}
use Rattle.kc_model.proofs.Lawful.LawfulTraces.{lawful-after}
use Rattle.kc_model.proofs.States.Sizes.{config-after}
use Rattle.kc_model.proofs.States.Runs.{replies_from-append, state_after-append}
use Rattle.kc_model.proofs.Promises.{promises_kept}
use Rattle.kc_model.proofs.Refusals.ReplyBytes.{bytes-next}
use Rattle.kc_live.specs.declared.receipt.Entry.{Entry}
use Rattle.kc_trace.specs.declared.header.Header.{Header}
use Rattle.kc_live.specs.Book.{Log, Recording, IsHeaderOf, IsMadeFrom, IsServed, MayStart, IsKept, IsWholeFrom, calls_of, entry, log, longer, new_book, next_recording, next_volume, recorded, reply_to}
use Rattle.kc_live.proofs.Heads.{digest_is, header_first, header_next}

-- a buffer made for the call has room for its reply
pub buffer_fits : (m : State) (call : Call) (reply : Reply) (spare : ℕ) → reply ≡ (next m call).0 → most_reply_bytes call ≤ spare → bytes_in reply ≤ spare
buffer_fits m call reply spare is_reply made = let few = bytes-next m call in rw is_reply (omega arith)

-- a volume with one call more, made from the same state
made_more : (start : State) (l : Log) (call : Call) → IsLawful start → IsMadeFrom start l.entries → l.state ≡ state_after start (calls_of l.entries)
    → IsMadeFrom start (longer l call).entries × ((longer l call).state ≡ state_after start (calls_of (longer l call).entries))
made_more start l call lawful made ends =
    let one = entry call (reply_to l call) ∷ [] in
    let calls : calls_of (l.entries ++ one) ≡ calls_of l.entries ++ call ∷ [] = map-append (λ (e : Entry). e.call) l.entries one in (
      record {
        replies =
            map-append (λ (e : Entry). e.reply) l.entries one
            ∙ rw (calls, replies_from-append start (calls_of l.entries) (call ∷ []), made.replies, ends) refl;
        promises = promises_kept start _ lawful;
      },
      rw (calls, state_after-append start (calls_of l.entries) (call ∷ []), ends) refl,
    )

pub served_more : (l : Log) (call : Call) → IsServed l → length l.entries < 65536 → IsServed (longer l call)
served_more l call served fits =
    let more = made_more served.start l call served.lawful served.made served.ends in
    record {
      start = served.start;
      lawful = served.lawful;
      made = more.0;
      ends = more.1;
      short = omega (arith, length-append l.entries (entry call (reply_to l call) ∷ []));
    }

pub kept_more : (r : Recording) (call : Call) → IsKept r → length r.log.entries < 65536 → IsKept (recorded r call)
kept_more r call kept fits =
    let start = kept.legal.start in
    let more = made_more start r.log call kept.legal.may.lawful kept.legal.made kept.ends in
    record {
      legal = record { start = start; may = kept.legal.may; made = more.0; header = kept.legal.header };
      ends = more.1;
      short = omega (arith, length-append r.log.entries (entry call (reply_to r.log call) ∷ []));
    }

-- a volume without calls
pub served_none : (number : ℕ) (start : State) → IsLawful start → IsServed (log number [] start)
served_none number start lawful = record {
  start = start;
  lawful = lawful;
  made = record { replies = refl; promises = promises_kept start [] lawful };
  ends = refl;
  short = omega arith;
}

-- the volume after a volume
pub served_next : (l : Log) → IsServed l → IsServed (next_volume l)
served_next l served = served_none _ l.state (rw served.ends (lawful-after served.start (calls_of l.entries) served.lawful))

-- where a volume begins that has no calls yet
begun : (number : ℕ) (start : State) (header : Header) → MayStart number start → IsHeaderOf number start.config header → IsKept (record { header = header; log = log number [] start })
begun number start header may head = record {
  legal = record { start = start; may = may; made = record { replies = refl; promises = promises_kept start [] may.lawful }; header = head };
  ends = refl;
  short = omega arith;
}

pub kept_new : (config : Configuration) → AllByRecursion IsDigest config.approved → IsLawful (boot config) → IsKept (new_book config)
kept_new config digests lawful =
    begun 0 (boot config) _ (record { lawful = lawful; config = config; before = []; leads = refl; first = λ _. refl }) (header_first config lawful.config digests)

-- the volume after a volume
pub kept_next : (r : Recording) → IsKept r → IsKept (next_recording r)
kept_next r kept =
    let may = kept.legal.may in
    let calls = calls_of r.log.entries in
    let same : r.log.state.config ≡ kept.legal.start.config = ap (λ (m : State). m.config) kept.ends ∙ config-after kept.legal.start calls in
    begun _ r.log.state _
    (record {
      lawful = rw kept.ends (lawful-after kept.legal.start calls may.lawful);
      config = may.config;
      before = may.before ++ calls;
      leads = kept.ends ∙ rw (may.leads, state_after-append (boot may.config) may.before calls) refl;
      first = λ none. absurd (omega (arith, none));
    })
    (header_next r.log.volume _ r.header _ (rw same kept.legal.header) (digest_is _))

-- a first volume was made from the boot state of the configuration that the core has at its end
pub whole_from : (r : Recording) (config : Configuration) → IsKept r → r.log.volume ≡ 0 → r.log.state.config ≡ config → IsWholeFrom config r.log
whole_from r config kept none same =
    let may = kept.legal.may in
    let calls = calls_of r.log.entries in
    let boots : kept.legal.start ≡ boot may.config = may.leads ∙ ap (state_after (boot may.config)) (may.first none) in
    let its : may.config ≡ config = sym (ap (λ (m : State). m.config) kept.ends ∙ (config-after kept.legal.start calls ∙ ap (λ (m : State). m.config) boots)) ∙ same in
    let start : kept.legal.start ≡ boot config = boots ∙ ap boot its in
    record {
      made = subst (λ m. IsMadeFrom m r.log.entries) start kept.legal.made;
      ends = kept.ends ∙ ap (λ m. state_after m calls) start;
    }
