-- What is written of the replay of several volumes: each call with its reply.
use Rattle.std.specs.Prelude.{◌≡◌, ◌≤◌, ◌+◌, ◌++◌, ℕ, false, List, map, min, codes, length, Option, Some, None, IfSome}
use Rattle.std.specs.List.{flat_map, range_with_len}
use Rattle.kc_types.specs.Configuration.{Configuration}
use Rattle.kc_types.specs.Limits.{call_limit}
use Rattle.kc_types.specs.declared.call.Call.{Call}
use Rattle.kc_types.specs.declared.reply.Reply.{Reply}
use Rattle.kc_model.specs.State.{State}
use Rattle.kc_model.specs.Lawful.{IsLawful}
use Rattle.kc_model.specs.Next.{replies_from, state_after}
use Rattle.kc_model.specs.Promises.{KeepsPromises}
use Rattle.kc_model.specs.Custody.{first_line}
use Rattle.kc_trace.specs.declared.expected.Expected.{Expected}
use Rattle.kc_trace.specs.declared.volume_writer.VolumeEntry.{VolumeEntry}
use Rattle.kc_trace.specs.declared.volume_writer.Chain.{Chain}
use Rattle.kc_trace.specs.AnswerText.{answer_at, longest_answer}
use Rattle.kc_trace.specs.CustodyText.{heading_text, volumes_text, placed_text, longest_place}
use Rattle.kc_texts.specs.declared.order.Origin.{Origin}
use Rattle.kc_faults.specs.Origins.{BeginsIn}
use Rattle.kc_cli.specs.declared.answering.LinesOrder.{LinesOrder}
use Rattle.kc_cli.specs.declared.answering.ReplayAccount.{ReplayAccount}
use Rattle.kc_cli.specs.declared.sequence.TheConstants.{CALLS_BEFORE}
use Rattle.kc_cli.specs.Traced.{Traced, expected_last}
use Rattle.kc_cli.specs.Custody.{joined, entries_of, listed, chain_of, AreVolumes, AreNumbered}
use Rattle.kc_cli.specs.Kinds.{Kind}
use Rattle.kc_cli.specs.Volumes.{AreEntered}

-- the first line says what that of custody says: the versions, the sizes of the core, and which volumes were read
abbrev pub replies_line : Chain → Configuration → List ℕ
replies_line chain config = codes "{\"replies\":" ++ heading_text (record { digests = None; is_unseen = false; chain = chain }) config None

-- the line of the call at this place, and of its reply, with the place of its volume first if there are several
abbrev pub placed_answer_at : List VolumeEntry → List Call → List Reply → ℕ → List ℕ
placed_answer_at volumes calls replies k = placed_text volumes (first_line + k) (answer_at calls replies k)

abbrev pub placed_answers : List VolumeEntry → List Call → List Reply → List ℕ
placed_answers volumes calls replies = flat_map (placed_answer_at volumes calls replies) (range_with_len 0 (min (length calls) (length replies)))

-- more bytes than the longest such line has
abbrev pub longest_placed_answer : ℕ
longest_placed_answer = longest_answer + longest_place

-- the first line, a line for each volume if there are several, and a line for each call
abbrev pub lines_text : Configuration → List VolumeEntry → List Call → List Reply → List ℕ
lines_text config entries calls replies = replies_line (chain_of entries) config ++ (volumes_text (listed entries) ++ placed_answers (listed entries) calls replies)

-- the volumes as they are named
abbrev pub entries_read : List Traced → List VolumeEntry
entries_read volumes = entries_of false first_line volumes

-- the text is made of the calls of all volumes, one after another, and of the replies of one thread, which takes them in order from the state that the first text is of; the calls keep the promises
pub record IsLinesText (origin : Origin) (start : List ℕ) (traces : List (List ℕ)) (text : List ℕ) : Type 0 where
  pub first : State
  pub expected : Expected
  pub begins : BeginsIn origin start first expected
  pub volumes : List Traced
  pub traced : AreVolumes first.config expected (map Some traces) volumes
  pub numbered : AreNumbered (entries_read volumes)
  pub promises : KeepsPromises first (joined volumes)
  pub written : text ≡ lines_text first.config (entries_read volumes) (joined volumes) (replies_from first (joined volumes))

-- the account is of the calls in these sources, made from this lawful state on by this many workers
pub record IsReplayOf (order : LinesOrder) (account : ReplayAccount) (m : State) (sources : List (Option (List ℕ))) : Type 0 where
  pub lawful : IsLawful m
  pub volumes : List Traced
  pub read : AreEntered false m.config account.sequence sources volumes
  pub calls : account.calls.items ≡ joined volumes
  pub replies : account.replies.items ≡ replies_from m (joined volumes)
  pub left : account.replayer.state ≡ Some (state_after m (joined volumes))
  pub workers : account.replayer.workers ≡ order.workers
  pub short : length (joined volumes) ≤ CALLS_BEFORE + call_limit

-- and it says what may come after the last of them
pub record HasReplayed (order : LinesOrder) (account : ReplayAccount) (m : State) (sources : List (Option (List ℕ))) : Type 0 where
  pub of : IsReplayOf order account m sources
  pub next : account.sequence.next ≡ expected_last account.sequence.first of.volumes

-- accounts of replies
abbrev pub lines_kind : Kind ReplayAccount LinesOrder
lines_kind = record {
  origin = λ order. order.origin;
  slot = λ order. None;
  workers = λ order. order.workers;
  text = λ order. IsLinesText order.origin;
  first = λ account. account.sequence.first;
  begun = λ order account m start. IfSome start (λ text. BeginsIn order.origin text m account.sequence.first);
  of = IsReplayOf;
  told = HasReplayed;
}
