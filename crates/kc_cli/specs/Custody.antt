-- What the engine of custody writes of what its sources held.
use Rattle.std.specs.Prelude.{◌≡◌, ◌≤◌, ◌+◌, ◌++◌, ◌||◌, ℕ, Bool, not, true, false, List, [], ◌∷◌, length, map, filter, All, Option, Some, None, is_some, IfSome}
use Rattle.std.specs.List.{range_with_len}
use Rattle.sha2.specs.Sha256.{sha256}
use Rattle.kc_types.specs.Limits.{call_limit}
use Rattle.kc_types.specs.Configuration.{Configuration}
use Rattle.kc_types.specs.declared.call.Call.{Call}
use Rattle.kc_model.specs.State.{State}
use Rattle.kc_model.specs.Lawful.{IsLawful}
use Rattle.kc_model.specs.Next.{replies_from}
use Rattle.kc_model.specs.Promises.{KeepsPromises}
use Rattle.kc_model.specs.Redaction.{DifferInBytes, KeepsImages}
use Rattle.kc_model.specs.Blanking.{blank_state}
use Rattle.kc_model.specs.LeavingOut.{marked, MayLackOthers, custody_on}
use Rattle.kc_model.specs.Custody.{custody, first_line}
use Rattle.kc_model.specs.CustodyLaws.{IsCustody}
use Rattle.kc_model.specs.CustodyBlind.{CustodyIsBlind}
use Rattle.kc_model.specs.Events.{events, changes_in}
use Rattle.kc_model.specs.Lives.{selected_lives}
use Rattle.kc_model.specs.Before.{lives_from}
use Rattle.kc_model.specs.Summaries.{AreSummaries}
use Rattle.kc_model.specs.Bars.{AreBars}
use Rattle.kc_remarks.specs.declared.remark.Note.{Note}
use Rattle.kc_remarks.specs.Remarks.{notes, events_in}
use Rattle.kc_remarks.specs.Unread.{NotesShowNoBytes, NotesAreRedacted}
use Rattle.kc_remarks.specs.Attempts.{attempts_in, AllAttemptsAreCounted}
use Rattle.kc_remarks.specs.declared.remark.Remarks.{Remarks}
use Rattle.kc_remarks.specs.Denials.{is_denial}
use Rattle.kc_html.specs.Html.{html_text_of}
use Rattle.kc_picture.specs.Foot.{HasFoot}
use Rattle.kc_state_text.specs.StateText.{placed_state_text}
use Rattle.kc_custody.specs.Chosen.{chosen, NamesOnly}
use Rattle.kc_trace.specs.declared.expected.Expected.{Expected}
use Rattle.kc_trace.specs.Trace.{IsTraceUnder}
use Rattle.kc_trace.specs.Header.{is_host_redacted}
use Rattle.kc_trace.specs.Expected.{MayHave, head_number}
use Rattle.kc_trace.specs.declared.custody_writer.StartDigest.{StartDigest}
use Rattle.kc_trace.specs.declared.custody_writer.StartDigest.TheVariants as starts
use Rattle.kc_trace.specs.declared.custody_writer.Digests.{Digests}
use Rattle.kc_trace.specs.declared.custody_writer.Heading.{Heading}
use Rattle.kc_trace.specs.declared.volume_writer.VolumeEntry.{VolumeEntry}
use Rattle.kc_trace.specs.declared.volume_writer.VolumeNumbers.{VolumeNumbers}
use Rattle.kc_trace.specs.declared.volume_writer.Order.{Order}
use Rattle.kc_trace.specs.declared.volume_writer.Order.TheVariants as order
use Rattle.kc_trace.specs.declared.volume_writer.Chain.{Chain}
use Rattle.kc_trace.specs.RemarkText.{notes_text_of}
use Rattle.kc_trace.specs.SummaryText.{summary_text_of}
use Rattle.kc_texts.specs.Orders.{names_trace, names_start}
use Rattle.kc_texts.specs.declared.order.Origin.{Origin}
use Rattle.kc_texts.specs.declared.order.Origin.TheVariants as origins
use Rattle.kc_faults.specs.Origins.{BeginsIn, position_at}
use Rattle.kc_texts.specs.declared.order.CustodyForm.{CustodyForm}
use Rattle.kc_texts.specs.declared.order.CustodyForm.TheVariants.{Changes, Summary, Picture, Html}
use Rattle.kc_texts.specs.declared.order.Named.{Named}
use Rattle.kc_texts.specs.declared.order.Named.TheVariants as names
use Rattle.kc_texts.specs.declared.order.Scope.{Scope}
use Rattle.kc_cli.specs.Traced.{Traced, trace_named, expected_next, redacted_trace}

-- what the machine did unseen between these calls changes nothing of what is reported: whatever reads and writes the trace lacks that it may lack, the changes by its calls are those of all that happened, each on the line that its call has there
abbrev pub IsCustodyOfAll : State → List Call → Type 0
IsCustodyOfAll m calls =
    (custody_on (range_with_len first_line (length calls)) m calls ≡ custody m calls)
    × ((kept : ℕ → Bool) (n : State) (marks : List Bool) (happened : List Call) → IsLawful n → DifferInBytes kept n m → MayLackOthers kept n marks happened → KeepsImages kept happened → marked marks happened ≡ calls
    → (lines : List ℕ) → length lines ≡ length happened → custody_on (marked marks lines) m calls ≡ custody_on lines n happened)

-- the calls of all volumes, one after another
abbrev pub joined : List Traced → List Call
joined [] = []
joined (volume ∷ volumes) = volume.calls ++ joined volumes

-- the sources' texts, as far as they are known, are traces of this machine, one after another: the first has a header that is expected there, and each other one that may come after the one before it
abbrev pub AreVolumes : Configuration → Expected → List (Option (List ℕ)) → List Traced → Type 0
AreVolumes config expected [] [] = Unit {0}
AreVolumes config expected (source ∷ sources) (volume ∷ volumes) =
    MayHave config expected volume.header × IfSome source (λ text. IsTraceUnder volume.header text volume.calls) × (length volume.calls ≤ call_limit) × AreVolumes config (expected_next volume) sources volumes
AreVolumes config expected _ _ = ⊥

-- the notes are those on these calls, made from a lawful state on, and this many of them were refused or rejected: the events among them are those of the calls, and the changes among these their custody; the calls keep the promises, and what their custody, its lives and its bars say holds, also of what the machine did unseen; and they show nothing of bytes that virtual processors write
pub record IsCustodyTold (m : State) (calls : List Call) (count refused : ℕ) (told : List Note) : Type 0 where
  pub counted : count ≡ length calls
  pub exact : told ≡ notes m calls
  pub refused_is : refused ≡ length (filter is_denial (replies_from m calls))
  pub events : events_in told ≡ events m calls
  pub changes : changes_in (events_in told) ≡ custody m calls
  pub promises : KeepsPromises m calls
  pub laws : IsCustody m calls
  pub blind : CustodyIsBlind m calls
  pub unread : NotesShowNoBytes m calls
  pub redacted : NotesAreRedacted m calls
  pub all : IsCustodyOfAll m calls
  pub summaries : AreSummaries m calls
  pub attempts : AllAttemptsAreCounted m calls
  pub bars : AreBars m calls
  -- in a report of one VM no note names another VM
  pub own : (v : ℕ) (remarks : Remarks) → All (NamesOnly v) (chosen (Some v) remarks told)

-- what a page has of calls beside their changes: what was refused, and what was served if the machine's own accesses are in the trace
abbrev pub page_remarks : Bool → Remarks
page_remarks unseen = record { refused = true; accesses = not unseen }

-- the text is that of the changes of all frames and slots, or of one slot's VM, and of what else is asked for; that of the lives of all VMs, or of one slot's, from those that are under way in this state on, with what was refused at their pages; a picture, which says at its foot of what it is; or a page for a browser, with the first of these texts in it, and what was refused and served. The volumes are those that it names
abbrev pub IsAccount : CustodyForm → Option ℕ → Heading → State → List VolumeEntry → ℕ → ℕ → List Note → List ℕ → Type 0
IsAccount (Changes remarks) vm heading m volumes count refused told text = text ≡ notes_text_of heading m.config volumes count refused (chosen vm remarks told)
IsAccount Summary vm heading m volumes count refused told text = text ≡ summary_text_of heading m.config volumes count refused (attempts_in told) (selected_lives vm (lives_from m (events_in told)))
IsAccount Picture vm heading m volumes count refused told text = HasFoot heading text
IsAccount Html vm heading m volumes count refused told text = text ≡ html_text_of (notes_text_of heading m.config volumes count refused (chosen vm (page_remarks heading.is_unseen) told))

-- what the calls begin with is named by a digest, too: a configuration by that of its text, and a state by that of the text of the state with the pages of active VMs zeroed, with its position
abbrev pub start_digest : Origin → List ℕ → State → Expected → List ℕ
start_digest origins.Boot text m expected = sha256 text
start_digest origins.State text m expected = sha256 (placed_state_text (position_at expected) (blank_state m))

-- this digest is there if it is asked for, and it is that of the state which the source spells, if what the source held is known
abbrev pub NamesStart : Bool → Origin → Option (List ℕ) → State → Expected → Option (List ℕ) → Type 0
NamesStart asked origin source m expected digest = (is_some digest ≡ asked) × IfSome digest (λ d. IfSome source (λ text. d ≡ start_digest origin text m expected))

-- a volume by the line of its first call, by the number of its calls, by its own number, and whether it lacks bytes that the host wrote, if it has a head, and by its digest, if that is asked for
abbrev pub entry_of : Bool → ℕ → Traced → VolumeEntry
entry_of named line volume =
    record { line = line; calls = length volume.calls; number = head_number volume.header; is_host_redacted = is_host_redacted volume.header; digest = trace_named named volume }

-- each volume, of which the first one's first call has this line
abbrev pub entries_of : Bool → ℕ → List Traced → List VolumeEntry
entries_of named line [] = []
entries_of named line (volume ∷ volumes) = entry_of named line volume ∷ entries_of named (line + length volume.calls) volumes

-- volumes are named on lines of their own if there are several
abbrev pub listed : List VolumeEntry → List VolumeEntry
listed (entry ∷ []) = []
listed entries = entries

-- the one trace, by its digest, if that is asked for
abbrev pub trace_digest : List VolumeEntry → Option (List ℕ)
trace_digest (entry ∷ []) = entry.digest
trace_digest _ = None

-- the number of the first volume, if it has a head
abbrev pub first_number : List VolumeEntry → Option ℕ
first_number [] = None
first_number (entry ∷ entries) = entry.number

-- that of the last one
abbrev pub last_number : List VolumeEntry → Option ℕ
last_number [] = None
last_number (entry ∷ []) = entry.number
last_number (entry ∷ next ∷ entries) = last_number (next ∷ entries)

-- these two numbers, if both are there
abbrev pub numbers_between : Option ℕ → Option ℕ → Option VolumeNumbers
numbers_between (Some first) (Some last) = Some (record { first = first; last = last })
numbers_between first last = None

-- the numbers of the first and the last volume, if they have heads, as all have or none
abbrev pub numbers_in : List VolumeEntry → Option VolumeNumbers
numbers_in entries = numbers_between (first_number entries) (last_number entries)

-- the number of the last volume is that of the first, and one more for each volume after it, if they have heads
abbrev pub AreNumbered : List VolumeEntry → Type 0
AreNumbered entries = IfSome (numbers_in entries) (λ numbers. numbers.last + 1 ≡ numbers.first + length entries)

-- whether a volume that another one follows lacks bytes that the host wrote
abbrev pub lacks_digest : List VolumeEntry → Bool
lacks_digest [] = false
lacks_digest (entry ∷ []) = false
lacks_digest (entry ∷ next ∷ entries) = entry.is_host_redacted || lacks_digest (next ∷ entries)

-- by what it was judged that each volume follows the one before it: these are their numbers, if they have heads
abbrev pub order_by : Bool → Option VolumeNumbers → Order
order_by lacks None = order.NotJudged
order_by true (Some numbers) = order.Numbers numbers
order_by false (Some numbers) = order.Digests numbers

-- which volumes these are: how many, if there are several, and by what their order was judged
abbrev pub chain_of : List VolumeEntry → Chain
chain_of entries = record { count = length (listed entries); order = order_by (lacks_digest entries) (numbers_in entries) }

-- what the calls begin with if no file is named for it, by the number of the first volume: the machine in its head, or the default one
abbrev pub unnamed_start : Option ℕ → StartDigest
unnamed_start None = starts.Default
unnamed_start (Some number) = starts.Head

-- the digests of what is named: the calls begin with this text, in this state, and this is the number of the first volume, if it has a head
abbrev pub digests_of : Named → Origin → List ℕ → State → Expected → Option ℕ → Option (List ℕ) → Option Digests
digests_of names.Nothing origin start m expected first trace = None
digests_of names.Trace origin start m expected first trace = Some (record { trace = trace; start = unnamed_start first })
digests_of names.Both origins.Boot start m expected first trace = Some (record { trace = trace; start = starts.Config (start_digest origins.Boot start m expected) })
digests_of names.Both origins.State start m expected first trace = Some (record { trace = trace; start = starts.State (start_digest origins.State start m expected) })

-- what the first line says beside the sizes of the core
abbrev pub heading_of : Scope → Origin → List ℕ → State → Expected → List VolumeEntry → Heading
heading_of scope origin start m expected entries =
    record { digests = digests_of scope.named origin start m expected (first_number entries) (trace_digest entries); is_unseen = scope.is_unseen; chain = chain_of entries }

-- the volumes as they are named in what this is the scope of
abbrev pub entries_in : Scope → List Traced → List VolumeEntry
entries_in scope volumes = entries_of (names_trace scope.named) first_line volumes

-- the text is what is reported of all calls of these volumes, as if they were one trace, from this state on, which the first text is of
abbrev pub IsMadeOf : Origin → CustodyForm → Scope → List ℕ → State → Expected → List Traced → ℕ → ℕ → List ℕ → Type 0
IsMadeOf origin form scope start m expected volumes count refused text =
    IsAccount form scope.vm (heading_of scope origin start m expected (entries_in scope volumes)) m (listed (entries_in scope volumes)) count refused (notes m (joined volumes)) text

-- it shows nothing of what guests wrote: it is also what is reported of the redacted volumes, from the state on in which the pages of active VMs are zeroed, whatever the text of that; a configuration is the same one
abbrev pub IsMadeBlind : Origin → CustodyForm → Scope → List ℕ → State → Expected → List Traced → ℕ → ℕ → List ℕ → Type 0
IsMadeBlind origin form scope start m expected volumes count refused text =
    (other : List ℕ) → (origin ≡ origins.Boot → other ≡ start) → IsMadeOf origin form scope other (blank_state m) expected (map redacted_trace volumes) count refused text

-- the text is made of the notes on all calls of the volumes, and shows nothing of what guests wrote
pub record IsCustodyText (origin : Origin) (form : CustodyForm) (scope : Scope) (start : List ℕ) (traces : List (List ℕ)) (text : List ℕ) : Type 0 where
  pub first : State
  pub expected : Expected
  pub begins : BeginsIn origin start first expected
  pub volumes : List Traced
  pub traced : AreVolumes first.config expected (map Some traces) volumes
  pub numbered : AreNumbered (entries_in scope volumes)
  pub count : ℕ
  pub refused : ℕ
  pub told : List Note
  pub custody : IsCustodyTold first (joined volumes) count refused told
  pub account : IsMadeOf origin form scope start first expected volumes count refused text
  pub blind : IsMadeBlind origin form scope start first expected volumes count refused text
