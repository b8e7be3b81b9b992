-- What accounts of one kind are of, what is written of them, and how they may be refused.
use Rattle.std.specs.Prelude.{◌≡◌, ◌≢◌, ◌<◌, ◌≤◌, ◌⊎◌, ◌↔◌, ℕ, List, length, Option, Some, Result, Err, IfSome, IsErrOf, OnOk}
use Rattle.std.specs.Io.KnownBytes.{IsAtEnd}
use Rattle.kc_types.specs.Configuration.{Configuration, slot_count}
use Rattle.kc_types.specs.Limits.{worker_limit}
use Rattle.kc_model.specs.State.{State}
use Rattle.kc_trace.specs.declared.expected.Expected.{Expected}
use Rattle.kc_trace.specs.Expected.{IsRefusedThere}
use Rattle.kc_trace.specs.declared.fault.TraceFault.{TraceFault}
use Rattle.kc_trace.specs.declared.fault.TraceFault.TheVariants.{TooManyCalls}
use Rattle.kc_texts.specs.Ends.{Seen}
use Rattle.kc_faults.specs.declared.fault.TextFault.{TextFault}
use Rattle.kc_faults.specs.declared.fault.TextFault.TheVariants as texts
use Rattle.kc_texts.specs.declared.order.Origin.{Origin}
use Rattle.kc_faults.specs.Origins.{BeginsIn, IsBegun}
use Rattle.kc_cli.specs.declared.sequence.TheConstants.{CALLS_BEFORE}
use Rattle.kc_cli.specs.Traced.{Traced, expected_last}
use Rattle.kc_cli.specs.Custody.{joined, AreVolumes}

-- of accounts of one kind, by what is ordered of them
pub record Kind (Account Order : Type 0) : Type 1 where
  -- what the calls begin with
  pub origin : Order → Origin
  -- the slot that the machine has to have, if one is named, and the number of workers
  pub slot : Order → Option ℕ
  pub workers : Order → ℕ
  -- what is written of the calls of these traces, from what the first text is of
  pub text : Order → List ℕ → List (List ℕ) → List ℕ → Type 0
  -- which header the first trace may have
  pub first : Account → Expected
  -- the account began in this state, which what this source held is of
  pub begun : Order → Account → State → Option (List ℕ) → Type 0
  -- it is of the calls in these sources, made from this lawful state on
  pub of : Order → Account → State → List (Option (List ℕ)) → Type 0
  -- and it says what may come after the last of them
  pub told : Order → Account → State → List (Option (List ℕ)) → Type 0

-- the machine that calls begin on has the slot of this number, or has not
abbrev pub HasSlot : Origin → List ℕ → ℕ → Type 0
HasSlot origin text number = (m : State) × (expected : Expected) × BeginsIn origin text m expected × (number < slot_count m.config)

abbrev pub LacksSlot : Origin → List ℕ → ℕ → Type 0
LacksSlot origin text number = (m : State) × (expected : Expected) × BeginsIn origin text m expected × (slot_count m.config ≤ number)

-- what an account, of one slot if it is named and by this many workers, may be refused for after this start, besides its texts
pub record TellsAccount {A : Type 0} (slot : Option ℕ) (workers : ℕ) (origin : Origin) (start : Option (List ℕ)) (unread : Type 0) (result : Result A TextFault) : Type 0 where
  -- a slot that the machine lacks is refused before the trace is read, and no other slot is
  pub named : OnOk result (IfSome slot (λ number. IfSome start (λ text. HasSlot origin text number)))
  pub lacking : (number : ℕ) → result ≡ Err (texts.NoSlot number) → (slot ≡ Some number) × IfSome start (λ text. LacksSlot origin text number) × unread
  pub judged : IsErrOf result texts.Workers ↔ ((workers ≡ 0) ⊎ (worker_limit < workers))
  -- a worker is started only if there is more than one
  pub started : result ≡ Err texts.Start → (1 < workers) × IsBegun origin start
  -- no fault of a live run comes
  pub settled : result ≢ Err texts.Unsettled
  pub actor : (program : ℕ) → result ≢ Err (texts.BadActor program)
  -- and no text of a dump or a state is wanted
  pub text : result ≢ Err texts.NoText

-- the source that is read after these is refused: all before it hold traces of this machine, the first under a header that is expected there, and each other one under one that may come after the one before it
pub record IsNextRefused (config : Configuration) (expected : Expected) (before : List (Option (List ℕ))) (source : Seen) (fault : TraceFault) : Type 0 where
  pub volumes : List Traced
  pub traced : AreVolumes config expected before volumes
  -- its bytes are not a trace, or one that does not come after those before it; or it was not read, since those have too many calls
  pub fault_is : (IfSome source.had (λ text. IsRefusedThere config (expected_last expected volumes) text fault) × IsAtEnd source.has) ⊎ ((fault ≡ TooManyCalls) × (CALLS_BEFORE < length (joined volumes)))
