-- What an account is of: the traces that were read, one after another.
use Rattle.std.specs.Prelude.{◌≡◌, ◌<◌, ◌+◌, ◌++◌, ◌^◌, ℕ, Bool, true, List, [], ◌∷◌, length, Option, Some, None, option_map, IfSome}
use Rattle.kc_types.specs.Configuration.{Configuration}
use Rattle.kc_model.specs.State.{State}
use Rattle.kc_model.specs.Lawful.{IsLawful}
use Rattle.kc_model.specs.Custody.{first_line}
use Rattle.kc_trace.specs.declared.header.Header.{Header}
use Rattle.kc_trace.specs.declared.volume_writer.VolumeEntry.{VolumeEntry}
use Rattle.kc_trace.specs.Header.{is_host_redacted}
use Rattle.kc_trace.specs.Expected.{MayHave, head_number, expected_after}
use Rattle.kc_faults.specs.Origins.{BeginsIn}
use Rattle.kc_cli.specs.declared.custody.CustodyOrder.{CustodyOrder}
use Rattle.kc_cli.specs.declared.custody.CustodyAccount.{CustodyAccount}
use Rattle.kc_cli.specs.declared.sequence.Sequence.{Sequence}
use Rattle.kc_cli.specs.Traced.{Traced, digest_if, trace_named, expected_last}
use Rattle.kc_texts.specs.Orders.{names_trace, names_start}
use Rattle.kc_cli.specs.Custody.{joined, entries_of, AreVolumes, NamesStart, IsCustodyText}
use Rattle.kc_cli.specs.Kinds.{Kind}
use Rattle.kc_cli.specs.Ledgers.{HasKept}

-- the texts of all sources, if each is known
abbrev pub known : List (Option (List ℕ)) → Option (List (List ℕ))
known [] = Some []
known (None ∷ sources) = None
known (Some text ∷ sources) = option_map (λ texts. text ∷ texts) (known sources)

-- one volume more was read, with this header and perhaps this digest: its header may come there, and it has an entry
pub record IsAdded (named : Bool) (config : Configuration) (old new : Sequence) (header : Header) (digest : Option (List ℕ)) (line calls : ℕ) : Type 0 where
  pub may : MayHave config old.next header
  pub next : new.next ≡ expected_after header digest
  pub entry : VolumeEntry
  pub pushed : new.entries.items ≡ old.entries.items ++ entry ∷ []
  pub room : length old.entries.items + 1 < 2 ^ 32
  pub at : entry.line ≡ line
  pub count : entry.calls ≡ calls
  pub number : entry.number ≡ head_number header
  pub hidden : entry.is_host_redacted ≡ is_host_redacted header
  pub digest_is : (volume : Traced) → (named ≡ true → digest ≡ digest_if true volume) → entry.digest ≡ trace_named named volume

-- these sources were read as these volumes of this machine, and each has its entry
pub record AreEntered (named : Bool) (config : Configuration) (sequence : Sequence) (sources : List (Option (List ℕ))) (volumes : List Traced) : Type 0 where
  pub traced : AreVolumes config sequence.first sources volumes
  pub entries : sequence.entries.items ≡ entries_of named first_line volumes
  pub counted : length sequence.entries.items < 2 ^ 32

-- the account is of the calls in these sources, made from this lawful state on, for what is ordered
pub record IsAccountOf (order : CustodyOrder) (account : CustodyAccount) (m : State) (sources : List (Option (List ℕ))) : Type 0 where
  pub ordered : account.order ≡ order
  pub lawful : IsLawful m
  pub volumes : List Traced
  pub read : AreEntered (names_trace order.scope.named) m.config account.sequence sources volumes
  pub kept : HasKept order.form m (joined volumes) account.core.state account.kept

-- and it says what may come after the last of them
pub record HasTold (order : CustodyOrder) (account : CustodyAccount) (m : State) (sources : List (Option (List ℕ))) : Type 0 where
  pub of : IsAccountOf order account m sources
  pub next : account.sequence.next ≡ expected_last account.sequence.first of.volumes

-- the account began in this state, which what this source held is of, and which is named by its digest if that is asked for
pub record HasBegun (order : CustodyOrder) (account : CustodyAccount) (m : State) (start : Option (List ℕ)) : Type 0 where
  pub begins : IfSome start (λ text. BeginsIn order.origin text m account.sequence.first)
  pub digest : NamesStart (names_start order.scope.named) order.origin start m account.sequence.first account.start

-- accounts of custody, which are made by one thread
abbrev pub custody_kind : Kind CustodyAccount CustodyOrder
custody_kind = record {
  origin = λ order. order.origin;
  slot = λ order. order.scope.vm;
  workers = λ order. 1;
  text = λ order. IsCustodyText order.origin order.form order.scope;
  first = λ account. account.sequence.first;
  begun = HasBegun;
  of = IsAccountOf;
  told = HasTold;
}
