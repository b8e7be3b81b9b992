-- What a job's files hold, and how opening them fails.
use Rattle.std.specs.Prelude.{◌≡◌, ◌⊎◌, ℕ, Bool, true, false, List, codes, Option, Some, None}
use Rattle.kc_trace.specs.declared.header.Head.{Head}
use Rattle.kc_trace.specs.declared.header.Header.TheVariants.{Three}
use Rattle.kc_trace.specs.Header.{trace_header}
use Rattle.kc_texts.specs.Headed.{IsHeadOf}
use Rattle.kc_faults.specs.declared.fault.TextFault.{TextFault}
use Rattle.kc_faults.specs.declared.fault.TextFault.TheVariants as texts
use Rattle.kc_texts.specs.Ends.{Seen, seen}
use Rattle.kc_args.specs.Jobs.{Path}

-- the bytes of the file at each path, if the files report them
abbrev pub Held : Type 0
Held = List ℕ → Option (List ℕ)

-- the configuration if no other is named: 8 frames, of which the first is the core's and the next four are the host's, one leaf table a VM, and the digest of `abc` approved
abbrev pub default_config : List ℕ
default_config = codes "{\"frames\":8,\"core\":1,\"host\":4,\"leaves\":1,\"approved\":[\"ba7816bf8f01cfea414140de5dae2223b00361a396177a9cb410ff61f20015ad\"]}"

-- the text is the header of this trace, which has a head
abbrev pub IsHeaderOf : Option (List ℕ) → List ℕ → Type 0
IsHeaderOf trace text = (head : Head) × IsHeadOf trace (Some head) × (text ≡ trace_header (Three head))

-- the text of what calls begin with if no file is named for it: the header of their trace, if that has a head, and otherwise the default configuration
abbrev pub IsUnnamed : Option (List ℕ) → List ℕ → Type 0
IsUnnamed trace text = IsHeaderOf trace text ⊎ (IsHeadOf trace None × (text ≡ default_config))

-- this source holds such a text, and no read of it fails
pub record HoldsStart (Spells : List ℕ → Type 0) (source : Seen) : Type 0 where
  pub text : List ℕ
  pub had_is : source.had ≡ Some text
  pub ready : source.failed ≡ false
  pub spells : Spells text

-- whether the trace has a head could not be seen: a read of it failed, or memory ran out
abbrev pub IsUnseenFault : Bool → TextFault → Type 0
IsUnseenFault true fault = fault ≡ texts.Read
IsUnseenFault false fault = fault ≡ texts.Memory

-- this source is an open file, as it was when no read of it had failed and as it was left; `left` and `failed` say of a file what is left of it, and whether a read of it failed
pub record IsOfFile {S : Type 0} (left : S → Option (List ℕ)) (failed : S → Bool) (source : Seen) : Type 0 where
  pub old : S
  pub new : S
  pub ready : failed old ≡ false
  pub seen_is : source ≡ seen failed left old new

-- the file at this path could not be opened, or there was no memory to open it
abbrev pub IsOpenFault : Path → Option (List ℕ) → TextFault → Type 0
IsOpenFault path refused texts.Read = refused ≡ Some path.now
IsOpenFault path refused fault = (refused ≡ None) × (fault ≡ texts.Memory)
