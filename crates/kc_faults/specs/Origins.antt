-- Where the calls of a trace begin, by what the first source of an engine holds.
use Rattle.std.specs.Prelude.{◌≡◌, ◌⊎◌, List, ℕ, true, false, Option, Some, None, Ok, IfSome}
use Rattle.kc_types.specs.Configuration.{Configuration, has_dump}
use Rattle.kc_model.specs.State.{State}
use Rattle.kc_model.specs.Boot.{boot}
use Rattle.kc_model.specs.Volumes.{IsCoreState}
use Rattle.kc_config_text.specs.ConfigText.{config_in}
use Rattle.kc_state_text.specs.StateText.{placed_state_text}
use Rattle.kc_trace.specs.declared.header.Position.{Position}
use Rattle.kc_trace.specs.declared.header.Head.{Head}
use Rattle.kc_trace.specs.declared.header.Header.TheVariants.{Three}
use Rattle.kc_trace.specs.Header.{IsPosition, IsHead, trace_header}
use Rattle.kc_trace.specs.Trace.{IsRefused}
use Rattle.kc_trace.specs.Expected.{IsRefusedThere}
use Rattle.kc_trace.specs.declared.expected.Expected.{Expected}
use Rattle.kc_trace.specs.declared.expected.Expected.TheVariants.{Bare, First, At}
use Rattle.kc_trace.specs.declared.expected.HeaderFault.{HeaderFault}
use Rattle.kc_trace.specs.declared.fault.TraceFault.{TraceFault}
use Rattle.kc_trace.specs.declared.fault.TraceFault.TheVariants.{Misplaced}
use Rattle.kc_texts.specs.declared.order.Origin.{Origin}
use Rattle.kc_texts.specs.declared.order.Origin.TheVariants as origins

-- which header the trace may have that goes on from a state with this position: one that says the same position, or none
abbrev pub expected_at : Option Position → Expected
expected_at None = Bare
expected_at (Some position) = At position

-- the position of a state from which the trace with this header goes on, if it has one
abbrev pub position_at : Expected → Option Position
position_at (At position) = Some position
position_at expected = None

-- the text spells this machine: it is that of a configuration, or the header of a trace that names the machine in its head
abbrev pub SpellsMachine : List ℕ → Configuration → Type 0
SpellsMachine text config = (config_in text ≡ Ok config) ⊎ ((head : Head) × IsHead head × (text ≡ trace_header (Three head)) × (config ≡ head.config))

-- calls begin in this state, and their trace may have the header that is expected there: the boot state of the
-- machine that the text spells, or the state that it spells
abbrev pub BeginsIn : Origin → List ℕ → State → Expected → Type 0
BeginsIn origins.Boot text m expected = (config : Configuration) × SpellsMachine text config × (m ≡ boot config) × (expected ≡ First)
BeginsIn origins.State text m expected = IsCoreState m × (position : Option Position) × IfSome position IsPosition × (text ≡ placed_state_text position m) × (expected ≡ expected_at position)

-- the version of the machine that calls begin on has a dump and a text of a state
abbrev pub HasTexts : Origin → List ℕ → Type 0
HasTexts origin text = (m : State) × (expected : Expected) × BeginsIn origin text m expected × (has_dump m.config.version ≡ true)

-- the version of that machine has none
abbrev pub LacksTexts : Origin → List ℕ → Type 0
LacksTexts origin text = (m : State) × (expected : Expected) × BeginsIn origin text m expected × (has_dump m.config.version ≡ false)

-- the text is a trace whose header may not be where the other text is of the start, and this is wrong with it
abbrev pub IsMisplaced : Origin → Option (List ℕ) → List ℕ → HeaderFault → Type 0
IsMisplaced origin None text wrong = Unit {0}
IsMisplaced origin (Some start) text wrong = (m : State) × (expected : Expected) × BeginsIn origin start m expected × IsRefusedThere m.config expected text (Misplaced wrong)

-- the text is not a trace that goes on from there, and this is the first reason
abbrev pub IsRefusedFrom : Origin → Option (List ℕ) → List ℕ → TraceFault → Type 0
IsRefusedFrom origin start text (Misplaced wrong) = IsMisplaced origin start text wrong
IsRefusedFrom origin start text fault = IsRefused text fault

-- there is a state in which they begin, if the source reports its text
abbrev pub IsBegun : Origin → Option (List ℕ) → Type 0
IsBegun origin None = Unit {0}
IsBegun origin (Some text) = (m : State) × (expected : Expected) × BeginsIn origin text m expected
