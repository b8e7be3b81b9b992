-- Calls on ranges as lists of single calls that are served together, and traces that have such calls.
use Rattle.std.specs.Prelude.{ℕ, zero, suc, ◌+◌, List, [], ◌∷◌, ◌++◌, Option, Some, None}
use Rattle.kc_types.specs.declared.call.Call.{Call}
use Rattle.kc_types.specs.declared.call.Call.TheVariants.{HostFault, Remap, Map, GuestRead, Grant, Revoke}
use Rattle.kc_types.specs.declared.refusal.Refusal.{Refusal}
use Rattle.kc_model.specs.State.{State}
use Rattle.kc_model.specs.Refusals.{pending}
use Rattle.kc_model.specs.Effects.{Outcome}
use Rattle.kc_model.specs.Next.{next}
use Rattle.kc_model.specs.Together.{first_refusal, all_or_none, each_call}

-- `hfaultr f n`, `remapr v i f n`, `mapr v c f n`, `grantr v c g n`, `revoker v c g n`
pub data Range : Type 0 where
  host_faults : ℕ → ℕ → Range
  remaps : ℕ → ℕ → ℕ → ℕ → Range
  maps : ℕ → ℕ → ℕ → ℕ → Range
  grants : ℕ → ℕ → ℕ → ℕ → Range
  revokes : ℕ → ℕ → ℕ → ℕ → Range

-- the pages after the first one: the virtual processor waits for the next guest frame, and gets the next frame
abbrev pub filled : ℕ → ℕ → ℕ → ℕ → ℕ → List Call
filled v c g f zero = []
filled v c g f (suc n) = GuestRead v c g 0 1 ∷ Map v c f ∷ filled v c (g + 1) (f + 1) n

abbrev pub mapped_from : ℕ → ℕ → ℕ → ℕ → ℕ → List Call
mapped_from v c g f zero = []
mapped_from v c g f (suc n) = Map v c f ∷ filled v c (g + 1) (f + 1) n

-- the single calls that a call on a range makes
abbrev pub singles : State → Range → List Call
singles m (host_faults f n) = each_call HostFault f n
singles m (remaps v i f n) = each_call (Remap v i) f n
singles m (maps v c f n) = mapped_from v c (pending m v c) f n
singles m (grants v c g n) = each_call (Grant v c) g n
singles m (revokes v c g n) = each_call (Revoke v c) g n

-- a line of a trace: one call, or a call on a range
pub data Line : Type 0 where
  one : Call → Line
  range : Range → Line

abbrev pub next_line : State → Line → Outcome
next_line m (one call) = next m call
next_line m (range r) = all_or_none m (singles m r)

abbrev pub after_lines : State → List Line → State
after_lines m [] = m
after_lines m (line ∷ lines) = after_lines (next_line m line).1 lines

-- the trace with each range spelled out: the calls of one that is served, and none of one that is refused
abbrev pub if_served : Option Refusal → List Call → List Call
if_served None calls = calls
if_served (Some refusal) calls = []

abbrev pub spelled_line : State → Line → List Call
spelled_line m (one call) = call ∷ []
spelled_line m (range r) = if_served (first_refusal m (singles m r)) (singles m r)

abbrev pub spelled : State → List Line → List Call
spelled m [] = []
spelled m (line ∷ lines) = spelled_line m line ++ spelled (next_line m line).1 lines

-- the slot that a call on a range names
abbrev pub slot_of_range : Range → Option ℕ
slot_of_range (host_faults f n) = None
slot_of_range (remaps v i f n) = Some v
slot_of_range (maps v c f n) = Some v
slot_of_range (grants v c g n) = Some v
slot_of_range (revokes v c g n) = Some v
