-- The header of a session that goes on from a state is one of a trace; and memory may run out whatever the text is.
use Rattle.std.proofs.Common.{◌≡◌, ◌∙◌, ℕ, List, drop, Option, Some, None, refl, inr}
use Rattle.std.specs.Prelude.{IfSome}
use Rattle.std.proofs.lemmas.List.Elements.{recursion_from_All}
use Rattle.kc_model.specs.State.{State}
use Rattle.kc_model.specs.Volumes.{IsCoreState, IsDigest}
use Rattle.kc_trace.specs.declared.header.Position.{Position}
use Rattle.kc_trace.specs.Header.{IsPosition}
use Rattle.kc_state_text.specs.StateText.{state_text, placed_state_text}
use Rattle.kc_state_text.specs.Faults.{fault_after}
use Rattle.kc_state_text.specs.Refused.{IsRefusedPlaced}
use Rattle.kc_state_text.specs.declared.fault.StateFault.TheVariants.{Memory}
use Rattle.kc_state_text.proofs.Placed.{placed-after}
use Rattle.kc_live.specs.Book.{MayRecord, header_at}

pub may_begin : (position : Option Position) (m : State) → IfSome position IsPosition → IsCoreState m → MayRecord (header_at m.config position)
may_begin None m is core = tt
may_begin (Some position) m is core = record {
  config = core.lawful.config;
  digests = recursion_from_All IsDigest m.config.approved core.digests;
  position = is;
}

any_position : (position : Option Position) → Memory ≡ fault_after position Memory
any_position None = refl
any_position (Some position) = refl

pub memory_of_any : (text : List ℕ) (position : Option Position) (m : State) → IfSome position IsPosition → text ≡ placed_state_text position m → IsRefusedPlaced text Memory
memory_of_any text position m is spelled = inr (record {
  position = position;
  rest = drop 14 (state_text m);
  header = record { whole = spelled ∙ placed-after position (drop 14 (state_text m)); is = is };
  why = Memory;
  refused = tt;
  same = any_position position;
})
