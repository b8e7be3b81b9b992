-- The state before each call of a trace, and what the call may touch, judged only by the names in the calls.
use Rattle.std.specs.Prelude.{ℕ, zero, suc, Bool, false, ◌&&◌, ◌||◌, ◌==◌, nat_lt, List, slice_index_or}
use Rattle.kc_types.specs.declared.call.Call.{Call}
use Rattle.kc_types.specs.declared.call.Call.TheVariants.{Take, Give, Remap, Map, Drop, Clear}
use Rattle.kc_types.specs.declared.reply.Reply.{Reply}
use Rattle.kc_types.specs.Configuration.{Configuration, slot_count}
use Rattle.kc_types.specs.declared.owner.Owner.{Owner}
use Rattle.kc_types.specs.declared.owner.Owner.TheVariants.{Free, Vm}
use Rattle.kc_model.specs.State.{State, frame_at}
use Rattle.kc_model.specs.Lawful.{same_owner}
use Rattle.kc_model.specs.Next.{next}
use Rattle.kc_model.specs.Resources.{Resource, Resources, Part, part_of, touched}

abbrev pub call_at : List Call → ℕ → Call
call_at calls k = slice_index_or calls k Take

abbrev pub state_at : State → List Call → ℕ → State
state_at m calls zero = m
state_at m calls (suc k) = (next (state_at m calls k) (call_at calls k)).1

abbrev pub reply_at : State → List Call → ℕ → Reply
reply_at m calls k = (next (state_at m calls k) (call_at calls k)).0

-- the frames that a call may bring an owner, where `held` says which frames an owner may have before it
abbrev pub gains : Configuration → (Owner → ℕ → Bool) → Call → Owner → ℕ → Bool
gains config held (Give g) Free f = nat_lt g config.frames && g == f
gains config held (Drop v c g) Free f = nat_lt v (slot_count config) && held (Vm v) f
gains config held (Clear v) Free f = nat_lt v (slot_count config) && held (Vm v) f
gains config held (Remap v i g) (Vm w) f = (v == w) && (nat_lt g config.frames && g == f)
gains config held (Map v c g) (Vm w) f = (v == w) && (nat_lt g config.frames && g == f)
gains config held call owner f = false

-- the frames that an owner may have before a call
abbrev pub reach : State → List Call → ℕ → Owner → ℕ → Bool
reach m calls zero owner f = same_owner (frame_at m f).owner owner
reach m calls (suc k) owner f = reach m calls k owner f || gains m.config (reach m calls k) (call_at calls k) owner f

abbrev pub footprint : State → List Call → ℕ → Resources
footprint m calls k = touched m.config (reach m calls k) (call_at calls k)

-- what a resource has before a call
abbrev pub part_at : State → List Call → ℕ → Resource → Part
part_at m calls k r = part_of (state_at m calls k) r
