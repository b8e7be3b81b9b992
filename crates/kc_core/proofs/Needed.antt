-- What a call needs is here.
use Rattle.std.proofs.Common.{ℕ, ◌≡◌, ◌<◌, true, Some, is_some}
use Rattle.kc_types.specs.Configuration.{Configuration, slot_count}
use Rattle.kc_types.specs.declared.call.Call.{Call}
use Rattle.kc_types.specs.Slots.{slot_of}
use Rattle.kc_model.specs.State.{mapped_at}
use Rattle.kc_model.specs.Resources.{names_frame}
use Rattle.kc_model.proofs.Local.Needs as needs
use Rattle.kc_parts.specs.Parts.{Held, page_at, vm_at}
use Rattle.kc_parts.specs.States.{state_of, here_of}
use Rattle.kc_core.specs.Applying.{IsAble}

module _ (config : Configuration) (h : Held) (call : Call) (able : IsAble config h call) where
  -- the slot that the call names
  pub slot-needed : (v : ℕ) → slot_of call ≡ Some v → v < slot_count config → is_some (vm_at h v) ≡ true
  slot-needed v names low = needs.has_slot (here_of h) (state_of config h) call able.orderly able.here v names (rw able.orderly.slots low)

  -- the frame that the call names
  pub frame-needed : (f : ℕ) → names_frame call f ≡ true → f < config.frames → is_some (page_at h f) ≡ true
  frame-needed f names low = needs.has_named (here_of h) (state_of config h) call able.orderly able.here f names (rw able.orderly.frames low)

  -- the frame at a guest frame of the slot that the call names
  pub mapped-needed : (v g f : ℕ) → slot_of call ≡ Some v → v < slot_count config → mapped_at (state_of config h) v g ≡ Some f → is_some (page_at h f) ≡ true
  mapped-needed v g f names low is = needs.has_listed (here_of h) (state_of config h) call able.orderly able.here v f names low ((able.orderly.each_slot v low).listed g f is)
