-- What a call names in a core of a configuration.
use Rattle.std.specs.Prelude.{ℕ, nat_lt, Option, Some, None, if◌then◌else◌}
use Rattle.kc_types.specs.declared.call.Call.{Call}
use Rattle.kc_types.specs.declared.call.Call.TheVariants.{Give, HostFault, HostRead, HostWrite, Remap, Map, Drop, Clear}
use Rattle.kc_types.specs.Configuration.{Configuration, slot_count}
use Rattle.kc_types.specs.Slots.{slot_of}
use Rattle.kc_model.specs.Resources.{uses_free}
use Rattle.kc_footprints.specs.declared.names.Gain.{Gain}
use Rattle.kc_footprints.specs.declared.names.Gain.TheVariants.{Nothing, SlotTakesFrame, FreeTakesFrame, FreeTakesReach}
use Rattle.kc_footprints.specs.declared.names.Names.{Names}

abbrev pub named_frame : Call → Option ℕ
named_frame (Give f) = Some f
named_frame (HostFault f) = Some f
named_frame (HostRead f off len) = Some f
named_frame (HostWrite f off bytes) = Some f
named_frame (Remap v i f) = Some f
named_frame (Map v c f) = Some f
named_frame _ = None

abbrev pub gain_of : Call → Gain
gain_of (Give f) = FreeTakesFrame
gain_of (Remap v i f) = SlotTakesFrame
gain_of (Map v c f) = SlotTakesFrame
gain_of (Drop v c g) = FreeTakesReach
gain_of (Clear v) = FreeTakesReach
gain_of _ = Nothing

-- the number, if it is below n
abbrev pub below : ℕ → Option ℕ → Option ℕ
below n None = None
below n (Some x) = if nat_lt x n then Some x else None

abbrev pub names_of : Configuration → Call → Names
names_of config call = record {
  frame = below config.frames (named_frame call);
  slot = below (slot_count config) (slot_of call);
  free = uses_free call;
  gain = gain_of call;
}
