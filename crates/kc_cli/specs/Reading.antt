-- What is read of a configuration and a trace.
use Rattle.std.specs.Prelude.{ℕ, List, Option, IfSome}
use Rattle.kc_types.specs.Configuration.{Configuration}
use Rattle.kc_types.specs.declared.call.Call.{Call}
use Rattle.kc_trace.specs.Expected.{IsTraceThere}
use Rattle.kc_trace.specs.declared.expected.Expected.TheVariants.{First}
use Rattle.kc_faults.specs.Origins.{SpellsMachine}

-- the machine that one text spells, and the calls of the trace that the other is, which may be one from its boot state on
pub record AreRead (config_text trace_text : List ℕ) (config : Configuration) (calls : List Call) : Type 0 where
  pub configured : SpellsMachine config_text config
  pub traced : IsTraceThere config First trace_text calls

-- they are what was read, each if its source reports the text
pub record HaveRead (config_source trace_source : Option (List ℕ)) (config : Configuration) (calls : List Call) : Type 0 where
  pub configured : IfSome config_source (λ text. SpellsMachine text config)
  pub traced : IfSome trace_source (λ text. IsTraceThere config First text calls)
