-- What is named by digests in what an engine writes.
use Rattle.std.specs.Prelude.{Bool, true, false}
use Rattle.kc_texts.specs.declared.order.Named.{Named}
use Rattle.kc_texts.specs.declared.order.Named.TheVariants as names

-- whether traces are named by their digests, and what the calls begin with by its own
abbrev pub names_trace : Named → Bool
names_trace names.Nothing = false
names_trace _ = true

abbrev pub names_start : Named → Bool
names_start names.Both = true
names_start _ = false
