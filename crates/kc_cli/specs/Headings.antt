-- How the first line comes of digests that were made as texts were read.
use Rattle.std.specs.Prelude.{ℕ, List, Option, Some, None}
use Rattle.kc_trace.specs.declared.custody_writer.StartDigest.{StartDigest}
use Rattle.kc_trace.specs.declared.custody_writer.StartDigest.TheVariants as starts
use Rattle.kc_trace.specs.declared.custody_writer.Digests.{Digests}
use Rattle.kc_trace.specs.declared.custody_writer.Heading.{Heading}
use Rattle.kc_trace.specs.declared.volume_writer.VolumeEntry.{VolumeEntry}
use Rattle.kc_texts.specs.declared.order.Origin.{Origin}
use Rattle.kc_texts.specs.declared.order.Origin.TheVariants as origins
use Rattle.kc_texts.specs.declared.order.Named.{Named}
use Rattle.kc_texts.specs.declared.order.Named.TheVariants as names
use Rattle.kc_texts.specs.declared.order.Scope.{Scope}
use Rattle.kc_cli.specs.Custody.{unnamed_start, first_number, trace_digest, chain_of}

-- what the calls begin with, by its digest, if it has one, and otherwise by the number of the first volume
abbrev pub start_by : Option (List ℕ) → Origin → Option ℕ → StartDigest
start_by None origin first = unnamed_start first
start_by (Some digest) origins.Boot first = starts.Config digest
start_by (Some digest) origins.State first = starts.State digest

abbrev pub digests_by : Named → Origin → Option (List ℕ) → Option ℕ → Option (List ℕ) → Option Digests
digests_by names.Nothing origin start first trace = None
digests_by named origin start first trace = Some (record { trace = trace; start = start_by start origin first })

abbrev pub heading_by : Scope → Origin → Option (List ℕ) → List VolumeEntry → Heading
heading_by scope origin start entries =
    record { digests = digests_by scope.named origin start (first_number entries) (trace_digest entries); is_unseen = scope.is_unseen; chain = chain_of entries }
