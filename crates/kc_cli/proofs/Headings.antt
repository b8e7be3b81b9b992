-- The heading that comes of digests is that of what they name.
use Rattle.std.proofs.Common.{ℕ, ◌≡◌, true, false, List, Option, Some, None, refl, ap}
use Rattle.kc_model.specs.State.{State}
use Rattle.kc_trace.specs.declared.expected.Expected.{Expected}
use Rattle.kc_texts.specs.declared.order.Origin.{Origin}
use Rattle.kc_texts.specs.declared.order.Origin.TheVariants as origins
use Rattle.kc_trace.specs.declared.custody_writer.Digests.{Digests}
use Rattle.kc_trace.specs.declared.volume_writer.VolumeEntry.{VolumeEntry}
use Rattle.kc_texts.specs.declared.order.Named.{Named}
use Rattle.kc_texts.specs.declared.order.Named.TheVariants as names
use Rattle.kc_texts.specs.declared.order.Scope.{Scope}
use Rattle.kc_texts.specs.Orders.{names_start}
use Rattle.kc_cli.specs.Custody.{NamesStart, first_number, trace_digest, chain_of, digests_of, heading_of}
use Rattle.kc_cli.specs.Headings.{digests_by, heading_by}

digests_are : (named : Named) (origin : Origin) (start : List ℕ) (m : State) (expected : Expected) (of_start : Option (List ℕ)) (first : Option ℕ) (of_trace : Option (List ℕ)) → NamesStart (names_start named) origin (Some start) m expected of_start
    → digests_by named origin of_start first of_trace ≡ digests_of named origin start m expected first of_trace
digests_are names.Nothing origin start m expected of_start first of_trace s = refl
digests_are names.Trace origin start m expected None first of_trace s = refl
digests_are names.Trace origin start m expected (Some e) first of_trace s = absurd (let never : true ≡ false = s.0 in cc)
digests_are names.Both origin start m expected None first of_trace s = absurd (let never : false ≡ true = s.0 in cc)
digests_are names.Both origins.Boot start m expected (Some e) first of_trace s = rw s.1 refl
digests_are names.Both origins.State start m expected (Some e) first of_trace s = rw s.1 refl

pub headed : (scope : Scope) (origin : Origin) (start : List ℕ) (m : State) (expected : Expected) (of_start : Option (List ℕ)) (entries : List VolumeEntry) → NamesStart (names_start scope.named) origin (Some start) m expected of_start → heading_by scope origin of_start entries ≡ heading_of scope origin start m expected entries
headed scope origin start m expected of_start entries s =
    ap (λ (digests : Option Digests). record { digests = digests; is_unseen = scope.is_unseen; chain = chain_of entries })
    (digests_are scope.named origin start m expected of_start (first_number entries) (trace_digest entries) s)
