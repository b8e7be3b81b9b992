-- What is wrong with a frame alone.
use Rattle.std.specs.Prelude.{ℕ, ◌==◌, ◌&&◌, ◌||◌, not, nat_lt, nat_le, Bool, false, Option, is_some}
use Rattle.std.specs.Cmp.Lexicographic.{pointwise}
use Rattle.sha2.specs.Sha256.{sha256}
use Rattle.kc_types.specs.declared.owner.Owner.{Owner}
use Rattle.kc_types.specs.declared.owner.Owner.TheVariants.{Core, Host, Free, Vm}
use Rattle.kc_model.specs.State.{zero_page}
use Rattle.kc_model.specs.Lawful.{same_owner, is_vm}
use Rattle.kc_dump.specs.declared.line.FrameLine.{FrameLine}
use Rattle.kc_audit.specs.declared.finding.Finding.{Finding}
use Rattle.kc_audit.specs.declared.finding.Finding.TheVariants as finding
use Rattle.kc_audit.specs.declared.verdict.FrameVerdict.{FrameVerdict}
use Rattle.kc_audit.specs.declared.verdict.FrameKind.{FrameKind}
use Rattle.kc_audit.specs.declared.verdict.FrameKind.TheVariants as kind

-- a frame past the core's is the core's, or one of the core's is not
abbrev pub wrong_core : ℕ → ℕ → Owner → Bool
wrong_core core f Core = nat_le core f
wrong_core core f Host = nat_lt f core
wrong_core core f Free = nat_lt f core
wrong_core core f (Vm v) = nat_lt f core

-- a frame in no list has a neighbour
abbrev pub wrong_link : Owner → Option ℕ → Option ℕ → Bool
wrong_link Core prev next = is_some prev || is_some next
wrong_link Host prev next = is_some prev || is_some next
wrong_link Free prev next = false
wrong_link (Vm v) prev next = false

-- a VM's frame is not mapped where its record says, or a frame that is not a VM's has a guest frame
abbrev pub wrong_gfn : Bool → Owner → Option ℕ → Bool
wrong_gfn mapped (Vm v) gfn = not (is_some gfn) || not mapped
wrong_gfn mapped Core gfn = is_some gfn
wrong_gfn mapped Host gfn = is_some gfn
wrong_gfn mapped Free gfn = is_some gfn

abbrev pub verdict_by : ℕ → ℕ → Bool → FrameLine → FrameVerdict
verdict_by core f mapped line = record {
  core_owner = wrong_core core f line.owner;
  linked = wrong_link line.owner line.prev line.next;
  gfn = wrong_gfn mapped line.owner line.gfn;
  share = nat_lt 0 line.share && not (is_vm line.owner);
  present = line.present && not (same_owner line.owner Host) && (line.share == 0);
  bytes = same_owner line.owner Free && not (pointwise ◌==◌ line.digest (sha256 zero_page));
}

-- whether a verdict shows a finding of this kind
abbrev pub shows : FrameKind → FrameVerdict → Bool
shows kind.CoreOwner verdict = verdict.core_owner
shows kind.Linked verdict = verdict.linked
shows kind.Gfn verdict = verdict.gfn
shows kind.Share verdict = verdict.share
shows kind.Present verdict = verdict.present
shows kind.Bytes verdict = verdict.bytes

abbrev pub named : FrameKind → ℕ → Finding
named kind.CoreOwner f = finding.CoreOwner f
named kind.Linked f = finding.Linked f
named kind.Gfn f = finding.Gfn f
named kind.Share f = finding.Share f
named kind.Present f = finding.Present f
named kind.Bytes f = finding.Bytes f
