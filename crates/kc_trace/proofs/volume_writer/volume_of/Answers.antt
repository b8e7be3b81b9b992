use Rattle.std.proofs.Common.{leb, sym, arith, rules}
use Rattle.std.proofs.lemmas.List.Sorted.{IsPartitionPoint-from_clause, IsPartitionedBy-leb}
use Rattle.kc_trace.specs.declared.volume_writer.VolumeEntry.{VolumeEntry}
use Rattle.kc_trace.proofs.Volumes.{passing}
use Rattle.kc_trace.proofs.volume_writer.volume_of.Goals as goal

pub returns : goal.returns
returns c =
    let volumes = c.args.volumes.now in
    let test = λ (volume : VolumeEntry). leb volume.line c.args.line in
    let parted = IsPartitionedBy-leb (λ (volume : VolumeEntry). volume.line) volumes c.args.line c.requires in
    let point = IsPartitionPoint-from_clause test volumes c.partition_point.result c.partition_point.ensures.partitioned parted (λ a r q k. search rules) in
    sym (passing test volumes c.partition_point.result c.partition_point.ensures.bound (λ k d lt. point.0 k d (omega arith) lt) point.1)
