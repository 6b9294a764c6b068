use Rattle.std.proofs.Common.{rules}
use Rattle.std.specs.Prelude.{nat_lt}
use Rattle.std.proofs.lemmas.List.Sorted.{IsPartitionedBy-ltb, IsPartitionPoint-from_clause}
use Rattle.request_record.proofs.EntryLaws.{cut_from}
use Rattle.request_record.proofs.positions.index_of.Goals as goal

pub returns : goal.returns
returns c =
    cut_from c.args.position c.partition_point.result c.args.entries.now c.partition_point.ensures.bound
    (IsPartitionPoint-from_clause (λ e. nat_lt e.position c.args.position) c.args.entries.now c.partition_point.result c.partition_point.ensures.partitioned (IsPartitionedBy-ltb (λ e. e.position) c.args.entries.now c.args.position c.requires) (λ a b f' k. search rules))
