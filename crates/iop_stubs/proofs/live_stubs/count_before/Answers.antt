use Rattle.std.proofs.Common.{rules, [], arith, sym}
use Rattle.std.proofs.lemmas.List.Sorted.{IsPartitionPoint-from_clause, IsPartitionedBy-ltb}
use Rattle.std.proofs.lemmas.List.Sums.{prefix_len_is}
use Rattle.iop_stubs.specs.Stubs.{stands_before}
use Rattle.iop_stubs.specs.declared.live_stub.Stub.{Stub}
use Rattle.iop_stubs.proofs.Searching.{places_rise}
use Rattle.iop_stubs.proofs.live_stubs.count_before.Goals as goal

pub returns : goal.returns
returns c =
    let parted =
    IsPartitionedBy-ltb (λ (s : Stub). s.at) _ c.args.place (places_rise _ c.requires) in
    let point =
    IsPartitionPoint-from_clause (stands_before c.args.place) _ _
    c.partition_point.ensures.partitioned parted (λ a r q k. search rules) in
    let d : Stub = record { at = 0; name = []; major = 0; index = 0; target = 0 } in
    sym (prefix_len_is (stands_before c.args.place) c.args.stubs.now _ d
    c.partition_point.ensures.bound
    (λ k lt. point.0 k d (omega arith) lt) (λ lt. point.1 _ d (omega arith) lt))
