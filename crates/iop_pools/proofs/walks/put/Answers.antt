use Rattle.std.proofs.Common.{arith}
use Rattle.std.specs.Prelude.{IsOk}
use Rattle.iop_pools.specs.declared.out.Out.{Out}
use Rattle.iop_pools.proofs.Outs.{put-is}
use Rattle.iop_pools.proofs.walks.put.Goals as goal

pub returns-clause-items : goal.returns-clause-items
returns-clause-items c =
    let one : Out = record { pool = c.args.id; range = c.args.range } in
    let old = c.args.outs.now.items in
    let ok : IsOk c.insert.result = c.insert.ensures.succeeds c.requires in
    let found = c.place_behind-behind.ensures.place in
    let is =
    put-is one old c.place_behind-behind.result (rw c.deref.ensures.value at found) in
    grind (
      arith,
      is,
      ok,
      c.insert.ensures.items,
      c.unwrap_or-place.ensures,
      c.len.ensures,
      c.args.outs.now.ok,
    )
