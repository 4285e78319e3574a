use Rattle.std.proofs.Common.{◌≡◌, ℕ, Ok, refl, ap, length, arith}
use Rattle.std.specs.List.{range_with_len}
use Rattle.std.proofs.lemmas.Iterator.{items_from_collect, YieldsList-from_range}
use Rattle.std.proofs.lemmas.List.FromFn.{length-range_with_len}
use Rattle.iop_queues.proofs.numbers.Numbers.new.Goals.{In_ok-free}
use Rattle.iop_queues.proofs.numbers.Numbers.new.Goals as goal

all : (g : _) (c : In_ok-free g) → c.in_ok-free.free.items ≡ range_with_len 0 g.row.BOUND
all g c =
    items_from_collect {E = ℕ} (Ok c.in_ok-free.free) c.in_ok-free.ensures.ran
    (YieldsList-from_range 0 g.row.BOUND g.row.BOUND refl (omega arith))

pub invariant_of-result : goal.invariant_of-result
invariant_of-result g c =
    omega (arith, ap length (all g c), length-range_with_len 0 g.row.BOUND)

pub returns : goal.returns
returns g c = all g c
