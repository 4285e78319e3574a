use Rattle.std.proofs.Common.{◌≡◌, ◌+◌, ◌-◌, ◌≤◌, Some, length, take, drop, refl, ap, sym, ◌∙◌, arith}
use Rattle.std.proofs.lemmas.List.{length-take, length-drop}
use Rattle.iop_base.specs.Places.{range_at}
use Rattle.iop_ram.proofs.Loans.{after_loan-lent}
use Rattle.iop_ram.proofs.memory.Ram.window_mut.Goals as goal

pub returns : goal.returns
returns c =
    let memory = c.self.inside.bytes.items in
    let p = c.unwrap-place.result in
    let len = c.args.len in
    let place : range_at (length memory) c.args.at len ≡ Some p =
    sym c.range.ensures.place ∙ c.unwrap-place.ensures in
    let inside : p + len ≤ length memory = rw c.unwrap-place.ensures at c.range.ensures.inside in
    let shown : c.slice_mut.result.now ≡ take len (drop p memory) =
    c.slice_mut.ensures.value
    ∙ (let same : p + len - p ≡ len = omega arith in ap (λ n. take n (drop p memory)) same) in (
      (
        refl,
        λ w. rw (← c.self.view_is)
            (after_loan-lent memory c.args.at len p w place _ c.self.inside.bytes.ok.0
            (omega arith)),
      ),
      record {
        writes_back = tt;
        window = rw (← c.self.view_is, place) (ap Some shown);
        len = omega (arith, ap length shown, length-take len (drop p memory), length-drop p memory);
      },
    )
