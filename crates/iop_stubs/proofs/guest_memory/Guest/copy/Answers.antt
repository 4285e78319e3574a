use Rattle.std.proofs.Common.{◌≡◌, ◌+◌, ◌≤◌, ℕ, List, Some, length, sym, ◌∙◌}
use Rattle.iop_base.proofs.Giving.{gives_none}
use Rattle.iop_stubs.specs.Binding.{IsGuestMemory}
use Rattle.iop_stubs.specs.Lending.{range_bytes}
use Rattle.iop_stubs.proofs.Copying.{copy_lines-no_source, copy_lines-no_place, length-range_bytes, All-range_bytes}
use Rattle.iop_stubs.proofs.GuestMemoryLemmas.{guest-store, stored_length}
use Rattle.iop_stubs.proofs.guest_memory.Guest.copy.Given.{Over}
use Rattle.iop_stubs.proofs.guest_memory.Guest.copy.Goals as goal

pub returns-then-len-eq0-clause-lines : goal.returns-then-len-eq0-clause-lines
returns-then-len-eq0-clause-lines g c = rw c.if-len-eq0.true (gives_none _)

pub returns-in_err-source-clause-lines : goal.returns-in_err-source-clause-lines
returns-in_err-source-clause-lines g c =
    rw (← c.self.view_is)
    (copy_lines-no_source _ c.args.t
    (record { ram = c.self.inside.ram; live = c.self.inside.live.stubs })
    c.args.to c.args.from c.args.len _ _
    (rw c.find_range.ensures.place at c.in_err-source.ensures.value))

pub returns-in_err-place-clause-lines : goal.returns-in_err-place-clause-lines
returns-in_err-place-clause-lines g c =
    rw (← c.self.view_is)
    (copy_lines-no_place _ c.args.t
    (record { ram = c.self.inside.ram; live = c.self.inside.live.stubs })
    c.args.to c.args.from c.args.len _ _
    (rw c.find_range-2.ensures.place at c.in_err-place.ensures.value))

module _ (g : Over) (c : goal.After-move_bytes g) where
  abbrev source : ℕ
  source = c.in_ok-source.source

  abbrev place : ℕ
  place = c.in_ok-place.place

  abbrev bytes : List ℕ
  bytes = range_bytes c.self.inside.ram (Some source) c.args.len

  source_inside : source + c.args.len ≤ length c.self.inside.ram
  source_inside = rw c.in_ok-source.ensures.ok_part at c.find_range.ensures.inside

  place_inside : place + c.args.len ≤ length c.self.inside.ram
  place_inside = rw c.in_ok-place.ensures.ok_part at c.find_range-2.ensures.inside

  whole : length bytes ≡ c.args.len
  whole = length-range_bytes c.self.inside.ram source c.args.len source_inside

  new : IsGuestMemory (record { ram = c.move_bytes.new.ram; live = c.end_in.new.self.stubs })
  new =
      guest-store (record { ram = c.self.inside.ram; live = c.self.inside.live.stubs }) _ _ place
      c.args.len bytes c.move_bytes.ensures c.end_in.ensures.live whole place_inside
      (All-range_bytes c.self.inside.ram source c.args.len c.self.invariant.0.bytes)
      c.self.invariant.0

  -- as long as RAM was
  long : c.end_in.new.self.ram ≡ length c.move_bytes.new.ram
  long =
      c.end_in.ensures.ram ∙ c.self.invariant.1
      ∙ sym (stored_length c.self.inside.ram c.move_bytes.new.ram place c.args.len bytes
      c.move_bytes.ensures whole place_inside)

pub invariant_of-self : goal.invariant_of-self
invariant_of-self g c = (new g c, long g c)

pub returns-clause-sound : goal.returns-clause-sound
returns-clause-sound g c = (new g c).sound
