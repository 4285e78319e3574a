use Rattle.std.proofs.Common.{◌≡◌, ◌∙◌, arith, refl, sym, length}
use Rattle.std.proofs.lemmas.List.{get_or_default}
use Rattle.iop_stubs.specs.Binding.{IsGuestMemory}
use Rattle.iop_stubs.proofs.StubLines.{store_lines-refused}
use Rattle.iop_stubs.proofs.GuestMemoryLemmas.{guest-store, stored_length}
use Rattle.iop_stubs.proofs.guest_memory.Guest.store_bytes.Given.{Over}
use Rattle.iop_stubs.proofs.guest_memory.Guest.store_bytes.Goals as goal

pub returns-in_err-place-clause-lines : goal.returns-in_err-place-clause-lines
returns-in_err-place-clause-lines g c = rw (← c.self.view_is)
    (store_lines-refused _ _
    (record { ram = c.self.inside.ram; live = c.self.inside.live.stubs }) _ _ _ _
    c.in_err-place.ensures.place)

new : (g : Over) (c : goal.After-end_in g) →
    IsGuestMemory (record { ram = c.put_bytes.new.ram; live = c.end_in.new.self.stubs })
new g c =
    guest-store (record { ram = c.self.inside.ram; live = c.self.inside.live.stubs }) _ _
    c.in_ok-place.place
    (length c.args.bytes.now) c.args.bytes.now c.in_ok-place.ensures.memory c.end_in.ensures.live
    refl
    c.in_ok-place.ensures.inside
    (λ k d below. rw (get_or_default c.args.bytes.now k d 0 below)
    (omega (arith, c.type_inv.bytes k)))
    c.self.invariant.0

-- as long as RAM was
long : (g : Over) (c : goal.After-end_in g) → c.end_in.new.self.ram ≡ length c.put_bytes.new.ram
long g c =
    c.end_in.ensures.ram ∙ c.self.invariant.1
    ∙ sym (stored_length c.self.inside.ram c.put_bytes.new.ram c.in_ok-place.place
    (length c.args.bytes.now) c.args.bytes.now c.in_ok-place.ensures.memory refl
    c.in_ok-place.ensures.inside)

pub invariant_of-self-2 : goal.invariant_of-self-2
invariant_of-self-2 g c = (new g c, long g c)

pub returns-clause-sound : goal.returns-clause-sound
returns-clause-sound g c = (new g c).sound
