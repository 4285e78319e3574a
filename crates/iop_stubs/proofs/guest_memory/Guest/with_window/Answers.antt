use Rattle.std.proofs.Common.{◌≡◌, ◌∙◌, sym, arith, length}
use Rattle.iop_base.proofs.Giving.{gives_none}
use Rattle.iop_ram.specs.Windows.{after_loan}
use Rattle.iop_ram.proofs.Loans.{after_loan-is}
use Rattle.iop_stubs.specs.Binding.{IsGuestMemory}
use Rattle.iop_stubs.proofs.GuestMemoryLemmas.{guest-store, stored_length}
use Rattle.iop_stubs.proofs.guest_memory.Guest.with_window.Given.{Over}
use Rattle.iop_stubs.proofs.guest_memory.Guest.with_window.Goals.{After-write_into}
use Rattle.iop_stubs.proofs.guest_memory.Guest.with_window.Goals as goal

new : (g : Over) (c : After-write_into g) →
    IsGuestMemory (record {
      ram = after_loan c.self.inside.ram c.args.at c.args.len c.write_into.new.window;
      live = c.end_in.new.self.stubs;
    })
new g c =
    let written = c.write_into.new.window in
    let inside = c.in_ok-place.ensures.inside in
    let whole : length written ≡ c.args.len =
    omega (arith, c.write_into.auto.window, c.window_mut.ensures.len) in
    guest-store (record { ram = c.self.inside.ram; live = c.self.inside.live.stubs }) _ _
    c.in_ok-place.place c.args.len written
    (after_loan-is c.self.inside.ram c.args.at c.args.len c.in_ok-place.place written
    (sym c.in_ok-place.ensures.place) whole inside)
    c.end_in.ensures.live whole inside c.write_into.ensures.bytes c.self.invariant.0

-- as long as RAM was
long : (g : Over) (c : After-write_into g) → c.end_in.new.self.ram
    ≡ length (after_loan c.self.inside.ram c.args.at c.args.len c.write_into.new.window)
long g c =
    let written = c.write_into.new.window in
    let inside = c.in_ok-place.ensures.inside in
    let whole : length written ≡ c.args.len =
    omega (arith, c.write_into.auto.window, c.window_mut.ensures.len) in
    c.end_in.ensures.ram ∙ c.self.invariant.1
    ∙ sym (stored_length c.self.inside.ram _ c.in_ok-place.place c.args.len written
    (after_loan-is c.self.inside.ram c.args.at c.args.len c.in_ok-place.place written
    (sym c.in_ok-place.ensures.place) whole inside) whole inside)

pub returns-in_err-place-clause-lines : goal.returns-in_err-place-clause-lines
returns-in_err-place-clause-lines g c =
    rw (← c.self.view_is, ← c.in_err-place.ensures.place) (gives_none _)

pub invariant_of-self : goal.invariant_of-self
invariant_of-self g c =
    let w = (goal.at.invariant_of-self g c).After-write_into in (new g w, long g w)

pub returns-clause-sound : goal.returns-clause-sound
returns-clause-sound g c = (new g (goal.at.returns-clause-sound g c).After-write_into).sound
