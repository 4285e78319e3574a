use Rattle.std.proofs.Common.{◌≡◌, ap, sym, ◌∙◌, subst}
use Rattle.iop_stubs.specs.Stubs.{Memory}
use Rattle.iop_stubs.specs.Binding.{after_bind, MayBind, IsGuestMemory}
use Rattle.iop_stubs.specs.Layers.{base_of}
use Rattle.iop_stubs.proofs.Binding.{bind_is}
use Rattle.iop_stubs.proofs.GuestMemoryLemmas.{bound_length, guest-bind}
use Rattle.iop_stubs.proofs.LayersLemmas.{base_bound}
use Rattle.iop_stubs.proofs.guest_memory.Guest.bind.Goals as goal

module _ (c : goal.After-store_word) where
  abbrev old : Memory
  old = record { ram = c.self.inside.ram; live = c.self.inside.live.stubs }

  may : MayBind old c.args.stub
  may = subst (λ (memory : Memory). MayBind memory c.args.stub) (sym c.self.view_is) c.requires

  new : IsGuestMemory (record { ram = c.store_word.new.ram; live = c.insert.new.self.stubs })
  new =
      guest-bind old _ _ c.args.stub c.store_word.ensures c.insert.ensures.live may
      c.self.invariant.0

  is : record { ram = c.store_word.new.ram; live = c.insert.new.self.stubs }
      ≡ after_bind old c.args.stub
  is = bind_is old _ _ c.args.stub c.store_word.ensures c.insert.ensures.live

pub invariant_of-self : goal.invariant_of-self
invariant_of-self c = (
  new c,
  c.insert.ensures.ram ∙ c.self.invariant.1
      ∙ sym (bound_length (old c) c.store_word.new.ram c.args.stub c.store_word.ensures (may c)),
)

pub returns-clause-memory : goal.returns-clause-memory
returns-clause-memory c = rw (← c.self.view_is) (is c)

pub returns-clause-base : goal.returns-clause-base
returns-clause-base c =
    rw (← c.self.view_is)
    (ap base_of (is c)
    ∙ base_bound (old c) c.self.invariant.0.sound c.args.stub c.self.invariant.0.bytes (may c))

pub returns-clause-sound : goal.returns-clause-sound
returns-clause-sound c = (new c).sound
