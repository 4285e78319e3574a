use Rattle.std.proofs.Common.{◌≡◌, ◌++◌, [], ◌∷◌, true, ap, sym, ◌∙◌, subst, arith}
use Rattle.iop_stubs.specs.Stubs.{Memory}
use Rattle.iop_stubs.specs.Binding.{IsGuestMemory}
use Rattle.iop_stubs.specs.Restoring.{stub_may_follow}
use Rattle.iop_stubs.proofs.PuttingBack.{Follows, follows, with_stub-last, last_sound}
use Rattle.iop_stubs.proofs.guest_memory.Guest.put_back.Goals as goal

module _ (c : goal.After-insert) where
  abbrev old : Memory
  old = record { ram = c.self.inside.ram; live = c.self.inside.live.stubs }

  may : Follows old c.args.stub
  may =
      follows old c.args.stub
      (subst (λ (memory : Memory). stub_may_follow memory c.args.stub ≡ true) (sym c.self.view_is)
      (sym c.may_follow.ensures ∙ c.if-not-may_follow.false))

  live_is : c.insert.new.self.stubs ≡ old.live ++ c.args.stub ∷ []
  live_is = c.insert.ensures.live ∙ with_stub-last c.args.stub old.live may.ends

  new : IsGuestMemory (record { ram = c.self.inside.ram; live = c.insert.new.self.stubs })
  new =
      rw live_is (record {
        sound = last_sound old c.args.stub may (omega arith) c.self.invariant.0.bytes
            c.self.invariant.0.sound;
        bytes = c.self.invariant.0.bytes;
      })

pub invariant_of-self : goal.invariant_of-self
invariant_of-self c = (new c, c.insert.ensures.ram ∙ c.self.invariant.1)

pub returns-clause-put : goal.returns-clause-put
returns-clause-put c =
    rw (← c.self.view_is)
    (ap (λ live. record { ram = c.self.inside.ram; live = live }) (live_is c))

pub returns-clause-sound : goal.returns-clause-sound
returns-clause-sound c = (new c).sound
