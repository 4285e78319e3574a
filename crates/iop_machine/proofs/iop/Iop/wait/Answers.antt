use Rattle.std.proofs.Common.{Some, ◌∙◌, sym, subst}
use Rattle.iop_base.specs.declared.stop.Stop.TheVariants.{Quiet}
use Rattle.iop_kernel.specs.System.{Kernel}
use Rattle.iop_machine.specs.Looking.{takes_events}
use Rattle.iop_machine.specs.Standing.{Stands}
use Rattle.iop_machine.specs.Stepping.{waits_by}
use Rattle.iop_machine.proofs.Coming.{coming_is, coming_after}
use Rattle.iop_machine.proofs.StandingLemmas.{stands_stopped, stands_with_kernel}
use Rattle.iop_machine.proofs.iop.Iop.wait.Goals as goal

pub advance-requires : goal.advance-requires
advance-requires c =
    let r = c.requires.idle in
    let behind = c.take_events.ensures r.0 r.1 in
    record {
      later = coming_after c.in-Some.moment c.take_events.new.self.kernel.clock r.2 r.3 r.4
          (coming_is behind c.next_tick.ensures.tick (c.next_moment.ensures _ behind.kernel)
          c.earlier.ensures) c.in-Some.is behind.kernel.holds.clock;
    }

pub returns-in-None : goal.returns-in-None
returns-in-None c = record {
  waits = λ s h.
      let behind = c.take_events.ensures s h in
      subst (λ o. Stands (record c.take_events.new.self { over = Some Quiet })
      (waits_by (takes_events s) o).state)
      (sym c.in-None.is ∙ coming_is behind c.next_tick.ensures.tick
      (c.next_moment.ensures _ behind.kernel) c.earlier.ensures)
      (stands_stopped c.take_events.new.self (Some Quiet) (takes_events s) behind);
}

pub returns-in-Some : goal.returns-in-Some
returns-in-Some c = record {
  waits = λ s h.
      let behind = c.take_events.ensures s h in
      subst (λ o. Stands (record c.take_events.new.self { kernel = c.advance.new.self })
      (waits_by (takes_events s) o).state)
      (sym c.in-Some.is ∙ coming_is behind c.next_tick.ensures.tick
      (c.next_moment.ensures _ behind.kernel) c.earlier.ensures)
      (stands_with_kernel c.take_events.new.self c.advance.new.self
      (λ (k : Kernel). record k { clock = c.in-Some.moment }) c.advance.ensures (takes_events s)
      behind);
}
