-- What holds of each object of a kind, and of those that wait for it, where it can be put back.
use Rattle.std.proofs.Common.{◌≡◌, true, List, arith}
use Rattle.iop_event.specs.Restoring as event_flags
use Rattle.iop_event.specs.Restoring.{asks_for_bits}
use Rattle.iop_kernel.specs.Kinds.{State, Wants}
use Rattle.iop_mbx.specs.Restoring as mailboxes
use Rattle.iop_objects.specs.declared.waiter.Waiter.{Waiter}
use Rattle.iop_objects.proofs.OtherWaiters.{AreLeft, all_others}
use Rattle.iop_pools.specs.FixedRestoring as fixed_pools
use Rattle.iop_pools.specs.VariableRestoring as variable_pools
use Rattle.iop_pools.specs.VariableRestoring.{may_be_wanted}
use Rattle.iop_queues.specs.declared.queued.Queued.{Queued}
use Rattle.iop_sema.specs.Restoring as semaphores
use Rattle.iop_thread.specs.declared.kind.Kind.{Kind}
use Rattle.iop_thread.specs.declared.kind.Kind.TheVariants.{Semaphore, EventFlag, Mailbox, VariablePool, FixedPool}

-- those that wait for an object of a kind
abbrev pub Waiting : Kind → Type 0
Waiting kind = List (Queued (Waiter (Wants kind)))

-- whatever its id is
abbrev pub Sound : (kind : Kind) → State kind → Waiting kind → Type 0
Sound Semaphore x ws = semaphores.is_sound x ≡ true
Sound EventFlag x ws = event_flags.IsSoundFlag (record { id = 0; state = x; waiters = ws })
Sound Mailbox x ws = mailboxes.IsSoundMailbox x
Sound VariablePool x ws =
    variable_pools.IsRegular (record { id = 0; state = x; waiters = ws })
Sound FixedPool x ws = fixed_pools.IsRegular (record { id = 0; state = x; waiters = ws })

-- it does not mind that fewer wait
pub fewer : (kind : Kind) (x : State kind) (old new : Waiting kind) → AreLeft old new
    → Sound kind x old → Sound kind x new
fewer Semaphore x old new left sound = sound
fewer EventFlag x old new left sound = record {
  attribute = sound.attribute;
  asked = all_others (λ w. asks_for_bits w.wants ≡ true) old new left.none sound.asked;
  alone = λ one. omega (arith, sound.alone one, left.most);
}
fewer Mailbox x old new left sound = sound
fewer VariablePool x old new left sound = record {
  sound = sound.sound;
  unit = sound.unit;
  layout = sound.layout;
  waiters = all_others (λ w. may_be_wanted w.wants x ≡ true) old new left.none sound.waiters;
}
fewer FixedPool x old new left sound =
    record { sound = sound.sound; layout = sound.layout; blocks = sound.blocks }
