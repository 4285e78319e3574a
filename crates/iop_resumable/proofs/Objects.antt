-- The objects of all kinds are as they can be put back where each is sound, and threads and waiters
-- are in their places; so they stay so, whatever is served.
use Rattle.iop_kernel.specs.Kinds.{table}
use Rattle.iop_kernel.specs.Placing.{IsPlaced}
use Rattle.iop_kernel.specs.Serving.{services}
use Rattle.iop_kernel.specs.System.{Kernel}
use Rattle.iop_kernel.proofs.Placing.Services.{services_place}
use Rattle.iop_objects.specs.Objects.{AreObjects}
use Rattle.iop_objects.specs.Restoring.{IsRestorable}
use Rattle.iop_objects.proofs.EachLeft.{all_of_each, each_of_all}
use Rattle.iop_thread.specs.declared.kind.Kind.{Kind}
use Rattle.iop_thread.specs.declared.kind.Kind.TheVariants.{Semaphore, EventFlag, Mailbox, VariablePool, FixedPool}
use Rattle.iop_resumable.specs.Laws.{ObjectsStayRegular}
use Rattle.iop_resumable.specs.Regular.{CanStand, ObjectsCanStand}
use Rattle.iop_resumable.proofs.Rooms.{few_wait}
use Rattle.iop_resumable.proofs.Services.{services_stand}
use Rattle.iop_resumable.proofs.Sound.{Sound}
use Rattle.iop_resumable.proofs.Standing.{Stand, Stands}

module _ (k : Kernel) where
  -- each object of a table that can be put back is sound
  stand_of : ObjectsCanStand k → (kind : Kind) → Stand kind (table kind k)
  stand_of h Semaphore = record {
    each = each_of_all (Sound Semaphore) k.semaphores (h Semaphore).semaphores;
    few = tt;
  }
  stand_of h EventFlag = record {
    each = each_of_all (Sound EventFlag) k.event_flags (λ n d below.
        let o = (h EventFlag).flags n d below in
        record { attribute = o.attribute; asked = o.asked; alone = o.alone });
    few = tt;
  }
  stand_of h Mailbox = record {
    each = each_of_all (Sound Mailbox) k.mailboxes (h Mailbox).mailboxes;
    few = (h Mailbox).few;
  }
  stand_of h VariablePool = record {
    each = each_of_all (Sound VariablePool) k.variable_pools (λ n d below.
        let o = (h VariablePool).pools n d below in record {
          sound = o.sound;
          unit = o.unit;
          layout = o.layout;
          waiters = o.waiters;
        });
    few = tt;
  }
  stand_of h FixedPool = record {
    each = each_of_all (Sound FixedPool) k.fixed_pools (λ n d below.
        let o = (h FixedPool).pools n d below in
        record { sound = o.sound; layout = o.layout; blocks = o.blocks });
    few = tt;
  }

  pub stands_of : ObjectsCanStand k → Stands k
  stands_of h kind = stand_of h kind

  -- and the other way, where all is in its place
  module _ (placed : IsPlaced k) (h : Stands k) where
    are : (kind : Kind) → AreObjects (table kind k)
    are kind = (placed.objects kind).sound

    restorable : (kind : Kind) → IsRestorable (table kind k)
    restorable kind = record { sound = are kind; few = few_wait k placed kind }

    can_stand : (kind : Kind) → CanStand kind (table kind k)
    can_stand Semaphore = record {
      objects = restorable Semaphore;
      semaphores = all_of_each (Sound Semaphore) k.semaphores (are Semaphore) (h Semaphore).each;
    }
    can_stand EventFlag =
        let all = all_of_each (Sound EventFlag) k.event_flags (are EventFlag) (h EventFlag).each in
        record {
          objects = restorable EventFlag;
          flags = λ n d below. let o = all n d below in
              record { attribute = o.attribute; asked = o.asked; alone = o.alone };
        }
    can_stand Mailbox = record {
      objects = restorable Mailbox;
      mailboxes = all_of_each (Sound Mailbox) k.mailboxes (are Mailbox) (h Mailbox).each;
      few = (h Mailbox).few;
    }
    can_stand VariablePool =
        let all = all_of_each (Sound VariablePool) k.variable_pools (are VariablePool)
        (h VariablePool).each in
        record {
          objects = restorable VariablePool;
          pools = λ n d below. let o = all n d below in record {
            sound = o.sound;
            unit = o.unit;
            layout = o.layout;
            waiters = o.waiters;
          };
        }
    can_stand FixedPool =
        let all = all_of_each (Sound FixedPool) k.fixed_pools (are FixedPool) (h FixedPool).each in
        record {
          objects = restorable FixedPool;
          pools = λ n d below. let o = all n d below in
              record { sound = o.sound; layout = o.layout; blocks = o.blocks };
        }

    pub objects_can_stand : ObjectsCanStand k
    objects_can_stand kind = can_stand kind

pub objects_stay_regular : ObjectsStayRegular
objects_stay_regular s code serving h =
    objects_can_stand (services s code).left.state.core.kernel
    (services_place s code serving.placed)
    (services_stand s serving.placed (stands_of s.core.kernel h) serving.blocks serving.size code)
