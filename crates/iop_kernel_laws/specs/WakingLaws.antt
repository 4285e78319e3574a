-- What the laws of waking say: how the waits of threads end, and that all threads that waited for
-- an object which is deleted are woken.
use Rattle.std.specs.Prelude.{◌≡◌, ◌≢◌, ℕ, true, false, Some, None, List, [], ◌∷◌, map, Contains, bit_or}
use Rattle.iop_base.specs.declared.code.TheConstants.Code.{OBJECT_DELETED, WAIT_RELEASED}
use Rattle.iop_event.specs.WakeConditions.{settles}
use Rattle.iop_objects.specs.Objects.{Objects, object_of, state_of}
use Rattle.iop_pools.specs.Pools.{with_ranges}
use Rattle.iop_pools.specs.Ranges.{is_out, without}
use Rattle.iop_pools.specs.VariablePools.{meets_next}
use Rattle.iop_pools.specs.declared.met.Met.{Met}
use Rattle.iop_services.specs.declared.service.Service.{Service}
use Rattle.iop_services.specs.declared.service.Service.TheVariants.{Thsemap, Thevent, Thmsgbx, Thvpool, Thfpool}
use Rattle.iop_services.specs.declared.thbase_service.ThbaseService.TheVariants.{ReleaseWaitThread, WakeupThread}
use Rattle.iop_services.specs.declared.thevent_service.TheventService.TheVariants.{DeleteEventFlag, SetEventFlag}
use Rattle.iop_services.specs.declared.thfpool_service.ThfpoolService.TheVariants.{DeleteFpl, FreeFpl}
use Rattle.iop_services.specs.declared.thmsgbx_service.ThmsgbxService.TheVariants.{DeleteMbx, SendMbx}
use Rattle.iop_services.specs.declared.thsemap_service.ThsemapService.TheVariants.{DeleteSema, SignalSema}
use Rattle.iop_services.specs.declared.thvpool_service.ThvpoolService.TheVariants.{DeleteVpl, FreeVpl}
use Rattle.iop_thread.specs.ThreadTable.{ThreadTable}
use Rattle.iop_thread.specs.Waits.{wait_of}
use Rattle.iop_thread.specs.Waking.{IsWoken, AreWoken}
use Rattle.iop_thread.specs.declared.kind.Kind.{Kind}
use Rattle.iop_thread.specs.declared.kind.Kind.TheVariants.{Semaphore, EventFlag, Mailbox, VariablePool, FixedPool}
use Rattle.iop_thread.specs.declared.wait.Wait.{Wait}
use Rattle.iop_thread.specs.declared.wait.Wait.TheVariants.{Sleep, Delay, Object}
use Rattle.iop_time.specs.declared.delay.Delay.{Delay as DelayOf}
use Rattle.iop_kernel.specs.Boards.{Board}
use Rattle.iop_kernel.specs.Deliveries.{Delivered}
use Rattle.iop_kernel.specs.DeliveryLaws.{DeliversDelay}
use Rattle.iop_kernel.specs.EventFlags.{serves_thevent}
use Rattle.iop_kernel.specs.FixedPools.{serves_thfpool}
use Rattle.iop_kernel.specs.Kinds.{State, Live, table}
use Rattle.iop_kernel.specs.Mailboxes.{serves_thmsgbx}
use Rattle.iop_kernel.specs.NamedThreads.{is_nobody_else}
use Rattle.iop_kernel.specs.ObjectServices.{threads_in_order}
use Rattle.iop_kernel.specs.Placing.{IsPlaced}
use Rattle.iop_kernel.specs.Semaphores.{serves_thsemap}
use Rattle.iop_kernel.specs.Serving.{serves}
use Rattle.iop_kernel.specs.System.{System, Kernel, Core, argument, code_word}
use Rattle.iop_kernel.specs.Thbase.{serves_thbase}
use Rattle.iop_kernel.specs.VariablePools.{serves_thvpool}

-- the service that deletes an object of a kind
abbrev pub deletes_of : Kind → Service
deletes_of Semaphore = Thsemap DeleteSema
deletes_of EventFlag = Thevent DeleteEventFlag
deletes_of Mailbox = Thmsgbx DeleteMbx
deletes_of VariablePool = Thvpool DeleteVpl
deletes_of FixedPool = Thfpool DeleteFpl

-- a thread that waited so is woken with an answer
pub record WakesOne (thread : ℕ) (wait : Wait) (answer : ℕ) (old left : ThreadTable) : Type 0 where
  pub waited : wait_of old thread ≡ Some wait
  pub woken : IsWoken old left thread answer

-- threads that waited so are woken with an answer, one after the other
pub record WakesEach (threads : List ℕ) (wait : Wait) (answer : ℕ) (old left : ThreadTable)
    : Type 0 where
  pub waited : (thread : ℕ) → Contains threads thread → wait_of old thread ≡ Some wait
  pub woken : AreWoken old left threads answer

-- an object is deleted for which these threads wait
pub record WakesAll {A W : Type 0} (id : ℕ) (threads : List ℕ) (wait : Wait)
    (old left : ThreadTable) (s : Objects A W) : Type 0 where
  -- they are woken with OBJECT_DELETED, one after the other
  pub each : WakesEach threads wait (code_word OBJECT_DELETED) old left
  -- each thread that waited for it is one of them
  pub all : (thread : ℕ) → wait_of old thread ≡ Some wait → Contains threads thread
  -- none waits for it any more, and it is no longer live
  pub none : (thread : ℕ) → wait_of left thread ≢ Some wait
  pub gone : object_of s.live id ≡ None

-- so it is where a live object of any kind is deleted, whose id is the first argument: in the order
-- in which they would be chosen
abbrev pub DeletionsWakeAll : Type 0
DeletionsWakeAll =
    (kind : Kind) (s : System) (o : Live kind) → let k = s.core.kernel in
    let id = argument s.core 0 in
    IsPlaced k → object_of (table kind k).live id ≡ Some o
    → let left = (serves s (deletes_of kind)).left.state.core.kernel in
    WakesAll id (threads_in_order kind o) (Object kind id) k.threads left.threads (table kind left)

-- the next thread whose size fits in a variable pool is woken with the address of its memory; nothing
-- else changes
pub record MeetsOne (id : ℕ) (met : Met) (old left : Kernel) : Type 0 where
  pub next : meets_next old.variable_pools id ≡ (Some met, left.variable_pools)
  pub wakes : WakesOne met.thread (Object VariablePool id) met.block old.threads left.threads
  pub rest : left
      ≡ record old { variable_pools = left.variable_pools; threads = left.threads }

-- these are met one after the other, and no more
abbrev pub MeetsEach : (id : ℕ) → List Met → (old left : Kernel) → Type 0
MeetsEach id [] old left = ((meets_next old.variable_pools id).0 ≡ None) × (left ≡ old)
MeetsEach id (met ∷ more) old left =
    (next : Kernel) × MeetsOne id met old next × MeetsEach id more next left

-- in which other ways the waits of threads end. The first argument is the id of the object or of
-- the thread
pub record WaitsEndSo : Type 0 where
  -- SignalSema wakes the first in order of those that wait, with 0
  pub signals : (b : Board) (o : Live Semaphore) (thread : ℕ) (rest : List ℕ)
      → let k = b.core.kernel in let id = argument b.core 0 in
      IsPlaced k → object_of k.semaphores.live id ≡ Some o
      → threads_in_order Semaphore o ≡ thread ∷ rest
      → WakesOne thread (Object Semaphore id) 0 k.threads
      (serves_thsemap b SignalSema).left.state.core.kernel.threads
  -- so does SendMbx
  pub sends : (b : Board) (o : Live Mailbox) (thread : ℕ) (rest : List ℕ)
      → let k = b.core.kernel in let id = argument b.core 0 in
      IsPlaced k → object_of k.mailboxes.live id ≡ Some o
      → threads_in_order Mailbox o ≡ thread ∷ rest
      → WakesOne thread (Object Mailbox id) 0 k.threads
      (serves_thmsgbx b SendMbx).left.state.core.kernel.threads
  -- SetEventFlag sets the bits of its second argument: it wakes all whose conditions they meet, in
  -- the order of their arrival, with 0
  pub sets : (b : Board) (o : Live EventFlag) → let k = b.core.kernel in
      let id = argument b.core 0 in let bits = argument b.core 1 in
      IsPlaced k → object_of k.event_flags.live id ≡ Some o
      → WakesEach (map (λ one. one.thread) (settles (bit_or o.state.pattern bits) o.waiters).met)
      (Object EventFlag id) 0 k.threads
      (serves_thevent b SetEventFlag).left.state.core.kernel.threads
  -- FreeFpl wakes the first in order of those that wait, with the address of the block
  pub gives : (s : System) (o : Live FixedPool) (thread : ℕ) (rest : List ℕ)
      → let k = s.core.kernel in let id = argument s.core 0 in let block = argument s.core 1 in
      IsPlaced k → object_of k.fixed_pools.live id ≡ Some o → is_out block o.state.ranges ≡ true
      → threads_in_order FixedPool o ≡ thread ∷ rest
      → WakesOne thread (Object FixedPool id) block k.threads
      (serves_thfpool s FreeFpl).left.state.core.kernel.threads
  -- FreeVpl wakes each that can then be met, with the address of its memory
  pub frees : (s : System) (x : State VariablePool) → let k = s.core.kernel in
      let id = argument s.core 0 in let block = argument s.core 1 in
      IsPlaced k → state_of k.variable_pools id ≡ Some x → is_out block x.ranges ≡ true
      → (met : List Met) × MeetsEach id met (record k {
        variable_pools = with_ranges k.variable_pools id x (without block x.ranges);
      }) (serves_thvpool s FreeVpl).left.state.core.kernel
  -- ReleaseWaitThread ends any wait of another thread, with WAIT_RELEASED
  pub releases : (s : System) (wait : Wait) → let id = argument s.core 0 in
      let old = s.core.kernel.threads in
      is_nobody_else s.core id ≡ false → wait_of old id ≡ Some wait
      → IsWoken old (serves_thbase s ReleaseWaitThread).left.state.core.kernel.threads id
      (code_word WAIT_RELEASED)
  -- WakeupThread wakes one that sleeps, with 0
  pub wakes_up : (s : System) → let id = argument s.core 0 in let old = s.core.kernel.threads in
      is_nobody_else s.core id ≡ false → wait_of old id ≡ Some Sleep
      → IsWoken old (serves_thbase s WakeupThread).left.state.core.kernel.threads id 0
  -- a delay that comes due wakes its thread, with 0
  pub delays : (c : Core) (d : Delivered) (delay : DelayOf) → IsPlaced c.kernel
      → Contains c.kernel.timers.delays delay → DeliversDelay c d delay
      → WakesOne delay.thread Delay 0 c.kernel.threads d.core.kernel.threads
