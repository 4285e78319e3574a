-- What a service and the return of a module make of the machine.
use Rattle.std.proofs.Common.{◌≡◌, ℕ, true, false, Option, None, List, length, refl, ap, sym, ◌∙◌, subst}
use Rattle.std.specs.Prelude.{is_some}
use Rattle.iop_base.specs.Output.{Output, Gives}
use Rattle.iop_base.specs.declared.guest_fault.GuestFault.{GuestFault}
use Rattle.iop_exec.specs.Row.{behind_syscall}
use Rattle.iop_exec.specs.declared.cpu.Cpu.{Cpu}
use Rattle.iop_kernel.specs.Laws.{ServiceKeeps}
use Rattle.iop_kernel.specs.Serving.{services}
use Rattle.iop_kernel.specs.Standing as kernel
use Rattle.iop_kernel.specs.System.{Kernel, Served, is_active}
use Rattle.iop_kernel.specs.declared.after.After.{After}
use Rattle.iop_kernel.specs.declared.after.After.TheVariants.{Fault}
use Rattle.iop_kernel.specs.declared.kernel.Kernel.{Kernel as Kernels}
use Rattle.iop_kernel_laws.proofs.Keeping.Outcomes.{services_alone}
use Rattle.iop_kernel_laws.proofs.Keeping.Services.{services_keep}
use Rattle.iop_kernel.proofs.Order.Nothing.{none_of}
use Rattle.iop_modload.specs.Finishing.{finishes}
use Rattle.iop_ready.specs.KernelReady.{KernelReady, KernelStands}
use Rattle.iop_registry.specs.declared.registry.Entry.{Entry as Library}
use Rattle.iop_stubs.specs.Stubs.{Memory}
use Rattle.iop_sysmem.specs.BlockMap.{BlockMap}
use Rattle.iop_thread.specs.Operations as threads
use Rattle.iop_machine.specs.Iop.{Iop, Takes, with_state, system_of, with_system}
use Rattle.iop_machine.specs.Loading.{loads_first}
use Rattle.iop_machine.specs.Modules.{modules_of}
use Rattle.iop_machine.specs.Services.{faults_with, leaves, goes_on_by, ends_module, returns_by, serves, calls_by, calling, calls}
use Rattle.iop_machine.specs.Standing.{iop_of, Stands}
use Rattle.iop_saved_machine.specs.declared.begun_module.BegunModule.{BegunModule}
use Rattle.iop_machine.specs.declared.iop.Iop.{Iop as Program}
use Rattle.iop_machine.proofs.Elements.{there}
use Rattle.iop_machine.proofs.Storing.{length-after_stores}
use Rattle.iop_machine.proofs.LoadingLands.{returns_leave}
use Rattle.iop_machine.proofs.StandingLemmas.{IsMoment, carried, takes_as, takes_then, takes_with}

-- what a module leaves that was ended at a moment
module _ (m : Program) (t : ℕ) (moment : IsMoment m t) (begun : BegunModule) (value : ℕ) where
  pub ended_takes : {a b : Output} {memory : Memory} {blocks : BlockMap} {libraries : List Library}
      → let l = finishes t m.guest m.blocks m.registry begun.number begun.place value in
      memory ≡ l.memory → blocks ≡ l.blocks → libraries ≡ l.libraries → Gives a b l.pieces
      → (s : Iop) → Stands m s
      → Takes Stands (leaves s
      (finishes s.kernel.clock s.memory s.blocks s.libraries begun.number begun.place value))
      (record m { guest = memory; blocks = blocks; registry = libraries }) a b
  ended_takes {a} {b} {memory} {blocks} {libraries} d e f lines =
      let l = finishes t m.guest m.blocks m.registry begun.number begun.place value in
      let now = record m { guest = memory; blocks = blocks; registry = libraries } in
      carried m (λ s. Takes Stands (leaves s (finishes s.kernel.clock s.memory s.blocks s.libraries
      begun.number begun.place value)) now a b)
      (λ k h. subst (λ u. Takes Stands (leaves (iop_of m k) (finishes u m.guest m.blocks m.registry
      begun.number begun.place value)) now a b) (moment k h) (record {
        state = record {
          kernel = h;
          rest = rw (d, e, f) refl;
        };
        gives = lines;
      }))

-- another module begins: the loader's thread goes on
pub stands_going_on : (m : Program) → is_some m.begun ≡ true → (s : Iop) → Stands m s
    → Stands m (goes_on_by s s.begun)
stands_going_on m some s h =
    subst (λ o. Stands m (goes_on_by s o))
    (sym (ap (λ (x : Iop). x.begun) h.rest ∙ (there m.begun some).1)) h

-- none does: it has ended
module _ (m : Program) (new : Kernels KernelReady)
    (ends : (k : Kernel) → kernel.Stands KernelStands m.kernel k
    → kernel.Stands KernelStands new (record k { threads = threads.ends_running k.threads })) where
  pub stands_ended : (s : Iop) → Stands m s → Stands (record m { kernel = new }) (goes_on_by s None)
  stands_ended =
      carried m (λ s. Stands (record m { kernel = new }) (goes_on_by s None))
      (λ k h. record { kernel = ends k h; rest = refl })

  -- where no module begins
  pub stands_not_going_on : is_some m.begun ≡ false → (s : Iop) → Stands m s
      → Stands (record m { kernel = new }) (goes_on_by s s.begun)
  stands_not_going_on none s h =
      subst (λ o. Stands (record m { kernel = new }) (goes_on_by s o))
      (sym (ap (λ (x : Iop). x.begun) h.rest ∙ none_of m.begun none)) (stands_ended s h)

-- a module was ended, and then the next one was loaded
pub ends_module_takes : {m left loaded : Program} {a b c : Output} (begun : BegunModule) (value : ℕ)
    → ((s : Iop) → Stands m s → Takes Stands (leaves s (finishes s.kernel.clock s.memory s.blocks
    s.libraries begun.number begun.place value)) left a b)
    → ((s : Iop) → Stands left s → Takes Stands (loads_first (modules_of s.modules) s) loaded b c)
    → (now : Program) → ((s : Iop) → Stands loaded s → Stands now (goes_on_by s s.begun))
    → (s : Iop) → Stands m s → Takes Stands (ends_module s begun value) now a c
unfolding ends_module
ends_module_takes begun value ended loads now goes s h =
    let taken = ended s h in
    takes_then taken
    (λ v. with_state (λ u. goes_on_by u u.begun) (loads_first (modules_of v.modules) v))
    (takes_with (loads _ taken.state) Stands (λ u. goes_on_by u u.begun) now (goes _))

-- by whether a module had begun
pub returns_takes : {m now : Program} {a b : Output} (o : Option BegunModule) (value : ℕ)
    → m.begun ≡ o → ((s : Iop) → Stands m s → Takes Stands (returns_by s o value) now a b)
    → (s : Iop) → Stands m s → Takes Stands (returns_by s s.begun value) now a b
returns_takes {m} {now} {a} {b} o value is g s h =
    subst (λ x. Takes Stands (returns_by s x value) now a b)
    (sym (ap (λ (x : Iop). x.begun) h.rest ∙ is)) (g s h)

-- with another processor
pub stands_with_cpu : (m : Program) (cpu : Cpu) (s : Iop) → Stands m s
    → Stands (record m { cpu = cpu }) (record s { cpu = cpu })
stands_with_cpu m cpu =
    carried m (λ s. Stands (record m { cpu = cpu }) (record s { cpu = cpu }))
    (λ k h. record { kernel = h; rest = refl })

-- what a `syscall` of a code comes to
abbrev pub did : ℕ → Iop → Served
did code s = services (calling s) code

-- this call left the kernel with its processor, the memory, the blocks and the libraries so, and
-- gave its pieces
pub record IsServed (m left : Program) (code : ℕ) (after : After) (a b : Output) : Type 0 where
  pub serves : (k : Kernel) → kernel.Stands KernelStands m.kernel k
      → kernel.ServesPlaced KernelStands (did code (iop_of m k)) after left.kernel left.cpu
      left.guest left.blocks left.registry a b

-- as the clause of the kernel's call says it, which was made with this processor
pub served : (m : Program) (behind : Cpu) (code : ℕ) → behind ≡ behind_syscall m.cpu
    → {new : Kernels KernelReady} {cpu : Cpu} {memory : Memory} {blocks : BlockMap}
    {libraries : List Library} {after : After} {a b : Output}
    → ((k : Kernel) → kernel.Stands KernelStands m.kernel k
    → let d = services (system_of (record (iop_of m k) { cpu = behind })) code in
    kernel.ServesPlaced KernelStands d after new cpu memory blocks libraries a b)
    → IsServed m (record m {
      kernel = new;
      cpu = cpu;
      guest = memory;
      blocks = blocks;
      registry = libraries;
    }) code after a b
served m behind code moved {new} {cpu} {memory} {blocks} {libraries} {after} {a} {b} serves =
    record {
      serves = λ k stands.
          subst (λ (at : Cpu).
          let d = services (system_of (record (iop_of m k) { cpu = at })) code in
          kernel.ServesPlaced KernelStands d after new cpu memory blocks libraries a b)
          moved (serves k stands);
    }

-- the program with what was left
abbrev pub with_left : Program → Program → Program
with_left m left = record m {
  kernel = left.kernel;
  cpu = left.cpu;
  guest = left.guest;
  blocks = left.blocks;
  registry = left.registry;
}

module _ {m left : Program} {code : ℕ} {after : After} {a b : Output}
    (h : IsServed m left code after a b) where
  -- the call took what it leaves and gives
  pub serves_takes : (s : Iop) → Stands m s
      → Takes Stands (serves s (did code s)) (with_left m left) a b
  serves_takes =
      carried m (λ s. Takes Stands (serves s (did code s)) (with_left m left) a b)
      (λ k stands.
      let done = h.serves k stands in
      let taken = done.served in
      let x = (did code (iop_of m k)).left.state in
      let now = iop_of (with_left m left) x.core.kernel in
      record {
        state = record {
          kernel = record { holds = taken.core.kernel; placed = done.placed };
          rest = cc (taken.core.processor, taken.ram, taken.map, taken.registry);
        };
        gives = taken.gives;
      })

  -- what it answered becomes of its caller
  answer_is : (s : Iop) → Stands m s → after ≡ (did code s).left.after
  answer_is =
      carried m (λ s. after ≡ (did code s).left.after)
      (λ k stands. (h.serves k stands).served.core.answer)

  -- then by what becomes of its caller
  pub calls_takes : (r : After) → after ≡ r → {now : Program} {c : Output} (s : Iop) → Stands m s
      → Takes Stands (calls_by s (did code s) r) now a c
      → Takes Stands (calls s (behind_syscall s.cpu) code) now a c
  unfolding calls
  calls_takes r is s stands t =
      takes_as t (ap (calls_by s (did code s)) (sym is ∙ answer_is s stands))

  -- one that faulted has changed nothing, and given nothing
  pub faults_takes : (kind : GuestFault) → after ≡ Fault kind → (now : Program)
      → ((s : Iop) → Stands (record (with_left m left) { cpu = m.cpu }) s
      → Stands now (faults_with s kind))
      → (s : Iop) → Stands m s → Takes Stands (calls s (behind_syscall s.cpu) code) now a b
  faults_takes kind is now faults s stands =
      let taken = serves_takes s stands in
      let alone = services_alone (calling s) code kind (sym (answer_is s stands) ∙ is) in
      let kept = record (with_left m left) { cpu = m.cpu } in
      let same : Stands (with_left m left) (with_system s (calling s)) =
      subst (λ x. Stands (with_left m left) (with_system s x)) alone.0 taken.state in
      let back : Stands kept s = subst (λ (at : Cpu). Stands kept (record s { cpu = at }))
      (sym (ap (λ (x : Iop). x.cpu) stands.rest)) (stands_with_cpu (with_left m left) m.cpu _ same)
      in
      calls_takes (Fault kind) is s stands (record {
        state = faults s back;
        gives = subst (Gives a b) alone.1 taken.gives;
      })

  -- where a thread or a handler executes, a call keeps what each service keeps
  keeps : (s : Iop) → is_active s.kernel ≡ true → ServiceKeeps (calling s) (did code s)
  keeps s = services_keep (calling s) code

  -- so the moment is that of before
  pub clock_left : (s : Iop) → Stands m s → is_active s.kernel ≡ true
      → left.kernel.clock ≡ m.kernel.clock
  clock_left s stands runs =
      sym (serves_takes s stands).state.kernel.holds.clock ∙ (keeps s runs).clock
      ∙ stands.kernel.holds.clock

  -- and the blocks are those of the same memory
  pub size_left : (s : Iop) → Stands m s → is_active s.kernel ≡ true
      → m.blocks.size ≡ length m.guest.ram → left.blocks.size ≡ length left.guest.ram
  size_left s stands runs same =
      let left_is = (serves_takes s stands).state.rest in
      let kept = keeps s runs in
      let memory = kept.memory in
      sym (ap (λ (v : Iop). v.blocks.size) left_is) ∙ kept.blocks.size
      ∙ ap (λ (v : Iop). v.blocks.size) stands.rest ∙ same
      ∙ ap (λ (v : Iop). length v.memory.ram) (sym stands.rest)
      ∙ sym (ap (λ (x : Memory). length x.ram) memory.left
      ∙ length-after_stores s.memory memory.stores memory.inside)
      ∙ ap (λ (v : Iop). length v.memory.ram) left_is

-- the module that returned takes no time
pub clock_returned : {v now : Program} {a b : Output} (value : ℕ) (s : Iop) → Stands v s
    → Takes Stands (returns_by s s.begun value) now a b → now.kernel.clock ≡ v.kernel.clock
clock_returned value s stands t =
    let clock = ap (λ (k : Kernel). k.clock) (returns_leave s s.begun value).kernel in
    sym t.state.kernel.holds.clock ∙ clock ∙ stands.kernel.holds.clock
