-- How the machine begins, and how its modules come into memory.
use Rattle.std.proofs.Common.{◌≡◌, ℕ, suc, true, false, Some, None, Result, Ok, Err, List, [], ◌∷◌, length, drop, get_or, replicate, refl, ap, sym, ◌∙◌, subst}
use Rattle.std.specs.Prelude.{is_some}
use Rattle.std.specs.List.{slice_get}
use Rattle.iop_base.specs.Numbers.{with_bytes}
use Rattle.iop_base.specs.Output.{Output, Gives}
use Rattle.iop_base.specs.declared.code.Code.{Code}
use Rattle.iop_base.specs.declared.line.Line.TheVariants.{Refused}
use Rattle.iop_exec.specs.declared.cpu.Cpu.{Cpu}
use Rattle.iop_kernel.proofs.Order.Nothing.{none_of}
use Rattle.iop_kernel.specs.Standing as kernel
use Rattle.iop_kernel.specs.System.{Kernel}
use Rattle.iop_kernel.specs.declared.kernel.Kernel.{Kernel as Kernels}
use Rattle.iop_modload.specs.Loading.{Loads, loads}
use Rattle.iop_modload.specs.declared.loaded.Loaded.{Loaded}
use Rattle.iop_ready.specs.KernelReady.{KernelReady, KernelStands}
use Rattle.iop_registry.specs.KernelLibraries.{kernel_libraries}
use Rattle.iop_stubs.specs.Stubs.{Memory}
use Rattle.iop_sysmem.specs.BlockMap.{BlockMap}
use Rattle.iop_sysmem.specs.declared.blocks.TheConstants.{KERNEL}
use Rattle.iop_thread.specs.Operations as threads
use Rattle.iop_thread.specs.States.{zeroed_at}
use Rattle.iop_machine.specs.Iop.{Iop, Transition, Takes, Remains, silent, tells, and_then}
use Rattle.iop_machine.specs.KernelArea.{kernel_area}
use Rattle.iop_machine.specs.Loading.{with_kernel, boots, loading_of, places, begins, enters, enters_or, loads_first, starts_by, starts}
use Rattle.iop_machine.specs.Modules.{Module, ModulesLeft, argument_block, module_start, modules_of, without_first}
use Rattle.iop_kernel.specs.Registers.{nobodys}
use Rattle.iop_machine.specs.Standing.{iop_of, Stands}
use Rattle.iop_machine.specs.World.{reset, zeros}
use Rattle.iop_saved_machine.specs.declared.begun_module.BegunModule.{BegunModule}
use Rattle.iop_machine.specs.declared.iop.Iop.{Iop as Program}
use Rattle.iop_machine.proofs.Elements.{there}
use Rattle.iop_machine.proofs.ModulesTaken.{rest_is}
use Rattle.iop_machine.proofs.StandingLemmas.{IsMoment, carried, stands_for, silent_takes, silent_then, takes_as, takes_then, takes_with}

-- what is 0 everywhere is zeros
zeros_are : (xs : List ℕ) → ((p : ℕ) → get_or xs p 0 ≡ 0) → xs ≡ replicate (length xs) 0
zeros_are [] f = refl
zeros_are (x ∷ xs) f = ap (λ y. y ∷ xs) (f 0) ∙ ap (λ ys. 0 ∷ ys) (zeros_are xs (λ p. f (suc p)))

-- the memory as it begins
zero_memory : (n : ℕ) (memory : Memory) → ((p : ℕ) → get_or memory.ram p 0 ≡ 0)
    → memory.live ≡ [] → length memory.ram ≡ n → memory ≡ record { ram = zeros n; live = [] }
unfolding zeros
zero_memory n memory zero none size =
    let ram = zeros_are memory.ram zero ∙ ap (λ k. replicate k 0) size in
    ap (λ r. record { ram = r; live = memory.live }) ram
    ∙ ap (λ l. record { ram = zeros n; live = l }) none

-- what a program has that was just made with so much memory
pub record IsReset (n : ℕ) (m : Program) : Type 0 where
  pub kernel : kernel.Stands KernelStands m.kernel (reset n m.modules m.events).kernel
  pub cpu : m.cpu ≡ zeroed_at 0
  pub zero : (p : ℕ) → get_or m.guest.ram p 0 ≡ 0
  pub none : m.guest.live ≡ []
  pub sized : length m.guest.ram ≡ n
  pub map : m.blocks ≡ record { size = n; used = KERNEL ∷ [] }
  pub registry : m.registry ≡ kernel_libraries
  pub begun : m.begun ≡ None
  pub over : m.over ≡ None

-- it stands for the machine as it begins
pub reset_stands : (n : ℕ) (m : Program) → IsReset n m → Stands m (reset n m.modules m.events)
reset_stands n m h =
    let memory = zero_memory n m.guest h.zero h.none h.sized in
    record {
      kernel = h.kernel;
      rest = rw (memory, h.cpu, h.map, h.registry, h.begun, h.over) refl;
    }

-- a module begins
pub stands_begun : (m : Program) (number : ℕ) (loaded : Loaded) (words : ℕ) (cpu : Cpu)
    → cpu ≡ module_start loaded words → (s : Iop) → Stands m s
    → let begun : BegunModule = record { number = number; place = loaded.place } in
    Stands (record m { cpu = cpu; begun = Some begun }) (begins s number loaded words)
stands_begun m number loaded words cpu e =
    let begun : BegunModule = record { number = number; place = loaded.place } in
    carried m
    (λ s. Stands (record m { cpu = cpu; begun = Some begun }) (begins s number loaded words))
    (λ k h. record {
      kernel = h;
      rest = ap (λ x. record (iop_of m k) { cpu = x; begun = Some begun }) (sym e);
    })

-- the first of a list
first_is : {X : Type 0} (xs : List X) (x : X) → Some x ≡ slice_get xs 0 → xs ≡ x ∷ drop 1 xs
first_is [] x e = absurd (cc e)
first_is (y ∷ ys) x e = ap (λ z. z ∷ ys) (cc e)

-- a list that has no first
none_is : {X : Type 0} (xs : List X) → None ≡ slice_get xs 0 → xs ≡ []
none_is [] e = refl
none_is (x ∷ xs) e = absurd (cc e)

-- the first one that is left, and those behind it
first_left : (left : ModulesLeft) (m : Module) → Some m ≡ slice_get (modules_of left) 0
    → modules_of left ≡ m ∷ modules_of (without_first left)
first_left left m e =
    first_is (modules_of left) m e ∙ ap (λ rest. m ∷ rest) (sym (rest_is left))

-- the first of these modules is loaded
loads_it : (s : Iop) (m : Module) (modules rest : List Module) → modules ≡ m ∷ rest
    → loads_first modules s ≡ and_then (places s (loading_of s m))
    (λ v. enters_or (loads_first rest) v m (loading_of s m).answer)
unfolding loads_first
loads_it s m modules rest e = ap (λ ms. loads_first ms s) e

-- there is none
nothing_loads : (s : Iop) (modules : List Module) → modules ≡ []
    → loads_first modules s ≡ silent (record s { begun = None })
unfolding loads_first
nothing_loads s modules e = ap (λ ms. loads_first ms s) e

-- no module is left
pub none_left : (m : Program) (a : Output) → None ≡ slice_get (modules_of m.modules) 0
    → (s : Iop) → Stands m s
    → Takes Stands (loads_first (modules_of s.modules) s) (record m { begun = None }) a a
none_left m a none =
    let left = modules_of m.modules in
    carried m
    (λ s. Takes Stands (loads_first (modules_of s.modules) s) (record m { begun = None }) a a)
    (λ k h. takes_as (silent_takes a (stands_for (record m { begun = None }) k h))
    (sym (nothing_loads (iop_of m k) left (none_is left none))))

module _ (m : Program) (t : ℕ) (first : Module) where
  -- what the loading of a module comes to at a moment
  abbrev loading : Loads
  loading = loads t m.guest m.blocks m.registry first.file

  -- the first module was loaded or refused, and taken out
  pub record Places (answer : Result Loaded Code) (placed : Program) (a b : Output) : Type 0 where
    pub moment : IsMoment m t
    pub is_first : Some first ≡ slice_get (modules_of m.modules) 0
    pub answer_is : answer ≡ loading.answer
    pub takes : (s : Iop) → Stands m s
        → Takes Stands (places s (loading_of s first)) placed a b

  -- as the clauses of the calls say it
  pub places_as : {a b : Output} {answer : Result Loaded Code} {memory : Memory} {blocks : BlockMap}
      {modules : ModulesLeft} → IsMoment m t → Some first ≡ slice_get (modules_of m.modules) 0
      → answer ≡ loading.answer → memory ≡ loading.memory → blocks ≡ loading.blocks
      → Gives a b loading.pieces → modules ≡ without_first m.modules
      → Places answer (record m { guest = memory; blocks = blocks; modules = modules }) a b
  places_as {a} {b} {answer} {memory} {blocks} {modules} moment is_first answer_is e f lines rest =
      let placed = record m { guest = memory; blocks = blocks; modules = modules } in
      record {
        moment = moment;
        is_first = is_first;
        answer_is = answer_is;
        takes = carried m
            (λ s. Takes Stands (places s (loading_of s first)) placed a b)
            (λ k h. subst (λ u. Takes Stands (places (iop_of m k)
            (loads u m.guest m.blocks m.registry first.file)) placed a b) (moment k h) (record {
              state = record {
                kernel = h;
                rest = rw (e, f, rest) refl;
              };
              gives = lines;
            }));
      }

  -- what is left where the first of a state's modules was loaded or refused
  abbrev placed_of : Iop → Iop
  placed_of s = (places s (loading_of s first)).state

  -- what follows then, by its answer
  abbrev follows : Iop → Result Loaded Code → Transition Iop
  follows s r =
      enters_or (loads_first (modules_of (without_first s.modules))) (placed_of s) first r

  module _ {answer : Result Loaded Code} {placed : Program} {a b : Output}
      (h : Places answer placed a b) where
    -- then by its answer
    then_by : (r : Result Loaded Code) → answer ≡ r → (new : Program) (d : Output) → (s : Iop)
        → Stands m s → Takes Stands (follows s r) new b d
        → Takes Stands (loads_first (modules_of s.modules) s) new a d
    then_by r is new d =
        carried m
        (λ s. Takes Stands (follows s r) new b d
        → Takes Stands (loads_first (modules_of s.modules) s) new a d)
        (λ k stands later.
        let s = iop_of m k in
        let rest = modules_of (without_first m.modules) in
        let same : r ≡ (loading_of s first).answer = sym is ∙ h.answer_is
        ∙ ap (λ u. (loads u m.guest m.blocks m.registry first.file).answer) (h.moment k stands) in
        takes_as (takes_then (h.takes s (stands_for m k stands))
        (λ v. enters_or (loads_first rest) v first (loading_of s first).answer)
        (takes_as later (ap (follows s) same)))
        (sym (loads_it s first (modules_of m.modules) rest
        (first_left m.modules first h.is_first))))

    -- it begins with what it is handed
    pub loaded_takes : {new : Program} {c : Output} (loaded : Loaded) (words : ℕ) (block : List ℕ)
        → answer ≡ Ok loaded → words ≡ length first.words → block ≡ argument_block first.words
        → ((v : Iop) → Stands placed v → Takes Stands
        (enters v first.number loaded words block) new b c)
        → (s : Iop) → Stands m s → Takes Stands (loads_first (modules_of s.modules) s) new a c
    loaded_takes {new} {c} loaded words block is few handed g s stands =
        let v = placed_of s in
        then_by (Ok loaded) is new c s stands (takes_as (g v (h.takes s stands).state)
        (ap (λ n. enters v first.number loaded n block) few
        ∙ ap (enters v first.number loaded (length first.words)) handed))

    -- it was told to be refused, and the next ones remain
    pub refused_remains : {c : Output} (code : Code) → answer ≡ Err code
        → ((v : Iop) → Stands placed v
        → Takes Stands (tells v (Refused first.number code)) placed b c)
        → (s : Iop) → Stands m s
        → (v : Iop) × Stands placed v
        × Remains Stands (loads_first (modules_of s.modules) s)
        (loads_first (modules_of v.modules) v) a c
    refused_remains code is told s stands =
        let v = placed_of s in
        let there = (h.takes s stands).state in (
          v,
          there,
          λ later last rest. then_by (Err code) is later last s stands
              (takes_then (told v there) (loads_first (modules_of v.modules)) rest),
        )

-- the kernel's area was written
pub stands_with_area : (m : Program) (memory : Memory)
    → memory ≡ record m.guest { ram = with_bytes m.guest.ram 0 kernel_area }
    → (s : Iop) → Stands m s → Stands (record m { guest = memory }) (with_kernel s)
stands_with_area m memory e =
    carried m (λ s. Stands (record m { guest = memory }) (with_kernel s)) (λ k h. record {
      kernel = h;
      rest = ap (λ x. record (iop_of m k) { memory = x }) (sym e);
    })

-- the loader's thread was made ready
pub stands_started : (m : Program) (new : Kernels KernelReady)
    → ((k : Kernel) → kernel.Stands KernelStands m.kernel k
    → kernel.Stands KernelStands new (record k { threads = threads.begins k.threads m.cpu }))
    → is_some m.begun ≡ true → (s : Iop) → Stands m s
    → Stands (record m { kernel = new }) (starts_by s s.begun)
stands_started m new g some =
    carried m (λ s. Stands (record m { kernel = new }) (starts_by s s.begun)) (λ k h.
    subst (λ o. Stands (record m { kernel = new }) (starts_by (iop_of m k) o))
    (sym (there m.begun some).1) (record { kernel = g k h; rest = refl }))

-- there is no module for which it would be
pub stands_unstarted : (m : Program) → is_some m.begun ≡ false → (s : Iop) → Stands m s
    → Stands m (starts_by s s.begun)
stands_unstarted m none s h =
    subst (λ o. Stands m (starts_by s o))
    (sym (ap (λ (x : Iop). x.begun) h.rest ∙ none_of m.begun none)) h

-- nobody has the processor's registers
pub stands_unhad : (m : Program) (cpu : Cpu) → cpu ≡ nobodys → (s : Iop) → Stands m s
    → Stands (record m { cpu = cpu }) (record s { cpu = nobodys })
stands_unhad m cpu zero =
    carried m (λ s. Stands (record m { cpu = cpu }) (record s { cpu = nobodys }))
    (λ k h. record { kernel = h; rest = ap (λ x. record (iop_of m k) { cpu = x }) (sym zero) })

-- the kernel's area was written, and then the first module that loads begins
pub boots_takes : (m : Program) {a b c : Output} {loaded : Program} (memory : Memory)
    → memory ≡ record m.guest { ram = with_bytes m.guest.ram 0 kernel_area } → Gives a b []
    → ((s : Iop) → Stands (record m { guest = memory }) s
    → Takes Stands (loads_first (modules_of s.modules) s) loaded b c) → (now : Program)
    → ((s : Iop) → Stands loaded s → Stands now (starts s))
    → (s : Iop) → Stands m s → Takes Stands (boots s) now a c
unfolding boots
boots_takes m memory is lines loads now begun s h =
    silent_then lines (takes_with (loads _ (stands_with_area m memory is s h)) Stands starts now
    (begun _))
