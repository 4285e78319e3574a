-- What each code leaves as it was.
use Rattle.std.proofs.Common.{◌≡◌, ◌≢◌, ℕ, ◌==◌, ◌||◌, Bool, true, false, Option, Some, None, refl, ap, sym, subst, arith}
use Rattle.std.proofs.lemmas.Bool.{cond_both, eqb-true}
use Rattle.std.proofs.lemmas.Bool.Decides.{nat_tests}
use Rattle.iop_exec.specs.Row.{reg}
use Rattle.iop_services.specs.declared.codes.TheConstants.{INTRMAN}
use Rattle.iop_thread.specs.declared.kind.Kind.{Kind}
use Rattle.iop_thread.specs.declared.thread.TheConstants.{LOADER}
use Rattle.iop_kernel_laws.specs.CodeLaws.{serves_kernel, serves_threads, calls_into, ends_thread, calls_threads, changes_kernel, KeepsObjects, CodeStaysApart, CodesStayApart}
use Rattle.iop_kernel.specs.Handlers.{returns_handler, handler_returned}
use Rattle.iop_kernel.specs.Kinds.{table}
use Rattle.iop_kernel.specs.Serving.{call_of, calls_library, calls}
use Rattle.iop_kernel.specs.System.{Kernel, Core, Left, System, caller, on_core}
use Rattle.iop_kernel.specs.ThreadStarts.{exits_by, returns_by}
use Rattle.iop_kernel.specs.declared.active_handler.ActiveHandler.{ActiveHandler}
use Rattle.iop_kernel.specs.declared.call.Call.{Call}
use Rattle.iop_kernel.specs.declared.call.Call.TheVariants.{Library, ThreadReturn, HandlerReturn, ModuleReturn}
use Rattle.iop_kernel_laws.proofs.Codes.Libraries.{IsApart, library_stays}
use Rattle.iop_kernel_laws.proofs.Keeping.Handlers.{gives_to}
use Rattle.iop_kernel_laws.proofs.Keeping.Stores.{services_store}
use Rattle.iop_kernel_laws.proofs.Placing.ObjectsKept.{same_objects}
use Rattle.iop_kernel_laws.proofs.Codes.Writing.{library_writes_nothing}

-- numbers that are not found equal differ
differs : (m n : ℕ) → (m == n) ≡ false → m ≢ n
differs m n other same = absurd (grind (arith, nat_tests, other, same))

-- where nothing returns, none that may change the kernel is called
writes_none : (b : Bool) → (b || false || false) ≡ false → b ≡ false
writes_none true none = cc
writes_none false none = refl

-- a kernel that has the objects of another keeps them
module _ (k : Kernel) where
  keeps_by : (l m : Kernel) → l ≡ m
      → ((kind : Kind) → KeepsObjects (table kind k) (table kind m))
      → (kind : Kind) → KeepsObjects (table kind k) (table kind l)
  keeps_by l m same keeps kind =
      subst (λ (x : Kernel). KeepsObjects (table kind k) (table kind x)) (sym same) (keeps kind)

  own_objects : (kind : Kind) → KeepsObjects (table kind k) (table kind k)
  own_objects kind = same_objects (table kind k)

module _ (s : System) where
  abbrev k : Kernel
  k = s.core.kernel

  -- intrman leaves the threads, and so do the libraries that leave the kernel
  threads_by : (library : ℕ) (left : System)
      → IsApart s library left.core.kernel left.libraries left.blocks
      → serves_threads library ≡ false → (b : Bool) → (library == INTRMAN) ≡ b
      → left.core.kernel.threads ≡ k.threads
  threads_by library left h none true is =
      let same : library ≡ INTRMAN = grind (arith, nat_tests, is) in
      ap (λ (l : Kernel). l.threads) (h.intrman same)
  threads_by library left h none false is =
      ap (λ (l : Kernel). l.threads) (h.kernel (grind (arith, nat_tests, none, is)))

  -- a call of a library
  module _ (library number : ℕ) where
    abbrev left : System
    left = (calls_library library number s).left.state

    library_apart : left.core.kernel.clock ≡ k.clock
        → CodeStaysApart s (Some (Library library number)) left
    library_apart clock =
        let h = library_stays s library number in
        record {
          kernel = λ none. h.kernel (writes_none (serves_kernel library) none);
          intrman = λ is. h.intrman (eqb-true library INTRMAN is);
          objects = λ kind other. h.objects kind (differs _ _ other);
          threads = λ other. threads_by library left h other (library == INTRMAN) refl;
          irqs = λ other plain. h.irqs (differs _ _ other);
          timers = λ other plain. h.timers (differs _ _ other);
          handler = λ plain. h.handler;
          interrupts = λ other another plain ends.
              h.interrupts (differs _ _ other) (differs _ _ another);
          dispatching = λ other ends. h.dispatching (differs _ _ other);
          clock = clock;
          libraries = λ other. h.libraries (differs _ _ other);
          blocks = λ other another vpl fpl.
              h.blocks (differs _ _ other) (differs _ _ another) (differs _ _ vpl)
              (differs _ _ fpl);
          memory = library_writes_nothing s library number;
        }

  -- a thread or a module that returns changes threads, and whether others may run
  abbrev EndsOnly : Left Core → Type 0
  EndsOnly left =
      left.state.kernel ≡ record k {
        interrupts = left.state.kernel.interrupts;
        dispatching = left.state.kernel.dispatching;
        threads = left.state.kernel.threads;
      }

  exits_only : (o : Option ℕ) → EndsOnly (exits_by s.core o)
  exits_only None = refl
  exits_only (Some id) = cond_both (id == LOADER) _ _ EndsOnly (λ loader. refl) (λ other. refl)

  returns_only : (o : Option ℕ) → EndsOnly (returns_by s.core o)
  returns_only None = refl
  returns_only (Some id) = cond_both (id == LOADER) _ _ EndsOnly (λ loader. refl) (λ other. refl)

  ended_apart : (call : Option Call) → ends_thread call ≡ true → calls_threads call ≡ true
      → changes_kernel call ≡ true → calls_into INTRMAN call ≡ false → (left : Left Core)
      → EndsOnly left → CodeStaysApart s call (on_core s left).state
  ended_apart call ending threading changing no_intrman left only = record {
    kernel = λ none. absurd (cc (none, changing));
    intrman = λ is. absurd (cc (is, no_intrman));
    objects = λ kind other. keeps_by k _ _ only (own_objects k) kind;
    threads = λ none. absurd (cc (none, threading));
    irqs = λ other plain. ap (λ (l : Kernel). l.irqs) only;
    timers = λ other plain. ap (λ (l : Kernel). l.timers) only;
    handler = λ plain. ap (λ (l : Kernel). l.handler) only;
    interrupts = λ other another plain ends. absurd (cc (ends, ending));
    dispatching = λ other ends. absurd (cc (ends, ending));
    clock = ap (λ (l : Kernel). l.clock) only;
    libraries = λ other. refl;
    blocks = λ other another vpl fpl. refl;
    memory = λ none. refl;
  }

  -- nothing changes
  nothing_apart : (call : Option Call) → CodeStaysApart s call s
  nothing_apart call = record {
    kernel = λ none. refl;
    intrman = λ is. refl;
    objects = λ kind other. own_objects k kind;
    threads = λ other. refl;
    irqs = λ other plain. refl;
    timers = λ other plain. refl;
    handler = λ plain. refl;
    interrupts = λ other another plain ends. refl;
    dispatching = λ other ends. refl;
    clock = refl;
    libraries = λ other. refl;
    blocks = λ other another vpl fpl. refl;
    memory = λ none. refl;
  }

  -- a handler that returns changes its line or its alarm, and that it runs
  handler_apart : (handler : ActiveHandler) (value : ℕ)
      → CodeStaysApart s (Some HandlerReturn)
      (record s { core = handler_returned s.core handler value })
  handler_apart handler value =
      let is = (gives_to k handler.cause value).is in
      record {
        kernel = λ none. absurd (cc none);
        intrman = λ is. absurd (cc is);
        objects = λ kind other. keeps_by k _ _
            (ap (λ (l : Kernel). record l { interrupts = true; handler = None }) is)
            (own_objects k) kind;
        threads = λ other. ap (λ (l : Kernel). l.threads) is;
        irqs = λ other plain. absurd (cc plain);
        timers = λ other plain. absurd (cc plain);
        handler = λ plain. absurd (cc plain);
        interrupts = λ other another plain ends. absurd (cc plain);
        dispatching = λ other ends. ap (λ (l : Kernel). l.dispatching) is;
        clock = ap (λ (l : Kernel). l.clock) is;
        libraries = λ other. refl;
        blocks = λ other another vpl fpl. refl;
        memory = λ none. refl;
      }

  handlers_apart : (o : Option ActiveHandler)
      → CodeStaysApart s (Some HandlerReturn) (on_core s (returns_handler s.core o)).state
  handlers_apart None = nothing_apart (Some HandlerReturn)
  handlers_apart (Some handler) = handler_apart handler (reg s.core.cpu 2)

  -- whatever is called
  calls_apart : (o : Option Call) → (calls s o).left.state.core.kernel.clock ≡ k.clock
      → CodeStaysApart s o (calls s o).left.state
  calls_apart None clock = nothing_apart None
  calls_apart (Some ThreadReturn) clock =
      ended_apart (Some ThreadReturn) refl refl refl refl (exits_by s.core (caller s.core))
      (exits_only (caller s.core))
  calls_apart (Some HandlerReturn) clock = handlers_apart k.handler
  calls_apart (Some ModuleReturn) clock =
      ended_apart (Some ModuleReturn) refl refl refl refl (returns_by s.core (caller s.core))
      (returns_only (caller s.core))
  calls_apart (Some (Library library number)) clock = library_apart library number clock

pub codes_stay_apart : CodesStayApart
codes_stay_apart s code = calls_apart s (call_of code) (services_store s code).clock
