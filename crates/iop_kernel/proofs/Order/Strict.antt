-- What a dispatch of the threads makes of the kernel, and which thread it takes.
use Rattle.std.proofs.Common.{◌≡◌, ◌&&◌, ℕ, Bool, true, Option, Some, None, List, [], ◌∷◌, refl, ap, arith}
use Rattle.std.proofs.lemmas.Bool.Decides.{nat_tests}
use Rattle.iop_base.specs.Output.{Output, Gives}
use Rattle.iop_base.specs.Piece.{Traced}
use Rattle.iop_base.specs.Text.{line_bytes}
use Rattle.iop_base.specs.declared.line.Line.TheVariants.{Run}
use Rattle.iop_exec.specs.declared.cpu.Cpu.{Cpu}
use Rattle.iop_ready.specs.declared.entry.Entry.{Entry}
use Rattle.iop_thread.specs.Operations as operations
use Rattle.iop_thread.specs.Standing as threads
use Rattle.iop_thread.specs.declared.threads.Threads.{Threads}
use Rattle.iop_thread.proofs.Strict.{dispatched_is, settled_is}
use Rattle.iop_kernel.specs.Dispatching.{dispatched, dispatches}
use Rattle.iop_kernel.specs.Laws.{DispatchKeeps, DispatchesAreStrict}
use Rattle.iop_kernel.specs.Standing.{Stands, Dispatches}
use Rattle.iop_kernel.specs.System.{Core, may_dispatch}
use Rattle.iop_kernel.specs.declared.kernel.Kernel.{Kernel as Program}
use Rattle.iop_kernel.proofs.Bodies.Standing.{holds_with}
use Rattle.iop_kernel.proofs.Keeping.Steps.{core_steps}
use Rattle.iop_kernel.proofs.Order.Nothing.{none_of}
use Rattle.iop_kernel.proofs.Placing.Steps.{placed_steps}
use Rattle.iop_kernel.proofs.Walk.Steps.{dispatches_goes, none_dispatched, none_of_threads}

-- another thread may run where both are on
pub both_on : {a b : Bool} → a ≡ true → b ≡ true → (a && b) ≡ true
both_on {a} {b} e f = rw (e, f) refl

module _ {R : Type 0} (stands_for : R → List Entry → Type 0) (c : Core) (p : Program R)
    (t : Threads R) (cpu : Cpu) (old new : Output) (id : ℕ) (h : Stands stands_for p c.kernel)
    (may : may_dispatch c.kernel ≡ true) where
  -- the dispatch of the threads is that of the kernel
  made_is : (d : operations.Dispatch) → operations.dispatches c.kernel.threads c.cpu ≡ Some d
      → dispatches c ≡ Some (dispatched c.kernel d)
  unfolding dispatches
  made_is d e = rw (may, e) refl

  -- by what the threads dispatch
  some_by : (o : Option operations.Dispatch) → operations.dispatches c.kernel.threads c.cpu ≡ o
      → threads.Dispatches stands_for c.kernel.threads c.cpu o (Some id) t cpu
      → Gives old new (Traced (line_bytes p.clock (Run id)) ∷ [])
      → Dispatches stands_for c (dispatches c) true (record p { threads = t }) cpu old new
  some_by None e did gives = absurd (cc did.0)
  some_by (Some d) e did gives =
      let made = made_is d e in
      let same : d.id ≡ id = cc did.0 in
      rw made (
        refl,
        record {
          holds = holds_with stands_for h.holds did.1;
          placed = (placed_steps c h.placed).dispatches d e;
        },
        did.2,
        rw (h.holds.clock, same) gives,
      )

  -- a thread was dispatched
  pub dispatched_some : threads.Dispatches stands_for c.kernel.threads c.cpu
      (operations.dispatches c.kernel.threads c.cpu) (Some id) t cpu
      → Gives old new (Traced (line_bytes p.clock (Run id)) ∷ [])
      → Dispatches stands_for c (dispatches c) true (record p { threads = t }) cpu old new
  dispatched_some did gives = some_by (operations.dispatches c.kernel.threads c.cpu) refl did gives

-- each dispatch takes the first ready thread of the best priority
pub dispatches_are_strict : DispatchesAreStrict
dispatches_are_strict = record {
  dispatched = λ c d core. dispatches_goes
      (λ left line. DispatchKeeps c (record { core = left; line = line })) c (λ may did made.
      let so = dispatched_is c.kernel.threads c.cpu did core.placed.threads made in
      let next = (dispatched c.kernel did).core in
      record {
        core = (core_steps core).dispatches did made;
        clock = refl;
        switch = record {
          did = did;
          is = so;
          left = refl;
          line = ap (λ id. Traced (line_bytes c.kernel.clock (Run id))) so.id;
          settled = none_dispatched next (λ still. so.settled next.cpu);
        };
        handler = none_of c.kernel.handler (grind (arith, nat_tests, may));
      }) d;
  settled = λ c core none may.
      settled_is c.kernel.threads c.cpu core.placed.threads (none_of_threads c none may);
}
