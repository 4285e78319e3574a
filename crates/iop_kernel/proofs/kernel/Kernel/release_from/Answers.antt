use Rattle.std.proofs.Common.{◌≡◌, ℕ, true, Option, Some, None, refl}
use Rattle.std.specs.Prelude.{is_some}
use Rattle.iop_base.specs.declared.code.TheConstants.Code.{OK, WAIT_RELEASED}
use Rattle.iop_thread.specs.declared.wait.Wait.{Wait}
use Rattle.iop_kernel.specs.Standing.{core}
use Rattle.iop_kernel.specs.System.{Core, answers}
use Rattle.iop_kernel.specs.ThreadWaits.{releases_from}
use Rattle.iop_kernel.specs.Waits.{core_leaves, wakes_with}
use Rattle.iop_kernel.proofs.kernel.Kernel.release_from.Goals as goal

-- a wait is ended
releases_is : (c : Core) (id : ℕ) (wait : Option Wait) → is_some wait ≡ true
    → releases_from c id wait ≡ answers (core_leaves (wakes_with c id WAIT_RELEASED) id wait) OK
releases_is c id None e = cc
releases_is c id (Some wait) e = refl

pub returns : goal.returns
returns g c = λ k h.
    rw (releases_is (core k c.args.cpu.now) c.args.id c.args.wait c.if-is_none.ensures) (record {
      answer = c.answer-2.ensures.after;
      kernel = c.leave_object.ensures _ (c.wake.ensures k c.args.cpu.now h);
      processor = c.answer-2.ensures.processor;
    })
