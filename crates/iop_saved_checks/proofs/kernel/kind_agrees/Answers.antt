use Rattle.std.proofs.Common.{◌∙◌, sym, ap}
use Rattle.std.specs.List.{list_all}
use Rattle.iop_thread.specs.declared.kind.Kind.TheVariants.{Semaphore, EventFlag, Mailbox, VariablePool, FixedPool}
use Rattle.iop_saved_checks.specs.Objects.{ids_of, agrees_in, objects_agree}
use Rattle.iop_saved_checks.proofs.Agreeing.{of_kind}
use Rattle.iop_saved_checks.proofs.kernel.kind_agrees.Goals as goal

pub returns-in-Semaphore : goal.returns-in-Semaphore
unfolding objects_agree
returns-in-Semaphore g c k h =
    of_kind c.args.guest.now k c.in-Semaphore.is
    (c.objects_agree.ensures k.threads h.threads
    ∙ ap (λ s. list_all (agrees_in c.args.guest.now k.threads Semaphore s) (ids_of s))
    (sym h.semaphores))

pub returns-in-EventFlag : goal.returns-in-EventFlag
unfolding objects_agree
returns-in-EventFlag g c k h =
    of_kind c.args.guest.now k c.in-EventFlag.is
    (c.objects_agree-in-EventFlag.ensures k.threads h.threads
    ∙ ap (λ s. list_all (agrees_in c.args.guest.now k.threads EventFlag s) (ids_of s))
    (sym h.event_flags))

pub returns-in-Mailbox : goal.returns-in-Mailbox
unfolding objects_agree
returns-in-Mailbox g c k h =
    of_kind c.args.guest.now k c.in-Mailbox.is
    (c.objects_agree-in-Mailbox.ensures k.threads h.threads
    ∙ ap (λ s. list_all (agrees_in c.args.guest.now k.threads Mailbox s) (ids_of s))
    (sym h.mailboxes))

pub returns-in-VariablePool : goal.returns-in-VariablePool
unfolding objects_agree
returns-in-VariablePool g c k h =
    of_kind c.args.guest.now k c.in-VariablePool.is
    (c.objects_agree-in-VariablePool.ensures k.threads h.threads
    ∙ ap (λ s. list_all (agrees_in c.args.guest.now k.threads VariablePool s) (ids_of s))
    (sym h.variable_pools))

pub returns-in-FixedPool : goal.returns-in-FixedPool
unfolding objects_agree
returns-in-FixedPool g c k h =
    of_kind c.args.guest.now k c.in-FixedPool.is
    (c.objects_agree-in-FixedPool.ensures k.threads h.threads
    ∙ ap (λ s. list_all (agrees_in c.args.guest.now k.threads FixedPool s) (ids_of s))
    (sym h.fixed_pools))
