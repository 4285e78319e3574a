use Rattle.iop_objects.specs.Objects.{no_objects}
use Rattle.iop_saved_objects.specs.Semaphores.{semaphore_form, put_semaphore}
use Rattle.iop_saved_kernel.specs.ThreadLists.{priority_among}
use Rattle.iop_saved_kernel.proofs.Results.{list_restores}
use Rattle.iop_saved_kernel.proofs.objects.restore_semaphores.Goals as goal

pub returns : goal.returns
returns c =
    list_restores (put_semaphore (priority_among c.args.priorities.now.threads.items)) semaphore_form
    no_objects c.in_ok-semaphores.semaphores c.in_ok-semaphores.ensures c.restore_semaphores.result c.args.decoder.now
    c.restore_semaphores.new.decoder c.restore_semaphores.ensures
