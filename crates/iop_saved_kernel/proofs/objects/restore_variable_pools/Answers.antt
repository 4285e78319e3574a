use Rattle.iop_objects.specs.Objects.{no_objects}
use Rattle.iop_saved_objects.specs.VariablePools.{variable_pool_form, put_variable_pool}
use Rattle.iop_saved_kernel.specs.ThreadLists.{priority_among}
use Rattle.iop_saved_kernel.proofs.Results.{list_restores}
use Rattle.iop_saved_kernel.proofs.objects.restore_variable_pools.Goals as goal

pub returns : goal.returns
returns c =
    list_restores (put_variable_pool (priority_among c.args.priorities.now.threads.items)) variable_pool_form
    no_objects c.in_ok-variable_pools.variable_pools c.in_ok-variable_pools.ensures c.restore_variable_pools.result c.args.decoder.now
    c.restore_variable_pools.new.decoder c.restore_variable_pools.ensures
