use Rattle.iop_objects.specs.Objects.{no_objects}
use Rattle.iop_saved_objects.specs.FixedPools.{fixed_pool_form, put_fixed_pool}
use Rattle.iop_saved_kernel.specs.ThreadLists.{priority_among}
use Rattle.iop_saved_kernel.proofs.Results.{list_restores}
use Rattle.iop_saved_kernel.proofs.objects.restore_fixed_pools.Goals as goal

pub returns : goal.returns
returns c =
    list_restores (put_fixed_pool (priority_among c.args.priorities.now.threads.items)) fixed_pool_form
    no_objects c.in_ok-fixed_pools.fixed_pools c.in_ok-fixed_pools.ensures c.restore_fixed_pools.result c.args.decoder.now
    c.restore_fixed_pools.new.decoder c.restore_fixed_pools.ensures
