-- What the program's tables hold.
use Rattle.iop_kernel.specs.declared.kernel.Kernel.{Kernel}
use Rattle.iop_saved_kernel.specs.ObjectLists.{ObjectTables}
use Rattle.iop_saved_kernel.specs.declared.objects.Objects.{Objects}

-- the objects of a kernel of the program
abbrev pub tables_held : {R : Type 0} → Kernel R → ObjectTables
tables_held k = record {
  semaphores = k.semaphores;
  event_flags = k.event_flags;
  mailboxes = k.mailboxes;
  variable_pools = k.variable_pools;
  fixed_pools = k.fixed_pools;
}

-- the objects that were put back
abbrev pub tables_of : Objects → ObjectTables
tables_of o = record {
  semaphores = o.semaphores;
  event_flags = o.event_flags;
  mailboxes = o.mailboxes;
  variable_pools = o.variable_pools;
  fixed_pools = o.fixed_pools;
}
