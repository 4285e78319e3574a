-- The laws of waits that begin: where a thread stops, and what is left of it.
use Rattle.iop_kernel_laws.specs.WaitingLaws.{WaitsBeginSo, WaitsBeginWhere}
use Rattle.iop_kernel_laws.proofs.WaitsBegin.Left as left
use Rattle.iop_kernel_laws.proofs.WaitsBegin.Pools.{variable_left, fixed_left, variable_stops, fixed_stops}
use Rattle.iop_kernel_laws.proofs.WaitsBegin.Where as stops

pub waits_begin_so : WaitsBeginSo
waits_begin_so = record {
  sleeps = left.thread_sleeps;
  delays = left.thread_delayed;
  rotates = left.thread_rotates;
  semaphore = left.thread_takes;
  flag = left.thread_tests;
  mailbox = left.thread_receives;
  variable_pool = variable_left;
  fixed_pool = fixed_left;
}

pub waits_begin_where : WaitsBeginWhere
waits_begin_where = record {
  sleeps = stops.thread_sleeps;
  delays = stops.thread_delays;
  rotates = stops.thread_rotates;
  semaphore = stops.thread_takes;
  flag = stops.thread_tests;
  mailbox = stops.thread_receives;
  variable_pool = variable_stops;
  fixed_pool = fixed_stops;
}
