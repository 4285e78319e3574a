-- What the services of loadcore, sysmem, stdio and sysclib do, and the returns of modules and
-- threads.
use Rattle.std.proofs.Common.{refl}
use Rattle.iop_kernel_laws.specs.LibraryRequests.{ServesLibraries, LibraryRequestsAreServed}
use Rattle.iop_kernel.specs.Serving.{serves}
use Rattle.iop_kernel.specs.System.{System}

serves_libraries : (s : System) → ServesLibraries s
unfolding serves
serves_libraries s = record {
  alloc = refl;
  free = refl;
  size = refl;
  most = refl;
  total = refl;
  block = λ block is. (rw is refl, rw is refl);
  no_block = λ is. (rw is refl, rw is refl);
  register = λ place version name is header. rw (is, header) refl;
  register_none = λ place is none. rw (is, none) refl;
  release = λ place major name is library free. rw (is, library, free) refl;
  release_bound = λ place major name is library bound. rw (is, library, bound) refl;
  release_none = λ place is none. rw (is, none) refl;
  flush = (refl, refl);
  print = refl;
  kernel_print = refl;
  sysclib_reads = λ x outcome is none. rw (is, none) refl;
  sysclib_writes = λ x outcome write is written. rw (is, written) refl;
  sysclib_faults = λ x none. rw none refl;
  module_return = λ is. rw is refl;
  thread_return = λ is. rw is refl;
}

pub library_requests_are_served : LibraryRequestsAreServed
library_requests_are_served = serves_libraries
