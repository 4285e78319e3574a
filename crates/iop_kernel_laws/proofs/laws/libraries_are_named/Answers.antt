use Rattle.std.proofs.Common.{refl}
use Rattle.iop_kernel_laws.proofs.laws.libraries_are_named.Goals as goal

pub returns : goal.returns
returns c = record {
  loadcore = refl;
  sysmem = refl;
  intrman = refl;
  thbase = refl;
  thsemap = refl;
  thevent = refl;
  thmsgbx = refl;
  stdio = refl;
  thvpool = refl;
  thfpool = refl;
  sysclib = refl;
}
