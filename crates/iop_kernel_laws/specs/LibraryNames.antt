-- What the law of the libraries' names says: each number is that of its library (ps2sdk: the headers
-- of these names).
use Rattle.std.specs.Prelude.{◌≡◌, ℕ, List, [], ◌++◌, codes, take, replicate, slice_index_or}
use Rattle.iop_base.specs.declared.libraries.TheConstants.{KERNEL_LIBRARIES}
use Rattle.iop_services.specs.declared.codes.TheConstants.{LOADCORE, SYSMEM, INTRMAN, THBASE, THSEMAP, THEVENT, THMSGBX, STDIO, THVPOOL, THFPOOL, SYSCLIB}

-- the library of a number has this name, filled up with zeros to eight bytes
abbrev pub IsNamed : ℕ → List ℕ → Type 0
IsNamed library name =
    slice_index_or KERNEL_LIBRARIES library [] ≡ take 8 (name ++ replicate 8 0)

pub record LibrariesAreNamed : Type 0 where
  pub loadcore : IsNamed LOADCORE (codes "loadcore")
  pub sysmem : IsNamed SYSMEM (codes "sysmem")
  pub intrman : IsNamed INTRMAN (codes "intrman")
  pub thbase : IsNamed THBASE (codes "thbase")
  pub thsemap : IsNamed THSEMAP (codes "thsemap")
  pub thevent : IsNamed THEVENT (codes "thevent")
  pub thmsgbx : IsNamed THMSGBX (codes "thmsgbx")
  pub stdio : IsNamed STDIO (codes "stdio")
  pub thvpool : IsNamed THVPOOL (codes "thvpool")
  pub thfpool : IsNamed THFPOOL (codes "thfpool")
  pub sysclib : IsNamed SYSCLIB (codes "sysclib")
