-- What the law of registries says.
use Rattle.std.specs.Prelude.{◌≡◌, Some, List, []}
use Rattle.iop_registry.specs.Entries.{IsRegistry}
use Rattle.iop_registry.specs.Restoring.{with_all}
use Rattle.iop_registry.specs.declared.registry.Entry.{Entry}

-- the libraries of a registry are all accepted, and give it again
abbrev pub RegistriesArePutBack : Type 0
RegistriesArePutBack =
    (entries : List Entry) → IsRegistry entries → with_all [] entries ≡ Some entries
