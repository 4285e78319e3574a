-- The codes of the services. They are this project's own profile.
use Rattle.std.specs.Prelude.{ℕ, ◌+◌, ◌*◌}
use Rattle.iop_services.specs.declared.codes.TheConstants.{LIBRARY_CODES}

-- the code of a service, by the number of its library and its own
abbrev pub service_code : (library number : ℕ) → ℕ
service_code library number = library * LIBRARY_CODES + number
