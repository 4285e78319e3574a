-- What holds of each row of the tables holds of the row that is found.
use Rattle.std.proofs.Common.{◌≡◌, ℕ, ◌==◌, Bool, true, if◌then◌else◌, Some, List, [], ◌∷◌, refl, subst, arith}
use Rattle.std.proofs.lemmas.Bool.{cond_both}
use Rattle.std.proofs.lemmas.Bool.Decides.{nat_tests}
use Rattle.std.specs.List.{list_all}
use Rattle.iop_services.specs.Table.{Numbered, loadcore, sysmem, intrman, thbase, thsemap, thevent, thmsgbx, stdio, thvpool, thfpool, sysclib, rows_of, find_row, row_of}
use Rattle.iop_services.specs.declared.codes.TheConstants.{LOADCORE, SYSMEM, INTRMAN, THBASE, THSEMAP, THEVENT, THMSGBX, STDIO, THVPOOL, THFPOOL, SYSCLIB}
use Rattle.iop_services.specs.declared.row.Row.{Row}
use Rattle.iop_services.specs.declared.service.Service.{Service}
use Rattle.iop_services.specs.declared.service.Service.TheVariants.{Loadcore, Sysmem, Intrman, Thbase, Thsemap, Thevent, Thmsgbx, Stdio, Thvpool, Thfpool, Sysclib}

module _ (test : (library : ℕ) → Row → Bool) where
  -- the rows of a library are such
  abbrev pub Pass : ℕ → List Numbered → Type 0
  Pass library rows =
      list_all (λ r. test library (record { service = r.service; context = r.context })) rows ≡ true

  -- those of the library of a number are
  numbered : (library n : ℕ) (rows : List Numbered) → Pass n rows → (library == n) ≡ true
      → Pass library rows
  numbered library n rows pass it =
      let same : n ≡ library = grind (arith, nat_tests, it) in
      subst (λ (n : ℕ). Pass n rows) same pass

  -- of two ways, both are
  by : (library n : ℕ) (x y : List Numbered) → Pass n x → Pass library y
      → Pass library (if library == n then x else y)
  by library n x y first second =
      cond_both (library == n) x y (Pass library) (numbered library n x first) (λ other. second)

  -- those of all libraries are
  pub record AllPass : Type 0 where
    pub loadcore : Pass LOADCORE loadcore
    pub sysmem : Pass SYSMEM sysmem
    pub intrman : Pass INTRMAN intrman
    pub thbase : Pass THBASE thbase
    pub thsemap : Pass THSEMAP thsemap
    pub thevent : Pass THEVENT thevent
    pub thmsgbx : Pass THMSGBX thmsgbx
    pub stdio : Pass STDIO stdio
    pub thvpool : Pass THVPOOL thvpool
    pub thfpool : Pass THFPOOL thfpool
    pub sysclib : Pass SYSCLIB sysclib

  rows_pass : AllPass → (library : ℕ) → Pass library (rows_of library)
  rows_pass all library =
      by library LOADCORE _ _ all.loadcore (by library SYSMEM _ _ all.sysmem
      (by library INTRMAN _ _ all.intrman (by library THBASE _ _ all.thbase
      (by library THSEMAP _ _ all.thsemap (by library THEVENT _ _ all.thevent
      (by library THMSGBX _ _ all.thmsgbx (by library STDIO _ _ all.stdio
      (by library THVPOOL _ _ all.thvpool (by library THFPOOL _ _ all.thfpool
      (by library SYSCLIB _ _ all.sysclib refl))))))))))

  found_passes : (library number : ℕ) (rows : List Numbered) (row : Row) → Pass library rows
      → find_row number rows ≡ Some row → test library row ≡ true
  found_passes library number [] row all found = absurd (cc found)
  found_passes library number (r ∷ rows) row all found =
      let rest = found_passes library number rows row in grind (arith, nat_tests, all, found, rest)

  -- so is the row that is found
  pub rows_all : AllPass → (library number : ℕ) (row : Row) → row_of library number ≡ Some row
      → test library row ≡ true
  rows_all all library number row found =
      found_passes library number (rows_of library) row (rows_pass all library) found

-- the number of a service's library
abbrev pub home : Service → ℕ
home (Loadcore x) = LOADCORE
home (Sysmem x) = SYSMEM
home (Intrman x) = INTRMAN
home (Thbase x) = THBASE
home (Thsemap x) = THSEMAP
home (Thevent x) = THEVENT
home (Thmsgbx x) = THMSGBX
home (Stdio x) = STDIO
home (Thvpool x) = THVPOOL
home (Thfpool x) = THFPOOL
home (Sysclib x) = SYSCLIB

abbrev is_of : (library : ℕ) → Row → Bool
is_of library row = home row.service == library

-- the service of a row is of its library
pub row_home : (library number : ℕ) (row : Row) → row_of library number ≡ Some row
    → home row.service ≡ library
row_home library number row found =
    let all : AllPass is_of = record {
      loadcore = refl;
      sysmem = refl;
      intrman = refl;
      thbase = refl;
      thsemap = refl;
      thevent = refl;
      thmsgbx = refl;
      stdio = refl;
      thvpool = refl;
      thfpool = refl;
      sysclib = refl;
    } in
    let is = rows_all is_of all library number row found in grind (arith, nat_tests, is)
