-- Parts can be read exactly where they have a spelling and can be put back.
use Rattle.std.proofs.Common.{◌≡◌, ℕ, Bool, true, ◌&&◌, is_some, Option, Some, None, List, [], ◌∷◌, length, refl, sym, ap, ◌∙◌}
use Rattle.std.specs.Prelude.{nat_lt}
use Rattle.std.proofs.lemmas.Bool.{and_parts, and_from}
use Rattle.iop_saved_kernel.specs.Parts.{steady_form_of_parts, core_back, core_form}
use Rattle.iop_saved_script.specs.Forms.{list_of}
use Rattle.iop_saved_tables.specs.Records.{block_form, library_form, stub_form}
use Rattle.iop_saved_tables.specs.Tables.{put_library, put_used, unopened, used_form}
use Rattle.iop_snapshot.specs.Forms.{fits_list, series}
use Rattle.iop_snapshot.specs.Items.{fits_item}
use Rattle.iop_snapshot.specs.Putting.{put_all, next_form}
use Rattle.iop_snapshot.specs.declared.widths.TheConstants.{COUNT}
use Rattle.iop_stubs.specs.declared.live_stub.Stub.{Stub}
use Rattle.iop_sysmem.specs.declared.block.Block.{Block}
use Rattle.iop_saved_machine.specs.Back.{used_back, libraries_back, bare, stubs_back, machine_back, stubs_go_back, machine_form}
use Rattle.iop_saved_machine.specs.Heads.{head_form}
use Rattle.iop_saved_machine.specs.Laws.{PartsAreReadWhereBack}
use Rattle.iop_saved_machine.specs.Loading.{loading_form}
use Rattle.iop_saved_machine.specs.Parts.{MachineParts, ram_form, parts_form, read_machine, plain_machine}
use Rattle.iop_saved_machine.specs.Tables.{tables_form, kernel_alone, libraries_form, stubs_form, written_tables, read_tables}
use Rattle.iop_saved_machine.proofs.Fitting.{list_fits, opened_where, stubs_fit}
use Rattle.iop_saved_machine.proofs.Whole.{machine_is_back, were_put}

-- what is there
some_of : {A : Type 0} (o : Option A) → is_some o ≡ true → (x : A) × (o ≡ Some x)
some_of None e = absurd cc
some_of (Some x) e = (x, refl)

-- what parts have that can be read, by the one way of saying it and by the other
pub record Back (p : MachineParts) : Type 0 where
  pub core : is_some (core_back p.core) ≡ true
  pub used : is_some (used_back p.size p.tables.used) ≡ true
  pub libraries : is_some (libraries_back p.tables.libraries) ≡ true
  pub stubs : is_some (stubs_back p.ram p.tables.stubs) ≡ true

pub record Plain (p : MachineParts) : Type 0 where
  pub head : head_form.fits p.size ≡ true
  pub core : steady_form_of_parts.fits p.core ≡ true
  pub used : (list_of block_form).fits p.tables.used ≡ true
  pub libraries : (list_of library_form).fits p.tables.libraries ≡ true
  pub stubs : (list_of stub_form).fits p.tables.stubs ≡ true
  pub loading : loading_form.fits p.loading ≡ true
  pub ram : (ram_form p.size).fits p.ram ≡ true

-- ---- plain forms

pub plain_of : (p : MachineParts) → plain_machine.fits p ≡ true → Plain p
unfolding parts_form tables_form
plain_of p fits =
    let one = and_parts (head_form.fits p.size) _ fits in
    let two = and_parts (steady_form_of_parts.fits p.core) _ one.1 in
    let three = and_parts (written_tables.fits p.tables) _ two.1 in
    let four = and_parts (loading_form.fits p.loading) ((ram_form p.size).fits p.ram) three.1 in
    let used = and_parts ((list_of block_form).fits p.tables.used) _ three.0 in
    let rest = and_parts ((list_of library_form).fits p.tables.libraries) _ used.1 in
    record {
      head = one.0;
      core = two.0;
      used = used.0;
      libraries = rest.0;
      stubs = rest.1;
      loading = four.0;
      ram = four.1;
    }

pub plain_from : (p : MachineParts) → Plain p → plain_machine.fits p ≡ true
unfolding parts_form tables_form
plain_from p h =
    and_from _ _ h.head
    (and_from _ _ h.core
    (and_from _ _ (and_from _ _ h.used (and_from _ _ h.libraries h.stubs))
    (and_from _ _ h.loading h.ram)))

-- ---- all is put back

back_of : (p : MachineParts) → is_some (machine_back p) ≡ true → Back p
back_of p is =
    let (m, back) = some_of (machine_back p) is in
    let were = were_put p m back in
    record {
      core = ap is_some were.core;
      used = ap is_some were.blocks;
      libraries = ap is_some were.libraries;
      stubs = ap is_some were.memory;
    }

back_from : (p : MachineParts) → Back p → is_some (machine_back p) ≡ true
back_from p h =
    let (c, core) = some_of (core_back p.core) h.core in
    let (map, used) = some_of (used_back p.size p.tables.used) h.used in
    let (libraries, are) = some_of (libraries_back p.tables.libraries) h.libraries in
    let (memory, stubs) = some_of (stubs_back p.ram p.tables.stubs) h.stubs in
    ap is_some (machine_is_back p c map libraries memory core used are stubs)

-- ---- the tables, each by the form that asks whether it can be put back

abbrev used_list : ℕ → List Block → Bool
used_list size used =
    (series block_form (next_form put_used block_form (unopened (kernel_alone size)))).fits used

used_split : (size : ℕ) (used : List Block) → (used_form (kernel_alone size)).fits used ≡ true
    → ((list_of block_form).fits used ≡ true) × (is_some (used_back size used) ≡ true)
used_split size used fits =
    let one = and_parts (used_list size used) (nat_lt 0 (length used)) fits in
    let two =
    and_parts ((list_of block_form).fits used) _
    (sym (list_fits put_used block_form (unopened (kernel_alone size)) used) ∙ one.0) in
    (two.0, sym (opened_where size used) ∙ and_from _ _ two.1 one.1)

used_join : (size : ℕ) (used : List Block) → (list_of block_form).fits used ≡ true
    → is_some (used_back size used) ≡ true → (used_form (kernel_alone size)).fits used ≡ true
used_join size used fits back =
    let two = and_parts (is_some (put_all put_used (unopened (kernel_alone size)) used)) _
    (opened_where size used ∙ back) in
    and_from (used_list size used) (nat_lt 0 (length used))
    (list_fits put_used block_form (unopened (kernel_alone size)) used ∙ and_from _ _ fits two.0)
    two.1

stubs_same : (ram : List ℕ) (stubs : List Stub) → is_some (stubs_back ram stubs) ≡ true
    → stubs_form.fits stubs ≡ (list_of stub_form).fits stubs
unfolding fits_list
stubs_same ram stubs is =
    let (memory, back) = some_of (stubs_back ram stubs) is in
    ap (λ (b : Bool). fits_item COUNT (length stubs ∷ []) && b)
    (stubs_fit (bare ram) memory stubs back)

-- ---- the law

pub split : (p : MachineParts) → machine_form.fits p ≡ true → Plain p × Back p
unfolding machine_form parts_form tables_form core_form
split p fits =
    let all = and_parts (read_machine.fits p) (stubs_go_back p) fits in
    let one = and_parts (head_form.fits p.size) _ all.0 in
    let two = and_parts (core_form.fits p.core) _ one.1 in
    let three = and_parts ((read_tables p.size).fits p.tables) _ two.1 in
    let four = and_parts (loading_form.fits p.loading) ((ram_form p.size).fits p.ram) three.1 in
    let core = and_parts (steady_form_of_parts.fits p.core) (is_some (core_back p.core)) two.0 in
    let tables = and_parts ((used_form (kernel_alone p.size)).fits p.tables.used) _ three.0 in
    let rest =
    and_parts (libraries_form.fits p.tables.libraries) (stubs_form.fits p.tables.stubs) tables.1 in
    let used = used_split p.size p.tables.used tables.0 in
    let libraries =
    and_parts ((list_of library_form).fits p.tables.libraries) _
    (sym (list_fits put_library library_form [] p.tables.libraries) ∙ rest.0) in (
      record {
        head = one.0;
        core = core.0;
        used = used.0;
        libraries = libraries.0;
        stubs = sym (stubs_same p.ram p.tables.stubs all.1) ∙ rest.1;
        loading = four.0;
        ram = four.1;
      },
      record { core = core.1; used = used.1; libraries = libraries.1; stubs = all.1 },
    )

join : (p : MachineParts) → Plain p → Back p → machine_form.fits p ≡ true
unfolding machine_form parts_form tables_form core_form
join p plain back =
    let used = used_join p.size p.tables.used plain.used back.used in
    let libraries =
    list_fits put_library library_form [] p.tables.libraries
    ∙ and_from _ _ plain.libraries back.libraries in
    let stubs = stubs_same p.ram p.tables.stubs back.stubs ∙ plain.stubs in
    and_from _ _
    (and_from _ _ plain.head
    (and_from _ _ (and_from _ _ plain.core back.core)
    (and_from _ _ (and_from _ _ used (and_from _ _ libraries stubs))
    (and_from _ _ plain.loading plain.ram))))
    back.stubs

pub parts_read_where_back : PartsAreReadWhereBack
parts_read_where_back p = (
  (λ fits. let both = split p fits in (plain_from p both.0, back_from p both.1)),
  (λ both. join p (plain_of p both.0) (back_of p both.1)),
)
