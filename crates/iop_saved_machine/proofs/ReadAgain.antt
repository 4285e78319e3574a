-- A machine that was written can be read and put back, and what was put back is steady.
use Rattle.std.proofs.Common.{◌≡◌, true, is_some, ap}
use Rattle.std.proofs.lemmas.Bool.{and_parts, and_from}
use Rattle.iop_kernel.specs.System.{Core}
use Rattle.iop_saved_kernel.specs.Laws.{CanBeBack, IsSteadyCore, CoresAreRead}
use Rattle.iop_saved_kernel.specs.Parts.{parts_in, written_form, steady_form_of_parts, core_back, core_form}
use Rattle.iop_saved_machine.specs.Back.{parts_of}
use Rattle.iop_saved_machine.specs.Heads.{head_form}
use Rattle.iop_saved_machine.specs.Laws.{MachinesAreRead}
use Rattle.iop_saved_machine.specs.Parts.{MachineParts, parts_form, written_machine, plain_machine}
use Rattle.iop_saved_machine.proofs.ComingBack.{machines_back}
use Rattle.iop_saved_machine.proofs.ReadingBack.{parts_read_where_back, split}
use Rattle.iop_saved_machine.proofs.Whole.{were_put}

-- parts that have room where they are written have a spelling where their processors are steady
plain_written : (p : MachineParts) → written_machine.fits p ≡ true
    → (written_form.fits p.core ≡ true → steady_form_of_parts.fits p.core ≡ true)
    → plain_machine.fits p ≡ true
unfolding parts_form
plain_written p fits steady =
    let one = and_parts (head_form.fits p.size) _ fits in
    let two = and_parts (written_form.fits p.core) _ one.1 in
    and_from _ _ one.0 (and_from _ _ (steady two.0) two.1)

steady_written : CoresAreRead → (c : Core) → CanBeBack c → IsSteadyCore c
    → written_form.fits (parts_in c) ≡ true → steady_form_of_parts.fits (parts_in c) ≡ true
unfolding core_form
steady_written cores c can steady fits =
    let p = parts_in c in
    let all = cores.fits c can steady fits in
    (and_parts (steady_form_of_parts.fits p) (is_some (core_back p)) all).0

pub machines_read : CoresAreRead → MachinesAreRead
machines_read cores = record {
  fits = λ m can steady fits. (parts_read_where_back (parts_of m)).1 (
    plain_written (parts_of m) fits (steady_written cores m.system.core can.core steady),
    ap is_some (machines_back m can),
  );
  steady = λ p m fits back.
      cores.steady p.core m.system.core (split p fits).0.core (were_put p m back).core;
}
