use Rattle.std.proofs.Common.{◌∙◌, sym}
use Rattle.iop_machine.proofs.LoadingLemmas.{boots_takes, stands_with_area, stands_unhad}
use Rattle.iop_machine.proofs.iop.Iop.boot.Goals as goal

pub load_first-requires : goal.load_first-requires
load_first-requires g c = record {
  same_size = c.requires.same_size ∙ sym c.write_kernel_area.ensures.same_size;
}

pub begin_loader-requires : goal.begin_loader-requires
begin_loader-requires g c =
    let begun = stands_with_area c.args.self.now c.write_kernel_area.new.guest
    c.write_kernel_area.ensures.memory c.requires.sound.0 c.requires.sound.1 in
    record { sound = (_, (c.load_first.ensures _ begun).state) }

pub returns : goal.returns
returns g c =
    boots_takes c.args.self.now c.write_kernel_area.new.guest c.write_kernel_area.ensures.memory
    c.write_kernel_area.ensures.lines c.load_first.ensures _
    (λ s h. stands_unhad _ _ c.registers_at-self.ensures _ (c.begin_loader.ensures s h))
