-- What an instruction has done up to the call of a service, and with the processor behind it.
use Rattle.std.proofs.Common.{◌≡◌, ℕ, Option, Some, None, List, refl, ap, subst, ◌∙◌}
use Rattle.std.specs.Prelude.{MatchOption, option_map}
use Rattle.iop_base.specs.declared.guest_fault.GuestFault.TheVariants.{Address}
use Rattle.iop_base.specs.declared.width.Width.{Width}
use Rattle.iop_exec.specs.declared.cpu.Cpu.{Cpu}
use Rattle.iop_exec.specs.declared.cpu.Event.{Event}
use Rattle.iop_exec.specs.declared.cpu.Event.TheVariants.{Plain, Service, Fault}
use Rattle.iop_exec.specs.Row.{Row, Goes, Serves, Faults, at_next, behind_syscall, with_pending, after_write_back, reg, place, word_round, loads, loads_over}
use Rattle.iop_exec.specs.Stepping.{Does, DoesUpToCall}

module _ {B : Type 0} (bytes : B → List ℕ)
    (stores : B → (at : ℕ) → Width → (value : ℕ) → B → Type 0) where
  -- a load has done what its row says, by what it found in memory
  pub loads_do : (cpu cpu' : Cpu) (n : ℕ) (number : Option ℕ) (event : Event) (bus : B)
      → MatchOption number ((event ≡ Fault Address) × (cpu' ≡ cpu))
      (λ value. (event ≡ Plain) × (cpu' ≡ at_next (with_pending (after_write_back cpu) n value)))
      → DoesUpToCall bytes stores (loads cpu n number) event cpu bus cpu' bus
  loads_do cpu cpu' n None event bus h = (h.0, h.1, refl)
  loads_do cpu cpu' n (Some value) event bus h = (h.0, h.1, refl)

  -- and one that merges
  pub loads_over_do : (merged : (at word old : ℕ) → ℕ) (cpu cpu' : Cpu) (n base imm at old : ℕ)
      (number : Option ℕ) (event : Event) (bus : B)
      → at ≡ place cpu base imm → old ≡ reg (after_write_back cpu) n
      → number ≡ option_map (λ word. merged at word old) (word_round (bytes bus) at)
      → MatchOption number ((event ≡ Fault Address) × (cpu' ≡ cpu))
      (λ value. (event ≡ Plain) × (cpu' ≡ at_next (with_pending (after_write_back cpu) n value)))
      → DoesUpToCall bytes stores (loads_over cpu (bytes bus) n (place cpu base imm) merged)
      event cpu bus cpu' bus
  loads_over_do merged cpu cpu' n base imm at old number event bus at_is old_is number_is h =
      let there = place cpu base imm in
      subst (λ o. DoesUpToCall bytes stores (loads cpu n o) event cpu bus cpu' bus)
      (number_is
      ∙ ap (λ x. option_map (λ word. merged x word old) (word_round (bytes bus) x)) at_is
      ∙ ap (λ x. option_map (λ word. merged there word x) (word_round (bytes bus) there)) old_is)
      (loads_do cpu cpu' n number event bus h)

  -- where a service was called the processor moves on
  pub does_behind : (r : Row) (event : Event) (code : ℕ) (cpu : Cpu) (bus : B) (cpu' : Cpu)
      (bus' : B) → event ≡ Service code → DoesUpToCall bytes stores r event cpu bus cpu' bus'
      → Does bytes stores r event cpu bus (behind_syscall cpu') bus'
  does_behind (Goes after None) event code cpu bus cpu' bus' is h = absurd (cc (is, h.0))
  does_behind (Goes after (Some s)) event code cpu bus cpu' bus' is h = absurd (cc (is, h.0))
  does_behind (Serves n) event code cpu bus cpu' bus' is h = (h.0, ap behind_syscall h.1, h.2)
  does_behind (Faults fault) event code cpu bus cpu' bus' is h = absurd (cc (is, h.0))

  -- where none was called all is done
  pub does_all : (r : Row) (event : Event) (cpu : Cpu) (bus : B) (cpu' : Cpu) (bus' : B)
      → ((code : ℕ) → event ≡ Service code → ⊥)
      → DoesUpToCall bytes stores r event cpu bus cpu' bus'
      → Does bytes stores r event cpu bus cpu' bus'
  does_all (Goes after None) event cpu bus cpu' bus' none h = h
  does_all (Goes after (Some s)) event cpu bus cpu' bus' none h = h
  does_all (Serves n) event cpu bus cpu' bus' none h = absurd (none n h.0)
  does_all (Faults fault) event cpu bus cpu' bus' none h = h
