-- What RAM reads back after a write.
use Rattle.std.proofs.Common.{◌≡◌, ℕ, ◌+◌, ◌≤◌, Bool, true, false, cond, Option, Some, None, List, [], length, get_or, eqb-true, refl, ap, sym, ◌∙◌, subst, arith, ⊎_elim}
use Rattle.std.specs.Prelude.{is_some, ◌==◌, ◌||◌}
use Rattle.std.proofs.lemmas.List.{nil_from_length}
use Rattle.iop_base.specs.Numbers.{number_at, with_bytes}
use Rattle.iop_base.specs.Places.{range_at}
use Rattle.iop_base.proofs.Lists.{bytes_inside, number_at_behind}
use Rattle.iop_base.proofs.Memory.{length-with_bytes, number_at_before}
use Rattle.iop_stubs.specs.Stubs.{Memory, after_store, range_place}
use Rattle.iop_sysclib.specs.Outcomes.{Outcome, Write, writes, is_open, bytes_at, after_write}
use Rattle.iop_sysclib.specs.WritingLaws.{ram_after, IsOutside, IsWritten}
use Rattle.iop_sysclib.proofs.RangePlaces.{has_place}

module _ (memory : Memory) (at p : ℕ) (bytes : List ℕ)
    (is : range_place memory at (length bytes) ≡ Some p) where
  abbrev stored : List ℕ
  stored = with_bytes memory.ram p bytes

  store_inside : p + length bytes ≤ length memory.ram
  store_inside = (has_place (length memory.ram) at (length bytes) p is).inside

  stored_size : length stored ≡ length memory.ram
  stored_size = length-with_bytes memory.ram p bytes store_inside

  read_by : (empty : Bool) → (length bytes == 0) ≡ empty
      → bytes_at stored at (length bytes) ≡ Some bytes
  read_by true none =
      rw none (ap Some (sym (nil_from_length bytes (eqb-true (length bytes) 0 none))))
  read_by false some =
      let place : range_at (length stored) at (length bytes) ≡ Some p =
      ap (λ size. range_at size at (length bytes)) stored_size ∙ is in
      rw (some, place) (ap Some (bytes_inside memory.ram p bytes store_inside))

  -- a byte is a number of one byte
  byte_is : (ram : List ℕ) (place : ℕ) → get_or ram place 0 ≡ number_at ram place 1
  byte_is ram place = omega arith

  other : (place : ℕ) → IsOutside (Some p) (length bytes) place
      → get_or stored place 0 ≡ get_or memory.ram place 0
  other place outside =
      byte_is stored place
      ∙ ⊎_elim
      (λ before. number_at_before memory.ram p bytes store_inside place 1 (omega (arith, before)))
      (λ behind. number_at_behind memory.ram p bytes store_inside place 1 behind)
      outside
      ∙ sym (byte_is memory.ram place)

  stored_at : IsWritten memory.ram stored (record { at = at; bytes = bytes })
  stored_at = record {
    written = read_by (length bytes == 0) refl;
    size = stored_size;
    others = λ place outside.
        other place (subst (λ q. IsOutside q (length bytes) place) is outside);
  }

-- no byte is written
nothing_written : (memory : Memory) (at : ℕ) (bytes : List ℕ) → bytes ≡ []
    → IsWritten memory.ram memory.ram (record { at = at; bytes = bytes })
nothing_written memory at bytes none =
    record { written = rw none refl; size = refl; others = λ place outside. refl }

written_by : (memory : Memory) (at : ℕ) (bytes : List ℕ) (place : Option ℕ)
    → range_place memory at (length bytes) ≡ place
    → is_open memory.ram at (length bytes) ≡ true
    → IsWritten memory.ram (after_store memory place bytes).ram (record { at = at; bytes = bytes })
written_by memory at bytes None is open_is =
    let none = test_is (length bytes == 0)
    (ap (λ q. length bytes == 0 || is_some q) (sym is) ∙ open_is) in
    nothing_written memory at bytes (nil_from_length bytes (eqb-true (length bytes) 0 none))
  where
    test_is : (b : Bool) → (b || false) ≡ true → b ≡ true
    test_is true is = refl
    test_is false is = cc
written_by memory at bytes (Some p) is open_is = stored_at memory at p bytes is

-- what an outcome that writes says
pub record Writes (ram : List ℕ) (at : ℕ) (bytes : List ℕ) (outcome : Outcome) : Type 0 where
  pub open_is : is_open ram at (length bytes) ≡ true
  pub write_is : outcome.write ≡ Some (record { at = at; bytes = bytes })

writes_by : (ram : List ℕ) (at : ℕ) (bytes : List ℕ) (word : ℕ) (outcome : Outcome) (b : Bool)
    → is_open ram at (length bytes) ≡ b
    → cond b
    (Some (record { answer = word; write = Some (record { at = at; bytes = bytes }) })) None
    ≡ Some outcome → Writes ram at bytes outcome
writes_by ram at bytes word outcome true test is =
    record { open_is = test; write_is = cc }
writes_by ram at bytes word outcome false test is = absurd (cc is)

pub writes_is : (ram : List ℕ) (at : ℕ) (bytes : List ℕ) (word : ℕ) (outcome : Outcome)
    → writes ram at bytes word ≡ Some outcome → Writes ram at bytes outcome
writes_is ram at bytes word outcome is =
    writes_by ram at bytes word outcome (is_open ram at (length bytes)) refl is

answer_by : (ram : List ℕ) (at : ℕ) (bytes : List ℕ) (word : ℕ) (outcome : Outcome) (b : Bool)
    → cond b
    (Some (record { answer = word; write = Some (record { at = at; bytes = bytes }) })) None
    ≡ Some outcome → outcome.answer ≡ word
answer_by ram at bytes word outcome true is = cc
answer_by ram at bytes word outcome false is = absurd (cc is)

pub writes_answer : (ram : List ℕ) (at : ℕ) (bytes : List ℕ) (word : ℕ) (outcome : Outcome)
    → writes ram at bytes word ≡ Some outcome → outcome.answer ≡ word
writes_answer ram at bytes word outcome is =
    answer_by ram at bytes word outcome (is_open ram at (length bytes)) is

-- the range that a call writes reads back
pub written_is : (memory : Memory) (at : ℕ) (bytes : List ℕ) (outcome : Outcome)
    → Writes memory.ram at bytes outcome
    → IsWritten memory.ram (ram_after memory outcome) (record { at = at; bytes = bytes })
written_is memory at bytes outcome is =
    subst
    (λ (w : Option Write).
    IsWritten memory.ram (after_write memory w).ram (record { at = at; bytes = bytes }))
    (sym is.write_is)
    (written_by memory at bytes (range_place memory at (length bytes)) refl is.open_is)
