-- All bytes of RAM.
use Rattle.std.proofs.Common.{◌≡◌, ℕ, ◌+◌, ◌^◌, ◌<◌, true, ltb, List, Option, Some, Bor, option_copied, length, get_or, take, drop, refl, sym, ap, subst, ◌∙◌, arith, inl, inr}
use Rattle.std.specs.Prelude.{All}
use Rattle.std.specs.List.{list_all}
use Rattle.std.proofs.lemmas.Bool.{and_from, eq-eqb, lt-ltb, le-leb, ltb-false}
use Rattle.std.proofs.lemmas.List.{length-take-le, take_all}
use Rattle.std.proofs.lemmas.List.Sums.{list_all-from_AllPass}
use Rattle.iop_base.specs.Numbers.{IsByte}
use Rattle.iop_base.specs.Places.{IsRamSize}
use Rattle.iop_ram.specs.Windows.{window_of}
use Rattle.iop_snapshot.specs.Forms.{bytes}
use Rattle.iop_snapshot.specs.Items.{read_bytes}
use Rattle.iop_snapshot.proofs.Spelling.{past_test}
use Rattle.iop_saved_machine.specs.Parts.{is_byte, ram_form}

-- the range of all bytes is RAM
pub all_lent : (ram : List ℕ) → IsRamSize (length ram)
    → window_of ram 0 (length ram) ≡ Some ram
all_lent ram sized =
    let some : 0 < length ram =
    elim sized [ inl e ↦ omega (arith, e) | inr e ↦ omega (arith, e) ] in
    rw (lt-ltb 0 (length ram) some, le-leb (0 + length ram) (length ram) (omega arith))
    (ap Some (take_all (length ram) ram (omega arith)))

pub lent_all : (ram : List ℕ) (size : ℕ) (found : Option (Bor (List ℕ))) → IsRamSize (length ram)
    → size ≡ length ram → option_copied found ≡ window_of ram 0 size
    → option_copied found ≡ Some ram
lent_all ram size found sized is window =
    window ∙ ap (λ n. window_of ram 0 n) is ∙ all_lent ram sized

-- so many bytes were read
pub bytes_long : (n : ℕ) (all bytes rest : List ℕ) → read_bytes n all ≡ Some (bytes, rest)
    → length bytes ≡ n
bytes_long n all bytes rest e =
    let is = past_test (ltb (length all) n) (take n all, drop n all) (bytes, rest) e in
    let room = ltb-false (length all) n is.0 in
    ap length (ap (λ (p : List ℕ × List ℕ). p.0) (sym is.1)) ∙ length-take-le n all room

-- bytes are RAM that has a spelling
pub are_bytes : (xs : List ℕ) → All IsByte xs → list_all is_byte xs ≡ true
are_bytes xs all =
    list_all-from_AllPass is_byte xs (λ k d below.
    lt-ltb (get_or xs k d) (2 ^ 8) (all k d below))

pub ram_fits : (ram : List ℕ) → All IsByte ram → (ram_form (length ram)).fits ram ≡ true
unfolding ram_form bytes
ram_fits ram all = and_from _ _ (eq-eqb (length ram) (length ram) refl) (are_bytes ram all)

-- and are read as such
pub ram_read : (size : ℕ) (before xs rest : List ℕ) → read_bytes size before ≡ Some (xs, rest)
    → list_all is_byte xs ≡ true → (ram_form size).read before ≡ Some (xs, rest)
unfolding ram_form bytes
ram_read size before xs rest read all = rw (read, all) refl
