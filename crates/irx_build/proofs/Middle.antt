-- A part of a file between others.
use Rattle.std.proofs.Common.{◌≡◌, ℕ, ◌+◌, ◌≤◌, Some, None, cond, List, ◌++◌, length, take, ap, ◌∙◌, arith}
use Rattle.std.proofs.lemmas.Bool.{le-leb}
use Rattle.std.proofs.lemmas.List.{drop_at, take_at, length-append}
use Rattle.irx_elf.specs.Rules.{bytes_at, part_at}

module _ (front part rest : List ℕ) (p n : ℕ) (place : length front ≡ p) (size : length part ≡ n)
  where
    pub bytes_at-middle : bytes_at (front ++ (part ++ rest)) p n ≡ part
    bytes_at-middle = ap (take n) (drop_at front (part ++ rest) p place) ∙ take_at part rest n size

    inside : p + n ≤ length (front ++ (part ++ rest))
    inside = omega (arith, length-append front (part ++ rest), length-append part rest)

    pub part_at-middle : part_at (front ++ (part ++ rest)) p n ≡ Some part
    part_at-middle =
        let file = front ++ (part ++ rest) in
        ap (λ b. cond b (Some (bytes_at file p n)) None) (le-leb (p + n) (length file) inside)
        ∙ ap Some bytes_at-middle
