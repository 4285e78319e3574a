-- Relocation entries read back.
use Rattle.std.proofs.Common.{◌≡◌, ℕ, ◌+◌, ◌*◌, ◌/◌, ◌%◌, List, [], ◌∷◌, ◌++◌, length, map, refl, ap, sym, ◌∙◌, arith}
use Rattle.std.specs.List.{All, flat_map, range_with_len}
use Rattle.std.proofs.lemmas.List.{append_assoc, length-append}
use Rattle.std.proofs.lemmas.List.Elements.{All-head, All-tail}
use Rattle.iop_base.specs.Numbers.{word_at}
use Rattle.irx_reloc.specs.Entries.{entry_at, entries_of}
use Rattle.iop_asm.specs.declared.relocation.Relocation.{Relocation}
use Rattle.irx_build.specs.Files.{entry_bytes}
use Rattle.irx_build.specs.Laws.{HasRoom, site_and_type}
use Rattle.irx_build.proofs.NumberBytes.{word_at-behind, word_again}

pub length-entries : (entries : List Relocation)
    → length (flat_map entry_bytes entries) ≡ 8 * length entries
length-entries [] = refl
length-entries (entry ∷ entries) = omega (arith, length-entries entries)

-- the entry behind k others
entry_at-behind : (front : List ℕ) (entry : Relocation) (rest : List ℕ) (k : ℕ)
    → length front ≡ 8 * k → HasRoom entry
    → entry_at (front ++ (entry_bytes entry ++ rest)) k ≡ site_and_type entry
unfolding word_at
entry_at-behind front entry rest k size room =
    let file = front ++ (entry_bytes entry ++ rest) in
    let word = word_at-behind front (entry_bytes entry ++ rest) in
    let site : word_at file (8 * k) ≡ entry.site =
    word 0 (8 * k) (omega arith) ∙ word_again entry.site room.0 in
    let kind : word_at file (8 * k + 4) ≡ entry.kind =
    word 4 (8 * k + 4) (omega arith) ∙ word_again entry.kind (omega (arith, room.1)) in
    let low : entry.kind % 256 ≡ entry.kind = omega (arith, room.1) in
    let same : ℕ → ℕ × ℕ = λ t. (entry.site, t) in
    let pair : ℕ → ℕ → ℕ × ℕ = λ s t. (s, t % 256) in
    ap (λ s. pair s (word_at file (8 * k + 4))) site ∙ ap (pair entry.site) kind
    ∙ ap same low

-- the entries behind k others
entries_behind : (front : List ℕ) (entries : List Relocation) (k : ℕ) → length front ≡ 8 * k
    → All HasRoom entries
    → map (entry_at (front ++ flat_map entry_bytes entries)) (range_with_len k (length entries))
    ≡ map site_and_type entries
entries_behind front [] k size room = refl
entries_behind front (entry ∷ entries) k size room =
    let rest = flat_map entry_bytes entries in
    let numbers = range_with_len (k + 1) (length entries) in
    let next : length (front ++ entry_bytes entry) ≡ 8 * (k + 1) =
    omega (arith, length-append front (entry_bytes entry), size) in
    ap (λ first. first ∷ map (entry_at (front ++ (entry_bytes entry ++ rest))) numbers)
    (entry_at-behind front entry rest k size (All-head HasRoom entry entries room))
    ∙ ap (λ others. site_and_type entry ∷ others)
    (ap (λ file. map (entry_at file) numbers) (sym (append_assoc front (entry_bytes entry) rest))
    ∙ entries_behind (front ++ entry_bytes entry) entries (k + 1) next
    (All-tail HasRoom entry entries room))

pub entries_of-bytes : (entries : List Relocation) → All HasRoom entries
    → entries_of (flat_map entry_bytes entries) ≡ map site_and_type entries
unfolding entries_of
entries_of-bytes entries room =
    let file = flat_map entry_bytes entries in
    let count : length file / 8 ≡ length entries = omega (arith, length-entries entries) in
    ap (λ n. map (entry_at file) (range_with_len 0 n)) count
    ∙ entries_behind [] entries 0 refl room
