-- The addresses that branches, jumps and halves make.
use Rattle.std.proofs.Common.{◌≡◌, ℕ, ◌+◌, ◌%◌, ◌^◌, ◌<◌, ◌≤◌, ⊎_elim, true, arith}
use Rattle.std.proofs.lemmas.Bool.{cases_lt}
use Rattle.std.proofs.lemmas.Bool.Decides.{nat_tests}
use Rattle.iop_base.specs.Numbers.{sign_extended}
use Rattle.iop_asm.specs.Assembly.{is_near, branch_field}
use Rattle.iop_asm.specs.Laws.{BranchesArrive, BranchesReachTheNear, JumpsArrive, HalvesMakeAddresses}

pub jumps_arrive : JumpsArrive
jumps_arrive site address is_site is_address same = omega arith

-- a half as a signed number is itself, or less by 2^16
signed_small : (n : ℕ) → n < 32768 → sign_extended 16 n ≡ n
signed_small n small = grind (arith, nat_tests)

signed_large : (n : ℕ) → 32768 ≤ n → n < 65536 → sign_extended 16 n ≡ n + 4294901760
signed_large n large half = grind (arith, nat_tests)

pub halves_make_addresses : HalvesMakeAddresses
halves_make_addresses address word =
    let low : address % 2 ^ 16 < 65536 = omega arith in
    ⊎_elim (λ small. let s = signed_small (address % 2 ^ 16) small in omega (arith, s))
    (λ large. let s = signed_large (address % 2 ^ 16) large low in omega (arith, s))
    (cases_lt (address % 2 ^ 16) 32768)

near : (site address : ℕ) → is_near site address ≡ true →
    (site + 4 ≤ address + 131072) × (address < site + 131076)
near site address is = (grind (arith, nat_tests), grind (arith, nat_tests))

is_near_within : (site address : ℕ) → site + 4 ≤ address + 131072 → address < site + 131076 →
    is_near site address ≡ true
is_near_within site address back ahead = grind (arith, nat_tests)

pub branches_arrive : BranchesArrive
branches_arrive site address is_site is_address is_near =
    let n = near site address is_near in
    let field = branch_field site address in
    ⊎_elim (λ small. let s = signed_small field small in omega (arith, s, n))
    (λ large. let s = signed_large field large (omega arith) in omega (arith, s, n))
    (cases_lt field 32768)

pub branches_reach_the_near : BranchesReachTheNear
branches_reach_the_near site address imm is_site is_address half goes =
    ⊎_elim (λ small. let s = signed_small imm small in
    is_near_within site address (omega (arith, s)) (omega (arith, s)))
    (λ large. let s = signed_large imm large half in
    is_near_within site address (omega (arith, s)) (omega (arith, s)))
    (cases_lt imm 32768)
