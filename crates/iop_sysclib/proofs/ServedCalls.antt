-- That a call was served.
use Rattle.std.proofs.Common.{◌≡◌, ℕ, ◌+◌, true, false, Option, Some, None, Ok, Err, Result, List, [], ◌∷◌, length, map, min, max, ◌≤◌, refl, ap, sym, ◌∙◌, subst, arith}
use Rattle.std.specs.Option.{ok_or}
use Rattle.iop_base.specs.Output.{Output, Gives}
use Rattle.iop_base.specs.declared.guest_fault.GuestFault.{GuestFault}
use Rattle.iop_base.specs.declared.guest_fault.GuestFault.TheVariants.{Address}
use Rattle.iop_base.proofs.Giving.{gives_none}
use Rattle.iop_base.proofs.Lists.{with_bytes-none}
use Rattle.std.proofs.lemmas.Bool.{le-ltb}
use Rattle.std.proofs.lemmas.List.{nil_from_length}
use Rattle.iop_stubs.specs.Stubs.{Memory, after_store, store_lines, range_place, meets, met_stubs, remaining_stubs, stub_line}
use Rattle.iop_stubs.specs.declared.live_stub.Stub.{Stub}
use Rattle.iop_sysclib.specs.Outcomes.{Outcome, reads, writes, is_open, IsServed}

-- a call that only reads
pub served_reading : (word : Option ℕ) (t : ℕ) (memory : Memory) (seen : Output)
    → IsServed (reads word) t (ok_or word Address) memory memory seen seen
served_reading None t memory seen =
    record { answer = refl; memory = refl; lines = gives_none seen }
served_reading (Some w) t memory seen =
    record { answer = refl; memory = refl; lines = gives_none seen }

module _ (old : Memory) (at len : ℕ) (bytes : List ℕ) (word t : ℕ) (long : length bytes ≡ len)
  where
    writes_open : is_open old.ram at len ≡ true → writes old.ram at bytes word
        ≡ Some (record { answer = word; write = Some (record { at = at; bytes = bytes }) })
    writes_open is = let test = ap (is_open old.ram at) long ∙ is in rw test refl

    pub writes_shut : is_open old.ram at len ≡ false → writes old.ram at bytes word ≡ None
    writes_shut is = let test = ap (is_open old.ram at) long ∙ is in rw test refl

    -- what is written was stored
    pub served_store : (new : Memory) (before after : Output) → is_open old.ram at len ≡ true
        → new ≡ after_store old (range_place old at len) bytes
        → Gives before after (store_lines t old (range_place old at len) len)
        → IsServed (writes old.ram at bytes word) t (Ok word) old new before after
    served_store new before after is stored lines =
        let served : IsServed
        (Some (record { answer = word; write = Some (record { at = at; bytes = bytes }) })) t
        (Ok word) old new before after =
        record { answer = refl; memory = rw long stored; lines = rw long lines } in
        subst (λ (o : Option Outcome). IsServed o t (Ok word) old new before after)
        (sym (writes_open is)) served

-- a store of no byte meets no stub
meets_none : (p : ℕ) (stub : Stub) → meets p 0 stub ≡ false
meets_none p stub =
    let none : min (stub.at + 8) (p + 0) ≤ max stub.at p = omega arith in le-ltb _ _ none

none_met : (p : ℕ) (live : List Stub) → met_stubs p 0 live ≡ []
none_met p [] = refl
none_met p (stub ∷ rest) = rw (meets_none p stub) (none_met p rest)

all_remain : (p : ℕ) (live : List Stub) → remaining_stubs p 0 live ≡ live
all_remain p [] = refl
all_remain p (stub ∷ rest) = rw (meets_none p stub) (ap (λ stubs. stub ∷ stubs) (all_remain p rest))

-- so it changes nothing
pub after_store-none : (old : Memory) (place : Option ℕ) → after_store old place [] ≡ old
after_store-none old None = refl
after_store-none old (Some p) =
    ap (λ (ram : List ℕ). record { ram = ram; live = remaining_stubs p 0 old.live })
    (with_bytes-none old.ram p)
    ∙ ap (λ (live : List Stub). record { ram = old.ram; live = live }) (all_remain p old.live)

-- and has no line
pub store_lines-none : (t : ℕ) (old : Memory) (place : Option ℕ) → store_lines t old place 0 ≡ []
store_lines-none t old None = refl
store_lines-none t old (Some p) = ap (map (stub_line t)) (none_met p old.live)

-- no byte was written
pub served_nothing : (old new : Memory) (at : ℕ) (bytes : List ℕ) (word t : ℕ) (before after : Output)
    → length bytes ≡ 0 → new ≡ old → Gives before after []
    → IsServed (writes old.ram at bytes word) t (Ok word) old new before after
served_nothing old new at bytes word t before after none same lines =
    served_store old at 0 bytes word t none new before after refl
    (same ∙ sym (ap (after_store old (range_place old at 0)) (nil_from_length bytes none)
    ∙ after_store-none old (range_place old at 0)))
    (subst (Gives before after) (sym (store_lines-none t old (range_place old at 0))) lines)

-- a call that faults
pub served_fault : (t : ℕ) (old new : Memory) (before after : Output) → new ≡ old
    → Gives before after [] → IsServed None t (Err Address) old new before after
served_fault t old new before after same lines =
    record { answer = refl; memory = same; lines = lines }

pub served_as : {o p : Option Outcome} {t : ℕ} {result : Result ℕ GuestFault} {old new : Memory}
    {before after : Output} → o ≡ p → IsServed p t result old new before after
    → IsServed o t result old new before after
served_as {o} {p} {t} {result} {old} {new} {before} {after} same served =
    subst (λ (x : Option Outcome). IsServed x t result old new before after) (sym same) served

-- a call that only reads, by what it answers
pub served_answer : (word : Option ℕ) {result : Result ℕ GuestFault} (t : ℕ) (memory : Memory)
    (seen : Output) → result ≡ ok_or word Address
    → IsServed (reads word) t result memory memory seen seen
served_answer word {result} t memory seen is =
    subst (λ (r : Result ℕ GuestFault). IsServed (reads word) t r memory memory seen seen) (sym is)
    (served_reading word t memory seen)
