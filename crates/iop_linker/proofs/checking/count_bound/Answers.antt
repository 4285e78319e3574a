use mir.Val.{bool_byte}
use Rattle.std.proofs.Common.{refl, ◌≡◌, ℕ, ◌+◌, ◌*◌, ◌/◌, ◌≤◌, Bool, true, false, Some, length, cond, nat_lt, arith, ap, sym, ◌∙◌}
use Rattle.irx_tables.specs.Exports.{functions}
use Rattle.irx_tables.specs.Imports.{stub_at}
use Rattle.irx_tables.specs.declared.words.TheConstants.{HEADER_BYTES}
use Rattle.iop_linker.proofs.Counted.{count_next}
use Rattle.iop_linker.proofs.Tables.{stub_is}
use Rattle.iop_linker.proofs.checking.count_bound.Goals as goal

number_of : (b : Bool) → bool_byte b ≡ cond b 1 0
number_of true = refl
number_of false = refl

at_most_one : (b : Bool) → cond b 1 0 ≤ 1
at_most_one true = omega arith
at_most_one false = omega arith

pub loop-i-preserved : goal.loop-i-preserved
loop-i-preserved c =
    let ram = c.args.ram.now in
    let import = c.args.import.now in
    let i = c.loop-i.i in
    let stub = c.stub-index.result in
    let words = functions ram c.in-Some.table in
    let is = stub_is ram import c.requires.0 c.requires.1 i c.loop-i-test.true in
    let given : Some stub ≡ Some (stub_at ram (import.at + HEADER_BYTES + 8 * i)) =
    sym (c.stub-index.ensures.stub c.requires.0 c.requires.1) ∙ is in
    let same : stub ≡ stub_at ram (import.at + HEADER_BYTES + 8 * i) = cc in
    let step = count_next import.name (import.version / 256) words ram import i stub.1
    c.loop-i-test.true (ap (λ (s : ℕ × ℕ). s.1) same) in
    let counts : c.from-count.result ≡ cond (nat_lt stub.1 (length words)) 1 0 =
    c.from-count.ensures ∙ number_of (nat_lt c.from.result c.exports_count-functions.result)
    ∙ ap (λ (n : ℕ). cond (nat_lt n c.exports_count-functions.result) 1 0) c.from.ensures
    ∙ ap (λ (n : ℕ). cond (nat_lt stub.1 n) 1 0) c.exports_count-functions.ensures.count in
    let few = at_most_one (nat_lt stub.1 (length words)) in
    record {
      few = omega (arith, c.loop-i.invariant.few, few, counts);
      counts = omega (arith, c.loop-i.invariant.counts, step, counts);
    }
