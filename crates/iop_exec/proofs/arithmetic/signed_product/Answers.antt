use Rattle.std.proofs.Common.{◌≡◌, ℤ, FitsSigned, ◌∙◌, rules}
use Rattle.std.proofs.lemmas.Int.{to_z-of_z}
use Rattle.std.specs.Int.{w32}
use Rattle.iop_exec.proofs.Products.{product_bits}
use Rattle.iop_exec.proofs.arithmetic.signed_product.Goals as goal

pub returns : goal.returns
returns c =
    let x : ℤ = c.cast_signed.result in
    let y : ℤ = c.cast_signed-2.result in
    let f : FitsSigned w32 x = search rules in
    let g : FitsSigned w32 y = search rules in
    let first : c.from.result ≡ x = c.from.ensures ∙ to_z-of_z w32 x f in
    let second : c.from-2.result ≡ y = c.from-2.ensures ∙ to_z-of_z w32 y g in
    rw (first, second, product_bits x y f g, c.cast_signed.ensures, c.cast_signed-2.ensures)
    at c.cast_unsigned.ensures
