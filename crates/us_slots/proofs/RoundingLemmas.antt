-- Division rounded up and division rounded down, each as the inverse of a product.
use Rattle.std.proofs.Common.{ℕ, ◌*◌, ◌/◌, ◌<◌, ◌≤◌, arith}
use Rattle.std.specs.Int.{div_ceil}
use Rattle.std.proofs.lemmas.Nat.{mul-le, mod_below, div-add-mod'}

-- x fits in as many times y as x / y, rounded up, and in more
pub ceil-fits : (x y n : ℕ) → 0 < y → div_ceil x y ≤ n → x ≤ n * y
ceil-fits x y n some h =
    let product : div_ceil x y * y ≤ n * y = mul-le (div_ceil x y) y n y h (omega arith) in
    grind (arith, div-add-mod' x y, mod_below x y some)

-- no fewer times y hold x
pub ceil-least : (x y n : ℕ) → 0 < y → x ≤ n * y → div_ceil x y ≤ n
ceil-least x y n some h = grind (arith, div-add-mod' x y, mod_below x y some)

-- y fits x / y times into x, and fewer times
pub floor-fits : (x y n : ℕ) → n ≤ x / y → n * y ≤ x
floor-fits x y n h =
    let product : n * y ≤ x / y * y = mul-le n y (x / y) y h (omega arith) in
    omega (arith, div-add-mod' x y)

-- and no more
pub floor-most : (x y n : ℕ) → 0 < y → n * y ≤ x → n ≤ x / y
floor-most x y n some h = grind (arith, div-add-mod' x y, mod_below x y some)
