-- Numbers a * w + x with x below w: the place of row a and column x. Assumes nothing.
use Rattle.std.specs.Prelude.{◌≡◌, ℕ, ◌+◌, ◌*◌, ◌<◌}
use Rattle.std.proofs.Common.{ap, ◌∙◌, mul-le-mul_right, suc-mul, arith}
use Rattle.std.proofs.Math.Nat.{mul-mul-mul_comm}
use Rattle.orders.specs.Order.{step_count}

-- an earlier row has the smaller places
pub row_before : (a b w x y : ℕ) → a < b → x < w → a * w + x < b * w + y
row_before a b w x y later within =
    let next = mul-le-mul_right w later in
    omega (arith, suc-mul a w)

-- all places of b rows are below b * w
pub place_below : (a b w x : ℕ) → a < b → x < w → a * w + x < b * w
place_below a b w x later within =
    let next = mul-le-mul_right w later in
    omega (arith, suc-mul a w)

-- the steps of a blocks of b sites each
pub step_count_mul : (a b : ℕ) → step_count (a * b) ≡ step_count a * step_count b
step_count_mul a b = ap (λ x. x * (a * b)) (mul-mul-mul_comm a b a b) ∙ mul-mul-mul_comm (a * a) (b * b) a b
