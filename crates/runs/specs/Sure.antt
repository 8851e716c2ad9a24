-- The rule that keeps the surer delivery. Assumes nothing.
use Rattle.std.specs.Prelude.{cond}
use Rattle.std.specs.Float.Ieee.{le, mul, add}
use Rattle.std.specs.Float.{binary64}
use Rattle.runs.specs.declared.sure.Delivery.{Delivery}

-- x, if its fraction is at least the product of those of u and v; else that product and the sum of their delays
abbrev pub surer : Delivery → Delivery → Delivery → Delivery
surer x u v =
    cond (le (mul binary64 u.fraction v.fraction) x.fraction) x
    (record { fraction = mul binary64 u.fraction v.fraction; delay = add binary64 u.delay v.delay })
