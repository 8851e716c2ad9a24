-- The kind of fares. Assumes nothing.
use Rattle.std.specs.Prelude.{ℕ, ◌+◌, ◌^◌, ◌<◌, min, Bool, cond, ◌&&◌, ◌==◌, nat_le, nat_lt}
use Rattle.std.proofs.Common.{arith}
use Rattle.kinds.specs.Kind.{Ops}
use Rattle.kinds.specs.declared.cells.Fare.{Fare}

abbrev pub fare : (c h : ℕ) → (c < 2 ^ 32) × (h < 2 ^ 32) → Fare
fare c h f = record { cost = c; hops = h; cost_fits = f.0; hops_fits = f.1 }

abbrev pub fare_none : Fare
fare_none = fare 4294967295 4294967295 (omega arith, omega arith)

abbrev pub fare_here : Fare
fare_here = fare 0 0 (omega arith, omega arith)

abbrev pub fare_same : Fare → Fare → Bool
fare_same a b = a.cost == b.cost && a.hops == b.hops

abbrev pub is_here : Fare → Bool
is_here a = fare_same a fare_here

-- a is the cheaper, or as cheap with no more hops
abbrev pub no_dearer : Fare → Fare → Bool
no_dearer a b = cond (a.cost == b.cost) (nat_le a.hops b.hops) (nat_lt a.cost b.cost)

-- both add, and both stop at 4294967295
abbrev pub fare_total : Fare → Fare → Fare
fare_total a b = fare (min (a.cost + b.cost) 4294967295) (min (a.hops + b.hops) 4294967295) (omega arith, omega arith)

-- a cost sum of 4294967295 or more gives none
abbrev pub fare_sum : Fare → Fare → Fare
fare_sum a b = cond (nat_le 4294967295 (a.cost + b.cost)) fare_none (fare_total a b)

-- join takes the smaller cost, then the fewer hops; chain with here leaves the other, and else adds
abbrev pub fares : Ops Fare
fares = record {
  join = λ a b. cond (no_dearer a b) a b;
  chain = λ a b. cond (is_here a) b (cond (is_here b) a (fare_sum a b));
  none = fare_none;
  here = fare_here;
  same = fare_same;
}
