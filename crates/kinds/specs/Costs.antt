-- The kind of costs. Assumes nothing.
use Rattle.std.specs.Prelude.{ℕ, ◌+◌, ◌^◌, ◌<◌, min, ◌==◌}
use Rattle.std.proofs.Common.{arith}
use Rattle.kinds.specs.Kind.{Ops}
use Rattle.kinds.specs.declared.cells.Cost.{Cost}

abbrev pub cost : (n : ℕ) → n < 2 ^ 32 → Cost
cost n h = record { value = n; fits = h }

-- join takes the smaller; chain adds, and stops at 4294967295, which is none
abbrev pub costs : Ops Cost
costs = record {
  join = λ a b. cost (min a.value b.value) (omega arith);
  chain = λ a b. cost (min (a.value + b.value) 4294967295) (omega arith);
  none = cost 4294967295 (omega arith);
  here = cost 0 (omega arith);
  same = λ a b. a.value == b.value;
}
