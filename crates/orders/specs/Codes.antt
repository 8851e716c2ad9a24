-- The recursive order written out as a list of codes. Assumes nothing.
use Rattle.std.specs.Prelude.{ℕ, ◌+◌, ◌*◌, ◌^◌, cond, List, ◌++◌, map, drop, Ok, Err, Result, nat_le}
use Rattle.std.specs.List.{range_with_len}
use Rattle.faults.specs.declared.LayoutFault.{LayoutFault}
use Rattle.faults.specs.declared.LayoutFault.TheVariants.{ExponentTooLarge, SizeMismatch}
use Rattle.orders.specs.declared.step.Step.{Step}
use Rattle.orders.specs.Order.{step_count}
use Rattle.orders.specs.RecursiveOrder.{recursive_at}

-- a step with its three numbers below 64 in one number
abbrev pub step_code : Step → ℕ
step_code s = (s.i * 64 + s.j) * 64 + s.k

-- the codes of all steps of the recursive order, in its order
unfoldable pub step_codes : ℕ → List ℕ
step_codes q = map (λ t. step_code (recursive_at q t)) (range_with_len 0 (step_count (2 ^ q)))

-- the answer to a call that is lent a list of so many cells: the exponent is looked at first
abbrev pub write_answer : ℕ → ℕ → Result (Unit {0}) LayoutFault
write_answer q cells = cond (nat_le q 6) (cond (nat_le (step_count (2 ^ q)) cells) (Ok tt) (Err SizeMismatch)) (Err ExponentTooLarge)

-- the list afterwards: the codes and then the cells past them; a refusal leaves it as it was
abbrev pub codes_after : ℕ → List ℕ → Result (Unit {0}) LayoutFault → List ℕ
codes_after q xs (Ok _) = step_codes q ++ drop (step_count (2 ^ q)) xs
codes_after q xs (Err _) = xs
