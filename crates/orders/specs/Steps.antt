-- Steps that are equal, and steps with their numbers below n. Assumes nothing.
use Rattle.std.specs.Prelude.{◌≡◌, ℕ}
use Rattle.orders.specs.Lawful.{step_of, Within}

-- two steps with equal numbers are equal
pub same_step : {i j k i' j' k' : ℕ} → i ≡ i' → j ≡ j' → k ≡ k' → step_of i j k ≡ step_of i' j' k'
same_step p q r = rw (p, q, r)

-- the cells that a step reads have their numbers below n too
pub in_row : {n : ℕ} (i j k : ℕ) → Within n (step_of i j k) → Within n (step_of i k k)
in_row i j k w = record { row = w.row; column = w.pivot; pivot = w.pivot }

pub in_column : {n : ℕ} (i j k : ℕ) → Within n (step_of i j k) → Within n (step_of k j k)
in_column i j k w = record { row = w.pivot; column = w.column; pivot = w.pivot }

pub at_pivot : {n : ℕ} (i j k : ℕ) → Within n (step_of i j k) → Within n (step_of k k k)
at_pivot i j k w = record { row = w.pivot; column = w.pivot; pivot = w.pivot }
