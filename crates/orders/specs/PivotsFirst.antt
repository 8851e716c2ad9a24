-- A stronger property than lawful, which nests: with each pivot, the two cells that a step reads are worked before its own cell. Assumes nothing.
use Rattle.std.specs.Prelude.{◌≡◌, ℕ, ◌/◌, ◌%◌, ◌<◌, ◌≢◌}
use Rattle.orders.specs.declared.step.Step.{Step}
use Rattle.orders.specs.Order.{step_count}
use Rattle.orders.specs.Lawful.{step_of, Within}
use Rattle.orders.specs.RecursiveOrder.{placed}

-- `at` and `when` as in Lawful
pub record PivotsFirst (n : ℕ) (at : ℕ → Step) : Type 0 where
  pub when : Step → ℕ
  pub inside : (t : ℕ) → t < step_count n → Within n (at t)
  pub below : (s : Step) → Within n s → when s < step_count n
  pub occurs : (s : Step) → Within n s → at (when s) ≡ s
  pub once : (t : ℕ) → t < step_count n → when (at t) ≡ t
  -- a cell takes its pivots in ascending order
  pub cell : (i j k h : ℕ) → Within n (step_of i j k) → h < k → when (step_of i j h) < when (step_of i j k)
  -- with pivot k, column k comes before the rest of row i, and row k before the rest of column j
  pub row_first : (i j k : ℕ) → Within n (step_of i j k) → j ≢ k → when (step_of i k k) < when (step_of i j k)
  pub column_first : (i j k : ℕ) → Within n (step_of i j k) → i ≢ k → when (step_of k j k) < when (step_of i j k)

-- blocks of b sites in the order `outer`, and in each block the steps in the order `inner`
abbrev pub nested : ℕ → (ℕ → Step) → (ℕ → Step) → ℕ → Step
nested b outer inner t = placed b (outer (t / step_count b)) (inner (t % step_count b))
