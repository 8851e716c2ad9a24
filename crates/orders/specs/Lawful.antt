-- When the list of all steps of a table of n sites is lawful. Assumes nothing.
use Rattle.std.specs.Prelude.{◌≡◌, ℕ, ◌<◌}
use Rattle.orders.specs.declared.step.Step.{Step}
use Rattle.orders.specs.Order.{step_count}

-- the step that works cell (i, j) with pivot k
abbrev pub step_of : ℕ → ℕ → ℕ → Step
step_of i j k = record { i = i; j = j; k = k }

-- each number of the step is below n
pub record Within (n : ℕ) (s : Step) : Type 0 where
  pub row : s.i < n
  pub column : s.j < n
  pub pivot : s.k < n

-- `at` lists the steps, and `when` says at which number a step stands.
-- In the seven rules every number is below n, and "comes after" is: has the larger number.
pub record Lawful (n : ℕ) (at : ℕ → Step) : Type 0 where
  pub when : Step → ℕ
  -- every step with numbers below n occurs exactly once, and nothing else does
  pub inside : (t : ℕ) → t < step_count n → Within n (at t)
  pub below : (s : Step) → Within n s → when s < step_count n
  pub occurs : (s : Step) → Within n s → at (when s) ≡ s
  pub once : (t : ℕ) → t < step_count n → when (at t) ≡ t
  -- (i, j, k) comes after (i, j, h), (i, k, h), (k, j, h) and (k, k, h) for each h below k
  pub after_cell : (i j k h : ℕ) → Within n (step_of i j k) → h < k → when (step_of i j h) < when (step_of i j k)
  pub after_row : (i j k h : ℕ) → Within n (step_of i j k) → h < k → when (step_of i k h) < when (step_of i j k)
  pub after_column : (i j k h : ℕ) → Within n (step_of i j k) → h < k → when (step_of k j h) < when (step_of i j k)
  pub after_pivot : (i j k h : ℕ) → Within n (step_of i j k) → h < k → when (step_of k k h) < when (step_of i j k)
  -- after (i, k, k) if j > k, after (k, j, k) if i > k, after (k, k, k) if i > k or if i = k and j > k
  pub after_row_done : (i j k : ℕ) → Within n (step_of i j k) → k < j → when (step_of i k k) < when (step_of i j k)
  pub after_column_done : (i j k : ℕ) → Within n (step_of i j k) → k < i → when (step_of k j k) < when (step_of i j k)
  pub after_pivot_done_below : (i j k : ℕ) → Within n (step_of i j k) → k < i → when (step_of k k k) < when (step_of i j k)
  pub after_pivot_done_right : (i j k : ℕ) → Within n (step_of i j k) → i ≡ k → k < j → when (step_of k k k) < when (step_of i j k)
