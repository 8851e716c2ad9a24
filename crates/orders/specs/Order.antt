-- What an order's calls answer. Assumes nothing.
use Rattle.std.specs.Prelude.{◌≡◌, ℕ, ◌+◌, ◌*◌, ◌<◌, ◌≤◌, cond, Some, None, Option, nat_lt, MatchOption}
use Rattle.orders.specs.declared.step.Step.{Step}

-- how many steps a table of n sites has
abbrev pub step_count : ℕ → ℕ
step_count n = n * n * n

-- the step of number t in the list of the n³ steps: none from n³ up
abbrev pub step_answer : ℕ → (ℕ → Step) → ℕ → Option Step
step_answer n at t = cond (nat_lt t (step_count n)) (Some (at t)) None

-- what comes next of the n³ steps, from number t on: the step of number t, and number u follows; or none, and the number stays
abbrev pub NextStep : ℕ → (ℕ → Step) → ℕ → Option Step → ℕ → Type 0
NextStep n at t r u = MatchOption r ((step_count n ≤ t) × (u ≡ t)) (λ step. (t < step_count n) × (step ≡ at t) × (u ≡ t + 1))
