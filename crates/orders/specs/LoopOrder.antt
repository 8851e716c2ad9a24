-- The order of the triple loop. Assumes nothing.
use Rattle.std.specs.Prelude.{ℕ, ◌*◌, ◌/◌, ◌%◌}
use Rattle.orders.specs.declared.step.Step.{Step}

-- step t of a table of n sites: k is the slowest number and j the fastest
abbrev pub loop_at : ℕ → ℕ → Step
loop_at n t = record { i = t / n % n; j = t % n; k = t / (n * n) }
