-- The recursive order, by the digits of a step's number in base 8. Assumes nothing.
use Rattle.std.specs.Prelude.{ℕ, zero, suc, ◌+◌, ◌*◌, ◌/◌, ◌%◌}
use Rattle.orders.specs.declared.step.Step.{Step}
use Rattle.orders.specs.Lawful.{step_of}

-- the bit, flipped if the other one is 1
abbrev pub flipped : ℕ → ℕ → ℕ
flipped by bit = (bit + by) % 2

-- the three bits that a digit below 8 gives: to k its high bit; to i and to j that bit, flipped by the middle and by the low one
abbrev pub digit_step : ℕ → Step
digit_step d = step_of (flipped (d / 2 % 2) (d / 4)) (flipped (d % 2) (d / 4)) (d / 4)

-- step b inside a block of m sites, where a says which block
abbrev pub placed : ℕ → Step → Step → Step
placed m a b = step_of (a.i * m + b.i) (a.j * m + b.j) (a.k * m + b.k)

-- step t of a table of 2^q sites: t has q digits, and each gives one bit to each of the three numbers, the highest first
abbrev pub recursive_at : ℕ → ℕ → Step
recursive_at zero t = step_of 0 0 0
recursive_at (suc q) t = placed 2 (recursive_at q (t / 8)) (digit_step (t % 8))
