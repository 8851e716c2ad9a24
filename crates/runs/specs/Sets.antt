-- The sets of steps. Assumes nothing.
use Rattle.std.specs.Prelude.{ℕ, ◌/◌, ◌%◌, ◌^◌, Bool, ◌==◌}

-- whether bit k of a word is 1
abbrev pub bit_is_one : ℕ → ℕ → Bool
bit_is_one word k = word / 2 ^ k % 2 == 1
