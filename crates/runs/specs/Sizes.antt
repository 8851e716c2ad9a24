-- Which sizes fit a run. Assumes nothing.
use Rattle.std.specs.Prelude.{ℕ, ◌*◌, Bool, ◌&&◌, List, length, ◌==◌}
use Rattle.elimination.specs.Walk.{Tables}

-- whether a list has a cell for each pair of n sites
abbrev pub fits : {X : Type 0} → ℕ → List X → Bool
fits n xs = length xs == n * n

-- whether a table and its four side tables do
abbrev pub all_fit : {X : Type 0} → ℕ → Tables X → Bool
all_fit n T = fits n T.table && fits n T.u0 && fits n T.u1 && fits n T.v0 && fits n T.v1
