-- The network of four mirrors by its numbers: what its links cost, and what the distances are. Assumes nothing.
use Rattle.std.specs.Prelude.{ℕ, List, [], ◌∷◌, ◌++◌, map}
use Rattle.kinds.specs.declared.cells.Cost.{Cost}

abbrev pub values : List Cost → List ℕ
values cells = map (λ c. c.value) cells

-- no link and no way
abbrev none : ℕ
none = 4294967295

abbrev row : ℕ → ℕ → ℕ → ℕ → List ℕ
row a b c d = a ∷ b ∷ c ∷ d ∷ []

abbrev pub link_costs : List ℕ
link_costs =
    row 0 4 20 none
    ++ row none 0 9 none
    ++ row none none 0 7
    ++ row none 6 none 0

abbrev pub distance_costs : List ℕ
distance_costs =
    row 0 4 13 20
    ++ row none 0 9 16
    ++ row none 13 0 7
    ++ row none 6 15 0
