-- Tables of n × n cells as lists, row by row, and counted repetition. Assumes nothing.
use Rattle.std.specs.Prelude.{ℕ, zero, suc, ◌+◌, ◌*◌, List, [], ◌∷◌}

-- where cell (i, j) stands in the list of a table of n sites
abbrev pub place : ℕ → ℕ → ℕ → ℕ
place n i j = i * n + j

-- the list with the cell at p put through f; the same list where p is past its end
unfoldable pub changed : {X : Type 0} → List X → ℕ → (X → X) → List X
changed [] p f = []
changed (x ∷ xs) zero f = f x ∷ xs
changed (x ∷ xs) (suc p) f = x ∷ changed xs p f

-- f 0, then f 1, and so on up to f (m - 1), one after another
unfoldable pub upto : {A : Type 0} → ℕ → (ℕ → A → A) → A → A
upto zero f a = a
upto (suc m) f a = f m (upto m f a)
