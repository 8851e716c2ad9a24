-- The ground of a board, a list of cells: n² links, then n² routes, then later cells. Assumes nothing.
use Rattle.std.specs.Prelude.{ℕ, suc, ◌+◌, ◌*◌, ◌^◌, cond, ◌&&◌, List, [], ◌∷◌, length, nat_le, slice_index_or}
use Rattle.kinds.specs.Kind.{Ops}
use Rattle.elimination.specs.Table.{place}

-- the number of sites of a board with exponent q on a ground of so many cells: 0 where they do not fit
unfoldable pub sites_on : ℕ → ℕ → ℕ
sites_on q cells = cond (nat_le q 6 && nat_le (2 * (2 ^ q * 2 ^ q)) cells) (2 ^ q) 0

abbrev pub sites : {V : Type 0} → ℕ → List V → ℕ
sites q xs = sites_on q (length xs)

-- where the route from i to j stands; the link stands at place n i j
abbrev pub route_place : ℕ → ℕ → ℕ → ℕ
route_place n i j = n * n + place n i j

abbrev pub link_at : {V : Type 0} → Ops V → ℕ → List V → ℕ → ℕ → V
link_at o n xs i j = slice_index_or xs (place n i j) o.none

abbrev pub route_at : {V : Type 0} → Ops V → ℕ → List V → ℕ → ℕ → V
route_at o n xs i j = slice_index_or xs (route_place n i j) o.none

-- a list whose places begin at p, each cell put through f with its place
unfoldable pub by_place_from : {X : Type 0} → ℕ → (ℕ → X → X) → List X → List X
by_place_from p f [] = []
by_place_from p f (x ∷ xs) = f p x ∷ by_place_from (suc p) f xs

-- each cell put through f with its place
abbrev pub by_place : {X : Type 0} → (ℕ → X → X) → List X → List X
by_place f xs = by_place_from 0 f xs
