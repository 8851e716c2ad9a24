-- What the private functions of a board are given and leave. Assumes nothing.
use Rattle.std.specs.Prelude.{ℕ, ◌-◌, ◌*◌, ◌<◌, ◌≤◌, cond, ◌&&◌, List, nat_lt, slice_set}
use Rattle.kinds.specs.Kind.{Ops}
use Rattle.paths.specs.Ground.{route_at, route_place}
use Rattle.paths.specs.Calls.{diagonal, meets}

-- n sites fit a ground of so many cells
pub record Room (n cells : ℕ) : Type 0 where
  pub small : n ≤ 64
  pub room : 2 * (n * n) ≤ cells

-- two sites below n
pub record Pair (n from to : ℕ) : Type 0 where
  pub first : from < n
  pub second : to < n

-- the cell at p of the two tables as a making lays it
abbrev pub fresh_cell : {V : Type 0} → Ops V → ℕ → ℕ → V
fresh_cell o n p = cond (nat_lt p (n * n)) (diagonal o n p) (diagonal o n (p - n * n))

-- one route joined in place, from the routes as they are
abbrev pub join_route : {V : Type 0} → Ops V → ℕ → ℕ → ℕ → ℕ → V → ℕ → ℕ → List V → List V
join_route o n word from to v a b xs =
    cond (meets word from a && meets word to b)
    (slice_set xs (route_place n a b) (o.join (route_at o n xs a b) (o.chain (o.chain (route_at o n xs a from) v) (route_at o n xs to b))))
    xs
