-- The careful walk: the steps of an order with four side tables, and what it is to leave. Assumes nothing.
use Rattle.std.specs.Prelude.{◌≡◌, ℕ, suc, ◌<◌, Bool, cond, ◌&&◌, ◌||◌, List, ◌==◌, nat_le, nat_lt, slice_index_or}
use Rattle.orders.specs.declared.step.Step.{Step}
use Rattle.orders.specs.Order.{step_count}
use Rattle.elimination.specs.Table.{place, changed, upto}
use Rattle.elimination.specs.Loop.{loop_until, looped}

-- a table with its four side tables
pub record Tables (X : Type 0) : Type 0 where
  pub table : List X
  pub u0 : List X
  pub u1 : List X
  pub v0 : List X
  pub v1 : List X

abbrev pub five : {X : Type 0} → List X → List X → List X → List X → List X → Tables X
five table u0 u1 v0 v1 = record { table = table; u0 = u0; u1 = u1; v0 = v0; v1 = v1 }

-- whether the loop comes to cell (k, k) before cell (i, j) within pivot k
abbrev pub pivot_done : Step → Bool
pivot_done s = nat_lt s.k s.i || (s.i == s.k && nat_lt s.k s.j)

-- the side table that has cell (i, k), (k, j) or (k, k) as the loop has it at step (i, j, k)
abbrev pub row_side : {X : Type 0} → Step → Tables X → List X
row_side s T = cond (nat_lt s.k s.j) T.u1 T.u0

abbrev pub column_side : {X : Type 0} → Step → Tables X → List X
column_side s T = cond (nat_lt s.k s.i) T.v1 T.v0

abbrev pub pivot_side : {X : Type 0} → Step → Tables X → List X
pivot_side s T = cond (pivot_done s) T.u1 T.u0

-- what cell (i, j) becomes: its last three arguments are read from the side tables
abbrev pub careful_value : {X : Type 0} → (X → X → X → X → X) → ℕ → Step → Tables X → X → X
careful_value rule n s T x =
    rule x (slice_index_or (row_side s T) (place n s.i s.k) x) (slice_index_or (column_side s T) (place n s.k s.j) x) (slice_index_or (pivot_side s T) (place n s.k s.k) x)

-- ys with its cell at p as xs has it, where b says so
abbrev pub copied_if : {X : Type 0} → Bool → List X → ℕ → List X → List X
copied_if b xs p ys = cond b (changed ys p (λ y. slice_index_or xs p y)) ys

-- cell (i, j) with its new value, which is kept in u0 if k < j, in u1 if k ≤ j, in v0 if k < i, in v1 if k ≤ i
abbrev pub kept : {X : Type 0} → ℕ → Step → List X → Tables X → Tables X
kept n s xs T = record {
  table = xs;
  u0 = copied_if (nat_lt s.k s.j) xs (place n s.i s.j) T.u0;
  u1 = copied_if (nat_le s.k s.j) xs (place n s.i s.j) T.u1;
  v0 = copied_if (nat_lt s.k s.i) xs (place n s.i s.j) T.v0;
  v1 = copied_if (nat_le s.k s.i) xs (place n s.i s.j) T.v1;
}

-- one careful step: a step outside the set changes nothing
unfoldable pub careful_step : {X : Type 0} → (X → X → X → X → X) → (Step → Bool) → ℕ → Step → Tables X → Tables X
careful_step rule member n s T =
    cond (member s) (kept n s (changed T.table (place n s.i s.j) (careful_value rule n s T)) T) T

-- the side tables begin as copies of the table
abbrev pub copies : {X : Type 0} → List X → Tables X
copies xs = five xs xs xs xs xs

-- the walk with its step numbers below m: one careful step for each step of the order, in its sequence
unfoldable pub walk_until : {X : Type 0} → (X → X → X → X → X) → (Step → Bool) → ℕ → (ℕ → Step) → ℕ → List X → Tables X
walk_until rule member n at m xs = upto m (λ t. careful_step rule member n (at t)) (copies xs)

-- the walk
abbrev pub walk : {X : Type 0} → (X → X → X → X → X) → (Step → Bool) → ℕ → (ℕ → Step) → List X → Tables X
walk rule member n at xs = walk_until rule member n at (step_count n) xs

-- What a walk over a table xs of n sites is to leave: the loop's table, and in cell (i, j) of the side tables what the
-- loop has there after its steps with k < j, k ≤ j, k < i and k ≤ i.
pub record LeavesLoop {X : Type 0} (rule : X → X → X → X → X) (member : Step → Bool) (n : ℕ) (xs : List X) (T : Tables X) : Type 0 where
  pub table : T.table ≡ looped rule member n xs
  pub u0 : (i j : ℕ) (d : X) → i < n → j < n → slice_index_or T.u0 (place n i j) d ≡ slice_index_or (loop_until rule member n j xs) (place n i j) d
  pub u1 : (i j : ℕ) (d : X) → i < n → j < n → slice_index_or T.u1 (place n i j) d ≡ slice_index_or (loop_until rule member n (suc j) xs) (place n i j) d
  pub v0 : (i j : ℕ) (d : X) → i < n → j < n → slice_index_or T.v0 (place n i j) d ≡ slice_index_or (loop_until rule member n i xs) (place n i j) d
  pub v1 : (i j : ℕ) (d : X) → i < n → j < n → slice_index_or T.v1 (place n i j) d ≡ slice_index_or (loop_until rule member n (suc i) xs) (place n i j) d
