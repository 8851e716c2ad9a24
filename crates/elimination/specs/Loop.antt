-- The elimination loop and the run in place, as what they leave in a table. Assumes nothing.
-- `rule` is the update of a cell x by u, v and w; `member` is the set of the steps that are worked.
use Rattle.std.specs.Prelude.{ℕ, Bool, cond, List, slice_index_or}
use Rattle.orders.specs.declared.step.Step.{Step}
use Rattle.orders.specs.Order.{step_count}
use Rattle.orders.specs.Lawful.{step_of}
use Rattle.elimination.specs.Table.{place, changed, upto}

-- what cell (i, j) becomes by step (i, j, k): rule of itself and of the cells (i, k), (k, j) and (k, k).
-- In a table of n × n cells each of these is there, so that the default of slice_index_or does not matter.
abbrev pub value_in_place : {X : Type 0} → (X → X → X → X → X) → ℕ → Step → List X → X → X
value_in_place rule n s xs x =
    rule x (slice_index_or xs (place n s.i s.k) x) (slice_index_or xs (place n s.k s.j) x) (slice_index_or xs (place n s.k s.k) x)

-- one step on one table: a step outside the set changes nothing
unfoldable pub step_in_place : {X : Type 0} → (X → X → X → X → X) → (Step → Bool) → ℕ → Step → List X → List X
step_in_place rule member n s xs = cond (member s) (changed xs (place n s.i s.j) (value_in_place rule n s xs)) xs

-- the loop with its pivots below m: for k, then i, then j ascending
unfoldable pub loop_until : {X : Type 0} → (X → X → X → X → X) → (Step → Bool) → ℕ → ℕ → List X → List X
loop_until rule member n m xs =
    upto m (λ k. upto n (λ i. upto n (λ j. step_in_place rule member n (step_of i j k)))) xs

-- the loop
abbrev pub looped : {X : Type 0} → (X → X → X → X → X) → (Step → Bool) → ℕ → List X → List X
looped rule member n xs = loop_until rule member n n xs

-- the run in place with its step numbers below m: the steps of an order applied to one table in sequence
unfoldable pub run_until : {X : Type 0} → (X → X → X → X → X) → (Step → Bool) → ℕ → (ℕ → Step) → ℕ → List X → List X
run_until rule member n at m xs = upto m (λ t. step_in_place rule member n (at t)) xs

-- the run in place
abbrev pub run_in_place : {X : Type 0} → (X → X → X → X → X) → (Step → Bool) → ℕ → (ℕ → Step) → List X → List X
run_in_place rule member n at xs = run_until rule member n at (step_count n) xs
