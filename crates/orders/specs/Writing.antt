-- What the recursion that writes the codes writes, and where it may stand. Assumes nothing.
use Rattle.std.specs.Prelude.{◌≡◌, ℕ, ◌+◌, ◌^◌, ◌≤◌, List, ◌++◌, map, take, drop}
use Rattle.std.specs.List.{range_with_len}
use Rattle.orders.specs.declared.step.Step.{Step}
use Rattle.orders.specs.Lawful.{step_of}
use Rattle.orders.specs.RecursiveOrder.{recursive_at}
use Rattle.orders.specs.Codes.{step_code}

-- the step counted from a corner of the table
abbrev pub moved : Step → Step → Step
moved c s = step_of (c.i + s.i) (c.j + s.j) (c.k + s.k)

-- the codes of the first m steps of the recursive order of 2^q sites, from a corner
unfoldable pub block_codes : ℕ → Step → ℕ → List ℕ
block_codes q c m = map (λ t. step_code (moved c (recursive_at q t))) (range_with_len 0 m)

-- the 2^q sites from the corner on are below 64
pub record BlockInside (q : ℕ) (c : Step) : Type 0 where
  pub rows : c.i + 2 ^ q ≤ 64
  pub columns : c.j + 2 ^ q ≤ 64
  pub pivots : c.k + 2 ^ q ≤ 64

-- the list xs became ys: cells a to b took the values cs, and no other cell changed
pub record Wrote (a b : ℕ) (cs xs ys : List ℕ) : Type 0 where
  pub front : take b ys ≡ take a xs ++ cs
  pub rest : drop b ys ≡ drop b xs
