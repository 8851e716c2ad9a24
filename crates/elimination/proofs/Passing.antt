-- The invariant of the careful walk: before step number t each cell has passed the pivots below its level, and the five
-- tables have it as the loop has it there. Assumes that the order is lawful.
use Rattle.std.proofs.Common.{◌≡◌, ℕ, suc, ◌*◌, ◌<◌, ◌≤◌, min, Bool, List, length, get_or, sym, ap, ◌∙◌, ⊎_elim, arith}
use Rattle.std.proofs.lemmas.Bool.{cases_lt}
use Rattle.orders.specs.declared.step.Step.{Step}
use Rattle.orders.specs.Lawful.{step_of, Lawful}
use Rattle.elimination.specs.Table.{place}
use Rattle.elimination.specs.Loop.{loop_until}
use Rattle.elimination.specs.Walk.{Tables, copies}
use Rattle.elimination.proofs.Pivot.{loop_until_none}

-- Cell (i, j) before step number t. `seen m` is the loop's cell (i, j) after its pivots below m.
pub record Passed {X : Type 0} (n : ℕ) (when : Step → ℕ) (seen : ℕ → X) (d : X) (t i j : ℕ) (T : Tables X) : Type 0 where
  pub level : ℕ
  pub most : level ≤ n
  pub behind : (h : ℕ) → h < level → when (step_of i j h) < t
  pub ahead : (h : ℕ) → level ≤ h → h < n → t ≤ when (step_of i j h)
  pub table : get_or T.table (place n i j) d ≡ seen level
  pub u0 : get_or T.u0 (place n i j) d ≡ seen (min level j)
  pub u1 : get_or T.u1 (place n i j) d ≡ seen (min level (suc j))
  pub v0 : get_or T.v0 (place n i j) d ≡ seen (min level i)
  pub v1 : get_or T.v1 (place n i j) d ≡ seen (min level (suc i))

-- a cell has passed each pivot up to m whose steps stand before t
pub level_at_least : {X : Type 0} (n : ℕ) (when : Step → ℕ) (seen : ℕ → X) (d : X) (t i j : ℕ) (T : Tables X) (c : Passed n when seen d t i j T) (m : ℕ)
    → m ≤ n → ((h : ℕ) → h < m → when (step_of i j h) < t) → m ≤ c.level
level_at_least n when seen d t i j T c m most done =
    ⊎_elim
    (λ (short : c.level < m). absurd (omega (arith, done c.level short, c.ahead c.level (omega arith) (omega arith))))
    (λ enough. enough)
    (cases_lt c.level m)

module _ {X : Type 0} (rule : X → X → X → X → X) (member : Step → Bool) (n : ℕ) (at : ℕ → Step) (lawful : Lawful n at) (xs : List X) (d : X) (long : length xs ≡ n * n) where
  abbrev pub seen : ℕ → ℕ → ℕ → X
  seen i j m = get_or (loop_until rule member n m xs) (place n i j) d

  abbrev pub Cell : ℕ → ℕ → ℕ → Tables X → Type 0
  Cell t i j T = Passed n lawful.when (seen i j) d t i j T

  abbrev pub Walked : ℕ → Tables X → Type 0
  Walked t T = (i j : ℕ) → i < n → j < n → Cell t i j T

  -- A table that keeps a cell up to the threshold θ has it as the loop has it after its pivots below θ, once the steps
  -- of the cell with those pivots stand before t.
  pub settled : (t i j : ℕ) (T : Tables X) (c : Cell t i j T) (θ : ℕ) (y : X) → θ ≤ n → ((h : ℕ) → h < θ → lawful.when (step_of i j h) < t)
      → y ≡ seen i j (min c.level θ) → y ≡ seen i j θ
  settled t i j T c θ y most done kept =
      let passed = level_at_least n lawful.when (seen i j) d t i j T c θ most done in
      kept ∙ ap (seen i j) (omega arith)

  pub walked_start : Walked 0 (copies xs)
  walked_start i j hi hj =
      let e : get_or xs (place n i j) d ≡ seen i j 0 = ap (λ ys. get_or ys (place n i j) d) (sym (loop_until_none rule member n xs)) in
      let least : (m : ℕ) → seen i j 0 ≡ seen i j (min 0 m) = λ m. ap (seen i j) (omega arith) in
      record {
        level = 0;
        most = omega arith;
        behind = λ h l. absurd (omega arith);
        ahead = λ h _ _. omega arith;
        table = e;
        u0 = e ∙ least j;
        u1 = e ∙ least (suc j);
        v0 = e ∙ least i;
        v1 = e ∙ least (suc i);
      }
