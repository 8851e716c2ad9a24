-- The careful walk leaves the loop's table, and in the side tables what the loop has at each threshold. Assumes that the
-- order is lawful.
use Rattle.std.proofs.Common.{◌≡◌, ℕ, zero, suc, ◌*◌, ◌/◌, ◌%◌, ◌<◌, ◌≤◌, min, Bool, List, length, get_or, sym, ap, ◌∙◌, subst, arith}
use Rattle.std.proofs.lemmas.Nat.{div-add-mod', div_below, mod_below}
use Rattle.std.proofs.lemmas.List.{same_lists}
use Rattle.orders.specs.declared.step.Step.{Step}
use Rattle.orders.specs.Order.{step_count}
use Rattle.orders.specs.Lawful.{step_of, Lawful}
use Rattle.elimination.specs.Table.{place, upto}
use Rattle.elimination.specs.Loop.{loop_until, looped}
use Rattle.elimination.specs.Walk.{Tables, walk_until, walk, LeavesLoop}
use Rattle.elimination.proofs.Pivot.{length-loop_until}
use Rattle.elimination.proofs.Sides.{Long, careful_long}
use Rattle.elimination.proofs.Passing.{Cell, Walked, walked_start, settled}
use Rattle.elimination.proofs.Turn.{walked_turn}

-- each place of a table is the place of a cell
pub cell_of_place : (n q : ℕ) → q < n * n → (q / n < n) × (q % n < n) × (place n (q / n) (q % n) ≡ q)
cell_of_place zero q h = absurd (omega arith)
cell_of_place (suc m) q h = (div_below q (suc m) (suc m) (omega arith) h, mod_below q (suc m) (omega arith), div-add-mod' q (suc m))

module _ {X : Type 0} (rule : X → X → X → X → X) (member : Step → Bool) (n : ℕ) (at : ℕ → Step) (lawful : Lawful n at) (xs : List X) (long : length xs ≡ n * n) where
  -- the five tables before step number t
  abbrev reached : ℕ → Tables X
  reached t = walk_until rule member n at t xs

  reached_long : (t : ℕ) → Long n (reached t)
  unfolding walk_until upto
  reached_long zero = record { table = long; u0 = long; u1 = long; v0 = long; v1 = long }
  reached_long (suc t) = careful_long rule member n (at t) (reached t) (reached_long t)

  reached_walked : (d : X) (t : ℕ) → t ≤ step_count n → Walked rule member n at lawful xs d long t (reached t)
  unfolding walk_until upto
  reached_walked d zero h = walked_start rule member n at lawful xs d long
  reached_walked d (suc t) h =
      walked_turn rule member n at lawful xs d long t h (reached t) (reached_long t) (reached_walked d t (omega arith))

  -- at the end every step of every cell is done, so that each threshold is reached
  module _ (d : X) (i j : ℕ) (hi : i < n) (hj : j < n) where
    ended : Cell rule member n at lawful xs d long (step_count n) i j (reached (step_count n))
    ended = reached_walked d (step_count n) (omega arith) i j hi hj

    at_end : (θ : ℕ) (y : X) → θ ≤ n → y ≡ get_or (loop_until rule member n (min ended.level θ) xs) (place n i j) d → y ≡ get_or (loop_until rule member n θ xs) (place n i j) d
    at_end θ y most =
        settled rule member n at lawful xs d long (step_count n) i j (reached (step_count n)) ended θ y most
        (λ h l. lawful.below (step_of i j h) (record { row = hi; column = hj; pivot = omega arith }))

    end_table : get_or (reached (step_count n)).table (place n i j) d ≡ get_or (looped rule member n xs) (place n i j) d
    end_table =
        let all : ended.level ≡ min ended.level n = omega (arith, ended.most) in
        at_end n _ (omega arith) (ended.table ∙ ap (λ m. get_or (loop_until rule member n m xs) (place n i j) d) all)

  same_table : (reached (step_count n)).table ≡ looped rule member n xs
  same_table =
      let size = (reached_long (step_count n)).table in
      same_lists (reached (step_count n)).table (looped rule member n xs) (size ∙ sym long ∙ sym (length-loop_until rule member n n xs))
      (λ q d h.
      let cell = cell_of_place n q (subst (λ m. q < m) size h) in
      subst (λ r. get_or (reached (step_count n)).table r d ≡ get_or (looped rule member n xs) r d) cell.2
      (end_table d (q / n) (q % n) cell.0 cell.1))

  pub walk_leaves_loop : LeavesLoop rule member n xs (walk rule member n at xs)
  walk_leaves_loop = record {
    table = same_table;
    u0 = λ i j d hi hj. at_end d i j hi hj j _ (omega arith) (ended d i j hi hj).u0;
    u1 = λ i j d hi hj. at_end d i j hi hj (suc j) _ hj (ended d i j hi hj).u1;
    v0 = λ i j d hi hj. at_end d i j hi hj i _ (omega arith) (ended d i j hi hj).v0;
    v1 = λ i j d hi hj. at_end d i j hi hj (suc i) _ hi (ended d i j hi hj).v1;
  }

  pub walk_long : Long n (walk rule member n at xs)
  walk_long = reached_long (step_count n)
