-- What follows from sizes that fit. Assumes nothing.
use Rattle.std.proofs.Common.{◌≡◌, ℕ, ◌*◌, ◌^◌, Bool, true, cond, leb, List, length, Ok, sym, ap, ◌∙◌, subst, arith}
use Rattle.std.proofs.lemmas.Bool.Decides.{nat_tests}
use Rattle.orders.specs.declared.step.Step.{Step}
use Rattle.orders.specs.Lawful.{Lawful}
use Rattle.orders.specs.LoopOrder.{loop_at}
use Rattle.orders.specs.LoopLaws.{loop_occurs}
use Rattle.orders.specs.Size.{exponent_answer}
use Rattle.elimination.specs.Loop.{looped}
use Rattle.elimination.specs.Walk.{Tables, walk, LeavesLoop}
use Rattle.elimination.proofs.LoopOrderIsLoop.{run_as_loop}
use Rattle.elimination.proofs.WalkIsLoop.{walk_leaves_loop}
use Rattle.runs.specs.Sizes.{fits, all_fit}
use Rattle.runs.specs.Results.{in_place_table, loop_table, careful_tables, WalkIsLoop, CarefulIsLoop}

pub table_fits : {X : Type 0} (n : ℕ) (T : Tables X) → all_fit n T ≡ true → length T.table ≡ n * n
table_fits n T h = grind (arith, nat_tests)

-- the exponent of an order that was made
pub made_exponent : (q e : ℕ) → Ok e ≡ exponent_answer q → (leb q 6 ≡ true) × (e ≡ q)
made_exponent q e made = (grind (arith, nat_tests), grind (arith, nat_tests))

-- where the tables fit, the walk by a lawful list of steps leaves the loop's tables
pub walk_is_loop : {X : Type 0} (rule : X → X → X → X → X) (member : Step → Bool) (q : ℕ) (T : Tables X) → WalkIsLoop rule member q T
walk_is_loop rule member q T fit at lawful = walk_leaves_loop rule member (2 ^ q) at lawful T.table (table_fits (2 ^ q) T fit)

-- and so do tables that are as the careful run leaves them
pub careful_is_loop : {X : Type 0} (rule : X → X → X → X → X) (member : Step → Bool) (q : ℕ) (at : ℕ → Step) (T U : Tables X) → Lawful (2 ^ q) at
    → U ≡ careful_tables rule member q at T → CarefulIsLoop rule member q T U
careful_is_loop rule member q at T U lawful left fit =
    let walked = left ∙ ap (λ b. cond b (walk rule member (2 ^ q) at T.table) T) fit in
    subst (LeavesLoop rule member (2 ^ q) T.table) (sym walked) (walk_is_loop rule member q T fit at lawful)

-- the run in place by the loop order, once its exponent is taken, is the loop
pub loop_by_order : {X : Type 0} (rule : X → X → X → X → X) (member : Step → Bool) (q e : ℕ) (xs ys : List X) → Ok e ≡ exponent_answer q
    → ys ≡ in_place_table rule member e (loop_at (2 ^ e)) xs → ys ≡ loop_table rule member q xs
loop_by_order rule member q e xs ys made left =
    let known = made_exponent q e made in
    let n = 2 ^ e in
    let is_loop = run_as_loop rule member n (loop_at n) (λ k i j _ hi hj. loop_occurs n i j k hi hj) xs in
    let at_exponent : ys ≡ cond (fits (2 ^ q) xs) (looped rule member (2 ^ q) xs) xs =
    left ∙ ap (λ zs. cond (fits n xs) zs xs) is_loop ∙ ap (λ p. cond (fits (2 ^ p) xs) (looped rule member (2 ^ p) xs) xs) known.1 in
    at_exponent ∙ sym (ap (λ b. cond b (cond (fits (2 ^ q) xs) (looped rule member (2 ^ q) xs) xs) xs) known.0)
