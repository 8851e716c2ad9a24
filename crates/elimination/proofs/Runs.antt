-- The run in place and the walk, step by step. Assumes nothing.
use Rattle.std.proofs.Common.{◌≡◌, ℕ, ◌+◌, Bool, List}
use Rattle.orders.specs.declared.step.Step.{Step}
use Rattle.elimination.specs.Loop.{step_in_place, run_until}
use Rattle.elimination.specs.Walk.{copies, careful_step, walk_until}
use Rattle.elimination.proofs.Repeats.{upto_none, upto_more}

module _ {X : Type 0} (rule : X → X → X → X → X) (member : Step → Bool) (n : ℕ) (at : ℕ → Step) (xs : List X) where
  pub run_until_none : run_until rule member n at 0 xs ≡ xs
  unfolding run_until
  run_until_none = upto_none _ xs

  pub run_until_more : (t : ℕ) → run_until rule member n at (t + 1) xs ≡ step_in_place rule member n (at t) (run_until rule member n at t xs)
  unfolding run_until
  run_until_more t = upto_more t _ xs

  pub walk_until_none : walk_until rule member n at 0 xs ≡ copies xs
  unfolding walk_until
  walk_until_none = upto_none _ (copies xs)

  pub walk_until_more : (t : ℕ) → walk_until rule member n at (t + 1) xs ≡ careful_step rule member n (at t) (walk_until rule member n at t xs)
  unfolding walk_until
  walk_until_more t = upto_more t _ (copies xs)
