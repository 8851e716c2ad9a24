-- The run in place by an order that lists the steps as the loop goes through them is the loop. Assumes nothing.
use Rattle.std.proofs.Common.{◌≡◌, ℕ, ◌+◌, ◌*◌, ◌<◌, Bool, List, ap, ◌∙◌}
use Rattle.orders.specs.declared.step.Step.{Step}
use Rattle.orders.specs.Lawful.{step_of}
use Rattle.elimination.specs.Table.{upto}
use Rattle.elimination.specs.Loop.{step_in_place, looped, loop_until, run_until, run_in_place}
use Rattle.elimination.proofs.Repeats.{upto_same, upto_product}

pub run_as_loop : {X : Type 0} (rule : X → X → X → X → X) (member : Step → Bool) (n : ℕ) (at : ℕ → Step)
    → ((k i j : ℕ) → k < n → i < n → j < n → at ((k * n + i) * n + j) ≡ step_of i j k) → (xs : List X)
    → run_in_place rule member n at xs ≡ looped rule member n xs
unfolding run_until loop_until
run_as_loop rule member n at listed xs =
    upto_product (n * n) n (λ t. step_in_place rule member n (at t)) xs
    ∙ upto_product n n (λ a. upto n (λ j. step_in_place rule member n (at (a * n + j)))) xs
    ∙ upto_same n _ _ xs
    (λ k ys hk. upto_same n _ _ ys
    (λ i zs hi. upto_same n _ _ zs
    (λ j cells hj. ap (λ s. step_in_place rule member n s cells) (listed k i j hk hi hj))))
