-- The steps over relays run on the routes, and a ground without sites. Assumes nothing.
use Rattle.std.proofs.Common.{◌≡◌, ℕ, ◌-◌, ◌*◌, ◌^◌, ◌≤◌, Bool, List, ◌++◌, length, take, drop, sym, ap, ◌∙◌, arith}
use borrow.Rule.Slice.PartMut.{put_mid}
use Rattle.std.specs.List.{copy_within}
use Rattle.kinds.specs.Kind.{Ops}
use Rattle.orders.specs.declared.step.Step.{Step}
use Rattle.orders.specs.LoopOrder.{loop_at}
use Rattle.orders.specs.LoopLaws.{loop_occurs}
use Rattle.elimination.specs.Loop.{run_in_place}
use Rattle.elimination.proofs.LoopOrderIsLoop.{run_as_loop}
use Rattle.elimination.proofs.Runs.{run_until_none}
use Rattle.runs.specs.Results.{loop_table}
use Rattle.paths.specs.Ground.{sites_on}
use Rattle.paths.specs.Calls.{path_rule, relay_steps, order_taken, settled_ground, settle_ground}
use Rattle.ground.proofs.CopiedLinks.{copied, copied_is, routes_part, routes_written}

-- an order of another exponent is replaced by the loop order
pub loop_as_order : {X : Type 0} (rule : X → X → X → X → X) (member : Step → Bool) (q e : ℕ) (at : ℕ → Step) (xs : List X)
    → q ≤ 6 → length xs ≡ 2 ^ q * 2 ^ q → (e ≡ q → ⊥) → loop_table rule member q xs ≡ run_in_place rule member (2 ^ q) (order_taken q e at) xs
loop_as_order rule member q e at xs small sized other =
    let n : ℕ = 2 ^ q in
    grind (arith, run_as_loop rule member n (loop_at n) (λ k i j _ hi hj. loop_occurs n i j k hi hj) xs)

-- without sites nothing is run
pub settled_nowhere : {V : Type 0} (o : Ops V) (n word : ℕ) (at : ℕ → Step) (xs : List V) → n ≡ 0 → settled_ground o n word at xs ≡ xs
settled_nowhere o n word at xs e =
    ap (λ m. settled_ground o m word at xs) e
    ∙ ap (λ ys. take 0 xs ++ (ys ++ drop 0 xs)) (run_until_none (path_rule o) (relay_steps word) 0 at (take 0 xs))

-- the steps run on the part of the ground that holds the routes, once the links are copied there
pub settled_on_part : {V : Type 0} (o : Ops V) (q n word : ℕ) (at : ℕ → Step) (xs ys zs : List V) (room : 2 * (n * n) ≤ length xs) → n ≡ 2 ^ q
    → ys ≡ copied (n * n) xs
    → zs ≡ run_in_place (path_rule o) (relay_steps word) (2 ^ q) at (take (2 * (n * n) - n * n) (drop (n * n) ys))
    → put_mid (n * n) (2 * (n * n) - n * n) ys zs ≡ settled_ground o n word at xs
settled_on_part {V = V} o q n word at xs ys zs room power copies result =
    let m : ℕ = n * n in
    let part : List V → List V = λ ws. take (2 * m - m) (drop m ws) in
    let run : ℕ → List V → List V = λ k ws. run_in_place (path_rule o) (relay_steps word) k at ws in
    let ran : zs ≡ run n (take m xs) = result ∙ ap (λ k. run k (part ys)) (sym power) ∙ ap (λ ws. run n (part ws)) copies ∙ ap (run n) (routes_part m xs room) in
    ap (λ ws. put_mid m (2 * m - m) ws zs) copies
    ∙ routes_written m xs room zs
    ∙ ap (λ ws. take m xs ++ (ws ++ drop (2 * m) xs)) ran

-- both, by what a ground knows of its sites
module _ {V : Type 0} (o : Ops V) (q n word e : ℕ) (at : ℕ → Step) (xs : List V) (n_is : n ≡ sites_on q (length xs)) where
  abbrev taken : ℕ → Step
  taken = order_taken q e at

  pub settle_nowhere : n ≤ 0 → settle_ground o q word e at xs ≡ xs
  settle_nowhere none = settled_nowhere o (sites_on q (length xs)) word taken xs (omega arith)

  pub settle_on_copy : (ys zs : List V) → 2 * (n * n) ≤ length xs → n ≡ 2 ^ q → ys ≡ copied (n * n) xs
      → zs ≡ run_in_place (path_rule o) (relay_steps word) (2 ^ q) taken (take (2 * (n * n) - n * n) (drop (n * n) ys))
      → put_mid (n * n) (2 * (n * n) - n * n) ys zs ≡ settle_ground o q word e at xs
  settle_on_copy ys zs room power copies result =
      settled_on_part o q n word taken xs ys zs room power copies result ∙ ap (λ m. settled_ground o m word taken xs) n_is

  -- where the links are copied at once, as no code does now
  pub settle_on_part : (ys zs : List V) → 2 * (n * n) ≤ length xs → n ≡ 2 ^ q → ys ≡ copy_within xs 0 (n * n) (n * n)
      → zs ≡ run_in_place (path_rule o) (relay_steps word) (2 ^ q) taken (take (2 * (n * n) - n * n) (drop (n * n) ys))
      → put_mid (n * n) (2 * (n * n) - n * n) ys zs ≡ settle_ground o q word e at xs
  settle_on_part ys zs room power copies result = settle_on_copy ys zs room power (copies ∙ copied_is (n * n) xs) result
