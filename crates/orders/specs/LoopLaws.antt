-- The laws of the loop order: which step stands where, and that it is lawful. Assumes nothing.
use Rattle.std.specs.Prelude.{◌≡◌, ℕ, zero, suc, ◌+◌, ◌*◌, ◌/◌, ◌%◌, ◌<◌}
use Rattle.std.proofs.Common.{sym, ap, ◌∙◌, mul-pos, mul_assoc, arith}
use Rattle.std.proofs.Math.Nat.{div-div-eq-div-mul}
use Rattle.std.proofs.lemmas.Nat.{div-add-mod', div-mul-add, mod-mul-add, div_below, mod_below}
use Rattle.orders.specs.declared.step.Step.{Step}
use Rattle.orders.specs.Order.{step_count}
use Rattle.orders.specs.Lawful.{step_of, Within, Lawful}
use Rattle.orders.specs.LoopOrder.{loop_at}
use Rattle.orders.specs.Places.{row_before, place_below}

-- the number at which the loop over n sites works a step
abbrev pub loop_when : ℕ → Step → ℕ
loop_when n s = (s.k * n + s.i) * n + s.j

-- step (k * n + i) * n + j works cell (i, j) with pivot k
pub loop_occurs : (n i j k : ℕ) → i < n → j < n → loop_at n ((k * n + i) * n + j) ≡ step_of i j k
loop_occurs n i j k hi hj =
    let t = (k * n + i) * n + j in
    let high : t / n ≡ k * n + i = div-mul-add (k * n + i) n j hj in
    let row : t / n % n ≡ i = ap (λ x. x % n) high ∙ mod-mul-add k n i hi in
    let pivot : t / (n * n) ≡ k = sym (div-div-eq-div-mul t n n) ∙ ap (λ x. x / n) high ∙ div-mul-add k n i hi in
    rw (row, pivot, mod-mul-add (k * n + i) n j hj)

-- the number of step t is t
pub loop_once : (n t : ℕ) → loop_when n (loop_at n t) ≡ t
loop_once n t =
    ap (λ x. (x * n + t / n % n) * n + t % n) (sym (div-div-eq-div-mul t n n))
    ∙ ap (λ x. x * n + t % n) (div-add-mod' (t / n) n)
    ∙ div-add-mod' t n

-- a table with a step has a site
pub positive_from : (n t : ℕ) → t < step_count n → 0 < n
positive_from zero t h = omega arith
positive_from (suc n) t h = omega arith

-- the n³ numbers below step_count n name steps of the table
pub loop_inside : (n t : ℕ) → t < step_count n → Within n (loop_at n t)
loop_inside n t h =
    let positive : 0 < n = positive_from n t h in
    record {
      row = mod_below (t / n) n positive;
      column = mod_below t n positive;
      pivot = div_below t (n * n) n (mul-pos positive positive) (rw mul_assoc at h);
    }

-- its `when` is loop_when
unfoldable pub loop_lawful : (n : ℕ) → Lawful n (loop_at n)
loop_lawful n = record {
  when = loop_when n;
  inside = loop_inside n;
  below = λ s w. place_below _ (n * n) n _ (place_below _ n n _ w.pivot w.row) w.column;
  occurs = λ s w. loop_occurs n s.i s.j s.k w.row w.column;
  once = λ t _. loop_once n t;
  after_cell = λ i j k h w l. row_before _ _ n _ _ (row_before h k n i i l w.row) w.column;
  after_row = λ i j k h w l. row_before _ _ n _ _ (row_before h k n i i l w.row) w.pivot;
  after_column = λ i j k h w l. row_before _ _ n _ _ (row_before h k n k i l w.pivot) w.column;
  after_pivot = λ i j k h w l. row_before _ _ n _ _ (row_before h k n k i l w.pivot) w.pivot;
  after_row_done = λ i j k w l. omega arith;
  after_column_done = λ i j k w l. row_before _ _ n _ _ (omega arith) w.column;
  after_pivot_done_below = λ i j k w l. row_before _ _ n _ _ (omega arith) w.pivot;
  after_pivot_done_right = λ i j k w e l. rw e (omega arith);
}
