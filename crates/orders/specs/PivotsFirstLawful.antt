-- An order with the pivots first is lawful. Assumes nothing.
use Rattle.std.specs.Prelude.{◌≡◌, ℕ, ◌≤◌, ◌≢◌}
use Rattle.std.proofs.Common.{sym, ap, ⊎_elim, arith, le_of_eq, le_of_lt, le_trans}
use Rattle.std.proofs.lemmas.Bool.{cases_eq}
use Rattle.orders.specs.declared.step.Step.{Step}
use Rattle.orders.specs.Lawful.{step_of, Within, Lawful}
use Rattle.orders.specs.PivotsFirst.{PivotsFirst}
use Rattle.orders.specs.Steps.{in_row, in_column, at_pivot}

module _ {n : ℕ} {at : ℕ → Step} (first : PivotsFirst n at) where
  -- the pivot's column is never later
  pub row_not_later : (i j k : ℕ) → Within n (step_of i j k) → first.when (step_of i k k) ≤ first.when (step_of i j k)
  row_not_later i j k w =
      ⊎_elim (λ (e : j ≡ k). le_of_eq (ap (λ x. first.when (step_of i x k)) (sym e)))
      (λ (ne : j ≢ k). le_of_lt (first.row_first i j k w ne)) (cases_eq j k)

  -- the pivot's row is never later
  pub column_not_later : (i j k : ℕ) → Within n (step_of i j k) → first.when (step_of k j k) ≤ first.when (step_of i j k)
  column_not_later i j k w =
      ⊎_elim (λ (e : i ≡ k). le_of_eq (ap (λ x. first.when (step_of x j k)) (sym e)))
      (λ (ne : i ≢ k). le_of_lt (first.column_first i j k w ne)) (cases_eq i k)

  -- the pivot's own cell is never later
  pub pivot_not_later : (i j k : ℕ) → Within n (step_of i j k) → first.when (step_of k k k) ≤ first.when (step_of i j k)
  pivot_not_later i j k w = le_trans (column_not_later i k k (in_row i j k w)) (row_not_later i j k w)

  unfoldable pub lawful_from_pivots_first : Lawful n at
  lawful_from_pivots_first = record {
    when = first.when;
    inside = first.inside;
    below = first.below;
    occurs = first.occurs;
    once = first.once;
    after_cell = first.cell;
    after_row = λ i j k h w l. omega (arith, first.cell i k k h (in_row i j k w) l, row_not_later i j k w);
    after_column = λ i j k h w l. omega (arith, first.cell k j k h (in_column i j k w) l, column_not_later i j k w);
    after_pivot = λ i j k h w l. omega (arith, first.cell k k k h (at_pivot i j k w) l, pivot_not_later i j k w);
    after_row_done = λ i j k w l. first.row_first i j k w (λ e. omega arith);
    after_column_done = λ i j k w l. first.column_first i j k w (λ e. omega arith);
    after_pivot_done_below = λ i j k w l. omega (arith, first.column_first i k k (in_row i j k w) (λ e. omega arith), row_not_later i j k w);
    after_pivot_done_right = λ i j k w e l. omega (arith, column_not_later i k k (in_row i j k w), first.row_first i j k w (λ e. omega arith));
  }
