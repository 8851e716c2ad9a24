-- Blocks in one order, and the steps inside each block in another: with the pivots first outside, the whole is as good as the inside. Assumes nothing.
use Rattle.std.proofs.Math.Path.{ap}
use Rattle.std.specs.Prelude.{ℕ, ◌*◌, ◌/◌, ◌%◌, ◌<◌}
use Rattle.std.proofs.Math.Nat.{le_of_eq}
use Rattle.orders.specs.declared.step.Step.{Step}
use Rattle.orders.specs.Lawful.{step_of, Lawful}
use Rattle.orders.specs.PivotsFirst.{PivotsFirst, nested}
use Rattle.orders.specs.PivotsFirstLawful.{row_not_later, column_not_later, pivot_not_later, lawful_from_pivots_first}
use Rattle.orders.specs.Blocks.{nested_when, Listing, listing_nested, within_block, within_offset, earlier_by_less, earlier_by_other}

listed_first : {n : ℕ} {at : ℕ → Step} (o : PivotsFirst n at) → Listing n at o.when
listed_first o = record { inside = o.inside; below = o.below; occurs = o.occurs; once = o.once }

listed_lawful : {n : ℕ} {at : ℕ → Step} (o : Lawful n at) → Listing n at o.when
listed_lawful o = record { inside = o.inside; below = o.below; occurs = o.occurs; once = o.once }

module _ {a b : ℕ} {outer inner : ℕ → Step} (positive : 0 < b) (o : PivotsFirst a outer) where
  -- both orders have the pivots first
  pub pivots_first_nested : PivotsFirst b inner → PivotsFirst (a * b) (nested b outer inner)
  pivots_first_nested i =
      let list = listing_nested a b positive (listed_first o) (listed_first i) in
      let less = earlier_by_less b positive o.when i.when i.below in
      let other = earlier_by_other b positive o.when i.when i.below in
      let in_block = within_block a b positive in
      let in_offset = within_offset a b positive in
      record {
        when = nested_when b o.when i.when;
        inside = list.inside;
        below = list.below;
        occurs = list.occurs;
        once = list.once;
        cell = λ x y k h w l.
            less (step_of x y h) (step_of x y k) h k l (o.cell _ _ _ _ (in_block _ w)) (λ e. le_of_eq (ap (λ z. o.when (step_of (x / b) (y / b) z)) e)) (i.cell _ _ _ _ (in_offset _));
        row_first = λ x y k w ne.
            other (step_of x k k) (step_of x y k) y k ne (o.row_first _ _ _ (in_block _ w)) (row_not_later o _ _ _ (in_block _ w)) (i.row_first _ _ _ (in_offset _));
        column_first = λ x y k w ne.
            other (step_of k y k) (step_of x y k) x k ne (o.column_first _ _ _ (in_block _ w)) (column_not_later o _ _ _ (in_block _ w)) (i.column_first _ _ _ (in_offset _));
      }

  -- the outer order has the pivots first, and the inner one is merely lawful
  pub lawful_nested : Lawful b inner → Lawful (a * b) (nested b outer inner)
  unfolding lawful_from_pivots_first
  lawful_nested i =
      let list = listing_nested a b positive (listed_first o) (listed_lawful i) in
      let less = earlier_by_less b positive o.when i.when i.below in
      let in_block = within_block a b positive in
      let in_offset = within_offset a b positive in
      let ol = lawful_from_pivots_first o in
      record {
        when = nested_when b o.when i.when;
        inside = list.inside;
        below = list.below;
        occurs = list.occurs;
        once = list.once;
        after_cell = λ x y k h w l.
            less (step_of x y h) (step_of x y k) h k l (o.cell _ _ _ _ (in_block _ w)) (λ e. le_of_eq (ap (λ z. o.when (step_of (x / b) (y / b) z)) e)) (i.after_cell _ _ _ _ (in_offset _));
        after_row = λ x y k h w l.
            less (step_of x k h) (step_of x y k) h k l (ol.after_row _ _ _ _ (in_block _ w)) (λ e. rw e (row_not_later o _ _ _ (in_block _ w))) (i.after_row _ _ _ _ (in_offset _));
        after_column = λ x y k h w l.
            less (step_of k y h) (step_of x y k) h k l (ol.after_column _ _ _ _ (in_block _ w)) (λ e. rw e (column_not_later o _ _ _ (in_block _ w))) (i.after_column _ _ _ _ (in_offset _));
        after_pivot = λ x y k h w l.
            less (step_of k k h) (step_of x y k) h k l (ol.after_pivot _ _ _ _ (in_block _ w)) (λ e. rw e (pivot_not_later o _ _ _ (in_block _ w))) (i.after_pivot _ _ _ _ (in_offset _));
        after_row_done = λ x y k w l.
            less (step_of x k k) (step_of x y k) k y l (ol.after_row_done _ _ _ (in_block _ w)) (λ _. row_not_later o _ _ _ (in_block _ w)) (i.after_row_done _ _ _ (in_offset _));
        after_column_done = λ x y k w l.
            less (step_of k y k) (step_of x y k) k x l (ol.after_column_done _ _ _ (in_block _ w)) (λ _. column_not_later o _ _ _ (in_block _ w)) (i.after_column_done _ _ _ (in_offset _));
        after_pivot_done_below = λ x y k w l.
            less (step_of k k k) (step_of x y k) k x l (ol.after_pivot_done_below _ _ _ (in_block _ w)) (λ _. pivot_not_later o _ _ _ (in_block _ w)) (i.after_pivot_done_below _ _ _ (in_offset _));
        after_pivot_done_right = λ x y k w e l.
            let block_same = ap (λ z. z / b) e in
            let offset_same = ap (λ z. z % b) e in
            less (step_of k k k) (step_of x y k) k y l (ol.after_pivot_done_right _ _ _ (in_block _ w) block_same) (λ _. pivot_not_later o _ _ _ (in_block _ w)) (i.after_pivot_done_right _ _ _ (in_offset _) offset_same);
      }
