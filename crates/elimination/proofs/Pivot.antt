-- One pivot of the loop as equations on single cells: what the loop has in cell (i, j) after pivot k, from what it has
-- before the pivot and, where it has already come by within the pivot, after it. Assumes nothing.
use Rattle.std.proofs.Common.{◌≡◌, ℕ, suc, ◌+◌, ◌-◌, ◌*◌, ◌/◌, ◌%◌, ◌<◌, ◌≤◌, Bool, true, false, cond, ◌&&◌, eqb, ltb, ◌≢◌, List, length, get_or, set, sym, refl, ap, ◌∙◌, subst, ⊎_elim, arith}
use Rattle.std.proofs.lemmas.Nat.{div-add-mod', mul-le}
use Rattle.std.proofs.lemmas.List.{get_or_default}
use Rattle.std.proofs.lemmas.Bool.{ltb-true, ltb-false, eqb-true, eqb-false, or_cases, or_parts, and_parts, and_cases}
use Rattle.orders.specs.declared.step.Step.{Step}
use Rattle.orders.specs.Lawful.{step_of}
use Rattle.elimination.specs.Table.{place, changed, upto}
use Rattle.elimination.specs.Loop.{value_in_place, step_in_place, loop_until}
use Rattle.elimination.specs.Walk.{pivot_done}
use Rattle.elimination.proofs.Tables.{place_below, place_row, place_column, place_in_row, place_in_earlier_row, length-changed, changed_is_set, get_or-changed_same, get_or-changed_other}
use Rattle.elimination.proofs.Repeats.{upto_none, upto_suc, upto_same, upto_keeps, upto_product, sweep_ahead, sweep_passed}

-- how the places of the cells that a step reads stand to the place of its own cell
pub row_passed : (n : ℕ) (s : Step) → ltb s.k s.j ≡ true → place n s.i s.k < place n s.i s.j
row_passed n s e = place_in_row n s.i s.k s.j (ltb-true s.k s.j e)

pub row_ahead : (n : ℕ) (s : Step) → ltb s.k s.j ≡ false → place n s.i s.j ≤ place n s.i s.k
row_ahead n s e = omega (arith, ltb-false s.k s.j e)

pub column_passed : (n : ℕ) (s : Step) → s.j < n → ltb s.k s.i ≡ true → place n s.k s.j < place n s.i s.j
column_passed n s hj e = place_in_earlier_row n s.k s.j s.i s.j (ltb-true s.k s.i e) hj

pub column_ahead : (n : ℕ) (s : Step) → ltb s.k s.i ≡ false → place n s.i s.j ≤ place n s.k s.j
column_ahead n s e = omega (arith, mul-le s.i n s.k n (ltb-false s.k s.i e) (omega arith))

pub pivot_passed : (n : ℕ) (s : Step) → s.k < n → pivot_done s ≡ true → place n s.k s.k < place n s.i s.j
pivot_passed n s hk e =
    ⊎_elim
    (λ below. place_in_earlier_row n s.k s.k s.i s.j (ltb-true s.k s.i below) hk)
    (λ right.
    let both = and_parts (eqb s.i s.k) (ltb s.k s.j) right in
    let same = eqb-true s.i s.k both.0 in
    subst (λ i. place n s.k s.k < place n i s.j) (sym same)
    (place_in_row n s.k s.k s.j (ltb-true s.k s.j both.1)))
    (or_cases (ltb s.k s.i) (eqb s.i s.k && ltb s.k s.j) e)

pub pivot_ahead : (n : ℕ) (s : Step) → s.j < n → pivot_done s ≡ false → place n s.i s.j ≤ place n s.k s.k
pivot_ahead n s hj e =
    let parts = or_parts (ltb s.k s.i) (eqb s.i s.k && ltb s.k s.j) e in
    let above : s.i ≤ s.k = ltb-false s.k s.i parts.0 in
    ⊎_elim
    (λ (other : eqb s.i s.k ≡ false).
    let apart = eqb-false s.i s.k other in
    omega (arith, place_in_earlier_row n s.i s.j s.k s.k (omega arith) hj))
    (λ (left : ltb s.k s.j ≡ false).
    omega (arith, mul-le s.i n s.k n above (omega arith), ltb-false s.k s.j left))
    (and_cases (eqb s.i s.k) (ltb s.k s.j) parts.1)

module _ {X : Type 0} (rule : X → X → X → X → X) (member : Step → Bool) (n : ℕ) where
  pub length-step : (s : Step) (xs : List X) → length (step_in_place rule member n s xs) ≡ length xs
  unfolding step_in_place
  length-step s xs =
      elim (member s) as (λ b. length (cond b (changed xs (place n s.i s.j) (value_in_place rule n s xs)) xs) ≡ length xs)
      [ true ↦ length-changed xs (place n s.i s.j) (value_in_place rule n s xs) | false ↦ refl ]

  pub length-loop_until : (m : ℕ) (xs : List X) → length (loop_until rule member n m xs) ≡ length xs
  unfolding loop_until
  length-loop_until m xs =
      let P : List X → Type 0 = λ ys. length ys ≡ length xs in
      upto_keeps P m _ xs refl
      (λ k ys _ h. upto_keeps P n _ ys h (λ i ys' _ h'. upto_keeps P n _ ys' h' (λ j zs _ e. length-step (step_of i j k) zs ∙ e)))

  pub loop_until_none : (xs : List X) → loop_until rule member n 0 xs ≡ xs
  unfolding loop_until
  loop_until_none xs = upto_none _ xs

  -- a step changes no cell but its own
  pub step_elsewhere : (s : Step) (q : ℕ) (xs : List X) (d : X) → q ≢ place n s.i s.j → get_or (step_in_place rule member n s xs) q d ≡ get_or xs q d
  unfolding step_in_place
  step_elsewhere s q xs d ne =
      elim (member s) as (λ b. get_or (cond b (changed xs (place n s.i s.j) (value_in_place rule n s xs)) xs) q d ≡ get_or xs q d)
      [ true ↦ get_or-changed_other xs (place n s.i s.j) q (value_in_place rule n s xs) d ne | false ↦ refl ]

  pub step_here : (s : Step) (xs : List X) (d : X) → place n s.i s.j < length xs → member s ≡ true
      → get_or (step_in_place rule member n s xs) (place n s.i s.j) d ≡ value_in_place rule n s xs (get_or xs (place n s.i s.j) d)
  unfolding step_in_place
  step_here s xs d h e = rw e (get_or-changed_same xs (place n s.i s.j) (value_in_place rule n s xs) d h)

  pub step_as_set : (s : Step) (xs : List X) (d : X) → member s ≡ true
      → step_in_place rule member n s xs ≡ set xs (place n s.i s.j) (value_in_place rule n s xs (get_or xs (place n s.i s.j) d))
  unfolding step_in_place
  step_as_set s xs d e = rw e (changed_is_set xs (place n s.i s.j) (value_in_place rule n s xs) d)

  pub step_outside : (s : Step) (xs : List X) → member s ≡ false → step_in_place rule member n s xs ≡ xs
  unfolding step_in_place
  step_outside s xs e = rw e refl

  -- pivot k as one sweep over the places of the table
  sweep : ℕ → ℕ → List X → List X
  sweep k p = step_in_place rule member n (step_of (p / n) (p % n) k)

  sweep_only : (k : ℕ) (d : X) (p q : ℕ) (ys : List X) → q ≢ p → get_or (sweep k p ys) q d ≡ get_or ys q d
  unfolding sweep
  sweep_only k d p q ys ne = step_elsewhere (step_of (p / n) (p % n) k) q ys d (λ e. ne (e ∙ div-add-mod' p n))

  sweep_at : (k i j : ℕ) (ys : List X) → j < n → sweep k (place n i j) ys ≡ step_in_place rule member n (step_of i j k) ys
  unfolding sweep
  sweep_at k i j ys h =
      ap (λ a. step_in_place rule member n (step_of a (place n i j % n) k) ys) (place_row n i j h)
      ∙ ap (λ b. step_in_place rule member n (step_of i b k) ys) (place_column n i j h)

  pivot_is_sweep : (k : ℕ) (xs : List X) → loop_until rule member n (suc k) xs ≡ upto (n * n) (sweep k) (loop_until rule member n k xs)
  unfolding loop_until
  pivot_is_sweep k xs =
      upto_suc k _ xs
      ∙ upto_same n _ _ _ (λ i ys _. upto_same n _ _ ys (λ j zs h. sym (sweep_at k i j zs h)))
      ∙ sym (upto_product n n (sweep k) _)

  -- the table within pivot k, before the place p
  module _ (k : ℕ) (xs : List X) (d : X) (long : length xs ≡ n * n) where
    abbrev before : List X
    before = loop_until rule member n k xs

    abbrev after : List X
    after = loop_until rule member n (suc k) xs

    within : ℕ → List X
    within p = upto p (sweep k) before

    within_ahead : (p r : ℕ) → p ≤ r → get_or (within p) r d ≡ get_or before r d
    unfolding within
    within_ahead p r h = sweep_ahead (sweep k) d (sweep_only k d) p r before h

    within_passed : (p r : ℕ) → p ≤ n * n → r < p → get_or (within p) r d ≡ get_or after r d
    unfolding within
    within_passed p r hp h =
        let l : ℕ = n * n - p in
        let all : p + l ≡ n * n = omega arith in
        sym (sweep_passed (sweep k) d (sweep_only k d) p l r before h)
        ∙ ap (λ m. get_or (upto m (sweep k) before) r d) all
        ∙ ap (λ ys. get_or ys r d) (sym (pivot_is_sweep k xs))

    within_long : (p : ℕ) → length (within p) ≡ n * n
    unfolding within sweep
    within_long p =
        let P : List X → Type 0 = λ ys. length ys ≡ n * n in
        upto_keeps P p (sweep k) before (length-loop_until k xs ∙ long) (λ q ys _ h. length-step (step_of (q / n) (q % n) k) ys ∙ h)

    -- a read within the pivot
    reads : (p r : ℕ) (b : Bool) (x : X) → p ≤ n * n → r < n * n → (b ≡ true → r < p) → (b ≡ false → p ≤ r) → get_or (within p) r x ≡ get_or (cond b after before) r d
    reads p r b x hp hr passed ahead =
        get_or_default (within p) r x d (subst (λ m. r < m) (sym (within_long p)) hr) ∙ at b passed ahead
      where
        at : (b : Bool) → (b ≡ true → r < p) → (b ≡ false → p ≤ r) → get_or (within p) r d ≡ get_or (cond b after before) r d
        at true passed ahead = within_passed p r hp (passed refl)
        at false passed ahead = within_ahead p r (ahead refl)

    -- the cell of step (i, j, k) before its turn and after it
    cell_here : (i j : ℕ) → i < n → j < n → get_or after (place n i j) d ≡ get_or (step_in_place rule member n (step_of i j k) (within (place n i j))) (place n i j) d
    unfolding within
    cell_here i j hi hj =
        let p : ℕ = place n i j in
        let inside : p < n * n = place_below n i j hi hj in
        sym (within_passed (suc p) p inside (omega arith))
        ∙ ap (λ ys. get_or ys p d) (upto_suc p (sweep k) before ∙ sweep_at k i j (within p) hj)

    pub pivot_outside : (i j : ℕ) → i < n → j < n → member (step_of i j k) ≡ false → get_or after (place n i j) d ≡ get_or before (place n i j) d
    pivot_outside i j hi hj e =
        cell_here i j hi hj
        ∙ ap (λ ys. get_or ys (place n i j) d) (step_outside (step_of i j k) (within (place n i j)) e)
        ∙ within_ahead (place n i j) (place n i j) (omega arith)

    pub pivot_inside : (i j : ℕ) → i < n → j < n → k < n → member (step_of i j k) ≡ true
        → get_or after (place n i j) d
        ≡ rule (get_or before (place n i j) d) (get_or (cond (ltb k j) after before) (place n i k) d) (get_or (cond (ltb k i) after before) (place n k j) d) (get_or (cond (pivot_done (step_of i j k)) after before) (place n k k) d)
    pivot_inside i j hi hj hk e =
        let s : Step = step_of i j k in
        let p : ℕ = place n i j in
        let inside : p < n * n = place_below n i j hi hj in
        let fits : p ≤ n * n = omega arith in
        let ys : List X = within p in
        let x : X = get_or ys p d in
        let own : x ≡ get_or before p d = within_ahead p p (omega arith) in
        let u = reads p (place n i k) (ltb k j) x fits (place_below n i k hi hk) (row_passed n s) (row_ahead n s) in
        let v = reads p (place n k j) (ltb k i) x fits (place_below n k j hk hj) (column_passed n s hj) (column_ahead n s) in
        let w = reads p (place n k k) (pivot_done s) x fits (place_below n k k hk hk) (pivot_passed n s hk) (pivot_ahead n s hj) in
        cell_here i j hi hj
        ∙ step_here s ys d (subst (λ m. p < m) (sym (within_long p)) inside) e
        ∙ cc
