-- One careful step keeps the invariant of the walk. Assumes that the order is lawful.
use Rattle.std.proofs.Common.{◌≡◌, ℕ, suc, ◌*◌, ◌/◌, ◌%◌, ◌<◌, ◌≤◌, min, Bool, true, false, cond, ◌&&◌, eqb, ltb, leb, ◌≢◌, List, length, get_or, sym, ap, ◌∙◌, subst, ⊎_elim, arith}
use Rattle.std.proofs.lemmas.Bool.{cases_eq, cases_order, cases_lt, cases_Bool, ltb-true, ltb-false, leb-true, leb-false, eqb-true, or_cases, and_parts}
use Rattle.orders.specs.declared.step.Step.{Step}
use Rattle.orders.specs.Order.{step_count}
use Rattle.orders.specs.Lawful.{step_of, Within, Lawful}
use Rattle.elimination.specs.Table.{place}
use Rattle.elimination.specs.Loop.{loop_until}
use Rattle.elimination.specs.Walk.{Tables, row_side, column_side, pivot_side, pivot_done, careful_value, careful_step}
use Rattle.elimination.proofs.Tables.{place_below, place_row, place_column, get_or-changed_same, length-changed}
use Rattle.elimination.proofs.Pivot.{pivot_outside, pivot_inside}
use Rattle.elimination.proofs.Sides.{copied_here, read_side, side_stored, side_left, Long, careful_outside, careful_inside, careful_elsewhere, worked}
use Rattle.elimination.proofs.Passing.{seen, Cell, Walked, settled}

-- what holds of each number below k and of k holds of each below suc k
one_more : (P : ℕ → Type 0) (k : ℕ) → ((h : ℕ) → h < k → P h) → P k → (h : ℕ) → h < suc k → P h
one_more P k below here h l =
    ⊎_elim
    (below h)
    (λ (e : k ≤ h). let same : k ≡ h = omega arith in subst P same here)
    (cases_lt h k)

module _ {X : Type 0} (rule : X → X → X → X → X) (member : Step → Bool) (n : ℕ) (at : ℕ → Step) (lawful : Lawful n at) (xs : List X) (d : X) (long : length xs ≡ n * n)
    (t : ℕ) (ht : t < step_count n) (T : Tables X) (longT : Long n T) (walked : Walked rule member n at lawful xs d long t T) where
  -- the step that is worked, its place and the three numbers
  abbrev s : Step
  s = at t

  abbrev i : ℕ
  i = s.i

  abbrev j : ℕ
  j = s.j

  abbrev k : ℕ
  k = s.k

  abbrev p : ℕ
  p = place n i j

  abbrev when : Step → ℕ
  when = lawful.when

  -- the loop's table, and its cell (a, b), after the pivots below m
  abbrev loop_cell : ℕ → ℕ → ℕ → X
  loop_cell = seen rule member n at lawful xs d long

  abbrev after : ℕ → List X
  after m = loop_until rule member n m xs

  inside : Within n s
  inside = lawful.inside t ht

  in_table : (a b : ℕ) (ys : List X) → a < n → b < n → length ys ≡ n * n → place n a b < length ys
  in_table a b ys ha hb e = subst (λ m. place n a b < m) (sym e) (place_below n a b ha hb)

  now_at : when (step_of i j k) ≡ t
  now_at = lawful.once t ht

  -- a step that stands before this one
  earlier_than : (r : Step) → when r < when (step_of i j k) → when r < t
  earlier_than r h = subst (λ m. when r < m) now_at h

  own : Cell rule member n at lawful xs d long t i j T
  own = walked i j inside.row inside.column

  own_level : own.level ≡ k
  own_level =
      ⊎_elim
      (λ e. e)
      (⊎_elim
      (λ (less : own.level < k).
      absurd (omega (arith, own.ahead own.level (omega arith) (omega (arith, inside.pivot)), lawful.after_cell i j k own.level inside less, now_at)))
      (λ (more : k < own.level). absurd (omega (arith, own.behind k more, now_at))))
      (cases_order own.level k)

  -- What the step reads from a side table is what the loop reads: `later` keeps cell (a, b) up to pivot k, `earlier` up to
  -- the pivots below k, and the cell's steps with those pivots stand before this one.
  reads : (a b : ℕ) (ha : a < n) (hb : b < n) (passed : Bool) (later earlier : List X) → length later ≡ n * n → length earlier ≡ n * n
      → get_or later (place n a b) d ≡ loop_cell a b (min (walked a b ha hb).level (suc k)) → get_or earlier (place n a b) d ≡ loop_cell a b (min (walked a b ha hb).level k)
      → ((h : ℕ) → h < k → when (step_of a b h) < when (step_of i j k)) → (passed ≡ true → when (step_of a b k) < when (step_of i j k))
      → (x : X) → get_or (cond passed later earlier) (place n a b) x ≡ get_or (cond passed (after (suc k)) (after k)) (place n a b) d
  reads a b ha hb passed later earlier long_later long_earlier kept_later kept_earlier below at_pivot x =
      let c = walked a b ha hb in
      let before : (h : ℕ) → h < k → when (step_of a b h) < t = λ h l. earlier_than (step_of a b h) (below h l) in
      let through : passed ≡ true → (h : ℕ) → h < suc k → when (step_of a b h) < t = λ e.
      one_more (λ h. when (step_of a b h) < t) k before (earlier_than (step_of a b k) (at_pivot e)) in
      read_side passed later earlier (after (suc k)) (after k) (place n a b) x d (in_table a b later ha hb long_later) (in_table a b earlier ha hb long_earlier)
      (λ e. settled rule member n at lawful xs d long t a b T c (suc k) _ inside.pivot (through e) kept_later)
      (λ _. settled rule member n at lawful xs d long t a b T c k _ (omega (arith, inside.pivot)) before kept_earlier)

  reads_row : (x : X) → get_or (row_side s T) (place n i k) x ≡ get_or (cond (ltb k j) (after (suc k)) (after k)) (place n i k) d
  reads_row =
      let c = walked i k inside.row inside.pivot in
      reads i k inside.row inside.pivot (ltb k j) T.u1 T.u0 longT.u1 longT.u0 c.u1 c.u0
      (λ h. lawful.after_row i j k h inside) (λ e. lawful.after_row_done i j k inside (ltb-true k j e))

  reads_column : (x : X) → get_or (column_side s T) (place n k j) x ≡ get_or (cond (ltb k i) (after (suc k)) (after k)) (place n k j) d
  reads_column =
      let c = walked k j inside.pivot inside.column in
      reads k j inside.pivot inside.column (ltb k i) T.v1 T.v0 longT.v1 longT.v0 c.v1 c.v0
      (λ h. lawful.after_column i j k h inside) (λ e. lawful.after_column_done i j k inside (ltb-true k i e))

  pivot_stands_before : pivot_done s ≡ true → when (step_of k k k) < when (step_of i j k)
  pivot_stands_before e =
      ⊎_elim
      (λ below. lawful.after_pivot_done_below i j k inside (ltb-true k i below))
      (λ right.
      let both = and_parts (eqb i k) (ltb k j) right in
      lawful.after_pivot_done_right i j k inside (eqb-true i k both.0) (ltb-true k j both.1))
      (or_cases (ltb k i) (eqb i k && ltb k j) e)

  reads_pivot : (x : X) → get_or (pivot_side s T) (place n k k) x ≡ get_or (cond (pivot_done s) (after (suc k)) (after k)) (place n k k) d
  reads_pivot =
      let c = walked k k inside.pivot inside.pivot in
      reads k k inside.pivot inside.pivot (pivot_done s) T.u1 T.u0 longT.u1 longT.u0 c.u1 c.u0
      (λ h. lawful.after_pivot i j k h inside) pivot_stands_before

  abbrev own_cell : ℕ → X
  own_cell = loop_cell i j

  -- so the cell becomes what the loop makes of it
  abbrev T' : Tables X
  T' = worked rule member n s T

  new_value : member s ≡ true → get_or T'.table p d ≡ own_cell (suc k)
  new_value e =
      let x : X = get_or T.table p d in
      let was : x ≡ get_or (after k) p d = own.table ∙ ap (own_cell) own_level in
      let u = reads_row x in
      let v = reads_column x in
      let w = reads_pivot x in
      let changes = get_or-changed_same T.table p (careful_value rule n s T) d (in_table i j T.table inside.row inside.column longT.table) in
      let loop = pivot_inside rule member n k xs d long i j inside.row inside.column inside.pivot e in
      changes ∙ cc

  abbrev Next : ℕ → ℕ → Tables X → Type 0
  Next a b U = Cell rule member n at lawful xs d long (suc t) a b U

  -- the cell of this step passes pivot k
  passes : (U : Tables X) → get_or U.table p d ≡ own_cell (suc k) → get_or U.u0 p d ≡ own_cell (min (suc k) j) → get_or U.u1 p d ≡ own_cell (min (suc k) (suc j))
      → get_or U.v0 p d ≡ own_cell (min (suc k) i) → get_or U.v1 p d ≡ own_cell (min (suc k) (suc i)) → Next i j U
  passes U table u0 u1 v0 v1 = record {
    level = suc k;
    most = inside.pivot;
    behind =
        one_more (λ h. when (step_of i j h) < suc t) k
        (λ h l. omega (arith, lawful.after_cell i j k h inside l, now_at))
        (omega (arith, now_at));
    ahead = λ h l below.
        omega (arith, lawful.after_cell i j h k (record { row = inside.row; column = inside.column; pivot = below }) l, now_at);
    table = table;
    u0 = u0;
    u1 = u1;
    v0 = v0;
    v1 = v1;
  }

  -- what the five tables had of the cell, at level k
  was : (θ : ℕ) (y : X) → y ≡ own_cell (min own.level θ) → y ≡ own_cell (min k θ)
  was θ y e = e ∙ ap (λ m. own_cell (min m θ)) own_level

  own_outside : member s ≡ false → Next i j T
  own_outside e =
      let same : own_cell (suc k) ≡ own_cell k = pivot_outside rule member n k xs d long i j inside.row inside.column e in
      passes T
      (own.table ∙ ap own_cell own_level ∙ sym same)
      (side_left own_cell j k _ same (was j _ own.u0))
      (side_left own_cell (suc j) k _ same (was (suc j) _ own.u1))
      (side_left own_cell i k _ same (was i _ own.v0))
      (side_left own_cell (suc i) k _ same (was (suc i) _ own.v1))

  own_inside : member s ≡ true → Next i j T'
  own_inside e =
      let new = new_value e in
      let stored : p < length T'.table =
      in_table i j T'.table inside.row inside.column (length-changed T.table p (careful_value rule n s T) ∙ longT.table) in
      let at_side : (ys : List X) → length ys ≡ n * n → p < length ys = λ ys. in_table i j ys inside.row inside.column in
      passes T' new
      (copied_here (ltb k j) T'.table p T.u0 d stored (at_side T.u0 longT.u0)
      ∙ side_stored own_cell j k (ltb k j) _ _ (ltb-true k j) (ltb-false k j) new (was j _ own.u0))
      (copied_here (leb k j) T'.table p T.u1 d stored (at_side T.u1 longT.u1)
      ∙ side_stored own_cell (suc j) k (leb k j) _ _ (λ e. omega (arith, leb-true k j e)) (λ e. omega (arith, leb-false k j e)) new (was (suc j) _ own.u1))
      (copied_here (ltb k i) T'.table p T.v0 d stored (at_side T.v0 longT.v0)
      ∙ side_stored own_cell i k (ltb k i) _ _ (ltb-true k i) (ltb-false k i) new (was i _ own.v0))
      (copied_here (leb k i) T'.table p T.v1 d stored (at_side T.v1 longT.v1)
      ∙ side_stored own_cell (suc i) k (leb k i) _ _ (λ e. omega (arith, leb-true k i e)) (λ e. omega (arith, leb-false k i e)) new (was (suc i) _ own.v1))

  own_after : Next i j (careful_step rule member n s T)
  own_after =
      ⊎_elim
      (λ e. subst (Next i j) (sym (careful_inside rule member n s T e)) (own_inside e))
      (λ e. subst (Next i j) (sym (careful_outside rule member n s T e)) (own_outside e))
      (cases_Bool (member s))

  -- any other cell is as it was, and no step of its own stands at t
  other_after : (a b : ℕ) → a < n → b < n → (a ≡ i → b ≡ j → ⊥) → Next a b (careful_step rule member n s T)
  other_after a b ha hb apart =
      let c = walked a b ha hb in
      let elsewhere : place n a b ≢ p = λ e.
      apart
      (sym (place_row n a b hb) ∙ ap (λ q. q / n) e ∙ place_row n i j inside.column)
      (sym (place_column n a b hb) ∙ ap (λ q. q % n) e ∙ place_column n i j inside.column) in
      let not_now : (h : ℕ) → h < n → when (step_of a b h) ≡ t → ⊥ = λ h l e.
      let same : step_of a b h ≡ s = sym (lawful.occurs (step_of a b h) (record { row = ha; column = hb; pivot = l })) ∙ ap at e in
      apart (ap (λ r. r.i) same) (ap (λ r. r.j) same) in
      let as_before = careful_elsewhere rule member n s (place n a b) d T elsewhere in
      record {
        level = c.level;
        most = c.most;
        behind = λ h l. omega (arith, c.behind h l);
        ahead = λ h l below. let ne = not_now h below in omega (arith, c.ahead h l below);
        table = as_before.table ∙ c.table;
        u0 = as_before.u0 ∙ c.u0;
        u1 = as_before.u1 ∙ c.u1;
        v0 = as_before.v0 ∙ c.v0;
        v1 = as_before.v1 ∙ c.v1;
      }

  pub walked_turn : Walked rule member n at lawful xs d long (suc t) (careful_step rule member n s T)
  walked_turn a b ha hb =
      ⊎_elim
      (λ (ei : a ≡ i).
      ⊎_elim
      (λ (ej : b ≡ j). subst (λ a'. Next a' b (careful_step rule member n s T)) (sym ei) (subst (λ b'. Next i b' (careful_step rule member n s T)) (sym ej) own_after))
      (λ nj. other_after a b ha hb (λ _ ej. nj ej))
      (cases_eq b j))
      (λ ni. other_after a b ha hb (λ ei _. ni ei))
      (cases_eq a i)
