-- The run in place with the path rule leaves best distances, by every lawful order. Assumes the laws of a kind.
use Rattle.std.proofs.Common.{◌≡◌, ℕ, zero, suc, ◌*◌, ◌/◌, ◌%◌, ◌<◌, ◌≤◌, Bool, true, false, ◌≢◌, List, length, get_or, sym, ap, ◌∙◌, subst, ⊎_elim, arith}
use Rattle.std.proofs.lemmas.List.{get_or_default}
use Rattle.std.proofs.lemmas.Bool.{cases_eq, cases_order, cases_Bool}
use Rattle.kinds.specs.Kind.{Ops, Laws, Covers}
use Rattle.kinds.proofs.Order.{covering}
use Rattle.orders.specs.declared.step.Step.{Step}
use Rattle.orders.specs.Order.{step_count}
use Rattle.orders.specs.Lawful.{step_of, Within, Lawful}
use Rattle.elimination.specs.Table.{place, upto}
use Rattle.elimination.specs.Loop.{step_in_place, run_until, run_in_place}
use Rattle.elimination.proofs.Tables.{place_below, place_row, place_column}
use Rattle.elimination.proofs.Pivot.{length-step, step_here, step_elsewhere, step_outside}
use Rattle.paths.specs.Calls.{path_rule}
use Rattle.paths.proofs.Trails.{Trail, stay, hop, onward, Apart, Through, wider, cut}
use Rattle.paths.proofs.Sums.{Bounded, one, chain_grows, bounded_join, bounded_chain}
use Rattle.paths.proofs.Best.{Best}

module _ {V : Type 0} {o : Ops V} (laws : Laws o) (n : ℕ) (at : ℕ → Step) (lawful : Lawful n at)
    (member : Step → Bool) (via : ℕ → Type 0) (below : (h : ℕ) → via h → h < n)
    (worked : (s : Step) → s.k < n → via s.k → member s ≡ true) (relayed : (s : Step) → s.k < n → member s ≡ true → via s.k)
    (xs : List V) (long : length xs ≡ n * n) (home : (i : ℕ) → i < n → get_or xs (place n i i) o.none ≡ o.here) where
  abbrev cell : List V → ℕ → ℕ → V
  cell ys i j = get_or ys (place n i j) o.none

  abbrev link : ℕ → ℕ → V
  link = cell xs

  abbrev when : Step → ℕ
  when = lawful.when

  -- the relays h whose step with cell (i, j) stands before step number t
  abbrev Done : ℕ → ℕ → ℕ → ℕ → Type 0
  Done t i j h = via h × (when (step_of i j h) < t)

  -- before step number t, each cell covers the trails whose inner sites it has passed
  abbrev Covered : ℕ → List V → Type 0
  Covered t ys = (i j : ℕ) → i < n → j < n → (v : V) → Trail o link (Done t i j) i j v → Covers o (cell ys i j) v

  abbrev Sound : List V → Type 0
  Sound ys = (i j : ℕ) → i < n → j < n → Bounded o link via i j (cell ys i j)

  covered_start : Covered 0 xs
  covered_start i j hi hj v stay = subst (λ x. Covers o x o.here) (sym (home i hi)) ((covering laws).reflexive o.here)
  covered_start i j hi hj v (hop b) = (covering laws).reflexive (link i b)
  covered_start i j hi hj v (onward t p b) = absurd (omega (arith, p.1))

  sound_start : Sound xs
  sound_start i j hi hj = record { bound = link i j; sum = one (hop j); covers = (covering laws).reflexive (link i j) }

  -- one step
  module _ (t : ℕ) (ht : t < step_count n) (ys : List V) (long_ys : length ys ≡ n * n) where
    abbrev s : Step
    s = at t

    abbrev i : ℕ
    i = s.i

    abbrev j : ℕ
    j = s.j

    abbrev k : ℕ
    k = s.k

    abbrev ys' : List V
    ys' = step_in_place (path_rule o) member n s ys

    inside : Within n s
    inside = lawful.inside t ht

    now_at : when (step_of i j k) ≡ t
    now_at = lawful.once t ht

    in_table : (a b : ℕ) → a < n → b < n → place n a b < length ys
    in_table a b ha hb = subst (λ m. place n a b < m) (sym long_ys) (place_below n a b ha hb)

    -- the cell of the step, if it is worked
    own_worked : member s ≡ true → cell ys' i j ≡ o.join (cell ys i j) (o.chain (cell ys i k) (cell ys k j))
    own_worked e =
        let x : V = cell ys i j in
        let u = get_or_default ys (place n i k) x o.none (in_table i k inside.row inside.pivot) in
        let v = get_or_default ys (place n k j) x o.none (in_table k j inside.pivot inside.column) in
        step_here (path_rule o) member n s ys o.none (in_table i j inside.row inside.column) e ∙ cc

    own_left : member s ≡ false → cell ys' i j ≡ cell ys i j
    own_left e = ap (λ zs. cell zs i j) (step_outside (path_rule o) member n s ys e)

    other_left : (a b : ℕ) → b < n → (a ≡ i → b ≡ j → ⊥) → cell ys' a b ≡ cell ys a b
    other_left a b hb apart =
        step_elsewhere (path_rule o) member n s (place n a b) ys o.none
        (λ e. apart
        (sym (place_row n a b hb) ∙ ap (λ q. q / n) e ∙ place_row n i j inside.column)
        (sym (place_column n a b hb) ∙ ap (λ q. q % n) e ∙ place_column n i j inside.column))

    own_grows : Covers o (cell ys' i j) (cell ys i j)
    own_grows =
        let c = covering laws in
        ⊎_elim
        (λ e. subst (λ x. Covers o x (cell ys i j)) (sym (own_worked e)) (c.join_left _ _))
        (λ e. subst (λ x. Covers o x (cell ys i j)) (sym (own_left e)) (c.reflexive _))
        (cases_Bool (member s))

    -- a cell with a step at t is the cell of the step, and its pivot is k
    at_now : (a b h : ℕ) → Within n (step_of a b h) → when (step_of a b h) ≡ t → step_of a b h ≡ s
    at_now a b h w e = sym (lawful.occurs (step_of a b h) w) ∙ ap at e

    in_cell : (h : ℕ) → via h → Within n (step_of i j h)
    in_cell h p = record { row = inside.row; column = inside.column; pivot = below h p }

    -- the inner sites of the own cell that it passes by this step, other than k, are below k
    earlier : (h : ℕ) → Apart (Done (suc t) i j) k h → h < k
    earlier h p =
        ⊎_elim
        (λ e. absurd (p.1 e))
        (⊎_elim
        (λ less. less)
        (λ (more : k < h). absurd (omega (arith, p.0.1, lawful.after_cell i j h k (in_cell h p.0.0) more, now_at))))
        (cases_order h k)

    was_done : (h : ℕ) → Apart (Done (suc t) i j) k h → Done t i j h
    was_done h p = (p.0.0, omega (arith, lawful.after_cell i j k h inside (earlier h p), now_at))

    in_row : (h : ℕ) → Apart (Done (suc t) i j) k h → Done t i k h
    in_row h p = (p.0.0, omega (arith, lawful.after_row i j k h inside (earlier h p), now_at))

    in_column : (h : ℕ) → Apart (Done (suc t) i j) k h → Done t k j h
    in_column h p = (p.0.0, omega (arith, lawful.after_column i j k h inside (earlier h p), now_at))

    own_covers : Covered t ys → (v : V) → Trail o link (Done (suc t) i j) i j v → Covers o (cell ys' i j) v
    own_covers covered v trail =
        let c = covering laws in
        ⊎_elim
        (λ avoids. c.transitive _ _ _ own_grows (covered i j inside.row inside.column v (wider was_done avoids)))
        (λ (through : Through o link (Done (suc t) i j) i k j v).
        let u = covered i k inside.row inside.pivot through.first (wider in_row through.to_pivot) in
        let w = covered k j inside.pivot inside.column through.last (wider in_column through.from_pivot) in
        let passed = c.transitive _ _ _ (chain_grows laws _ _ _ _ u w) through.covered in
        subst (λ x. Covers o x v) (sym (own_worked (worked s inside.pivot through.pivot.0)))
        (c.transitive _ _ _ (c.join_right (cell ys i j) _) passed))
        (cut laws link (Done (suc t) i j) k trail)

    other_covers : Covered t ys → (a b : ℕ) → a < n → b < n → (a ≡ i → b ≡ j → ⊥) → (v : V) → Trail o link (Done (suc t) a b) a b v → Covers o (cell ys' a b) v
    other_covers covered a b ha hb apart v trail =
        let was : (h : ℕ) → Done (suc t) a b h → Done t a b h = λ h p.
        let w : Within n (step_of a b h) = record { row = ha; column = hb; pivot = below h p.0 } in
        let not_now : when (step_of a b h) ≢ t = λ e. let same = at_now a b h w e in apart (ap (λ r. r.i) same) (ap (λ r. r.j) same) in
        (p.0, omega (arith, p.1)) in
        subst (λ x. Covers o x v) (sym (other_left a b hb apart)) (covered a b ha hb v (wider was trail))

    covered_turn : Covered t ys → Covered (suc t) ys'
    covered_turn covered a b ha hb v trail =
        ⊎_elim
        (λ (ei : a ≡ i).
        ⊎_elim
        (λ (ej : b ≡ j).
        let P : ℕ → ℕ → Type 0 = λ a b. Trail o link (Done (suc t) a b) a b v → Covers o (cell ys' a b) v in
        subst (λ a'. P a' b) (sym ei) (subst (P i) (sym ej) (own_covers covered v)) trail)
        (λ nj. other_covers covered a b ha hb (λ _ ej. nj ej) v trail)
        (cases_eq b j))
        (λ ni. other_covers covered a b ha hb (λ ei _. ni ei) v trail)
        (cases_eq a i)

    own_sound : Sound ys → Bounded o link via i j (cell ys' i j)
    own_sound sound =
        let x = sound i j inside.row inside.column in
        ⊎_elim
        (λ e.
        let passed = bounded_chain laws link via k _ _ (relayed s inside.pivot e) (sound i k inside.row inside.pivot) (sound k j inside.pivot inside.column) in
        subst (Bounded o link via i j) (sym (own_worked e)) (bounded_join laws link via _ _ x passed))
        (λ e. subst (Bounded o link via i j) (sym (own_left e)) x)
        (cases_Bool (member s))

    sound_turn : Sound ys → Sound ys'
    sound_turn sound a b ha hb =
        let other : (a ≡ i → b ≡ j → ⊥) → Bounded o link via a b (cell ys' a b) = λ apart.
        subst (Bounded o link via a b) (sym (other_left a b hb apart)) (sound a b ha hb) in
        ⊎_elim
        (λ (ei : a ≡ i).
        ⊎_elim
        (λ (ej : b ≡ j).
        let P : ℕ → ℕ → Type 0 = λ a b. Bounded o link via a b (cell ys' a b) in
        subst (λ a'. P a' b) (sym ei) (subst (P i) (sym ej) (own_sound sound)))
        (λ nj. other (λ _ ej. nj ej))
        (cases_eq b j))
        (λ ni. other (λ ei _. ni ei))
        (cases_eq a i)

  -- the table before step number t
  abbrev reached : ℕ → List V
  reached t = run_until (path_rule o) member n at t xs

  reached_long : (t : ℕ) → length (reached t) ≡ n * n
  unfolding run_until upto
  reached_long zero = long
  reached_long (suc t) = length-step (path_rule o) member n (at t) (reached t) ∙ reached_long t

  reached_covered : (t : ℕ) → t ≤ step_count n → Covered t (reached t)
  unfolding run_until upto
  reached_covered zero h = covered_start
  reached_covered (suc t) h = covered_turn t h (reached t) (reached_long t) (reached_covered t (omega arith))

  reached_sound : (t : ℕ) → t ≤ step_count n → Sound (reached t)
  unfolding run_until upto
  reached_sound zero h = sound_start
  reached_sound (suc t) h = sound_turn t h (reached t) (reached_long t) (reached_sound t (omega arith))

  pub run_long : length (run_in_place (path_rule o) member n at xs) ≡ n * n
  run_long = reached_long (step_count n)

  pub run_best : Best o n link via (cell (run_in_place (path_rule o) member n at xs))
  run_best = record {
    complete = λ i j hi hj v trail.
        let all : (h : ℕ) → via h → Done (step_count n) i j h = λ h p.
        (p, lawful.below (step_of i j h) (record { row = hi; column = hj; pivot = below h p })) in
        reached_covered (step_count n) (omega arith) i j hi hj v (wider all trail);
    sound = reached_sound (step_count n) (omega arith);
  }
