-- What each call of a board leaves in single links and routes, and in the length of the ground. Assumes nothing.
use Rattle.std.proofs.Common.{◌≡◌, ℕ, ◌+◌, ◌*◌, ◌%◌, ◌<◌, ◌≤◌, Bool, true, false, cond, not, ◌&&◌, eqb, ltb, ◌⊎◌, List, ◌++◌, length, get_or, take, drop, Ok, Err, Result, sym, refl, ap, ◌∙◌, subst, inl, inr, ⊎_elim, arith}
use Rattle.std.proofs.lemmas.List.{length-append, length-take-le, length-drop, get_or_append_left, get_or-append_right, get_or-take}
use Rattle.std.proofs.lemmas.Bool.{lt-ltb, cases_eq, cases_Bool, and_from, and_left, and_right, cond-true, cond-false}
use Rattle.faults.specs.declared.LinkFault.{LinkFault}
use Rattle.faults.specs.declared.LinkFault.TheVariants.{SiteOutside, SameSite, NoLink}
use Rattle.kinds.specs.Kind.{Ops}
use Rattle.orders.specs.declared.step.Step.{Step}
use Rattle.elimination.specs.Table.{place, changed}
use Rattle.elimination.specs.Loop.{run_in_place}
use Rattle.elimination.proofs.Tables.{place_below, place_row, place_column, length-changed, get_or-changed_same, get_or-changed_other}
use Rattle.paths.specs.Ground.{sites, link_at, route_at, route_place}
use Rattle.paths.specs.Calls.{Status, draft, settled, if_taken, diagonal, fresh, make_ground, pair_answer, join_link, meets, joined_route, joined_cell, join_routes, posted_ground, post_ground, link_answer, withdraw_answer, withdraw_ground, settled_ground, path_rule, relay_steps}
use Rattle.paths.specs.Told.{concerns}
use Rattle.paths.proofs.Places.{sites_fit, link_inside, route_inside, place_apart, route_of, length-by_place, get_or-by_place}
use Rattle.paths.proofs.JoinedCells.{joined_before, joined_at_route}
use Rattle.paths.proofs.TakenPairs.{takes, pair_taken, pair_refused, pair_known, concerns_it, concerns_other, concerns_untaken}

-- a link of which it is known whether the call is about it
which_link : (from to i j : ℕ) → ((from ≡ i) × (to ≡ j)) ⊎ (from ≡ i → to ≡ j → ⊥)
which_link from to i j =
    ⊎_elim
    (λ e. ⊎_elim (λ e'. inl (e, e')) (λ ne. inr (λ _ e'. ne e')) (cases_eq to j))
    (λ ne. inr (λ e _. ne e))
    (cases_eq from i)

module _ {V : Type 0} (o : Ops V) (q : ℕ) (xs : List V) where
  abbrev n : ℕ
  n = sites q xs

  fit : 2 * (n * n) ≤ length xs
  fit = sites_fit q (length xs)

  -- MAKE
  pub make_length : length (make_ground o q xs) ≡ length xs
  make_length = length-by_place (fresh o n) xs

  pub make_link : (i j : ℕ) → i < n → j < n → link_at o n (make_ground o q xs) i j ≡ cond (eqb i j) o.here o.none
  make_link i j hi hj =
      let p : ℕ = place n i j in
      let x : V = get_or xs p o.none in
      get_or-by_place (fresh o n) xs p o.none (link_inside n i j (length xs) hi hj fit)
      ∙ cond-true (ltb p (n * n)) (diagonal o n p) _ (lt-ltb p (n * n) (place_below n i j hi hj))
      ∙ ap (λ a. cond (eqb a (p % n)) o.here o.none) (place_row n i j hj)
      ∙ ap (λ b. cond (eqb i b) o.here o.none) (place_column n i j hj)

  -- one link put through f
  module _ (f : V → V) (from to : ℕ) (hf : from < n) (ht : to < n) where
    abbrev changed_ground : List V
    changed_ground = changed xs (place n from to) f

    changed_link : (i j : ℕ) → j < n → (c : Bool) → (from ≡ i → to ≡ j → c ≡ true) → ((from ≡ i → to ≡ j → ⊥) → c ≡ false)
        → link_at o n changed_ground i j ≡ cond c (f (link_at o n xs i j)) (link_at o n xs i j)
    changed_link i j hj c about elsewhere =
        ⊎_elim
        (λ (e : (from ≡ i) × (to ≡ j)).
        let here : link_at o n changed_ground from to ≡ f (link_at o n xs from to) =
        get_or-changed_same xs (place n from to) f o.none (link_inside n from to (length xs) hf ht fit) in
        let P : ℕ → ℕ → Type 0 = λ a b. link_at o n changed_ground a b ≡ f (link_at o n xs a b) in
        subst (λ a. P a j) e.0 (subst (P from) e.1 here) ∙ sym (cond-true c _ _ (about e.0 e.1)))
        (λ apart.
        get_or-changed_other xs (place n from to) (place n i j) f o.none (place_apart n i j from to hj ht (λ p r. apart (sym p) (sym r)))
        ∙ sym (cond-false c _ _ (elsewhere apart)))
        (which_link from to i j)

    changed_route : (a b : ℕ) → route_at o n changed_ground a b ≡ route_at o n xs a b
    changed_route a b =
        get_or-changed_other xs (place n from to) (route_place n a b) f o.none (λ e. omega (arith, place_below n from to hf ht))

  -- POST
  posted_length : (s : Status) (from to : ℕ) (v : V) → length (posted_ground o n s from to v xs) ≡ length xs
  posted_length draft from to v = length-changed xs (place n from to) (λ x. o.join x v)
  posted_length (settled word) from to v =
      length-by_place (joined_cell o n word from to v (join_link o n from to v xs)) (join_link o n from to v xs)
      ∙ length-changed xs (place n from to) (λ x. o.join x v)

  pub post_length : (s : Status) (from to : ℕ) (v : V) → length (post_ground o q s from to v xs) ≡ length xs
  post_length s from to v =
      elim (pair_answer n from to) as (λ r. length (if_taken r (posted_ground o n s from to v xs) xs) ≡ length xs)
      [ Ok u ↦ posted_length s from to v | Err e ↦ refl ]

  post_taken : (s : Status) (from to : ℕ) (v : V) → takes n from to ≡ true → post_ground o q s from to v xs ≡ posted_ground o n s from to v xs
  post_taken s from to v e = ap (λ r. if_taken r (posted_ground o n s from to v xs) xs) (pair_taken n from to e)

  pub post_refused : (s : Status) (from to : ℕ) (v : V) → takes n from to ≡ false → post_ground o q s from to v xs ≡ xs
  post_refused s from to v e = ap (λ r. if_taken r (posted_ground o n s from to v xs) xs) (pair_refused n from to (Ok tt) e).1

  -- the joining of routes leaves the links, and joins each route
  module _ (word from to : ℕ) (v : V) (zs : List V) (long : length zs ≡ length xs) where
    joined_link : (i j : ℕ) → i < n → j < n → link_at o n (join_routes o n word from to v zs) i j ≡ link_at o n zs i j
    joined_link i j hi hj =
        let p : ℕ = place n i j in
        get_or-by_place (joined_cell o n word from to v zs) zs p o.none (subst (λ m. p < m) (sym long) (link_inside n i j (length xs) hi hj fit))
        ∙ joined_before o n word from to v zs p _ (place_below n i j hi hj)

    joined_route_cell : (a b : ℕ) → a < n → b < n → route_at o n (join_routes o n word from to v zs) a b ≡ joined_route o n word from to v zs a b (route_at o n zs a b)
    joined_route_cell a b ha hb =
        let p : ℕ = route_place n a b in
        get_or-by_place (joined_cell o n word from to v zs) zs p o.none (subst (λ m. p < m) (sym long) (route_inside n a b (length xs) ha hb fit))
        ∙ joined_at_route o n word from to v zs a b _ ha hb

  posted_draft_link : (from to : ℕ) (v : V) → takes n from to ≡ true → (i j : ℕ) → j < n
      → link_at o n (join_link o n from to v xs) i j ≡ cond (concerns n from to i j) (o.join (link_at o n xs i j) v) (link_at o n xs i j)
  posted_draft_link from to v e i j hj =
      let pair = pair_known n from to e in
      changed_link (λ x. o.join x v) from to pair.from_below pair.to_below i j hj (concerns n from to i j) (concerns_it n from to i j e) (concerns_other n from to i j)

  posted_link : (s : Status) (from to : ℕ) (v : V) → takes n from to ≡ true → (i j : ℕ) → i < n → j < n
      → link_at o n (posted_ground o n s from to v xs) i j ≡ cond (concerns n from to i j) (o.join (link_at o n xs i j) v) (link_at o n xs i j)
  posted_link draft from to v e i j hi hj = posted_draft_link from to v e i j hj
  posted_link (settled word) from to v e i j hi hj =
      joined_link word from to v (join_link o n from to v xs) (length-changed xs (place n from to) (λ x. o.join x v)) i j hi hj
      ∙ posted_draft_link from to v e i j hj

  pub post_link : (s : Status) (from to : ℕ) (v : V) (i j : ℕ) → i < n → j < n
      → link_at o n (post_ground o q s from to v xs) i j ≡ cond (concerns n from to i j) (o.join (link_at o n xs i j) v) (link_at o n xs i j)
  post_link s from to v i j hi hj =
      ⊎_elim
      (λ e. ap (λ zs. link_at o n zs i j) (post_taken s from to v e) ∙ posted_link s from to v e i j hi hj)
      (λ e.
      ap (λ zs. link_at o n zs i j) (post_refused s from to v e)
      ∙ sym (cond-false (concerns n from to i j) _ _ (concerns_untaken n from to i j e)))
      (cases_Bool (takes n from to))

  pub post_route : (word from to : ℕ) (v : V) → takes n from to ≡ true → (a b : ℕ) → a < n → b < n
      → route_at o n (post_ground o q (settled word) from to v xs) a b ≡ joined_route o n word from to v xs a b (route_at o n xs a b)
  post_route word from to v e a b ha hb =
      let pair = pair_known n from to e in
      let zs : List V = join_link o n from to v xs in
      let same = changed_route (λ x. o.join x v) from to pair.from_below pair.to_below in
      ap (λ ys. route_at o n ys a b) (post_taken (settled word) from to v e)
      ∙ joined_route_cell word from to v zs (length-changed xs (place n from to) (λ x. o.join x v)) a b ha hb
      ∙ ap (λ x. cond (meets word from a && meets word to b) (o.join x (o.chain (o.chain (route_at o n zs a from) v) (route_at o n zs to b))) x) (same a b)
      ∙ ap (λ u. cond (meets word from a && meets word to b) (o.join (route_at o n xs a b) (o.chain (o.chain u v) (route_at o n zs to b))) (route_at o n xs a b)) (same a from)
      ∙ ap (λ u. cond (meets word from a && meets word to b) (o.join (route_at o n xs a b) (o.chain (o.chain (route_at o n xs a from) v) u)) (route_at o n xs a b)) (same to b)

  -- WITHDRAW
  pub withdraw_length : (from to : ℕ) → length (withdraw_ground o q from to xs) ≡ length xs
  withdraw_length from to =
      elim (withdraw_answer o q from to xs) as (λ r. length (if_taken r (changed xs (place n from to) (λ _. o.none)) xs) ≡ length xs)
      [ Ok u ↦ length-changed xs (place n from to) (λ _. o.none) | Err e ↦ refl ]

  withdraw_known : (from to : ℕ) → takes n from to ≡ true → withdraw_answer o q from to xs ≡ link_answer o (link_at o n xs from to)
  withdraw_known from to = at (ltb from n) (ltb to n) (eqb from to)
    where
      at : (x y z : Bool) → (x && y && not z) ≡ true
          → cond (x && y) (cond z (Err SameSite) (link_answer o (link_at o n xs from to))) (Err SiteOutside) ≡ link_answer o (link_at o n xs from to)
      at true true false e = refl
      at true true true e = let z : ◌≡◌ {A = ℕ} 0 1 = cc in absurd (omega arith)
      at true false z e = let z : ◌≡◌ {A = ℕ} 0 1 = cc in absurd (omega arith)
      at false y z e = let z : ◌≡◌ {A = ℕ} 0 1 = cc in absurd (omega arith)

  pub withdraw_link : (from to i j : ℕ) → i < n → j < n
      → link_at o n (withdraw_ground o q from to xs) i j ≡ cond (concerns n from to i j && not (o.same (link_at o n xs i j) o.none)) o.none (link_at o n xs i j)
  withdraw_link from to i j hi hj =
      ⊎_elim
      (λ (e : takes n from to ≡ true).
      let pair = pair_known n from to e in
      let left : Result (Unit {0}) LinkFault → V = λ r. link_at o n (if_taken r (changed xs (place n from to) (λ _. o.none)) xs) i j in
      ap left (withdraw_known from to e)
      ∙ ⊎_elim
      (λ (none : o.same (link_at o n xs from to) o.none ≡ true).
      ap (λ b. left (cond b (Err NoLink) (Ok tt))) none
      ∙ sym (cond-false _ _ _ (unlinked (link_at o n xs from to) refl none)))
      (λ (some : o.same (link_at o n xs from to) o.none ≡ false).
      ap (λ b. left (cond b (Err NoLink) (Ok tt))) some
      ∙ changed_link (λ _. o.none) from to pair.from_below pair.to_below i j hj (concerns n from to i j && not (o.same (link_at o n xs i j) o.none))
      (λ ei ej. and_from (concerns n from to i j) _ (concerns_it n from to i j e ei ej) (linked ei ej some))
      (λ apart. and_left (concerns n from to i j) _ (concerns_other n from to i j apart)))
      (cases_Bool (o.same (link_at o n xs from to) o.none)))
      (λ (e : takes n from to ≡ false).
      ap (λ r. link_at o n (if_taken r (changed xs (place n from to) (λ _. o.none)) xs) i j) (pair_refused n from to (link_answer o (link_at o n xs from to)) e).1
      ∙ sym (cond-false _ _ _ (and_left (concerns n from to i j) _ (concerns_untaken n from to i j e))))
      (cases_Bool (takes n from to))
    where
      linked : from ≡ i → to ≡ j → o.same (link_at o n xs from to) o.none ≡ false → not (o.same (link_at o n xs i j) o.none) ≡ true
      linked ei ej some =
          ap (λ a. not (o.same (link_at o n xs a j) o.none)) (sym ei) ∙ ap (λ b. not (o.same (link_at o n xs from b) o.none)) (sym ej) ∙ ap not some

      unlinked : (x : V) → x ≡ link_at o n xs from to → o.same x o.none ≡ true → (concerns n from to i j && not (o.same (link_at o n xs i j) o.none)) ≡ false
      unlinked x is none =
          ⊎_elim
          (λ (e : (from ≡ i) × (to ≡ j)).
          and_right (concerns n from to i j) _
          (ap (λ a. not (o.same (link_at o n xs a j) o.none)) (sym e.0) ∙ ap (λ b. not (o.same (link_at o n xs from b) o.none)) (sym e.1)
          ∙ ap (λ y. not (o.same y o.none)) (sym is) ∙ ap not none))
          (λ apart. and_left (concerns n from to i j) _ (concerns_other n from to i j apart))
          (which_link from to i j)

  -- SETTLE
  module _ (word : ℕ) (at : ℕ → Step) (run_long : length (run_in_place (path_rule o) (relay_steps word) n at (take (n * n) xs)) ≡ n * n) where
    abbrev links_part : List V
    links_part = take (n * n) xs

    abbrev routes_part : List V
    routes_part = run_in_place (path_rule o) (relay_steps word) n at (take (n * n) xs)

    links_long : length links_part ≡ n * n
    links_long = length-take-le (n * n) xs (omega (arith, fit))

    pub settle_length : length (settled_ground o n word at xs) ≡ length xs
    settle_length =
        length-append links_part _
        ∙ ap (λ m. length links_part + m) (length-append routes_part (drop (2 * (n * n)) xs))
        ∙ ap (λ m. length links_part + (length routes_part + m)) (length-drop (2 * (n * n)) xs)
        ∙ omega (arith, links_long, run_long, fit)

    pub settle_link : (i j : ℕ) → i < n → j < n → link_at o n (settled_ground o n word at xs) i j ≡ link_at o n xs i j
    settle_link i j hi hj =
        let below = place_below n i j hi hj in
        get_or_append_left links_part _ o.none (place n i j) (omega (arith, links_long, below))
        ∙ get_or-take (n * n) xs (place n i j) o.none below

    pub settle_route : (a b : ℕ) → a < n → b < n → route_at o n (settled_ground o n word at xs) a b ≡ get_or routes_part (place n a b) o.none
    settle_route a b ha hb =
        let below = place_below n a b ha hb in
        get_or-append_right links_part _ (n * n) (route_place n a b) o.none links_long (omega arith)
        ∙ ap (λ p. get_or (routes_part ++ drop (2 * (n * n)) xs) p o.none) (route_of n a b)
        ∙ get_or_append_left routes_part _ o.none (place n a b) (omega (arith, run_long, below))
