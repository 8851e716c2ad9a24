-- The joining of routes, cell by cell: a route is joined and any other cell stays. Assumes nothing.
use Rattle.std.proofs.Common.{◌≡◌, ℕ, ◌-◌, ◌*◌, ◌/◌, ◌%◌, ◌<◌, ◌≤◌, ◌&&◌, ltb, leb, List, ap, ◌∙◌, arith}
use Rattle.std.proofs.lemmas.Bool.{lt-ltb, le-ltb, le-leb, lt-leb, and_from, and_left, and_right, cond-true, cond-false}
use Rattle.kinds.specs.Kind.{Ops}
use Rattle.elimination.proofs.Tables.{place_below, place_row, place_column}
use Rattle.paths.specs.Ground.{route_place}
use Rattle.paths.specs.Calls.{joined_route, joined_cell}
use Rattle.paths.proofs.Places.{route_of}

module _ {V : Type 0} (o : Ops V) (n word from to : ℕ) (v : V) (xs : List V) where
  abbrev cell : ℕ → V → V
  cell = joined_cell o n word from to v xs

  pub joined_before : (p : ℕ) (x : V) → p < n * n → cell p x ≡ x
  joined_before p x h = cond-false (leb (n * n) p && ltb p (2 * (n * n))) _ x (and_left (leb (n * n) p) _ (lt-leb (n * n) p h))

  pub joined_past : (p : ℕ) (x : V) → 2 * (n * n) ≤ p → cell p x ≡ x
  joined_past p x h = cond-false (leb (n * n) p && ltb p (2 * (n * n))) _ x (and_right (leb (n * n) p) _ (le-ltb p (2 * (n * n)) h))

  pub joined_at_route : (a b : ℕ) (x : V) → a < n → b < n → cell (route_place n a b) x ≡ joined_route o n word from to v xs a b x
  joined_at_route a b x ha hb =
      let p : ℕ = route_place n a b in
      let below = place_below n a b ha hb in
      let row : (p - n * n) / n ≡ a = ap (λ r. r / n) (route_of n a b) ∙ place_row n a b hb in
      let column : (p - n * n) % n ≡ b = ap (λ r. r % n) (route_of n a b) ∙ place_column n a b hb in
      cond-true (leb (n * n) p && ltb p (2 * (n * n))) _ x (and_from (leb (n * n) p) _ (le-leb (n * n) p (omega arith)) (lt-ltb p (2 * (n * n)) (omega arith)))
      ∙ ap (λ r. joined_route o n word from to v xs r ((p - n * n) % n) x) row
      ∙ ap (λ c. joined_route o n word from to v xs a c x) column
