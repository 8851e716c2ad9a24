-- The routes of a board joined in place one after another, which leaves what the joins from the old routes leave: the
-- routes that are read never change. Assumes the laws of kinds.
use Rattle.std.proofs.Common.{◌≡◌, ℕ, ◌+◌, ◌*◌, ◌/◌, ◌%◌, ◌<◌, ◌≤◌, Bool, true, false, cond, ◌&&◌, List, length, get_or, set, sym, refl, ap, ◌∙◌, arith}
use Rattle.std.proofs.lemmas.List.{set-get_or}
use Rattle.kinds.specs.Kind.{Ops, Laws}
use Rattle.kinds.proofs.Order.{join_chained_right, join_chained_left}
use Rattle.elimination.proofs.WalkIsLoop.{cell_of_place}
use Rattle.paths.specs.Ground.{route_place, route_at}
use Rattle.paths.specs.Calls.{meets, joined_cell, join_routes}
use Rattle.paths.proofs.JoinedCells.{joined_before, joined_past, joined_at_route}
use Rattle.paths.proofs.Places.{route_inside}
use Rattle.ground.specs.Cells.{Pair, join_route}
use Rattle.ground.proofs.Until.{until, until_passed, until_ahead, until_more, until_idle, until_all}

-- the sites of the route at place p
pub pair_at : (n p : ℕ) → p < n * n → Pair n (p / n) (p % n)
pair_at n p h = let at = cell_of_place n p h in record { first = at.0; second = at.1 }

module _ {V : Type 0} (o : Ops V) (n word from to : ℕ) (v : V) (xs : List V) where
  -- the cell at a place, joined from the old routes
  abbrev cell : ℕ → V → V
  cell = joined_cell o n word from to v xs

  -- the ground with the first p routes joined
  abbrev pub joined_until : ℕ → List V
  joined_until p = until cell xs (n * n + p)

  pub joined_none : joined_until 0 ≡ xs
  joined_none = ap (until cell xs) (let e : n * n + 0 ≡ n * n = omega arith in e) ∙ until_idle cell xs (n * n) (joined_before o n word from to v xs)

  pub joined_all : (p : ℕ) → p ≡ n * n → joined_until p ≡ join_routes o n word from to v xs
  joined_all p all = ap (until cell xs) (let e : n * n + p ≡ 2 * (n * n) = omega arith in e) ∙ until_all cell xs (2 * (n * n)) (joined_past o n word from to v xs)

  module _ (k : Laws o) (room : 2 * (n * n) ≤ length xs) (hf : from < n) (ht : to < n) where
    either : (t : Bool) (x y : V) → y ≡ x → cond t y x ≡ x
    either true x y e = e
    either false x y e = refl

    -- the routes to `from` and the routes from `to` are joined with what they cover
    same_first : (a : ℕ) → a < n → cell (route_place n a from) (route_at o n xs a from) ≡ route_at o n xs a from
    same_first a ha =
        let x : V = route_at o n xs a from in
        let w : V = route_at o n xs to from in
        joined_at_route o n word from to v xs a from x ha hf
        ∙ either (meets word from a && meets word to from) x (o.join x (o.chain (o.chain x v) w))
        (ap (o.join x) (k.chain_assoc x v w) ∙ join_chained_right k x (o.chain v w))

    same_last : (b : ℕ) → b < n → cell (route_place n to b) (route_at o n xs to b) ≡ route_at o n xs to b
    same_last b hb =
        let x : V = route_at o n xs to b in
        let u : V = route_at o n xs to from in
        joined_at_route o n word from to v xs to b x ht hb
        ∙ either (meets word from to && meets word to b) x (o.join x (o.chain (o.chain u v) x)) (join_chained_left k (o.chain u v) x)

    inside : (a b : ℕ) → a < n → b < n → route_place n a b < length xs
    inside a b ha hb = route_inside n a b (length xs) ha hb room

    -- so they are as they were, however far the joins have come
    kept : (m a b : ℕ) → a < n → b < n → cell (route_place n a b) (route_at o n xs a b) ≡ route_at o n xs a b → route_at o n (until cell xs m) a b ≡ route_at o n xs a b
    kept m a b ha hb same =
        let here : route_place n a b < length xs = inside a b ha hb in
        grind (arith, until_passed, until_ahead)

    -- one route more
    pub joined_more : (p : ℕ) → p < n * n → joined_until (p + 1) ≡ join_route o n word from to v (p / n) (p % n) (joined_until p)
    joined_more p h =
        let a : ℕ = p / n in
        let b : ℕ = p % n in
        let c = cell_of_place n p h in
        let ys : List V = joined_until p in
        let here : n * n + p ≡ route_place n a b = ap (λ q. n * n + q) (sym c.2) in
        let own : route_at o n ys a b ≡ route_at o n xs a b = until_ahead cell xs (n * n + p) (route_place n a b) o.none (inside a b c.0 c.1) (omega (arith, here)) in
        let first : route_at o n ys a from ≡ route_at o n xs a from = kept (n * n + p) a from c.0 hf (same_first a c.0) in
        let last : route_at o n ys to b ≡ route_at o n xs to b = kept (n * n + p) to b ht c.1 (same_last b c.1) in
        let step : until cell xs (n * n + p + 1) ≡ set ys (n * n + p) (cell (n * n + p) (get_or xs (n * n + p) o.none)) = until_more cell xs (n * n + p) o.none (omega (arith, inside a b c.0 c.1, here)) in
        ap (until cell xs) (let e : n * n + (p + 1) ≡ n * n + p + 1 = omega arith in e)
        ∙ step
        ∙ ap (λ q. set ys q (cell q (get_or xs q o.none))) here
        ∙ ap (set ys (route_place n a b)) (joined_at_route o n word from to v xs a b (route_at o n xs a b) c.0 c.1)
        ∙ at (meets word from a && meets word to b) ys (route_place n a b) (route_at o n xs a b) (route_at o n ys a b) own
        (o.chain (o.chain (route_at o n xs a from) v) (route_at o n xs to b)) (o.chain (o.chain (route_at o n ys a from) v) (route_at o n ys to b))
        (cc) (set-get_or ys (route_place n a b) o.none)
      where
        at : (t : Bool) (ys : List V) (r : ℕ) (x y : V) → y ≡ x → (z w : V) → w ≡ z → set ys r y ≡ ys
            → set ys r (cond t (o.join x z) x) ≡ cond t (set ys r (o.join y w)) ys
        at true ys r x y e z w f g = cc
        at false ys r x y e z w f g = ap (set ys r) (sym e) ∙ g
