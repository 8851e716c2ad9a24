-- Grounds by their places: how many sites fit, cells put through a function of their place, and which cells stand where.
-- Assumes nothing.
use Rattle.std.proofs.Common.{◌≡◌, ℕ, zero, suc, ◌+◌, ◌-◌, ◌*◌, ◌/◌, ◌%◌, ◌^◌, ◌<◌, ◌≤◌, Bool, true, false, cond, ◌&&◌, leb, ◌≢◌, List, [], ◌∷◌, length, get_or, sym, refl, ap, ◌∙◌, le_of_suc-le-suc, not-suc-le-zero, add-zero, arith}
use Rattle.std.proofs.lemmas.Bool.{leb-true, and_parts}
use Rattle.elimination.specs.Table.{place}
use Rattle.elimination.proofs.Tables.{place_below, place_row, place_column}
use Rattle.paths.specs.Ground.{sites_on, route_place, by_place_from, by_place}

-- links and routes of all sites fit on the ground
pub sites_fit : (q cells : ℕ) → 2 * (sites_on q cells * sites_on q cells) ≤ cells
unfolding sites_on
sites_fit q cells =
    at (leb q 6 && leb (2 * (2 ^ q * 2 ^ q)) cells) (λ e. leb-true _ _ (and_parts (leb q 6) _ e).1)
  where
    at : (b : Bool) → (b ≡ true → 2 * (2 ^ q * 2 ^ q) ≤ cells) → 2 * (cond b (2 ^ q) 0 * cond b (2 ^ q) 0) ≤ cells
    at true h = h refl
    at false h = omega arith

-- a board with sites has as many as its exponent says
pub sites_power : (q cells i : ℕ) → i < sites_on q cells → sites_on q cells ≡ 2 ^ q
unfolding sites_on
sites_power q cells i = at (leb q 6 && leb (2 * (2 ^ q * 2 ^ q)) cells)
  where
    at : (b : Bool) → i < cond b (2 ^ q) 0 → cond b (2 ^ q) 0 ≡ 2 ^ q
    at true h = refl
    at false h = absurd (omega arith)

-- a link stands before all routes, and each cell of either has its own place
pub link_inside : (n i j cells : ℕ) → i < n → j < n → 2 * (n * n) ≤ cells → place n i j < cells
link_inside n i j cells hi hj fit = omega (arith, place_below n i j hi hj)

pub route_inside : (n i j cells : ℕ) → i < n → j < n → 2 * (n * n) ≤ cells → route_place n i j < cells
route_inside n i j cells hi hj fit = omega (arith, place_below n i j hi hj)

pub place_apart : (n i j a b : ℕ) → j < n → b < n → (i ≡ a → j ≡ b → ⊥) → place n i j ≢ place n a b
place_apart n i j a b hj hb apart e =
    apart
    (sym (place_row n i j hj) ∙ ap (λ p. p / n) e ∙ place_row n a b hb)
    (sym (place_column n i j hj) ∙ ap (λ p. p % n) e ∙ place_column n a b hb)

-- the place of a route among the routes
pub route_of : (n a b : ℕ) → route_place n a b - n * n ≡ place n a b
route_of n a b = omega arith

module _ {X : Type 0} where
  pub length-by_place_from : (p : ℕ) (f : ℕ → X → X) (xs : List X) → length (by_place_from p f xs) ≡ length xs
  unfolding by_place_from
  length-by_place_from p f [] = refl
  length-by_place_from p f (x ∷ xs) = ap suc (length-by_place_from (suc p) f xs)

  pub length-by_place : (f : ℕ → X → X) (xs : List X) → length (by_place f xs) ≡ length xs
  length-by_place f xs = length-by_place_from 0 f xs

  get_or-by_place_from : (p : ℕ) (f : ℕ → X → X) (xs : List X) (r : ℕ) (d : X) → r < length xs → get_or (by_place_from p f xs) r d ≡ f (p + r) (get_or xs r d)
  unfolding by_place_from
  get_or-by_place_from p f [] r d h = absurd (not-suc-le-zero h)
  get_or-by_place_from p f (x ∷ xs) zero d h = ap (λ m. f m x) (sym (add-zero p))
  get_or-by_place_from p f (x ∷ xs) (suc r) d h =
      get_or-by_place_from (suc p) f xs r d (le_of_suc-le-suc h) ∙ ap (λ m. f m (get_or xs r d)) (omega arith)

  pub get_or-by_place : (f : ℕ → X → X) (xs : List X) (r : ℕ) (d : X) → r < length xs → get_or (by_place f xs) r d ≡ f r (get_or xs r d)
  get_or-by_place f xs r d h = get_or-by_place_from 0 f xs r d h ∙ ap (λ m. f m (get_or xs r d)) (omega arith)
