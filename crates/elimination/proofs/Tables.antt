-- The laws of `place` and `changed`. Assumes nothing.
use Rattle.std.proofs.Common.{◌≡◌, ℕ, zero, suc, ◌*◌, ◌/◌, ◌%◌, ◌<◌, ◌≢◌, List, [], ◌∷◌, length, get_or, set, refl, ap, le_of_suc-le-suc, not-suc-le-zero, arith}
use Rattle.std.proofs.lemmas.Nat.{div-mul-add, mod-mul-add}
use Rattle.orders.specs.Places.{place_below as below_rows, row_before}
use Rattle.elimination.specs.Table.{place, changed}

pub place_below : (n i j : ℕ) → i < n → j < n → place n i j < n * n
place_below n i j hi hj = below_rows i n n j hi hj

pub place_row : (n i j : ℕ) → j < n → place n i j / n ≡ i
place_row n i j h = div-mul-add i n j h

pub place_column : (n i j : ℕ) → j < n → place n i j % n ≡ j
place_column n i j h = mod-mul-add i n j h

-- cells stand row by row
pub place_in_row : (n i j k : ℕ) → j < k → place n i j < place n i k
place_in_row n i j k h = omega arith

pub place_in_earlier_row : (n i j a b : ℕ) → i < a → j < n → place n i j < place n a b
place_in_earlier_row n i j a b h hj = row_before i a n j b h hj

module _ {X : Type 0} where
  pub length-changed : (xs : List X) (p : ℕ) (f : X → X) → length (changed xs p f) ≡ length xs
  unfolding changed
  length-changed [] p f = refl
  length-changed (x ∷ xs) zero f = refl
  length-changed (x ∷ xs) (suc p) f = ap suc (length-changed xs p f)

  pub changed_is_set : (xs : List X) (p : ℕ) (f : X → X) (d : X) → changed xs p f ≡ set xs p (f (get_or xs p d))
  unfolding changed
  changed_is_set [] p f d = refl
  changed_is_set (x ∷ xs) zero f d = refl
  changed_is_set (x ∷ xs) (suc p) f d = ap (λ ys. x ∷ ys) (changed_is_set xs p f d)

  pub get_or-changed_same : (xs : List X) (p : ℕ) (f : X → X) (d : X) → p < length xs → get_or (changed xs p f) p d ≡ f (get_or xs p d)
  unfolding changed
  get_or-changed_same [] p f d h = absurd (not-suc-le-zero h)
  get_or-changed_same (x ∷ xs) zero f d h = refl
  get_or-changed_same (x ∷ xs) (suc p) f d h = get_or-changed_same xs p f d (le_of_suc-le-suc h)

  pub get_or-changed_other : (xs : List X) (p q : ℕ) (f : X → X) (d : X) → q ≢ p → get_or (changed xs p f) q d ≡ get_or xs q d
  unfolding changed
  get_or-changed_other [] p q f d ne = refl
  get_or-changed_other (x ∷ xs) zero zero f d ne = absurd (ne refl)
  get_or-changed_other (x ∷ xs) zero (suc q) f d ne = refl
  get_or-changed_other (x ∷ xs) (suc p) zero f d ne = refl
  get_or-changed_other (x ∷ xs) (suc p) (suc q) f d ne = get_or-changed_other xs p q f d (λ e. ne (ap suc e))
