-- The laws of `upto`: one turn more, equal turns, nested counts as one count, and a sweep over the places of a list.
-- Assumes nothing.
use Rattle.std.proofs.Common.{◌≡◌, ℕ, zero, suc, ◌+◌, ◌*◌, ◌<◌, ◌≤◌, ◌≢◌, List, get_or, refl, ap, ◌∙◌, add-zero, add-suc, suc-mul, zero-mul, add-one, arith}
use Rattle.elimination.specs.Table.{upto}

module _ {A : Type 0} where
  pub upto_none : (f : ℕ → A → A) (a : A) → upto 0 f a ≡ a
  unfolding upto
  upto_none f a = refl

  pub upto_suc : (m : ℕ) (f : ℕ → A → A) (a : A) → upto (suc m) f a ≡ f m (upto m f a)
  unfolding upto
  upto_suc m f a = refl

  pub upto_more : (m : ℕ) (f : ℕ → A → A) (a : A) → upto (m + 1) f a ≡ f m (upto m f a)
  upto_more m f a = rw add-one (upto_suc m f a)

  -- equal turns below m
  pub upto_same : (m : ℕ) (f g : ℕ → A → A) (a : A) → ((k : ℕ) (b : A) → k < m → f k b ≡ g k b) → upto m f a ≡ upto m g a
  unfolding upto
  upto_same zero f g a e = refl
  upto_same (suc m) f g a e =
      ap (f m) (upto_same m f g a (λ k b h. e k b (omega arith))) ∙ e m (upto m g a) (omega arith)

  -- what each turn keeps
  pub upto_keeps : (P : A → Type 0) (m : ℕ) (f : ℕ → A → A) (a : A) → P a → ((k : ℕ) (b : A) → k < m → P b → P (f k b)) → P (upto m f a)
  unfolding upto
  upto_keeps P zero f a start turn = start
  upto_keeps P (suc m) f a start turn =
      turn m (upto m f a) (omega arith) (upto_keeps P m f a start (λ k b h. turn k b (omega arith)))

  -- m turns, then l more
  pub upto_add : (m l : ℕ) (f : ℕ → A → A) (a : A) → upto (m + l) f a ≡ upto l (λ k. f (m + k)) (upto m f a)
  unfolding upto
  upto_add m zero f a = rw add-zero refl
  upto_add m (suc l) f a = rw add-suc (ap (f (m + l)) (upto_add m l f a))

  -- a count of a times b turns, as a count in a count
  pub upto_product : (a b : ℕ) (f : ℕ → A → A) (x : A) → upto (a * b) f x ≡ upto a (λ i. upto b (λ j. f (i * b + j))) x
  unfolding upto
  upto_product zero b f x = rw zero-mul refl
  upto_product (suc a) b f x =
      ap (λ m. upto m f x) (suc-mul a b) ∙ upto_add (a * b) b f x ∙ ap (upto b (λ j. f (a * b + j))) (upto_product a b f x)

-- A sweep: turn p changes no cell but the one at p. So each cell is as it was until its turn, and stays after it.
module _ {X : Type 0} (f : ℕ → List X → List X) (d : X) (only : (p q : ℕ) (ys : List X) → q ≢ p → get_or (f p ys) q d ≡ get_or ys q d) where
  pub sweep_ahead : (m q : ℕ) (xs : List X) → m ≤ q → get_or (upto m f xs) q d ≡ get_or xs q d
  unfolding upto
  sweep_ahead zero q xs h = refl
  sweep_ahead (suc m) q xs h = only m q (upto m f xs) (λ e. omega arith) ∙ sweep_ahead m q xs (omega arith)

  pub sweep_passed : (m l q : ℕ) (xs : List X) → q < m → get_or (upto (m + l) f xs) q d ≡ get_or (upto m f xs) q d
  unfolding upto
  sweep_passed m zero q xs h = rw add-zero refl
  sweep_passed m (suc l) q xs h = rw add-suc (only (m + l) q (upto (m + l) f xs) (λ e. omega arith) ∙ sweep_passed m l q xs h)
