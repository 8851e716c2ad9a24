-- The cells of a board as a making lays them. Assumes nothing.
use Rattle.std.proofs.Common.{◌≡◌, ℕ, ◌+◌, ◌*◌, ◌<◌, ◌≤◌, List, ◌++◌, length, get_or, take, drop, set, ap, ◌∙◌, arith}
use Rattle.std.proofs.lemmas.List.{same_lists, length-append, length-drop, length-take-le, get_or-drop, get_or_append_left, get_or-append_right}
use Rattle.kinds.specs.Kind.{Ops}
use Rattle.paths.specs.Ground.{sites_on, by_place}
use Rattle.paths.specs.Calls.{fresh, make_ground}
use Rattle.paths.proofs.Places.{length-by_place, get_or-by_place}
use Rattle.ground.specs.Cells.{fresh_cell}
use Rattle.ground.proofs.Until.{until, until_more, until_idle, until_all}

module _ {V : Type 0} (o : Ops V) (n : ℕ) where
  abbrev m : ℕ
  m = 2 * (n * n)

  fresh_inside : (p : ℕ) (x : V) → p < m → fresh o n p x ≡ fresh_cell o n p
  fresh_inside p x h = grind arith

  fresh_past : (p : ℕ) (x : V) → m ≤ p → fresh o n p x ≡ x
  fresh_past p x h = grind arith

  -- the cells of the two tables laid, before later cells that stay
  cells_laid : (xs ys : List V) → m ≤ length xs → length ys ≡ m → ((k : ℕ) (d : V) → k < m → get_or ys k d ≡ fresh_cell o n k) → ys ++ drop m xs ≡ by_place (fresh o n) xs
  cells_laid xs ys room sized each =
      same_lists _ _ (omega (arith, length-append ys (drop m xs), length-drop m xs, length-by_place (fresh o n) xs)) (λ k d h.
      grind (arith, fresh_inside, fresh_past, get_or-by_place, get_or_append_left, get_or-append_right, get_or-drop, length-append ys (drop m xs), length-drop m xs))

-- all places before p are laid, and p is past the two tables
pub ground_laid : {V : Type 0} (o : Ops V) (q n cells p : ℕ) (xs ys : List V) → cells ≡ 2 * (n * n) → n ≡ sites_on q (length xs) → 2 * (n * n) ≤ length xs
    → length ys ≡ length (take cells xs) → length (take cells xs) ≤ p → ((k : ℕ) (d : V) → k < p → get_or ys k d ≡ fresh_cell o n k)
    → ys ++ drop cells xs ≡ make_ground o q xs
ground_laid o q n cells p xs ys is n_is room sized past each =
    let long : length (take cells xs) ≡ 2 * (n * n) = length-take-le cells xs (omega arith) ∙ is in
    ap (λ m. ys ++ drop m xs) is
    ∙ cells_laid o n xs ys room (sized ∙ long) (λ k d h. each k d (omega arith))
    ∙ ap (λ m. by_place (fresh o m) xs) n_is

-- the cells laid one after another
module _ {V : Type 0} (o : Ops V) (n : ℕ) (xs : List V) where
  -- the ground with the cells before p laid
  abbrev pub laid : ℕ → List V
  laid p = until (fresh o n) xs p

  pub laid_none : laid 0 ≡ xs
  laid_none = until_idle (fresh o n) xs 0 (λ k x h. absurd (omega arith))

  pub laid_more : (p : ℕ) → p < 2 * (n * n) → 2 * (n * n) ≤ length xs → laid (p + 1) ≡ set (laid p) p (fresh_cell o n p)
  laid_more p h room = until_more (fresh o n) xs p o.none (omega arith) ∙ ap (set (laid p) p) (fresh_inside o n p (get_or xs p o.none) h)

  pub laid_all : laid (2 * (n * n)) ≡ by_place (fresh o n) xs
  laid_all = until_all (fresh o n) xs (2 * (n * n)) (fresh_past o n)
