-- The cells before a place put through a function while the others stay, as a loop over a ground leaves them. Assumes nothing.
use Rattle.std.proofs.Common.{◌≡◌, ℕ, ◌+◌, ◌<◌, ◌≤◌, cond, ltb, List, length, get_or, set, sym, ap, ◌∙◌, arith}
use Rattle.std.proofs.lemmas.List.{same_lists, get_or_default, length-set, get_or-set_same, get_or-set_other}
use Rattle.std.proofs.lemmas.Bool.{lt-ltb, le-ltb}
use Rattle.paths.specs.Ground.{by_place}
use Rattle.paths.proofs.Places.{length-by_place, get_or-by_place}

-- the cells before place m put through f, the others as they were
unfoldable pub until : {X : Type 0} → (ℕ → X → X) → List X → ℕ → List X
until f xs m = by_place (λ q x. cond (ltb q m) (f q x) x) xs

module _ {X : Type 0} (f : ℕ → X → X) (xs : List X) where
  pub length-until : (m : ℕ) → length (until f xs m) ≡ length xs
  unfolding until
  length-until m = length-by_place _ xs

  pub until_passed : (m k : ℕ) (d : X) → k < length xs → k < m → get_or (until f xs m) k d ≡ f k (get_or xs k d)
  unfolding until
  until_passed m k d h p = get_or-by_place _ xs k d h ∙ ap (λ b. cond b (f k (get_or xs k d)) (get_or xs k d)) (lt-ltb k m p)

  pub until_ahead : (m k : ℕ) (d : X) → k < length xs → m ≤ k → get_or (until f xs m) k d ≡ get_or xs k d
  unfolding until
  until_ahead m k d h p = get_or-by_place _ xs k d h ∙ ap (λ b. cond b (f k (get_or xs k d)) (get_or xs k d)) (le-ltb k m p)

  -- one cell more
  pub until_more : (m : ℕ) (d : X) → m < length xs → until f xs (m + 1) ≡ set (until f xs m) m (f m (get_or xs m d))
  until_more m d h =
      same_lists _ _ (length-until (m + 1) ∙ sym (length-set (until f xs m) m (f m (get_or xs m d)) ∙ length-until m)) (λ k e l.
      let inside : k < length xs = omega (arith, length-until (m + 1)) in
      grind (arith, until_passed, until_ahead, get_or-set_same, get_or-set_other, get_or_default xs m d e h, length-until m))

  -- where f leaves every cell before m, nothing is changed yet
  pub until_idle : (m : ℕ) → ((k : ℕ) (x : X) → k < m → f k x ≡ x) → until f xs m ≡ xs
  until_idle m idle =
      same_lists _ _ (length-until m) (λ k e l.
      let inside : k < length xs = omega (arith, length-until m) in
      grind (arith, until_passed, until_ahead, idle))

  -- where f leaves every cell from m on, all is done
  pub until_all : (m : ℕ) → ((k : ℕ) (x : X) → m ≤ k → f k x ≡ x) → until f xs m ≡ by_place f xs
  until_all m idle =
      same_lists _ _ (length-until m ∙ sym (length-by_place f xs)) (λ k e l.
      let inside : k < length xs = omega (arith, length-until m) in
      grind (arith, until_passed, until_ahead, get_or-by_place, idle))
