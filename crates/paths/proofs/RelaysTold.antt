-- The relays that a settling tells, as sites that a path may pass. Assumes nothing.
use Rattle.std.proofs.Common.{◌≡◌, ℕ, ◌<◌, true, eqb, ltb, inl, inr, ⊎_elim}
use Rattle.std.proofs.lemmas.Bool.{ltb-true, lt-ltb, eqb-true, eq-eqb, and_parts, and_from, or_cases, or_left, or_right}
use Rattle.runs.specs.Sets.{bit_is_one}
use Rattle.paths.specs.Calls.{meets}
use Rattle.paths.specs.Told.{relay_told}
use Rattle.paths.proofs.PostBest.{Meets}
use Rattle.paths.proofs.ListedPaths.{Via}

module _ (n word : ℕ) where
  pub relay_below : (h : ℕ) → Via (relay_told n word) h → h < n
  unfolding relay_told
  relay_below h e = ltb-true h n (and_parts (ltb h n) (bit_is_one word h) e).0

  pub relay_bit : (h : ℕ) → Via (relay_told n word) h → bit_is_one word h ≡ true
  unfolding relay_told
  relay_bit h e = (and_parts (ltb h n) (bit_is_one word h) e).1

  pub relay_from : (h : ℕ) → h < n → bit_is_one word h ≡ true → Via (relay_told n word) h
  unfolding relay_told
  relay_from h l e = and_from (ltb h n) (bit_is_one word h) (lt-ltb h n l) e

  -- the test of a post, and what it means
  pub meets_from : (s a : ℕ) → Meets (Via (relay_told n word)) s a → meets word s a ≡ true
  meets_from s a =
      ⊎_elim
      (λ e. or_left (eqb a s) (bit_is_one word s) (eq-eqb a s e))
      (λ p. or_right (eqb a s) (bit_is_one word s) (relay_bit s p))

  pub meets_known : (s a : ℕ) → s < n → meets word s a ≡ true → Meets (Via (relay_told n word)) s a
  meets_known s a hs e =
      ⊎_elim
      (λ same. inl (eqb-true a s same))
      (λ bit. inr (relay_from s hs bit))
      (or_cases (eqb a s) (bit_is_one word s) e)
