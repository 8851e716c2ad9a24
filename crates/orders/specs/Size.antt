-- Which exponents are allowed, and how many sites one gives. Assumes nothing.
use Rattle.std.specs.Prelude.{◌≡◌, ℕ, ◌^◌, ◌<◌, ◌≤◌, cond, Ok, Err, Result, nat_le}
use Rattle.std.proofs.Common.{lit<}
use Rattle.std.proofs.Math.Nat.{pow-le-pow_right}
use Rattle.faults.specs.declared.LayoutFault.{LayoutFault}
use Rattle.faults.specs.declared.LayoutFault.TheVariants.{ExponentTooLarge}

-- what a call that takes the exponent q answers: x, or a refusal of an exponent above 6
abbrev pub if_small : {X : Type 0} → ℕ → X → Result X LayoutFault
if_small q x = cond (nat_le q 6) (Ok x) (Err ExponentTooLarge)

-- the number of sites of the exponent q
abbrev pub site_count_answer : ℕ → Result ℕ LayoutFault
site_count_answer q = if_small q (2 ^ q)

-- the exponent of an order that is made with the exponent q
abbrev pub exponent_answer : ℕ → Result ℕ LayoutFault
exponent_answer q = if_small q q

-- what is known of the number n of sites of an exponent q that is allowed
pub record Sites (q n : ℕ) : Type 0 where
  pub power : n ≡ 2 ^ q
  pub positive : 0 < n
  pub most : n ≤ 64
  pub small : q ≤ 6

-- an exponent that is allowed gives at most 64 sites
pub sites_most : (q : ℕ) → q ≤ 6 → 2 ^ q ≤ 64
sites_most q small = pow-le-pow_right {n = 2} (lit< tt) small
