-- The number of sites of a board, from what the question beforehand answers. Assumes nothing.
use Rattle.std.proofs.Common.{◌≡◌, ℕ, ◌*◌, ◌^◌, ◌<◌, ◌≤◌, cond, leb, Err, arith}
use Rattle.faults.specs.declared.LayoutFault.{LayoutFault}
use Rattle.orders.specs.Size.{Sites}
use Rattle.paths.specs.Ground.{sites_on}
use Rattle.paths.specs.Calls.{make_answer}
use Rattle.ground.specs.Cells.{Room}

pub sites_fitting : (q cells : ℕ) → q ≤ 6 → 2 * (2 ^ q * 2 ^ q) ≤ cells → sites_on q cells ≡ 2 ^ q
unfolding sites_on
sites_fitting q cells small room = grind arith

pub sites_refused : (q cells : ℕ) (e : LayoutFault) → Err e ≡ make_answer q cells → sites_on q cells ≡ 0
unfolding sites_on
sites_refused q cells e refused = grind arith

-- from the count of an exponent's sites
module _ (q cells n : ℕ) (s : Sites q n) where
  pub counted : cond (leb (2 * (n * n)) cells) n 0 ≡ sites_on q cells
  unfolding sites_on
  counted = rw s.power (grind (arith, s.small))

  pub roomy : Room (cond (leb (2 * (n * n)) cells) n 0) cells
  roomy = record { small = grind (arith, s.most); room = grind arith }

  pub powered : 0 < cond (leb (2 * (n * n)) cells) n 0 → Sites q (cond (leb (2 * (n * n)) cells) n 0)
  powered h = record { small = s.small; power = grind (arith, s.power); positive = h; most = grind (arith, s.most) }
