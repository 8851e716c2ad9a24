-- Two cells are equal once their numbers are. Assumes nothing.
use Rattle.std.specs.Prelude.{◌≡◌, ℕ, ◌<◌}
use Rattle.std.proofs.Math.Path.{PathP}
use mathlib.Core.HLevel.{is_prop→PathP}
use Rattle.std.proofs.Math.Bridge.{le_prop}
use Rattle.kinds.specs.declared.cells.Cost.{Cost}
use Rattle.kinds.specs.declared.cells.Width.{Width}
use Rattle.kinds.specs.declared.cells.Channels.{Channels}
use Rattle.kinds.specs.declared.cells.Fare.{Fare}
use Rattle.kinds.specs.declared.widest.WidestCheapest.{WidestCheapest}

-- a bound has one proof
fits_equal : {m n k : ℕ} (e : m ≡ n) (p : m < k) (q : n < k) → PathP (λ i. e i < k) p q
fits_equal {m} {n} {k} e p q = is_prop→PathP (λ i. e i < k) (λ i. le_prop) p q

pub cost_equal : (x y : Cost) → x.value ≡ y.value → x ≡ y
cost_equal x y e = λ i. record {
  value = e i;
  fits = fits_equal e x.fits y.fits i;
}

pub width_equal : (x y : Width) → x.value ≡ y.value → x ≡ y
width_equal x y e = λ i. record {
  value = e i;
  fits = fits_equal e x.fits y.fits i;
}

pub channels_equal : (x y : Channels) → x.set ≡ y.set → x ≡ y
channels_equal x y e = λ i. record {
  set = e i;
  fits = fits_equal e x.fits y.fits i;
}

pub fare_equal : (x y : Fare) → x.cost ≡ y.cost → x.hops ≡ y.hops → x ≡ y
fare_equal x y d e = λ i. record {
  cost = d i;
  hops = e i;
  cost_fits = fits_equal d x.cost_fits y.cost_fits i;
  hops_fits = fits_equal e x.hops_fits y.hops_fits i;
}

pub pair_equal : (x y : WidestCheapest) → x.width.value ≡ y.width.value → x.cost.value ≡ y.cost.value → x ≡ y
pair_equal x y d e = λ i. record { width = width_equal x.width y.width d i; cost = cost_equal x.cost y.cost e i }
