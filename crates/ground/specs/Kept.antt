-- What each call on a ground keeps. Assumes nothing.
use Rattle.std.specs.Prelude.{◌≡◌}
use Rattle.ground.specs.declared.ground.Ground.{Ground}

-- the same slice, exponent and number of sites
pub record Kept {V : Type 0} (old new : Ground V) : Type 0 where
  pub lender : new.cells.ghost_name ≡ old.cells.ghost_name
  pub exponent : new.exponent ≡ old.exponent
  pub n : new.n ≡ old.n
