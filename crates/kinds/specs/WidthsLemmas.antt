-- Widths keep the laws of a kind: they choose the larger. Assumes nothing.
use Rattle.std.proofs.Common.{ap, arith}
use Rattle.std.specs.Prelude.{◌-◌, refl}
use Rattle.std.proofs.lemmas.Bool.{eqb-true, eq-eqb}
use Rattle.kinds.specs.Kind.{Laws}
use Rattle.kinds.specs.Ranked.{Ranked}
use Rattle.kinds.specs.Widths.{widths}
use Rattle.kinds.specs.declared.cells.Width.{Width}
use Rattle.kinds.specs.Equal.{width_equal}
use Rattle.kinds.specs.Choosing.{ranked_lawful}

pub widths_ranked : Ranked widths
widths_ranked = record {
  rank = λ a. 4294967295 - a.value;
  apart = λ a b e. width_equal a b (omega arith);
  lower = λ a b. omega arith;
  best = refl;
  worst = λ a. omega arith;
  chain_left = λ a b c h. omega arith;
  chain_right = λ a b c h. omega arith;
}

pub widths_lawful : Laws widths
widths_lawful =
    ranked_lawful widths_ranked (λ a b c. width_equal _ _ (omega arith)) (λ a. width_equal _ _ (omega arith)) (λ a. width_equal _ _ (omega arith))
    (λ a b e. width_equal a b (eqb-true _ _ e)) (λ a b e. eq-eqb _ _ (ap (λ (x : Width). x.value) e))
