-- Costs keep the laws of a kind: they choose the smaller. Assumes nothing.
use Rattle.std.specs.Prelude.{refl}
use Rattle.std.proofs.Common.{ap, arith}
use Rattle.std.proofs.lemmas.Bool.{eqb-true, eq-eqb}
use Rattle.kinds.specs.Kind.{Laws}
use Rattle.kinds.specs.Ranked.{Ranked}
use Rattle.kinds.specs.Costs.{costs}
use Rattle.kinds.specs.declared.cells.Cost.{Cost}
use Rattle.kinds.specs.Equal.{cost_equal}
use Rattle.kinds.specs.Choosing.{ranked_lawful}

pub costs_ranked : Ranked costs
costs_ranked = record {
  rank = λ a. a.value;
  apart = cost_equal;
  lower = λ a b. refl;
  best = refl;
  worst = λ a. omega arith;
  chain_left = λ a b c h. omega arith;
  chain_right = λ a b c h. omega arith;
}

pub costs_lawful : Laws costs
costs_lawful =
    ranked_lawful costs_ranked (λ a b c. cost_equal _ _ (omega arith)) (λ a. cost_equal _ _ (omega arith)) (λ a. cost_equal _ _ (omega arith))
    (λ a b e. cost_equal a b (eqb-true _ _ e)) (λ a b e. eq-eqb _ _ (ap (λ (x : Cost). x.value) e))
