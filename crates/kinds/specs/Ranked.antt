-- Kinds that choose: a number ranks their values, and the join is the value of the lower rank. Assumes nothing.
use Rattle.std.specs.Prelude.{◌≡◌, ℕ, ◌≤◌, min}
use Rattle.kinds.specs.Kind.{Ops}

pub record Ranked {V : Type 0} (o : Ops V) : Type 0 where
  pub rank : V → ℕ
  pub apart : (a b : V) → rank a ≡ rank b → a ≡ b
  pub lower : (a b : V) → rank (o.join a b) ≡ min (rank a) (rank b)
  pub best : rank o.here ≡ 0
  pub worst : (a : V) → rank a ≤ rank o.none
  pub chain_left : (a b c : V) → rank a ≤ rank b → rank (o.chain a c) ≤ rank (o.chain b c)
  pub chain_right : (a b c : V) → rank b ≤ rank c → rank (o.chain a b) ≤ rank (o.chain a c)
