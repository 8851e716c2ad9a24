-- What covering is in every kind: an order with a best and a worst value, that join and chain respect. Assumes nothing.
use Rattle.std.specs.Prelude.{◌≡◌}
use Rattle.kinds.specs.Kind.{Ops, Covers}

pub record Covering {V : Type 0} (o : Ops V) : Type 0 where
  pub reflexive : (a : V) → Covers o a a
  pub antisymmetric : (a b : V) → Covers o a b → Covers o b a → a ≡ b
  pub transitive : (a b c : V) → Covers o a b → Covers o b c → Covers o a c
  pub over_none : (a : V) → Covers o a o.none
  pub under_here : (a : V) → Covers o o.here a
  -- a join is the least value that covers both parts
  pub join_left : (a b : V) → Covers o (o.join a b) a
  pub join_right : (a b : V) → Covers o (o.join a b) b
  pub join_least : (a b c : V) → Covers o c a → Covers o c b → Covers o c (o.join a b)
  -- a chain grows with each part, and each part covers it
  pub chain_left : (a b c : V) → Covers o a b → Covers o (o.chain a c) (o.chain b c)
  pub chain_right : (a b c : V) → Covers o b c → Covers o (o.chain a b) (o.chain a c)
  pub left_covers : (a b : V) → Covers o a (o.chain a b)
  pub right_covers : (a b : V) → Covers o b (o.chain a b)
