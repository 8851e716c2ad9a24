-- What a value kind means, the laws that each kind keeps, and when one value covers another. Assumes nothing.
use Rattle.std.specs.Prelude.{◌≡◌, Bool, true}

-- join: the better of two, or both together; chain: one and then the other; same: the test for equality
pub record Ops (V : Type 0) : Type 0 where
  pub join : V → V → V
  pub chain : V → V → V
  pub none : V
  pub here : V
  pub same : V → V → Bool

-- what every kind keeps, for all values
pub record Laws {V : Type 0} (o : Ops V) : Type 0 where
  pub join_assoc : (a b c : V) → o.join (o.join a b) c ≡ o.join a (o.join b c)
  pub join_comm : (a b : V) → o.join a b ≡ o.join b a
  pub chain_assoc : (a b c : V) → o.chain (o.chain a b) c ≡ o.chain a (o.chain b c)
  pub chain_join : (a b c : V) → o.chain a (o.join b c) ≡ o.join (o.chain a b) (o.chain a c)
  pub join_chain : (a b c : V) → o.chain (o.join a b) c ≡ o.join (o.chain a c) (o.chain b c)
  pub join_none : (a : V) → o.join a o.none ≡ a
  pub none_chain : (a : V) → o.chain o.none a ≡ o.none
  pub chain_none : (a : V) → o.chain a o.none ≡ o.none
  pub here_chain : (a : V) → o.chain o.here a ≡ a
  pub chain_here : (a : V) → o.chain a o.here ≡ a
  -- here covers everything
  pub here_join : (a : V) → o.join o.here a ≡ o.here
  -- the test says yes exactly for equal values
  pub same_equal : (a b : V) → o.same a b ≡ true → a ≡ b
  pub equal_same : (a b : V) → a ≡ b → o.same a b ≡ true

-- a joined with b is a
abbrev pub Covers : {V : Type 0} → Ops V → V → V → Type 0
Covers o a b = o.join a b ≡ a
