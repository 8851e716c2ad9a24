-- The laws that a ranked kind keeps since it chooses. Assumes nothing.
use Rattle.std.specs.Prelude.{◌≡◌, ◌≤◌, true}
use Rattle.std.proofs.Common.{sym, ap, ◌∙◌, inl, inr, arith}
use Rattle.std.proofs.lemmas.Bool.{cases_lt}
use Rattle.kinds.specs.Kind.{Ops, Laws}
use Rattle.kinds.specs.Ranked.{Ranked}

module _ {V : Type 0} {o : Ops V} (k : Ranked o) where
  pub join_assoc : (a b c : V) → o.join (o.join a b) c ≡ o.join a (o.join b c)
  join_assoc a b c = k.apart _ _ (omega (arith, k.lower (o.join a b) c, k.lower a b, k.lower a (o.join b c), k.lower b c))

  pub join_comm : (a b : V) → o.join a b ≡ o.join b a
  join_comm a b = k.apart _ _ (omega (arith, k.lower a b, k.lower b a))

  pub join_none : (a : V) → o.join a o.none ≡ a
  join_none a = k.apart _ _ (omega (arith, k.lower a o.none, k.worst a))

  pub here_join : (a : V) → o.join o.here a ≡ o.here
  here_join a = k.apart _ _ (omega (arith, k.lower o.here a, k.best))

  -- the lower of two values takes the join
  pub takes_left : (a b : V) → k.rank a ≤ k.rank b → o.join a b ≡ a
  takes_left a b h = k.apart _ _ (omega (arith, k.lower a b))

  pub takes_right : (a b : V) → k.rank b ≤ k.rank a → o.join a b ≡ b
  takes_right a b h = k.apart _ _ (omega (arith, k.lower a b))

  -- what keeps the order of the ranks goes into a join
  pub into_join : (f : V → V) → ((a b : V) → k.rank a ≤ k.rank b → k.rank (f a) ≤ k.rank (f b)) → (a b : V) → f (o.join a b) ≡ o.join (f a) (f b)
  into_join f keeps a b = elim (cases_lt (k.rank a) (k.rank b)) [
    | inl h ↦ ap f (takes_left a b (omega arith)) ∙ sym (takes_left (f a) (f b) (keeps a b (omega arith)))
    | inr h ↦ ap f (takes_right a b h) ∙ sym (takes_right (f a) (f b) (keeps b a h))
  ]

  pub chain_join : (a b c : V) → o.chain a (o.join b c) ≡ o.join (o.chain a b) (o.chain a c)
  chain_join a = into_join (o.chain a) (k.chain_right a)

  pub join_chain : (a b c : V) → o.chain (o.join a b) c ≡ o.join (o.chain a c) (o.chain b c)
  join_chain a b c = into_join (λ x. o.chain x c) (λ x y. k.chain_left x y c) a b

  -- here is the best, so a chain with none on one side is no better than none chained with here
  pub none_chain : ((a : V) → o.chain a o.here ≡ a) → (a : V) → o.chain o.none a ≡ o.none
  none_chain chain_here a =
      let h = k.chain_right o.none o.here a (omega (arith, k.best)) in
      k.apart _ _ (omega (arith, h, ap k.rank (chain_here o.none), k.worst (o.chain o.none a)))

  pub chain_none : ((a : V) → o.chain o.here a ≡ a) → (a : V) → o.chain a o.none ≡ o.none
  chain_none here_chain a =
      let h = k.chain_left o.here a o.none (omega (arith, k.best)) in
      k.apart _ _ (omega (arith, h, ap k.rank (here_chain o.none), k.worst (o.chain a o.none)))

  -- a ranked kind keeps all laws once its chain associates, here alters nothing, and the test is right
  pub ranked_lawful :
      ((a b c : V) → o.chain (o.chain a b) c ≡ o.chain a (o.chain b c))
      → ((a : V) → o.chain o.here a ≡ a) → ((a : V) → o.chain a o.here ≡ a)
      → ((a b : V) → o.same a b ≡ true → a ≡ b) → ((a b : V) → a ≡ b → o.same a b ≡ true)
      → Laws o
  ranked_lawful chain_assoc here_chain chain_here same_equal equal_same = record {
    join_assoc = join_assoc;
    join_comm = join_comm;
    chain_assoc = chain_assoc;
    chain_join = chain_join;
    join_chain = join_chain;
    join_none = join_none;
    none_chain = none_chain chain_here;
    chain_none = chain_none here_chain;
    here_chain = here_chain;
    chain_here = chain_here;
    here_join = here_join;
    same_equal = same_equal;
    equal_same = equal_same;
  }
