-- Covering is an order in every kind that keeps the laws. Assumes nothing.
use Rattle.std.proofs.Common.{◌≡◌, sym, ap, ◌∙◌}
use Rattle.kinds.specs.Kind.{Ops, Laws}
use Rattle.kinds.specs.Covering.{Covering}

module _ {V : Type 0} {o : Ops V} (k : Laws o) where
  -- a joined with what it is chained to is a, since here covers everything
  pub join_chained_right : (a b : V) → o.join a (o.chain a b) ≡ a
  join_chained_right a b =
      ap (λ x. o.join x (o.chain a b)) (sym (k.chain_here a)) ∙ sym (k.chain_join a o.here b)
      ∙ ap (o.chain a) (k.here_join b) ∙ k.chain_here a

  pub join_chained_left : (a b : V) → o.join b (o.chain a b) ≡ b
  join_chained_left a b =
      ap (λ x. o.join x (o.chain a b)) (sym (k.here_chain b)) ∙ sym (k.join_chain o.here a b)
      ∙ ap (λ x. o.chain x b) (k.here_join a) ∙ k.here_chain b

  pub join_self : (a : V) → o.join a a ≡ a
  join_self a = ap (o.join a) (sym (k.chain_here a)) ∙ join_chained_right a o.here

  pub covering : Covering o
  covering = record {
    reflexive = join_self;
    antisymmetric = λ a b p q. sym p ∙ k.join_comm a b ∙ q;
    transitive = λ a b c p q. ap (λ x. o.join x c) (sym p) ∙ k.join_assoc a b c ∙ ap (o.join a) q ∙ p;
    over_none = k.join_none;
    under_here = k.here_join;
    join_left = λ a b. k.join_comm (o.join a b) a ∙ sym (k.join_assoc a a b) ∙ ap (λ x. o.join x b) (join_self a);
    join_right = λ a b. k.join_assoc a b b ∙ ap (o.join a) (join_self b);
    join_least = λ a b c p q. sym (k.join_assoc c a b) ∙ ap (λ x. o.join x b) p ∙ q;
    chain_left = λ a b c p. sym (k.join_chain a b c) ∙ ap (λ x. o.chain x c) p;
    chain_right = λ a b c p. sym (k.chain_join a b c) ∙ ap (o.chain a) p;
    left_covers = join_chained_right;
    right_covers = join_chained_left;
  }
