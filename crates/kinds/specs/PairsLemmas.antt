-- Two kinds side by side keep the laws that both keep. Assumes nothing.
use Rattle.std.specs.Prelude.{◌≡◌}
use Rattle.std.proofs.Common.{ap}
use Rattle.std.proofs.lemmas.Bool.{and_parts, and_from}
use Rattle.kinds.specs.Kind.{Ops, Laws}
use Rattle.kinds.specs.Pairs.{pairs}
use Rattle.kinds.specs.declared.cells.Beside.{Beside}

module _ {L R : Type 0} where
  both : {a b : L} {c d : R} → a ≡ b → c ≡ d → ◌≡◌ {A = Beside L R} (record { left = a; right = c }) (record { left = b; right = d })
  both p q = λ i. record { left = p i; right = q i }

  pub pairs_lawful : {l : Ops L} {r : Ops R} → Laws l → Laws r → Laws (pairs l r)
  pairs_lawful x y = record {
    join_assoc = λ a b c. both (x.join_assoc a.left b.left c.left) (y.join_assoc a.right b.right c.right);
    join_comm = λ a b. both (x.join_comm a.left b.left) (y.join_comm a.right b.right);
    chain_assoc = λ a b c. both (x.chain_assoc a.left b.left c.left) (y.chain_assoc a.right b.right c.right);
    chain_join = λ a b c. both (x.chain_join a.left b.left c.left) (y.chain_join a.right b.right c.right);
    join_chain = λ a b c. both (x.join_chain a.left b.left c.left) (y.join_chain a.right b.right c.right);
    join_none = λ a. both (x.join_none a.left) (y.join_none a.right);
    none_chain = λ a. both (x.none_chain a.left) (y.none_chain a.right);
    chain_none = λ a. both (x.chain_none a.left) (y.chain_none a.right);
    here_chain = λ a. both (x.here_chain a.left) (y.here_chain a.right);
    chain_here = λ a. both (x.chain_here a.left) (y.chain_here a.right);
    here_join = λ a. both (x.here_join a.left) (y.here_join a.right);
    same_equal = λ a b e. let h = and_parts _ _ e in both (x.same_equal a.left b.left h.0) (y.same_equal a.right b.right h.1);
    equal_same = λ a b e. and_from _ _ (x.equal_same _ _ (ap (λ (p : Beside L R). p.left) e)) (y.equal_same _ _ (ap (λ (p : Beside L R). p.right) e));
  }
