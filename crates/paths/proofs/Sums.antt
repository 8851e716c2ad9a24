-- Finite joins of the values of trails: chain distributes over them, and what covers each trail covers them. Assumes the
-- laws of a kind where it says so.
use Rattle.std.proofs.Common.{ℕ, sym, subst}
use Rattle.kinds.specs.Kind.{Ops, Laws, Covers}
use Rattle.kinds.proofs.Order.{covering}
use Rattle.paths.proofs.Trails.{Trail, trail_after}

-- the join of finitely many values of trails from i to j
pub data Sum {V : Type 0} (o : Ops V) (link : ℕ → ℕ → V) (via : ℕ → Type 0) (i j : ℕ) : V → Type 0 where
  nothing : Sum o link via i j o.none
  one : {v : V} → Trail o link via i j v → Sum o link via i j v
  both : {x y : V} → Sum o link via i j x → Sum o link via i j y → Sum o link via i j (o.join x y)

-- a value that is covered by such a join
pub record Bounded {V : Type 0} (o : Ops V) (link : ℕ → ℕ → V) (via : ℕ → Type 0) (i j : ℕ) (x : V) : Type 0 where
  pub bound : V
  pub sum : Sum o link via i j bound
  pub covers : Covers o bound x

module _ {V : Type 0} {o : Ops V} (laws : Laws o) where
  -- joins and chains grow with their parts
  pub join_grows : (a b x y : V) → Covers o a x → Covers o b y → Covers o (o.join a b) (o.join x y)
  join_grows a b x y p q =
      let c = covering laws in
      c.join_least x y (o.join a b) (c.transitive _ _ _ (c.join_left a b) p) (c.transitive _ _ _ (c.join_right a b) q)

  pub chain_grows : (a b x y : V) → Covers o a x → Covers o b y → Covers o (o.chain a b) (o.chain x y)
  chain_grows a b x y p q =
      let c = covering laws in
      c.transitive _ _ _ (c.chain_left a x b p) (c.chain_right x b y q)

  -- what covers the value of each trail covers a join of some
  pub covers_sum : {link : ℕ → ℕ → V} {via : ℕ → Type 0} {i j : ℕ} {x : V} (r : V) → ((v : V) → Trail o link via i j v → Covers o r v) → Sum o link via i j x → Covers o r x
  covers_sum r each nothing = (covering laws).over_none r
  covers_sum r each (one {v = v} t) = each v t
  covers_sum r each (both x y) = (covering laws).join_least _ _ r (covers_sum r each x) (covers_sum r each y)

  pub covers_bounded : {link : ℕ → ℕ → V} {via : ℕ → Type 0} {i j : ℕ} (x r : V) → ((v : V) → Trail o link via i j v → Covers o r v) → Bounded o link via i j x → Covers o r x
  covers_bounded x r each b = (covering laws).transitive _ _ _ (covers_sum r each b.sum) b.covers

  module _ (link : ℕ → ℕ → V) (via : ℕ → Type 0) where
    after_one : {i k j : ℕ} {u y : V} → Trail o link via i k u → via k → Sum o link via k j y → Sum o link via i j (o.chain u y)
    after_one {i = i} {j = j} {u = u} t p nothing = subst (Sum o link via i j) (sym (laws.chain_none u)) nothing
    after_one t p (one s) = one (trail_after laws link via t p s)
    after_one {i = i} {j = j} {u = u} t p (both x y) =
        subst (Sum o link via i j) (sym (laws.chain_join u _ _)) (both (after_one t p x) (after_one t p y))

    pub sum_after : {i k j : ℕ} {x y : V} → Sum o link via i k x → via k → Sum o link via k j y → Sum o link via i j (o.chain x y)
    sum_after {i = i} {j = j} {y = y} nothing p t = subst (Sum o link via i j) (sym (laws.none_chain y)) nothing
    sum_after (one s) p t = after_one s p t
    sum_after {i = i} {j = j} {y = y} (both a b) p t =
        subst (Sum o link via i j) (sym (laws.join_chain _ _ y)) (both (sum_after a p t) (sum_after b p t))

    -- bounds of joins and chains
    pub bounded_join : {i j : ℕ} (x y : V) → Bounded o link via i j x → Bounded o link via i j y → Bounded o link via i j (o.join x y)
    bounded_join x y a b = record {
      bound = o.join a.bound b.bound;
      sum = both a.sum b.sum;
      covers = join_grows a.bound b.bound x y a.covers b.covers;
    }

    pub bounded_chain : {i j : ℕ} (k : ℕ) (x y : V) → via k → Bounded o link via i k x → Bounded o link via k j y → Bounded o link via i j (o.chain x y)
    bounded_chain k x y p a b = record {
      bound = o.chain a.bound b.bound;
      sum = sum_after a.sum p b.sum;
      covers = chain_grows a.bound b.bound x y a.covers b.covers;
    }

    -- what a bounded value covers is bounded
    pub bounded_below : {i j : ℕ} (x y : V) → Covers o x y → Bounded o link via i j x → Bounded o link via i j y
    bounded_below x y h b = record {
      bound = b.bound;
      sum = b.sum;
      covers = (covering laws).transitive _ _ _ b.covers h;
    }
