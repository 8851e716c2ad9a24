-- Tables of best distances: what follows of a table whose cells cover every trail and are bounded by finitely many.
-- Assumes the laws of a kind where it says so.
use Rattle.std.proofs.Common.{◌≡◌, ℕ, ◌<◌, sym, subst}
use Rattle.kinds.specs.Kind.{Ops, Laws, Covers}
use Rattle.kinds.proofs.Order.{covering}
use Rattle.paths.proofs.Trails.{Trail, stay, hop, onward}
use Rattle.paths.proofs.Sums.{Sum, nothing, one, both, Bounded, covers_bounded, bounded_chain}

-- each cell below n covers the value of every trail, and is covered by the join of finitely many
pub record Best {V : Type 0} (o : Ops V) (n : ℕ) (link : ℕ → ℕ → V) (via : ℕ → Type 0) (cell : ℕ → ℕ → V) : Type 0 where
  pub complete : (i j : ℕ) → i < n → j < n → (v : V) → Trail o link via i j v → Covers o (cell i j) v
  pub sound : (i j : ℕ) → i < n → j < n → Bounded o link via i j (cell i j)

module _ {V : Type 0} {o : Ops V} (laws : Laws o) (n : ℕ) where
  -- what covers every trail covers the cell
  pub best_least : {link : ℕ → ℕ → V} {via : ℕ → Type 0} {cell : ℕ → ℕ → V} → Best o n link via cell
      → (i j : ℕ) → i < n → j < n → (r : V) → ((v : V) → Trail o link via i j v → Covers o r v) → Covers o r (cell i j)
  best_least {cell = cell} b i j hi hj r each = covers_bounded laws (cell i j) r each (b.sound i j hi hj)

  -- there is only one table of best distances
  pub best_unique : {link : ℕ → ℕ → V} {via : ℕ → Type 0} {cell other : ℕ → ℕ → V} → Best o n link via cell → Best o n link via other
      → (i j : ℕ) → i < n → j < n → cell i j ≡ other i j
  best_unique {cell = cell} {other = other} b c i j hi hj =
      (covering laws).antisymmetric (cell i j) (other i j)
      (best_least c i j hi hj (cell i j) (b.complete i j hi hj))
      (best_least b i j hi hj (other i j) (c.complete i j hi hj))

  -- a way through a relay is covered
  pub best_through : {link : ℕ → ℕ → V} {via : ℕ → Type 0} {cell : ℕ → ℕ → V} → Best o n link via cell
      → (i k j : ℕ) → i < n → k < n → j < n → via k → Covers o (cell i j) (o.chain (cell i k) (cell k j))
  best_through {link = link} {via = via} {cell = cell} b i k j hi hk hj p =
      covers_bounded laws _ (cell i j) (b.complete i j hi hj)
      (bounded_chain laws link via k (cell i k) (cell k j) p (b.sound i k hi hk) (b.sound k j hk hj))

-- equal links below n, and the same inner sites
module _ {V : Type 0} {o : Ops V} {n : ℕ} {link other : ℕ → ℕ → V} {via such : ℕ → Type 0}
    (below : (h : ℕ) → via h → h < n) (agree : (i j : ℕ) → i < n → j < n → link i j ≡ other i j) (into : (h : ℕ) → via h → such h) where
  pub same_trail : {i j : ℕ} {v : V} → i < n → j < n → Trail o link via i j v → Trail o other such i j v
  same_trail hi hj stay = stay
  same_trail {i = i} hi hj (hop j) = subst (Trail o other such i j) (sym (agree i j hi hj)) (hop j)
  same_trail {i = i} hi hj (onward {k = k} {v = v} t p j) =
      subst (λ x. Trail o other such i j (o.chain v x)) (sym (agree k j (below k p) hj)) (onward (same_trail hi (below k p) t) (into k p) j)

  pub same_sum : {i j : ℕ} {x : V} → i < n → j < n → Sum o link via i j x → Sum o other such i j x
  same_sum hi hj nothing = nothing
  same_sum hi hj (one t) = one (same_trail hi hj t)
  same_sum hi hj (both x y) = both (same_sum hi hj x) (same_sum hi hj y)

module _ {V : Type 0} {o : Ops V} {n : ℕ} {link other : ℕ → ℕ → V} {via such : ℕ → Type 0} {cell : ℕ → ℕ → V} where
  -- the table is as good over the other links
  pub best_same : ((h : ℕ) → via h → h < n) → ((i j : ℕ) → i < n → j < n → link i j ≡ other i j)
      → ((h : ℕ) → via h → such h) → ((h : ℕ) → such h → via h) → Best o n link via cell → Best o n other such cell
  best_same below agree into back b = record {
    complete = λ i j hi hj v t. b.complete i j hi hj v (same_trail (λ h p. below h (back h p)) (λ a c ha hc. sym (agree a c ha hc)) back hi hj t);
    sound = λ i j hi hj. record {
      bound = (b.sound i j hi hj).bound;
      sum = same_sum below agree into hi hj (b.sound i j hi hj).sum;
      covers = (b.sound i j hi hj).covers;
    };
  }

-- and so is a table with equal cells
pub best_cells : {V : Type 0} {o : Ops V} {n : ℕ} {link : ℕ → ℕ → V} {via : ℕ → Type 0} {cell found : ℕ → ℕ → V}
    → ((i j : ℕ) → i < n → j < n → cell i j ≡ found i j) → Best o n link via cell → Best o n link via found
best_cells {o = o} {link = link} {via = via} equal b = record {
  complete = λ i j hi hj v t. subst (λ x. Covers o x v) (equal i j hi hj) (b.complete i j hi hj v t);
  sound = λ i j hi hj. subst (Bounded o link via i j) (equal i j hi hj) (b.sound i j hi hj);
}
