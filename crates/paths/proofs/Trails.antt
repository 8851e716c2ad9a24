-- Trails: the values of paths, built link by link; how they go on, and how they are cut at a site. Assumes the laws of a
-- kind where it says so.
use Rattle.std.proofs.Common.{◌≡◌, ℕ, ◌⊎◌, sym, subst, inl, inr, ⊎_elim}
use Rattle.std.proofs.lemmas.Bool.{cases_eq}
use Rattle.kinds.specs.Kind.{Ops, Laws, Covers}
use Rattle.kinds.proofs.Order.{covering}

-- from site i, by the links, with inner sites that meet `via`: to which site, and with which value
pub data Trail {V : Type 0} (o : Ops V) (link : ℕ → ℕ → V) (via : ℕ → Type 0) (i : ℕ) : ℕ → V → Type 0 where
  stay : Trail o link via i i o.here
  hop : (j : ℕ) → Trail o link via i j (link i j)
  onward : {k : ℕ} {v : V} → Trail o link via i k v → via k → (j : ℕ) → Trail o link via i j (o.chain v (link k j))

-- the sites that meet `via` other than k
abbrev pub Apart : (ℕ → Type 0) → ℕ → ℕ → Type 0
Apart via k h = via h × (h ≡ k → ⊥)

-- a trail with k among its inner sites, cut at the first and the last visit; what lies between is covered by here
pub record Through {V : Type 0} (o : Ops V) (link : ℕ → ℕ → V) (via : ℕ → Type 0) (i k j : ℕ) (v : V) : Type 0 where
  pub pivot : via k
  pub first : V
  pub last : V
  pub to_pivot : Trail o link (Apart via k) i k first
  pub from_pivot : Trail o link (Apart via k) k j last
  pub covered : Covers o (o.chain first last) v

module _ {V : Type 0} {o : Ops V} {link : ℕ → ℕ → V} where
  -- more inner sites are allowed
  pub wider : {via more : ℕ → Type 0} {i j : ℕ} {v : V} → ((h : ℕ) → via h → more h) → Trail o link via i j v → Trail o link more i j v
  wider f stay = stay
  wider f (hop j) = hop j
  wider f (onward {k = k} t p j) = onward (wider f t) (f k p) j

module _ {V : Type 0} {o : Ops V} (laws : Laws o) (link : ℕ → ℕ → V) (via : ℕ → Type 0) where
  -- one trail after another, at a site that meets `via`
  pub trail_after : {i k j : ℕ} {u v : V} → Trail o link via i k u → via k → Trail o link via k j v → Trail o link via i j (o.chain u v)
  trail_after {i = i} {k = k} {u = u} s p stay = subst (Trail o link via i k) (sym (laws.chain_here u)) s
  trail_after s p (hop j) = onward s p j
  trail_after {i = i} {u = u} s p (onward {k = m} {v = w} t q j) =
      subst (Trail o link via i j) (laws.chain_assoc u w (link m j)) (onward (trail_after s p t) q j)

  -- the last visit of k is here, after a way that does not pass it
  at_pivot : {i : ℕ} (k j m : ℕ) {v : V} → m ≡ k → via m → Trail o link (Apart via k) i m v → Through o link via i k j (o.chain v (link m j))
  at_pivot {i = i} k j m {v = v} e =
      subst (λ m'. via m' → Trail o link (Apart via k) i m' v → Through o link via i k j (o.chain v (link m' j))) (sym e)
      (λ p t. record {
        pivot = p;
        first = v;
        last = link k j;
        to_pivot = t;
        from_pivot = hop j;
        covered = (covering laws).reflexive _;
      })

  -- the last visit of k is here, after an earlier one
  again : {i : ℕ} (k j m : ℕ) {v : V} → m ≡ k → Through o link via i k m v → Through o link via i k j (o.chain v (link m j))
  again {i = i} k j m {v = v} e =
      let c = covering laws in
      subst (λ m'. Through o link via i k m' v → Through o link via i k j (o.chain v (link m' j))) (sym e)
      (λ t. record {
        pivot = t.pivot;
        first = t.first;
        last = link k j;
        to_pivot = t.to_pivot;
        from_pivot = hop j;
        covered = c.chain_left _ _ (link k j) (c.transitive _ _ _ (c.left_covers t.first t.last) t.covered);
      })

  -- k was visited before, and the way goes on elsewhere
  past : {i : ℕ} (k j m : ℕ) {v : V} → (m ≡ k → ⊥) → via m → Through o link via i k m v → Through o link via i k j (o.chain v (link m j))
  past k j m {v = v} apart p t =
      let c = covering laws in
      record {
        pivot = t.pivot;
        first = t.first;
        last = o.chain t.last (link m j);
        to_pivot = t.to_pivot;
        from_pivot = onward t.from_pivot (p, apart) j;
        covered = subst (λ x. Covers o x (o.chain v (link m j))) (laws.chain_assoc t.first t.last (link m j)) (c.chain_left _ _ (link m j) t.covered);
      }

  -- a trail avoids k, or goes through it
  pub cut : {i j : ℕ} {v : V} (k : ℕ) → Trail o link via i j v → Trail o link (Apart via k) i j v ⊎ Through o link via i k j v
  cut k stay = inl stay
  cut k (hop j) = inl (hop j)
  cut k (onward {k = m} t p j) =
      ⊎_elim
      (λ avoids. ⊎_elim (λ e. inr (at_pivot k j m e p avoids)) (λ apart. inl (onward avoids (p, apart) j)) (cases_eq m k))
      (λ through. ⊎_elim (λ e. inr (again k j m e through)) (λ apart. inr (past k j m apart p through)) (cases_eq m k))
      (cut k t)
