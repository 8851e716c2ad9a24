-- A post keeps best distances: a value is joined to one link, and each route is joined with the ways over that link.
-- Assumes the laws of a kind.
use Rattle.std.proofs.Common.{◌≡◌, ℕ, ◌<◌, ◌⊎◌, sym, refl, subst, inl, inr, ⊎_elim}
use Rattle.std.proofs.lemmas.Bool.{cases_eq}
use Rattle.kinds.specs.Kind.{Ops, Laws, Covers}
use Rattle.kinds.proofs.Order.{covering}
use Rattle.paths.proofs.Trails.{Trail, stay, hop, onward}
use Rattle.paths.proofs.Sums.{Sum, nothing, one, both, Bounded, bounded_join, bounded_chain, bounded_below}
use Rattle.paths.proofs.Best.{Best, best_through}

-- a way that begins or ends at a may pass on at s
abbrev pub Meets : (ℕ → Type 0) → ℕ → ℕ → Type 0
Meets via s a = (a ≡ s) ⊎ via s

-- the route from a to b after a post of w from f to t: joined with the way over the new link, or as it was
pub record JoinedIn {V : Type 0} (o : Ops V) (via : ℕ → Type 0) (f t : ℕ) (w : V) (cell cell' : ℕ → ℕ → V) (a b : ℕ) : Type 0 where
  pub front : Meets via f a
  pub back : Meets via t b
  pub value : cell' a b ≡ o.join (cell a b) (o.chain (o.chain (cell a f) w) (cell t b))

pub record LeftAlone {V : Type 0} (via : ℕ → Type 0) (f t : ℕ) (cell cell' : ℕ → ℕ → V) (a b : ℕ) : Type 0 where
  pub apart : Meets via f a → Meets via t b → ⊥
  pub value : cell' a b ≡ cell a b

module _ {V : Type 0} {o : Ops V} (laws : Laws o) (n : ℕ) (via : ℕ → Type 0) (below : (h : ℕ) → via h → h < n)
    (f t : ℕ) (hf : f < n) (ht : t < n) (w : V)
    (link link' : ℕ → ℕ → V) (at_link : link' f t ≡ o.join (link f t) w) (elsewhere : (i j : ℕ) → (i ≡ f → j ≡ t → ⊥) → link' i j ≡ link i j)
    (cell cell' : ℕ → ℕ → V) (best : Best o n link via cell)
    (routes : (a b : ℕ) → a < n → b < n → JoinedIn o via f t w cell cell' a b ⊎ LeftAlone via f t cell cell' a b) where
  -- whether a link is the one posted on
  which : (i j : ℕ) → ((i ≡ f) × (j ≡ t)) ⊎ (i ≡ f → j ≡ t → ⊥)
  which i j =
      ⊎_elim
      (λ ei. ⊎_elim (λ ej. inl (ei, ej)) (λ nj. inr (λ _ ej. nj ej)) (cases_eq j t))
      (λ ni. inr (λ ei _. ni ei))
      (cases_eq i f)

  -- links and routes grow
  link_grows : (i j : ℕ) → Covers o (link' i j) (link i j)
  link_grows i j =
      let c = covering laws in
      ⊎_elim
      (λ e.
      let P : ℕ → ℕ → Type 0 = λ a b. Covers o (link' a b) (link a b) in
      subst (λ a. P a j) (sym e.0) (subst (P f) (sym e.1) (subst (λ x. Covers o x (link f t)) (sym at_link) (c.join_left (link f t) w))))
      (λ apart. subst (λ x. Covers o x (link i j)) (sym (elsewhere i j apart)) (c.reflexive (link i j)))
      (which i j)

  link_posted : Covers o (link' f t) w
  link_posted = subst (λ x. Covers o x w) (sym at_link) ((covering laws).join_right (link f t) w)

  route_grows : (a b : ℕ) → a < n → b < n → Covers o (cell' a b) (cell a b)
  route_grows a b ha hb =
      let c = covering laws in
      ⊎_elim
      (λ (j : JoinedIn o via f t w cell cell' a b). subst (λ x. Covers o x (cell a b)) (sym j.value) (c.join_left (cell a b) _))
      (λ (l : LeftAlone via f t cell cell' a b). subst (λ x. Covers o x (cell a b)) (sym l.value) (c.reflexive (cell a b)))
      (routes a b ha hb)

  -- a route covers the way over the new link where its ends meet it
  route_posted : (a b : ℕ) → a < n → b < n → Meets via f a → Meets via t b → Covers o (cell' a b) (o.chain (o.chain (cell a f) w) (cell t b))
  route_posted a b ha hb front back =
      ⊎_elim
      (λ (j : JoinedIn o via f t w cell cell' a b). subst (λ x. Covers o x (o.chain (o.chain (cell a f) w) (cell t b))) (sym j.value) ((covering laws).join_right (cell a b) _))
      (λ (l : LeftAlone via f t cell cell' a b). absurd (l.apart front back))
      (routes a b ha hb)

  -- from a site to itself here is covered
  home : (a : ℕ) → a < n → Covers o (cell a a) o.here
  home a ha = best.complete a a ha ha o.here stay

  -- what ends at t with the new link
  ends_posted : (a : ℕ) → a < n → Meets via f a → Covers o (cell' a t) (o.chain (cell a f) w)
  ends_posted a ha front =
      let c = covering laws in
      let x : V = o.chain (cell a f) w in
      c.transitive _ _ _ (route_posted a t ha ht front (inl refl))
      (subst (λ y. Covers o (o.chain x (cell t t)) y) (laws.chain_here x) (c.chain_right x (cell t t) o.here (home t ht)))

  -- COMPLETE: the routes cover each link, and each route that goes on by a link
  covers_link : (i j : ℕ) → i < n → j < n → Covers o (cell' i j) (link' i j)
  covers_link i j hi hj =
      let c = covering laws in
      let old = c.transitive _ _ _ (route_grows i j hi hj) (best.complete i j hi hj (link i j) (hop j)) in
      ⊎_elim
      (λ (e : (i ≡ f) × (j ≡ t)).
      let P : ℕ → ℕ → Type 0 = λ a b. Covers o (cell' a b) (link' a b) in
      let old_f = c.transitive _ _ _ (route_grows f t hf ht) (best.complete f t hf ht (link f t) (hop t)) in
      let new : Covers o (cell' f t) w =
      c.transitive _ _ _ (ends_posted f hf (inl refl))
      (subst (λ y. Covers o (o.chain (cell f f) w) y) (laws.here_chain w) (c.chain_left (cell f f) o.here w (home f hf))) in
      subst (λ a. P a j) (sym e.0) (subst (P f) (sym e.1) (subst (Covers o (cell' f t)) (sym at_link) (c.join_least (link f t) w _ old_f new))))
      (λ apart. subst (Covers o (cell' i j)) (sym (elsewhere i j apart)) old)
      (which i j)

  -- a route to a relay k, followed by y
  goes_on : (i k j : ℕ) (y : V) → i < n → k < n → Covers o (cell' i j) (o.chain (cell i k) y)
      → (Meets via f i → Meets via t k → Covers o (cell' i j) (o.chain (o.chain (o.chain (cell i f) w) (cell t k)) y))
      → Covers o (cell' i j) (o.chain (cell' i k) y)
  goes_on i k j y hi hk old new =
      ⊎_elim
      (λ (m : JoinedIn o via f t w cell cell' i k).
      subst (λ x. Covers o (cell' i j) (o.chain x y)) (sym m.value)
      (subst (Covers o (cell' i j)) (sym (laws.join_chain _ _ y)) ((covering laws).join_least _ _ _ old (new m.front m.back))))
      (λ (l : LeftAlone via f t cell cell' i k). subst (λ x. Covers o (cell' i j) (o.chain x y)) (sym l.value) old)
      (routes i k hi hk)

  -- the same with an old link, and with the value posted
  on_old : (i k j : ℕ) → i < n → k < n → j < n → via k → Covers o (cell' i j) (o.chain (cell' i k) (link k j))
  on_old i k j hi hk hj p =
      let c = covering laws in
      let on : (a : ℕ) → a < n → Covers o (cell a j) (o.chain (cell a k) (link k j)) = λ a ha.
      c.transitive _ _ _ (best_through laws n best a k j ha hk hj p) (c.chain_right (cell a k) (cell k j) (link k j) (best.complete k j hk hj (link k j) (hop j))) in
      let relay : Meets via t k → via t = ⊎_elim (λ e. subst via e p) (λ q. q) in
      goes_on i k j (link k j) hi hk
      (c.transitive _ _ _ (route_grows i j hi hj) (on i hi))
      (λ front back.
      subst (Covers o (cell' i j)) (sym (laws.chain_assoc (o.chain (cell i f) w) (cell t k) (link k j)))
      (c.transitive _ _ _ (route_posted i j hi hj front (inr (relay back))) (c.chain_right _ _ _ (on t ht))))

  on_new : (i : ℕ) → i < n → via f → Covers o (cell' i t) (o.chain (cell' i f) w)
  on_new i hi p =
      let c = covering laws in
      let x : V = o.chain (cell i f) w in
      goes_on i f t w hi hf
      (ends_posted i hi (inr p))
      (λ front back.
      subst (Covers o (cell' i t)) (sym (laws.chain_assoc x (cell t f) w))
      (c.transitive _ _ _ (ends_posted i hi front) (c.left_covers x (o.chain (cell t f) w))))

  covers_onward : (i k j : ℕ) → i < n → j < n → via k → Covers o (cell' i j) (o.chain (cell' i k) (link' k j))
  covers_onward i k j hi hj p =
      let hk : k < n = below k p in
      let old = on_old i k j hi hk hj p in
      ⊎_elim
      (λ (e : (k ≡ f) × (j ≡ t)).
      let P : ℕ → ℕ → Type 0 = λ a b. via a → Covers o (cell' i b) (o.chain (cell' i a) (link' a b)) in
      subst (λ a. P a j) (sym e.0) (subst (P f) (sym e.1)
      (λ pf.
      subst (λ x. Covers o (cell' i t) (o.chain (cell' i f) x)) (sym at_link)
      (subst (Covers o (cell' i t)) (sym (laws.chain_join (cell' i f) (link f t) w))
      ((covering laws).join_least _ _ _ (on_old i f t hi hf ht pf) (on_new i hi pf))))) p)
      (λ apart. subst (λ x. Covers o (cell' i j) (o.chain (cell' i k) x)) (sym (elsewhere k j apart)) old)
      (which k j)

  covers_trail : {i j : ℕ} {v : V} → i < n → j < n → Trail o link' via i j v → Covers o (cell' i j) v
  covers_trail {i = i} hi hj stay = (covering laws).transitive _ _ _ (route_grows i i hi hi) (home i hi)
  covers_trail {i = i} hi hj (hop j) = covers_link i j hi hj
  covers_trail {i = i} hi hj (onward {k = k} {v = v} s p j) =
      let c = covering laws in
      c.transitive _ _ _ (covers_onward i k j hi hj p) (c.chain_left (cell' i k) v (link' k j) (covers_trail hi (below k p) s))

  -- SOUND: an old trail is covered by the same one over the new links
  newer : {i j : ℕ} {v : V} → Trail o link via i j v → Bounded o link' via i j v
  newer stay = record { bound = o.here; sum = one stay; covers = (covering laws).reflexive o.here }
  newer {i = i} (hop j) = record { bound = link' i j; sum = one (hop j); covers = link_grows i j }
  newer {i = i} (onward {k = k} {v = v} s p j) =
      bounded_chain laws link' via k v (link k j) p (newer s) (record { bound = link' k j; sum = one (hop j); covers = link_grows k j })

  newer_sum : {i j : ℕ} {x : V} → Sum o link via i j x → Bounded o link' via i j x
  newer_sum nothing = record { bound = o.none; sum = nothing; covers = (covering laws).reflexive o.none }
  newer_sum (one s) = newer s
  newer_sum (both {x = x} {y = y} a b) = bounded_join laws link' via x y (newer_sum a) (newer_sum b)

  still : (a b : ℕ) → a < n → b < n → Bounded o link' via a b (cell a b)
  still a b ha hb =
      let s = best.sound a b ha hb in
      bounded_below laws link' via s.bound (cell a b) s.covers (newer_sum s.sum)

  front_bounded : (a : ℕ) → a < n → Meets via f a → Bounded o link' via a t (o.chain (cell a f) w)
  front_bounded a ha =
      let c = covering laws in
      ⊎_elim
      (λ (e : a ≡ f).
      let P : ℕ → Type 0 = λ a. Bounded o link' via a t (o.chain (cell a f) w) in
      subst P (sym e)
      (record { bound = link' f t; sum = one (hop t); covers = c.transitive _ _ _ link_posted (c.right_covers (cell f f) w) }))
      (λ p. bounded_chain laws link' via f (cell a f) w p (still a f ha hf) (record { bound = link' f t; sum = one (hop t); covers = link_posted }))

  back_bounded : (a b : ℕ) (x : V) → b < n → Meets via t b → Bounded o link' via a t x → Bounded o link' via a b (o.chain x (cell t b))
  back_bounded a b x hb back front =
      ⊎_elim
      (λ (e : b ≡ t).
      let P : ℕ → Type 0 = λ b. Bounded o link' via a b (o.chain x (cell t b)) in
      subst P (sym e) (bounded_below laws link' via x _ ((covering laws).left_covers x (cell t t)) front))
      (λ p. bounded_chain laws link' via t x (cell t b) p front (still t b ht hb))
      back

  pub post_best : Best o n link' via cell'
  post_best = record {
    complete = λ i j hi hj v. covers_trail hi hj;
    sound = λ a b ha hb.
        ⊎_elim
        (λ (j : JoinedIn o via f t w cell cell' a b).
        subst (Bounded o link' via a b) (sym j.value)
        (bounded_join laws link' via _ _ (still a b ha hb) (back_bounded a b _ hb j.back (front_bounded a ha j.front))))
        (λ (l : LeftAlone via f t cell cell' a b). subst (Bounded o link' via a b) (sym l.value) (still a b ha hb))
        (routes a b ha hb);
  }
