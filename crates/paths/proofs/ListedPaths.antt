-- Paths as lists of sites and trails have the same values. Assumes the laws of a kind where it says so.
use Rattle.std.proofs.Common.{◌≡◌, ℕ, Bool, true, List, [], ◌∷◌, ◌++◌, sym, refl, ap, ◌∙◌, subst}
use Rattle.kinds.specs.Kind.{Ops, Laws}
use Rattle.paths.specs.Paths.{last_site, but_last, inner_sites, AllRelays, PathOver, chained, path_value}
use Rattle.paths.proofs.Trails.{Trail, stay, hop, onward}

-- a site that is a relay
abbrev pub Via : (ℕ → Bool) → ℕ → Type 0
Via relay h = relay h ≡ true

module _ {V : Type 0} (o : Ops V) (link : ℕ → ℕ → V) (relay : ℕ → Bool) where
  goes_on : (i : ℕ) (v : V) (s : ℕ) (rest : List ℕ) → Trail o link (Via relay) i s v → AllRelays relay (but_last s rest)
      → Trail o link (Via relay) i (last_site s rest) (chained o link v s rest)
  goes_on i v s [] trail inner = trail
  goes_on i v s (t ∷ rest) trail inner = goes_on i (o.chain v (link s t)) t rest (onward trail inner.0 t) inner.1

  -- the value of a path is that of a trail
  pub trail_of_path : (i j : ℕ) (sites : List ℕ) → PathOver relay i j sites → Trail o link (Via relay) i j (path_value o link sites)
  trail_of_path i j [] p = absurd p.path
  trail_of_path i j (s ∷ []) p =
      subst (λ x. Trail o link (Via relay) i x o.here) (sym p.path.0 ∙ p.path.1) stay
  trail_of_path i j (s ∷ t ∷ rest) p =
      let P : ℕ → ℕ → Type 0 = λ a b. Trail o link (Via relay) a b (chained o link (link s t) t rest) in
      subst (λ a. P a j) p.path.0 (subst (P s) p.path.1 (goes_on s (link s t) t rest (hop t) p.inner))

  -- one site more at the end
  last_more : (s : ℕ) (rest : List ℕ) (j : ℕ) → last_site s (rest ++ j ∷ []) ≡ j
  last_more s [] j = refl
  last_more s (t ∷ rest) j = last_more t rest j

  relays_more : (s : ℕ) (rest : List ℕ) (j : ℕ) → AllRelays relay (but_last s rest) → relay (last_site s rest) ≡ true → AllRelays relay (but_last s (rest ++ j ∷ []))
  relays_more s [] j inner e = (e, tt)
  relays_more s (t ∷ rest) j inner e = (inner.0, relays_more t rest j inner.1 e)

  chained_more : (v : V) (s : ℕ) (rest : List ℕ) (j : ℕ) → chained o link v s (rest ++ j ∷ []) ≡ o.chain (chained o link v s rest) (link (last_site s rest) j)
  chained_more v s [] j = refl
  chained_more v s (t ∷ rest) j = chained_more (o.chain v (link s t)) t rest j

  -- a path from i on, with the value v
  pub record Listed (i j : ℕ) (v : V) : Type 0 where
    pub rest : List ℕ
    pub ends : last_site i rest ≡ j
    pub inner : AllRelays relay (inner_sites (i ∷ rest))
    pub value : path_value o link (i ∷ rest) ≡ v

  module _ (laws : Laws o) where
    one_more : (i k j : ℕ) (v : V) (rest : List ℕ) → last_site i rest ≡ k → AllRelays relay (inner_sites (i ∷ rest)) → path_value o link (i ∷ rest) ≡ v
        → relay k ≡ true → Listed i j (o.chain v (link k j))
    one_more i k j v [] ends inner value e = record {
      rest = j ∷ [];
      ends = refl;
      inner = tt;
      value = sym (laws.here_chain (link i j)) ∙ ap (λ x. o.chain x (link i j)) value ∙ ap (λ s. o.chain v (link s j)) ends;
    }
    one_more i k j v (t ∷ rest) ends inner value e = record {
      rest = (t ∷ rest) ++ j ∷ [];
      ends = last_more t rest j;
      inner = relays_more t rest j inner (ap relay ends ∙ e);
      value =
          chained_more (link i t) t rest j
          ∙ ap (λ x. o.chain x (link (last_site t rest) j)) value
          ∙ ap (λ s. o.chain v (link s j)) ends;
    }

    listed : {i j : ℕ} {v : V} → Trail o link (Via relay) i j v → Listed i j v
    listed stay = record { rest = []; ends = refl; inner = tt; value = refl }
    listed (hop j) = record { rest = j ∷ []; ends = refl; inner = tt; value = refl }
    listed {i = i} (onward {k = k} {v = v} t p j) =
        let l = listed t in
        one_more i k j v l.rest l.ends l.inner l.value p

    -- and the value of a trail is that of a path
    pub path_of_trail : {i j : ℕ} {v : V} → Trail o link (Via relay) i j v → (sites : List ℕ) × PathOver relay i j sites × (path_value o link sites ≡ v)
    path_of_trail {i = i} t =
        let l = listed t in
        (i ∷ l.rest, record { path = (refl, l.ends); inner = l.inner }, l.value)
