-- Paths between sites: their inner sites, and their value over given links. Assumes nothing.
use Rattle.std.specs.Prelude.{◌≡◌, ℕ, Bool, true, List, [], ◌∷◌}
use Rattle.kinds.specs.Kind.{Ops}

-- the last of a list of sites that begins with s
abbrev pub last_site : ℕ → List ℕ → ℕ
last_site s [] = s
last_site s (t ∷ rest) = last_site t rest

-- a path from i to j: a list of sites that begins with i and ends with j; the list of one site is a path from it to itself
abbrev pub IsPath : ℕ → ℕ → List ℕ → Type 0
IsPath i j [] = ⊥
IsPath i j (s ∷ rest) = (s ≡ i) × (last_site s rest ≡ j)

-- all but the last of a list of sites that begins with s
abbrev pub but_last : ℕ → List ℕ → List ℕ
but_last s [] = []
but_last s (t ∷ rest) = s ∷ but_last t rest

-- all but the first and the last
abbrev pub inner_sites : List ℕ → List ℕ
inner_sites [] = []
inner_sites (s ∷ []) = []
inner_sites (s ∷ t ∷ rest) = but_last t rest

abbrev pub AllRelays : (ℕ → Bool) → List ℕ → Type 0
AllRelays relay [] = Unit {0}
AllRelays relay (s ∷ rest) = (relay s ≡ true) × AllRelays relay rest

-- a path from i to j whose inner sites are relays
pub record PathOver (relay : ℕ → Bool) (i j : ℕ) (sites : List ℕ) : Type 0 where
  pub path : IsPath i j sites
  pub inner : AllRelays relay (inner_sites sites)

-- the value v, and then the links from s over further sites, chained from the left
abbrev pub chained : {V : Type 0} → Ops V → (ℕ → ℕ → V) → V → ℕ → List ℕ → V
chained o link v s [] = v
chained o link v s (t ∷ rest) = chained o link (o.chain v (link s t)) t rest

-- the value of a path: the chain, from the left, of the links between neighbours, and here for one site
abbrev pub path_value : {V : Type 0} → Ops V → (ℕ → ℕ → V) → List ℕ → V
path_value o link [] = o.here
path_value o link (s ∷ []) = o.here
path_value o link (s ∷ t ∷ rest) = chained o link (link s t) t rest
