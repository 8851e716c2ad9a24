-- Fares keep the laws of a kind: they choose the smaller cost, then the fewer hops. Assumes nothing.
use Rattle.std.specs.Prelude.{◌≡◌, ℕ, ◌+◌, ◌*◌, ◌<◌, ◌≤◌, min, true, false, ◌⊎◌, refl}
use Rattle.std.proofs.Common.{◌∙◌, inl, inr, arith}
use Rattle.std.proofs.lemmas.Bool.{cond-false}
use Rattle.std.proofs.lemmas.Bool.Decides.{nat_tests}
use Rattle.kinds.specs.Kind.{Laws}
use Rattle.kinds.specs.Ranked.{Ranked}
use Rattle.kinds.specs.Fares.{fares, fare_same, fare_sum, fare_here, is_here, no_dearer}
use Rattle.kinds.specs.declared.cells.Fare.{Fare}
use Rattle.kinds.specs.Equal.{fare_equal}
use Rattle.kinds.specs.Choosing.{ranked_lawful}

abbrev rank : Fare → ℕ
rank a = a.cost * 4294967296 + a.hops

same_equal : (a b : Fare) → fare_same a b ≡ true → a ≡ b
same_equal a b e = grind (arith, nat_tests, fare_equal)

equal_same : (a b : Fare) → a ≡ b → fare_same a b ≡ true
equal_same a b e = grind (arith, nat_tests)

rank_equal : (a b : Fare) → rank a ≡ rank b → a ≡ b
rank_equal a b e = fare_equal a b (omega arith) (omega arith)

-- what the test tells, and which fare is taken
no_dearer_tells : (a b : Fare) → ((no_dearer a b ≡ true) × (rank a ≤ rank b)) ⊎ ((no_dearer a b ≡ false) × (rank b ≤ rank a))
no_dearer_tells a b = grind (arith, nat_tests)

join_rank : (a b : Fare) → rank (fares.join a b) ≡ min (rank a) (rank b)
join_rank a b = grind (arith, nat_tests)

-- a fare that is not here
abbrev Apart : Fare → Type 0
Apart a = (is_here a ≡ false) × (0 < rank a)

is_here_tells : (a : Fare) → ((is_here a ≡ true) × (a ≡ fare_here)) ⊎ Apart a
is_here_tells a = grind (arith, nat_tests, fare_equal)

-- what s is when it is the sum of a and b
abbrev Adds : Fare → Fare → Fare → Type 0
Adds a b s =
    (s.cost ≡ min (a.cost + b.cost) 4294967295)
    × (((a.cost + b.cost < 4294967295) × (s.hops ≡ min (a.hops + b.hops) 4294967295)) ⊎ ((4294967295 ≤ a.cost + b.cost) × (s.hops ≡ 4294967295)))

sum_adds : (a b : Fare) → Adds a b (fare_sum a b)
sum_adds a b = grind (arith, nat_tests)

adds_assoc : (a b c p q x y : Fare) → Adds a b p → Adds p c x → Adds b c q → Adds a q y → x ≡ y
adds_assoc a b c p q x y h i j k = fare_equal x y (omega arith) (omega arith)

-- what sums are by themselves; the proofs below need none of these three
adds_comm : (a b x y : Fare) → Adds a b x → Adds b a y → x ≡ y
adds_comm a b x y h i = fare_equal x y (omega arith) (omega arith)

adds_mono : (a b c x y : Fare) → rank a ≤ rank b → Adds a c x → Adds b c y → rank x ≤ rank y
adds_mono a b c x y h i j = omega arith

adds_above : (b c y : Fare) → Adds b c y → rank c ≤ rank y
adds_above b c y h = omega arith

chain_here : (a : Fare) → fares.chain a fare_here ≡ a
chain_here a = grind (arith, nat_tests, fare_equal)

chain_apart : (a b : Fare) → is_here a ≡ false → is_here b ≡ false → fares.chain a b ≡ fare_sum a b
chain_apart a b p q = cond-false _ _ _ p ∙ cond-false _ _ _ q

chain_adds : (a b : Fare) → is_here a ≡ false → is_here b ≡ false → Adds a b (fares.chain a b)
chain_adds a b p q = simp (p, q) (sum_adds a b)

-- fares that are not here do not chain to here
adds_apart : (a b s : Fare) → 0 < rank a → Adds a b s → is_here s ≡ false
adds_apart a b s h i = grind (arith, nat_tests)

chain_comm : (a b : Fare) → fares.chain a b ≡ fares.chain b a
chain_comm a b = grind (arith, nat_tests, fare_equal)

apart_assoc : (a b c : Fare) → Apart a → Apart b → Apart c → fares.chain (fares.chain a b) c ≡ fares.chain a (fares.chain b c)
apart_assoc a b c h i j =
    let ab = fares.chain a b in
    let bc = fares.chain b c in
    let p = chain_adds a b h.0 i.0 in
    let q = chain_adds b c i.0 j.0 in
    let x = chain_adds ab c (adds_apart a b ab h.1 p) j.0 in
    let y = chain_adds a bc h.0 (adds_apart b c bc i.1 q) in
    adds_assoc a b c ab bc (fares.chain ab c) (fares.chain a bc) p x q y

chain_assoc : (a b c : Fare) → fares.chain (fares.chain a b) c ≡ fares.chain a (fares.chain b c)
chain_assoc a b c = elim (is_here_tells a) [
  | inl h ↦ simp h.0
  | inr h ↦ elim (is_here_tells b) [
    | inl i ↦ simp (i.1, h.0)
    | inr i ↦ elim (is_here_tells c) [
      | inl j ↦ simp (j.1, chain_here)
      | inr j ↦ apart_assoc a b c h i j
    ]
  ]
]

chain_left : (a b c : Fare) → rank a ≤ rank b → rank (fares.chain a c) ≤ rank (fares.chain b c)
chain_left a b c le = grind (arith, nat_tests)

pub fares_ranked : Ranked fares
fares_ranked = record {
  rank = rank;
  apart = rank_equal;
  lower = join_rank;
  best = refl;
  worst = λ a. omega arith;
  chain_left = chain_left;
  chain_right = λ a b c h. rw (chain_comm a b, chain_comm a c) (chain_left b c a h);
}

pub fares_lawful : Laws fares
fares_lawful = ranked_lawful fares_ranked chain_assoc (λ a. refl) chain_here same_equal equal_same
