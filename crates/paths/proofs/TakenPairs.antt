-- Pairs of sites that a post or a withdrawal takes, and the links that it concerns. Assumes nothing.
use Rattle.std.proofs.Common.{◌≡◌, ℕ, ◌<◌, Bool, true, false, cond, not, ◌&&◌, eqb, ltb, Ok, Err, Result, refl, arith}
use Rattle.std.proofs.lemmas.Bool.{ltb-true, eqb-true, eqb-false, eq-eqb}
use Rattle.faults.specs.declared.LinkFault.{LinkFault}
use Rattle.faults.specs.declared.LinkFault.TheVariants.{SiteOutside, SameSite}
use Rattle.paths.specs.Calls.{pair_answer}
use Rattle.paths.specs.Told.{concerns}

-- whether a pair of sites is taken
abbrev pub takes : ℕ → ℕ → ℕ → Bool
takes n from to = ltb from n && ltb to n && not (eqb from to)

pub pair_taken : (n from to : ℕ) → takes n from to ≡ true → pair_answer n from to ≡ Ok tt
pair_taken n from to = at (ltb from n) (ltb to n) (eqb from to)
  where
    at : (x y z : Bool) → (x && y && not z) ≡ true → ◌≡◌ {A = Result (Unit {0}) LinkFault} (cond (x && y) (cond z (Err SameSite) (Ok tt)) (Err SiteOutside)) (Ok tt)
    at true true false e = refl
    at true true true e = let z : ◌≡◌ {A = ℕ} 0 1 = cc in absurd (omega arith)
    at true false z e = let z : ◌≡◌ {A = ℕ} 0 1 = cc in absurd (omega arith)
    at false y z e = let z : ◌≡◌ {A = ℕ} 0 1 = cc in absurd (omega arith)

-- a pair that is not taken is refused, whatever would come after
pub pair_refused : (n from to : ℕ) (more : Result (Unit {0}) LinkFault) → takes n from to ≡ false
    → (e : LinkFault) × (cond (ltb from n && ltb to n) (cond (eqb from to) (Err SameSite) more) (Err SiteOutside) ≡ Err e)
pair_refused n from to more = at (ltb from n) (ltb to n) (eqb from to)
  where
    at : (x y z : Bool) → (x && y && not z) ≡ false → (e : LinkFault) × (cond (x && y) (cond z (Err SameSite) more) (Err SiteOutside) ≡ Err e)
    at true true true h = (SameSite, refl)
    at true true false h = let z : ◌≡◌ {A = ℕ} 0 1 = cc in absurd (omega arith)
    at true false z h = (SiteOutside, refl)
    at false y z h = (SiteOutside, refl)

-- what is known of a pair that is taken
pub record TakenPair (n from to : ℕ) : Type 0 where
  pub from_below : from < n
  pub to_below : to < n
  pub apart : from ≡ to → ⊥

pub pair_known : (n from to : ℕ) → takes n from to ≡ true → TakenPair n from to
pair_known n from to = at (ltb from n) (ltb to n) (eqb from to) refl refl refl
  where
    at : (x y z : Bool) → ltb from n ≡ x → ltb to n ≡ y → eqb from to ≡ z → (x && y && not z) ≡ true → TakenPair n from to
    at true true false hx hy hz e = record { from_below = ltb-true from n hx; to_below = ltb-true to n hy; apart = eqb-false from to hz }
    at true true true hx hy hz e = let z : ◌≡◌ {A = ℕ} 0 1 = cc in absurd (omega arith)
    at true false z hx hy hz e = let z : ◌≡◌ {A = ℕ} 0 1 = cc in absurd (omega arith)
    at false y z hx hy hz e = let z : ◌≡◌ {A = ℕ} 0 1 = cc in absurd (omega arith)

-- whether a call that is taken concerns the link from i to j
pub concerns_it : (n from to i j : ℕ) → takes n from to ≡ true → from ≡ i → to ≡ j → concerns n from to i j ≡ true
concerns_it n from to i j e p q = rw (e, eq-eqb from i p, eq-eqb to j q) refl

pub concerns_other : (n from to i j : ℕ) → (from ≡ i → to ≡ j → ⊥) → concerns n from to i j ≡ false
concerns_other n from to i j apart = at (takes n from to) (eqb from i) (eqb to j) refl refl
  where
    at : (x y z : Bool) → eqb from i ≡ y → eqb to j ≡ z → (x && (y && z)) ≡ false
    at false y z hy hz = refl
    at true false z hy hz = refl
    at true true false hy hz = refl
    at true true true hy hz = absurd (apart (eqb-true from i hy) (eqb-true to j hz))

pub concerns_untaken : (n from to i j : ℕ) → takes n from to ≡ false → concerns n from to i j ≡ false
concerns_untaken n from to i j e = rw e refl
