-- The count of links, place by place. Assumes nothing.
use Rattle.std.proofs.Common.{◌≡◌, ℕ, ◌+◌, ◌/◌, ◌%◌, Bool, cond, not, ◌&&◌, eqb, List, get_or, refl, ap, add-one}
use Rattle.std.proofs.lemmas.Nat.{div-add-mod'}
use Rattle.kinds.specs.Kind.{Ops}
use Rattle.paths.specs.Calls.{tally, is_link}

pub tally_none : (test : ℕ → Bool) → tally 0 test ≡ 0
unfolding tally
tally_none test = refl

pub tally_more : (m : ℕ) (test : ℕ → Bool) → tally (m + 1) test ≡ tally m test + cond (test m) 1 0
unfolding tally
tally_more m test = rw add-one refl

-- the test reads the cell at its place
pub is_link_here : {V : Type 0} (o : Ops V) (n : ℕ) (xs : List V) (p : ℕ)
    → is_link o n xs p ≡ (not (eqb (p / n) (p % n)) && not (o.same (get_or xs p o.none) o.none))
is_link_here o n xs p = ap (λ q. not (eqb (p / n) (p % n)) && not (o.same (get_or xs q o.none) o.none)) (div-add-mod' p n)
