-- A count answers the number of links that the history tells. Assumes nothing.
use Rattle.std.proofs.Common.{◌≡◌, ℕ, zero, suc, ◌+◌, ◌*◌, ◌/◌, ◌%◌, ◌<◌, Bool, cond, not, ◌&&◌, eqb, List, refl, ap, ◌∙◌, arith}
use Rattle.kinds.specs.Kind.{Ops}
use Rattle.elimination.proofs.WalkIsLoop.{cell_of_place}
use Rattle.paths.specs.Ground.{sites}
use Rattle.paths.specs.Calls.{Status, tally, is_link, count_links}
use Rattle.paths.specs.History.{ground_after}
use Rattle.paths.specs.Law.{CountsTold}
use Rattle.paths.proofs.ToldLinks.{same_sites, links_told}

-- equal tests below m
tally_same : (m : ℕ) (f g : ℕ → Bool) → ((p : ℕ) → p < m → f p ≡ g p) → tally m f ≡ tally m g
unfolding tally
tally_same zero f g e = refl
tally_same (suc m) f g e =
    ap (λ k. k + cond (f m) 1 0) (tally_same m f g (λ p h. e p (omega arith))) ∙ ap (λ b. tally m g + cond b 1 0) (e m (omega arith))

pub counts_told : {V : Type 0} (o : Ops V) (q : ℕ) (s : Status) (xs : List V) → CountsTold o q s xs (count_links o q xs)
counts_told {V = V} o q s xs before h leads =
    let n : ℕ = sites q before in
    let ys : List V = ground_after o q before h in
    ap (count_links o q) leads
    ∙ ap (λ m. tally (m * m) (is_link o m ys)) (same_sites o q before h)
    ∙ tally_same (n * n) _ _
    (λ p below.
    let cell = cell_of_place n p below in
    ap (λ x. not (eqb (p / n) (p % n)) && not (o.same x o.none)) (links_told o q before h (p / n) (p % n) cell.0 cell.1))
