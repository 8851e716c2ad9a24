-- What a call on a pair of sites answers and leaves once the pair is taken. Assumes nothing.
use Rattle.std.proofs.Common.{◌≡◌, ℕ, ◌<◌, false, cond, ◌&&◌, eqb, ltb, List, length, get_or, set, Ok, Err, Result, sym, refl, ap, ◌∙◌, subst, arith}
use Rattle.std.proofs.lemmas.List.{get_or_default}
use Rattle.faults.specs.declared.LinkFault.{LinkFault}
use Rattle.faults.specs.declared.LinkFault.TheVariants.{SiteOutside, SameSite, NoLink}
use Rattle.kinds.specs.Kind.{Ops}
use Rattle.elimination.specs.Table.{place, changed}
use Rattle.elimination.proofs.Tables.{changed_is_set}
use Rattle.paths.specs.Ground.{sites, link_at}
use Rattle.paths.specs.Calls.{Status, draft, settled, if_taken, pair_answer, post_answer, post_ground, posted_ground, join_routes, link_answer, withdraw_answer, withdraw_ground}
use Rattle.ground.specs.Cells.{Pair}

-- after a pair that is taken, the next check decides
pair_then : (n from to : ℕ) (next : Result (Unit {0}) LinkFault) → Ok tt ≡ pair_answer n from to
    → cond (ltb from n && ltb to n) (cond (eqb from to) (Err SameSite) next) (Err SiteOutside) ≡ next
pair_then n from to next taken = grind arith

-- a pair that is taken is one of sites below n
pub pair_known : (n from to : ℕ) → Ok tt ≡ pair_answer n from to → Pair n from to
pair_known n from to taken = record { first = grind arith; second = grind arith }

module _ {V : Type 0} (o : Ops V) (q from to : ℕ) (xs : List V) where
  -- a post on a draft or a settled board
  post_leaves : (s : Status) (v : V) → Ok tt ≡ post_answer q from to xs → posted_ground o (sites q xs) s from to v xs ≡ post_ground o q s from to v xs
  post_leaves s v taken = ap (λ r. if_taken r (posted_ground o (sites q xs) s from to v xs) xs) taken

  -- on a settled board the routes are joined after the post on its links
  pub post_and_join_leaves : (n word : ℕ) (v : V) (ys : List V) → n ≡ sites q xs → Ok tt ≡ post_answer q from to xs → ys ≡ post_ground o q draft from to v xs
      → join_routes o n word from to v ys ≡ post_ground o q (settled word) from to v xs
  post_and_join_leaves n word v ys n_is taken drafted =
      ap (λ m. join_routes o m word from to v ys) n_is
      ∙ ap (join_routes o (sites q xs) word from to v) (drafted ∙ sym (post_leaves draft v taken))
      ∙ post_leaves (settled word) v taken

  -- the place of a link that may stand, read with any default
  module _ (n at : ℕ) (d : V) (n_is : n ≡ sites q xs) (taken : Ok tt ≡ pair_answer n from to) (placed : at ≡ place n from to) where
    abbrev link : V
    link = get_or xs at d

    left : (f : V → V) → set xs at (f link) ≡ changed xs (place (sites q xs) from to) f
    left f = sym (changed_is_set xs at f d) ∙ ap (λ p. changed xs p f) (placed ∙ ap (λ m. place m from to) n_is)

    pub post_link_leaves : (v y : V) → y ≡ o.join link v → set xs at y ≡ post_ground o q draft from to v xs
    post_link_leaves v y joined =
        ap (set xs at) joined ∙ left (λ z. o.join z v) ∙ post_leaves draft v (subst (λ m. Ok tt ≡ pair_answer m from to) n_is taken)

    -- a withdrawal of a link that is there
    module _ (inside : at < length xs) (there : o.same link o.none ≡ false) where
      withdraw_taken : Ok tt ≡ withdraw_answer o q from to xs
      withdraw_taken =
          let is : link ≡ link_at o n xs from to = get_or_default xs at d o.none inside ∙ ap (λ p. get_or xs p o.none) placed in
          subst (λ m. Ok tt ≡ cond (ltb from m && ltb to m) (cond (eqb from to) (Err SameSite) (link_answer o (link_at o m xs from to))) (Err SiteOutside)) n_is
          (sym (ap (λ b. cond b (Err NoLink) (Ok tt)) there) ∙ ap (link_answer o) is ∙ sym (pair_then n from to (link_answer o (link_at o n xs from to)) taken))

      pub withdraw_link_leaves : (y : V) → y ≡ o.none → set xs at y ≡ withdraw_ground o q from to xs
      withdraw_link_leaves y none =
          ap (set xs at) none
          ∙ left (λ _. o.none)
          ∙ ap (λ r. if_taken r (changed xs (place (sites q xs) from to) (λ _. o.none)) xs) withdraw_taken

-- the same, by the definitions of a link's place and value
module _ {V : Type 0} (o : Ops V) (q n from to : ℕ) (xs : List V) (n_is : n ≡ sites q xs) (taken : Ok tt ≡ pair_answer n from to) where
  post_taken : Ok tt ≡ post_answer q from to xs
  post_taken = subst (λ m. Ok tt ≡ pair_answer m from to) n_is taken

  pub draft_leaves : (v : V) → set xs (place n from to) (o.join (link_at o n xs from to) v) ≡ post_ground o q draft from to v xs
  draft_leaves v = post_link_leaves o q from to xs n (place n from to) o.none n_is taken refl v _ refl

  pub settled_leaves : (word : ℕ) (v : V)
      → join_routes o n word from to v (set xs (place n from to) (o.join (link_at o n xs from to) v)) ≡ post_ground o q (settled word) from to v xs
  settled_leaves word v = post_and_join_leaves o q from to xs n word v _ n_is post_taken (draft_leaves v)

  pub withdraw_leaves : Ok tt ≡ link_answer o (link_at o n xs from to) → set xs (place n from to) o.none ≡ withdraw_ground o q from to xs
  withdraw_leaves there =
      sym (changed_is_set xs (place n from to) (λ _. o.none) o.none)
      ∙ ap (λ m. changed xs (place m from to) (λ _. o.none)) n_is
      ∙ ap (λ r. if_taken r (changed xs (place (sites q xs) from to) (λ _. o.none)) xs)
      (subst (λ m. Ok tt ≡ cond (ltb from m && ltb to m) (cond (eqb from to) (Err SameSite) (link_answer o (link_at o m xs from to))) (Err SiteOutside)) n_is
      (there ∙ sym (pair_then n from to (link_answer o (link_at o n xs from to)) taken)))
