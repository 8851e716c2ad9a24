-- The links that a history tells are those on the ground that it leads to. Assumes nothing.
use Rattle.std.proofs.Common.{◌≡◌, ℕ, ◌*◌, ◌<◌, Bool, true, false, cond, not, ◌&&◌, eqb, List, [], ◌∷◌, length, take, sym, refl, ap, ◌∙◌, subst, ⊎_elim, arith}
use Rattle.std.proofs.lemmas.List.{length-take-le}
use Rattle.std.proofs.lemmas.Bool.{eqb-true, ne_eqb, cases_Bool, and_parts, and_left, cond-true, cond-false}
use Rattle.kinds.specs.Kind.{Ops}
use Rattle.orders.specs.declared.step.Step.{Step}
use Rattle.elimination.specs.Loop.{run_until}
use Rattle.elimination.proofs.Repeats.{upto_keeps}
use Rattle.elimination.proofs.Pivot.{length-step}
use Rattle.paths.specs.Ground.{sites_on, sites, link_at}
use Rattle.paths.specs.Calls.{Status, draft, order_taken, path_rule, relay_steps, post_ground, withdraw_ground, settled_ground}
use Rattle.paths.specs.History.{History, made, posted, withdrawn, settled_by, reopened, ground_after}
use Rattle.paths.specs.Told.{join_all, concerns, posted_since, link_told}
use Rattle.paths.proofs.Places.{sites_fit}
use Rattle.paths.proofs.TakenPairs.{takes, pair_known}
use Rattle.paths.proofs.CallCells.{make_length, make_link, post_length, post_link, withdraw_length, withdraw_link, settle_length, settle_link}

-- the run in place leaves as many cells
pub length_run : {X : Type 0} (rule : X → X → X → X → X) (member : Step → Bool) (n : ℕ) (at : ℕ → Step) (m : ℕ) (xs : List X) → length (run_until rule member n at m xs) ≡ length xs
unfolding run_until
length_run rule member n at m xs =
    upto_keeps (λ ys. length ys ≡ length xs) m _ xs refl (λ t ys _ e. length-step rule member n (at t) ys ∙ e)

-- the settled routes have n² cells
pub run_length : {V : Type 0} (o : Ops V) (q : ℕ) (xs : List V) (word : ℕ) (at : ℕ → Step) (m : ℕ)
    → length (run_until (path_rule o) (relay_steps word) (sites q xs) at m (take (sites q xs * sites q xs) xs)) ≡ sites q xs * sites q xs
run_length o q xs word at m =
    length_run (path_rule o) (relay_steps word) (sites q xs) at m (take (sites q xs * sites q xs) xs)
    ∙ length-take-le (sites q xs * sites q xs) xs (omega (arith, sites_fit q (length xs)))

module _ {V : Type 0} (o : Ops V) (n : ℕ) where
  -- a call that concerns a link is about two different sites
  concerned : (from to i j : ℕ) → concerns n from to i j ≡ true → eqb i j ≡ false
  concerned from to i j e =
      let parts = and_parts (takes n from to) (eqb from i && eqb to j) e in
      let same = and_parts (eqb from i) (eqb to j) parts.1 in
      let pair = pair_known n from to parts.0 in
      ne_eqb i j (λ e'. pair.apart (eqb-true from i same.0 ∙ e' ∙ sym (eqb-true to j same.1)))

  told_between : {s : Status} (h : History V s) (i j : ℕ) → eqb i j ≡ false → link_told o n h i j ≡ join_all o (posted_since o n h i j)
  unfolding link_told
  told_between h i j e = cond-false (eqb i j) _ _ e

  pub told_home : {s : Status} (h : History V s) (i j : ℕ) → eqb i j ≡ true → link_told o n h i j ≡ o.here
  unfolding link_told
  told_home h i j e = cond-true (eqb i j) _ _ e

  -- the making tells no link
  pub told_made : (i j : ℕ) → link_told {V = V} o n made i j ≡ cond (eqb i j) o.here o.none
  unfolding link_told
  told_made i j = refl

  pub told_kept : {s t : Status} (h : History V s) (h' : History V t) (i j : ℕ) → posted_since o n h' i j ≡ posted_since o n h i j → link_told o n h' i j ≡ link_told o n h i j
  unfolding link_told
  told_kept h h' i j e = ap (λ vs. cond (eqb i j) o.here (join_all o vs)) e

  -- a history with other values posted on a link tells it otherwise
  told_if : {s t : Status} (h : History V s) (h' : History V t) (i j : ℕ) (c : Bool) (x : V) → (c ≡ true → eqb i j ≡ false)
      → (c ≡ true → join_all o (posted_since o n h' i j) ≡ x) → (c ≡ false → posted_since o n h' i j ≡ posted_since o n h i j)
      → link_told o n h' i j ≡ cond c x (link_told o n h i j)
  told_if h h' i j c x apart changes stays =
      ⊎_elim
      (λ e. told_between h' i j (apart e) ∙ changes e ∙ sym (cond-true c x _ e))
      (λ e. told_kept h h' i j (stays e) ∙ sym (cond-false c x _ e))
      (cases_Bool c)

  pub told_posted : {s : Status} (h : History V s) (from to : ℕ) (v : V) (i j : ℕ)
      → link_told o n (posted h from to v) i j ≡ cond (concerns n from to i j) (o.join (link_told o n h i j) v) (link_told o n h i j)
  told_posted h from to v i j =
      let c : Bool = concerns n from to i j in
      let vs : List V = posted_since o n h i j in
      told_if h (posted h from to v) i j c (o.join (link_told o n h i j) v) (concerned from to i j)
      (λ e. ap (join_all o) (cond-true c (v ∷ vs) vs e) ∙ ap (λ x. o.join x v) (sym (told_between h i j (concerned from to i j e))))
      (cond-false c (v ∷ vs) vs)

  pub told_withdrawn : (h : History V draft) (from to i j : ℕ)
      → link_told o n (withdrawn h from to) i j ≡ cond (concerns n from to i j && not (o.same (link_told o n h i j) o.none)) o.none (link_told o n h i j)
  told_withdrawn h from to i j =
      let c : Bool = concerns n from to i j in
      let vs : List V = posted_since o n h i j in
      let linked : V → Bool = λ x. c && not (o.same x o.none) in
      let same : linked (join_all o vs) ≡ linked (link_told o n h i j) =
      ⊎_elim
      (λ e. ap linked (sym (told_between h i j (concerned from to i j e))))
      (λ e. and_left c _ e ∙ sym (and_left c _ e))
      (cases_Bool c) in
      told_if h (withdrawn h from to) i j (linked (join_all o vs)) o.none
      (λ e. concerned from to i j (and_parts c _ e).0)
      (λ e. ap (join_all o) (cond-true (linked (join_all o vs)) [] vs e))
      (cond-false (linked (join_all o vs)) [] vs)
      ∙ ap (λ b. cond b o.none (link_told o n h i j)) same

-- the ground keeps its length, and has the links that the history tells
module _ {V : Type 0} (o : Ops V) (q : ℕ) (before : List V) where
  abbrev n : ℕ
  n = sites q before

  pub ground_length : {s : Status} (h : History V s) → length (ground_after o q before h) ≡ length before
  ground_length made = make_length o q before
  ground_length (posted {s = s} h from to v) = post_length o q (ground_after o q before h) s from to v ∙ ground_length h
  ground_length (withdrawn h from to) = withdraw_length o q (ground_after o q before h) from to ∙ ground_length h
  ground_length (settled_by h word e at lawful) =
      settle_length o q (ground_after o q before h) word (order_taken q e at) (run_length o q (ground_after o q before h) word (order_taken q e at) _) ∙ ground_length h
  ground_length (reopened h) = ground_length h

  -- the number of sites stays
  pub same_sites : {s : Status} (h : History V s) → sites q (ground_after o q before h) ≡ n
  same_sites h = ap (sites_on q) (ground_length h)

  -- what a call leaves in the links, in terms of the sites that were made
  abbrev LinksBecome : List V → (ℕ → ℕ → ℕ → V → V) → List V → ℕ → Type 0
  LinksBecome xs f ys m = (i j : ℕ) → i < m → j < m → link_at o m ys i j ≡ f m i j (link_at o m xs i j)

  pub links_told : {s : Status} (h : History V s) (i j : ℕ) → i < n → j < n → link_at o n (ground_after o q before h) i j ≡ link_told o n h i j
  links_told made i j hi hj = make_link o q before i j hi hj ∙ sym (told_made o n i j)
  links_told (posted {s = s} h from to v) i j hi hj =
      let xs : List V = ground_after o q before h in
      let f : ℕ → ℕ → ℕ → V → V = λ m i j x. cond (concerns m from to i j) (o.join x v) x in
      subst (LinksBecome xs f (post_ground o q s from to v xs)) (same_sites h) (post_link o q xs s from to v) i j hi hj
      ∙ ap (f n i j) (links_told h i j hi hj)
      ∙ sym (told_posted o n h from to v i j)
  links_told (withdrawn h from to) i j hi hj =
      let xs : List V = ground_after o q before h in
      let f : ℕ → ℕ → ℕ → V → V = λ m i j x. cond (concerns m from to i j && not (o.same x o.none)) o.none x in
      subst (LinksBecome xs f (withdraw_ground o q from to xs)) (same_sites h) (withdraw_link o q xs from to) i j hi hj
      ∙ ap (f n i j) (links_told h i j hi hj)
      ∙ sym (told_withdrawn o n h from to i j)
  links_told (settled_by h word e at lawful) i j hi hj =
      let xs : List V = ground_after o q before h in
      let at' : ℕ → Step = order_taken q e at in
      subst (LinksBecome xs (λ _ _ _ x. x) (settled_ground o (sites q xs) word at' xs)) (same_sites h) (settle_link o q xs word at' (run_length o q xs word at' _)) i j hi hj
      ∙ links_told h i j hi hj
      ∙ sym (told_kept o n h (settled_by h word e at lawful) i j refl)
  links_told (reopened h) i j hi hj = links_told h i j hi hj ∙ sym (told_kept o n h (reopened h) i j refl)
