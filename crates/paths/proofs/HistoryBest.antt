-- After every history that ends settled, the routes are the best distances over the links and relays that it tells.
-- Assumes the laws of a kind.
use Rattle.std.proofs.Common.{◌≡◌, ℕ, ◌*◌, ◌^◌, ◌<◌, ◌≤◌, true, false, ◌&&◌, eqb, List, length, get_or, take, sym, refl, ap, ◌∙◌, subst, inl, inr, ⊎_elim, arith}
use Rattle.std.proofs.lemmas.List.{length-take-le, get_or-take}
use Rattle.std.proofs.lemmas.Bool.{eq-eqb, eqb-true, cases_lt, cases_Bool, and_parts, and_from, both_ways, cond-true, cond-false}
use Rattle.kinds.specs.Kind.{Ops, Laws}
use Rattle.orders.specs.declared.step.Step.{Step}
use Rattle.orders.specs.Lawful.{Lawful}
use Rattle.orders.specs.LoopOrder.{loop_at}
use Rattle.orders.specs.LoopLaws.{loop_lawful}
use Rattle.elimination.specs.Table.{place}
use Rattle.elimination.specs.Loop.{run_in_place}
use Rattle.elimination.proofs.Tables.{place_below}
use Rattle.paths.specs.Ground.{sites, link_at, route_at}
use Rattle.paths.specs.Calls.{Status, draft, settled, meets, joined_route, post_ground, path_rule, relay_steps, order_taken, settled_ground}
use Rattle.paths.specs.History.{History, made, posted, withdrawn, settled_by, reopened, ground_after}
use Rattle.paths.specs.Told.{concerns, link_told, relay_told}
use Rattle.paths.proofs.Best.{Best, best_same, best_cells}
use Rattle.paths.proofs.RunBest.{run_best}
use Rattle.paths.proofs.PostBest.{post_best}
use Rattle.paths.proofs.ListedPaths.{Via}
use Rattle.paths.proofs.RelaysTold.{relay_below, relay_bit, relay_from, meets_from, meets_known}
use Rattle.paths.proofs.Places.{sites_fit, sites_power}
use Rattle.paths.proofs.TakenPairs.{takes, pair_known, concerns_it, concerns_other, concerns_untaken}
use Rattle.paths.proofs.CallCells.{post_refused, post_route, settle_route}
use Rattle.paths.proofs.ToldLinks.{same_sites, links_told, told_kept, told_home, told_posted, run_length}

-- the order that a settling takes is lawful
pub taken_lawful : (q e : ℕ) (at : ℕ → Step) → Lawful (2 ^ e) at → Lawful (2 ^ q) (order_taken q e at)
taken_lawful q e at lawful =
    ⊎_elim
    (λ same.
    subst (Lawful (2 ^ q)) (sym (cond-true (eqb e q) at (loop_at (2 ^ q)) same)) (subst (λ m. Lawful (2 ^ m) at) (eqb-true e q same) lawful))
    (λ other. subst (Lawful (2 ^ q)) (sym (cond-false (eqb e q) at (loop_at (2 ^ q)) other)) (loop_lawful (2 ^ q)))
    (cases_Bool (eqb e q))

module _ {V : Type 0} {o : Ops V} (laws : Laws o) where
  -- a table of links and its run, as best distances over the relays of a word
  pub run_over_relays : (n : ℕ) (at : ℕ → Step) → Lawful n at → (word : ℕ) (xs : List V) → length xs ≡ n * n
      → ((i : ℕ) → i < n → get_or xs (place n i i) o.none ≡ o.here)
      → Best o n (λ i j. get_or xs (place n i j) o.none) (Via (relay_told n word))
      (λ i j. get_or (run_in_place (path_rule o) (relay_steps word) n at xs) (place n i j) o.none)
  run_over_relays n at lawful word xs long home =
      run_best laws n at lawful (relay_steps word) (Via (relay_told n word)) (relay_below n word)
      (λ s _ p. relay_bit n word s.k p) (λ s hk e. relay_from n word s.k hk e) xs long home

  -- a settling, on a ground with here from each site to itself
  settled_best : (q : ℕ) (xs : List V) (word e : ℕ) (at : ℕ → Step) → Lawful (2 ^ e) at
      → ((i : ℕ) → i < sites q xs → link_at o (sites q xs) xs i i ≡ o.here)
      → Best o (sites q xs) (link_at o (sites q xs) xs) (Via (relay_told (sites q xs) word)) (route_at o (sites q xs) (settled_ground o (sites q xs) word (order_taken q e at) xs))
  settled_best q xs word e at lawful home =
      let m : ℕ = sites q xs in
      let at' : ℕ → Step = order_taken q e at in
      let links : List V = take (m * m) xs in
      let long : length links ≡ m * m = length-take-le (m * m) xs (omega (arith, sites_fit q (length xs))) in
      let linked : (i j : ℕ) → i < m → j < m → get_or links (place m i j) o.none ≡ link_at o m xs i j = λ i j hi hj.
      get_or-take (m * m) xs (place m i j) o.none (place_below m i j hi hj) in
      ⊎_elim
      (λ (some : 0 < m).
      let lawful' : Lawful m at' = subst (λ k. Lawful k at') (sym (sites_power q (length xs) 0 some)) (taken_lawful q e at lawful) in
      best_cells (λ a b ha hb. sym (settle_route o q xs word at' (run_length o q xs word at' _) a b ha hb))
      (best_same (relay_below m word) linked (λ h p. p) (λ h p. p)
      (run_over_relays m at' lawful' word links long (λ i hi. linked i i hi hi ∙ home i hi))))
      (λ (none : m ≤ 0). record { complete = λ i j hi hj v t. absurd (omega arith); sound = λ i j hi hj. absurd (omega arith) })
      (cases_lt 0 m)

  module _ (q : ℕ) (before : List V) where
    abbrev n : ℕ
    n = sites q before

    -- nothing is said of the routes of a draft
    pub RoutesBest : (s : Status) → History V s → Type 0
    RoutesBest draft h = Unit {0}
    RoutesBest (settled word) h = Best o n (link_told o n h) (Via (relay_told n word)) (route_at o n (ground_after o q before h))

    settle_best : (h : History V draft) (word e : ℕ) (at : ℕ → Step) (lawful : Lawful (2 ^ e) at)
        → Best o n (link_told o n (settled_by h word e at lawful)) (Via (relay_told n word)) (route_at o n (ground_after o q before (settled_by h word e at lawful)))
    settle_best h word e at lawful =
        let xs : List V = ground_after o q before h in
        let ys : List V = settled_ground o (sites q xs) word (order_taken q e at) xs in
        let P : ℕ → Type 0 = λ m. ((i : ℕ) → i < m → link_at o m xs i i ≡ o.here) → Best o m (link_at o m xs) (Via (relay_told m word)) (route_at o m ys) in
        best_same (relay_below n word)
        (λ i j hi hj. links_told o q before h i j hi hj ∙ sym (told_kept o n h (settled_by h word e at lawful) i j refl))
        (λ _ p. p) (λ _ p. p)
        (subst P (same_sites o q before h) (settled_best q xs word e at lawful)
        (λ i hi. links_told o q before h i i hi hi ∙ told_home o n h i i (eq-eqb i i refl)))

    -- a post on a settled board
    module _ (word : ℕ) (h : History V (settled word)) (from to : ℕ) (v : V)
        (best : Best o n (link_told o n h) (Via (relay_told n word)) (route_at o n (ground_after o q before h))) where
      abbrev h' : History V (settled word)
      h' = posted h from to v

      abbrev xs : List V
      xs = ground_after o q before h

      abbrev ys : List V
      ys = post_ground o q (settled word) from to v xs

      abbrev via : ℕ → Type 0
      via = Via (relay_told n word)

      refused_best : takes n from to ≡ false → Best o n (link_told o n h') via (route_at o n ys)
      refused_best e =
          let P : ℕ → Type 0 = λ m. takes m from to ≡ false → ys ≡ xs in
          let same : ys ≡ xs = subst P (same_sites o q before h) (post_refused o q xs (settled word) from to v) e in
          best_cells (λ a b _ _. ap (λ zs. route_at o n zs a b) (sym same))
          (best_same (relay_below n word)
          (λ i j _ _. sym (told_posted o n h from to v i j ∙ cond-false (concerns n from to i j) _ _ (concerns_untaken n from to i j e)))
          (λ _ p. p) (λ _ p. p) best)

      taken_best : takes n from to ≡ true → Best o n (link_told o n h') via (route_at o n ys)
      taken_best e =
          let pair = pair_known n from to e in
          let P : ℕ → Type 0 = λ m. takes m from to ≡ true → (a b : ℕ) → a < m → b < m → route_at o m ys a b ≡ joined_route o m word from to v xs a b (route_at o m xs a b) in
          let routes : (a b : ℕ) → a < n → b < n → route_at o n ys a b ≡ joined_route o n word from to v xs a b (route_at o n xs a b) =
          subst P (same_sites o q before h) (post_route o q xs word from to v) e in
          post_best laws n via (relay_below n word) from to pair.from_below pair.to_below v (link_told o n h) (link_told o n h')
          (told_posted o n h from to v from to ∙ cond-true (concerns n from to from to) _ _ (concerns_it n from to from to e refl refl))
          (λ i j apart. told_posted o n h from to v i j ∙ cond-false (concerns n from to i j) _ _ (concerns_other n from to i j (λ p r. apart (sym p) (sym r))))
          (route_at o n xs) (route_at o n ys) best
          (λ a b ha hb.
          ⊎_elim
          (λ (both : (meets word from a && meets word to b) ≡ true).
          let parts = and_parts (meets word from a) (meets word to b) both in
          inl (record {
            front = meets_known n word from a pair.from_below parts.0;
            back = meets_known n word to b pair.to_below parts.1;
            value = routes a b ha hb ∙ cond-true (meets word from a && meets word to b) _ _ both;
          }))
          (λ (one : (meets word from a && meets word to b) ≡ false).
          inr (record {
            apart = λ front back. both_ways _ one (and_from (meets word from a) (meets word to b) (meets_from n word from a front) (meets_from n word to b back));
            value = routes a b ha hb ∙ cond-false (meets word from a && meets word to b) _ _ one;
          }))
          (cases_Bool (meets word from a && meets word to b)))

      posted_best : Best o n (link_told o n h') via (route_at o n ys)
      posted_best = ⊎_elim taken_best refused_best (cases_Bool (takes n from to))

    after_post : (s : Status) (h : History V s) (from to : ℕ) (v : V) → RoutesBest s h → RoutesBest s (posted h from to v)
    unfolding RoutesBest
    after_post draft h from to v best = tt
    after_post (settled word) h from to v best = posted_best word h from to v best

    routes_best : {s : Status} (h : History V s) → RoutesBest s h
    unfolding RoutesBest
    routes_best made = tt
    routes_best (posted {s = s} h from to v) = after_post s h from to v (routes_best h)
    routes_best (withdrawn h from to) = tt
    routes_best (settled_by h word e at lawful) = settle_best h word e at lawful
    routes_best (reopened h) = tt

    pub history_best : (word : ℕ) (h : History V (settled word)) → Best o n (link_told o n h) (Via (relay_told n word)) (route_at o n (ground_after o q before h))
    unfolding RoutesBest
    history_best word h = routes_best h
