-- The law of best distances holds of the answer of every ask. Assumes the laws of a kind.
use Rattle.std.proofs.Common.{◌≡◌, ℕ, ◌*◌, ◌/◌, ◌%◌, ◌^◌, ◌<◌, true, cond, ◌&&◌, ltb, List, length, get_or, Ok, Err, sym, refl, ap, ◌∙◌, subst, arith}
use Rattle.std.proofs.lemmas.List.FromFn.{length-map-range_with_len, get_or-map-range_with_len}
use Rattle.std.proofs.lemmas.Bool.{lt-ltb, eq-eqb, and_from, cond-true}
use Rattle.faults.specs.declared.LinkFault.TheVariants.{SiteOutside}
use Rattle.kinds.specs.Kind.{Ops, Laws, Covers}
use Rattle.orders.specs.declared.step.Step.{Step}
use Rattle.orders.specs.LoopOrder.{loop_at}
use Rattle.orders.specs.Lawful.{Lawful}
use Rattle.orders.specs.LoopLaws.{loop_occurs, loop_lawful}
use Rattle.elimination.specs.Table.{place}
use Rattle.elimination.specs.Loop.{looped, run_in_place}
use Rattle.elimination.specs.Walk.{five, walk}
use Rattle.elimination.proofs.Tables.{place_below, place_row, place_column}
use Rattle.elimination.proofs.LoopOrderIsLoop.{run_as_loop}
use Rattle.elimination.proofs.WalkIsLoop.{walk_leaves_loop}
use Rattle.runs.specs.Sizes.{all_fit}
use Rattle.runs.specs.Results.{careful_tables}
use Rattle.paths.specs.Paths.{PathOver, path_value}
use Rattle.paths.specs.Ground.{sites, route_at}
use Rattle.paths.specs.Calls.{settled, path_rule, relay_steps, ask_answer}
use Rattle.paths.specs.History.{History, ground_after}
use Rattle.paths.specs.Told.{link_told, relay_told, links_table}
use Rattle.paths.specs.Law.{BestDistance, ShowsBest}
use Rattle.paths.proofs.Best.{Best, best_least, best_unique, best_same, best_cells}
use Rattle.paths.proofs.ListedPaths.{Via, trail_of_path, path_of_trail}
use Rattle.paths.proofs.RelaysTold.{relay_below}
use Rattle.paths.proofs.Places.{sites_power}
use Rattle.paths.proofs.ToldLinks.{same_sites, told_home}
use Rattle.paths.proofs.HistoryBest.{run_over_relays, history_best}

-- what an ask answers for two of the sites
asked : {V : Type 0} (o : Ops V) (q a b n : ℕ) (xs : List V) → sites q xs ≡ n → a < n → b < n → ask_answer o q a b xs ≡ Ok (route_at o n xs a b)
asked o q a b n xs e ha hb =
    ap (λ m. cond (ltb a m && ltb b m) (Ok (route_at o m xs a b)) (Err SiteOutside)) e
    ∙ cond-true (ltb a n && ltb b n) _ _ (and_from (ltb a n) (ltb b n) (lt-ltb a n ha) (lt-ltb b n hb))

module _ {V : Type 0} {o : Ops V} (laws : Laws o) where
  -- the table of the links told
  table_long : (n : ℕ) {word : ℕ} (h : History V (settled word)) → length (links_table o n h) ≡ n * n
  table_long n h = length-map-range_with_len (λ p. link_told o n h (p / n) (p % n)) 0 (n * n)

  table_cell : (n : ℕ) {word : ℕ} (h : History V (settled word)) (i j : ℕ) → i < n → j < n → get_or (links_table o n h) (place n i j) o.none ≡ link_told o n h i j
  table_cell n h i j hi hj =
      get_or-map-range_with_len (λ p. link_told o n h (p / n) (p % n)) 0 (n * n) (place n i j) (place n i j) o.none (place_below n i j hi hj) (omega arith)
      ∙ ap (λ a. link_told o n h a (place n i j % n)) (place_row n i j hj)
      ∙ ap (λ b. link_told o n h i b) (place_column n i j hj)

  -- the careful walk over them leaves best distances, by every lawful order
  walk_best : (n : ℕ) (at : ℕ → Step) → Lawful n at → {word : ℕ} (h : History V (settled word))
      → Best o n (link_told o n h) (Via (relay_told n word)) (λ i j. get_or (walk (path_rule o) (relay_steps word) n at (links_table o n h)).table (place n i j) o.none)
  walk_best n at lawful {word = word} h =
      let xs : List V = links_table o n h in
      let walked : (walk (path_rule o) (relay_steps word) n at xs).table ≡ looped (path_rule o) (relay_steps word) n xs =
      (walk_leaves_loop (path_rule o) (relay_steps word) n at lawful xs (table_long n h)).table in
      let run : run_in_place (path_rule o) (relay_steps word) n (loop_at n) xs ≡ looped (path_rule o) (relay_steps word) n xs =
      run_as_loop (path_rule o) (relay_steps word) n (loop_at n) (λ k i j _ hi hj. loop_occurs n i j k hi hj) xs in
      best_cells (λ i j _ _. ap (λ ys. get_or ys (place n i j) o.none) (run ∙ sym walked))
      (best_same (relay_below n word) (table_cell n h) (λ _ p. p) (λ _ p. p)
      (run_over_relays laws n (loop_at n) (loop_lawful n) word xs (table_long n h)
      (λ i hi. table_cell n h i i hi hi ∙ told_home o n h i i (eq-eqb i i refl))))

  -- the five tables of the careful run fit
  tables_fit : (n : ℕ) (xs u0 u1 v0 v1 : List V) → length xs ≡ n * n → length u0 ≡ n * n → length u1 ≡ n * n → length v0 ≡ n * n → length v1 ≡ n * n
      → all_fit n (five xs u0 u1 v0 v1) ≡ true
  tables_fit n xs u0 u1 v0 v1 e0 e1 e2 e3 e4 =
      rw (eq-eqb (length xs) (n * n) e0, eq-eqb (length u0) (n * n) e1, eq-eqb (length u1) (n * n) e2, eq-eqb (length v0) (n * n) e3, eq-eqb (length v1) (n * n) e4) refl

  module _ (q : ℕ) (before : List V) (word : ℕ) (h : History V (settled word)) (a b : ℕ) (ha : a < sites q before) (hb : b < sites q before) where
    abbrev n : ℕ
    n = sites q before

    abbrev via : ℕ → Type 0
    via = Via (relay_told n word)

    abbrev r : V
    r = route_at o n (ground_after o q before h) a b

    best : Best o n (link_told o n h) via (route_at o n (ground_after o q before h))
    best = history_best laws q before word h

    covers_paths : (path : List ℕ) → PathOver (relay_told n word) a b path → Covers o r (path_value o (link_told o n h) path)
    covers_paths path p = best.complete a b ha hb _ (trail_of_path o (link_told o n h) (relay_told n word) a b path p)

    least : (v : V) → ((path : List ℕ) → PathOver (relay_told n word) a b path → Covers o v (path_value o (link_told o n h) path)) → Covers o v r
    least v each =
        best_least laws n best a b ha hb v
        (λ x trail.
        let listed = path_of_trail o (link_told o n h) (relay_told n word) laws trail in
        subst (Covers o v) listed.2 (each listed.0 listed.1))

    same_shown : (q' : ℕ) (before' : List V) (word' : ℕ) (h' : History V (settled word')) → sites q' before' ≡ n
        → ((i j : ℕ) → i < n → j < n → link_told o n h' i j ≡ link_told o n h i j)
        → ((s : ℕ) → s < n → relay_told n word' s ≡ relay_told n word s)
        → ask_answer o q' a b (ground_after o q' before' h') ≡ Ok r
    same_shown q' before' word' h' size links relays =
        let ys : List V = ground_after o q' before' h' in
        let P : ℕ → Type 0 = λ m. Best o m (link_told o m h') (Via (relay_told m word')) (route_at o m ys) in
        let there : Best o n (link_told o n h') (Via (relay_told n word')) (route_at o n ys) = subst P size (history_best laws q' before' word' h') in
        let other : Best o n (link_told o n h) via (route_at o n ys) =
        best_same (relay_below n word') links
        (λ s p. sym (relays s (relay_below n word' s p)) ∙ p) (λ s p. relays s (relay_below n word s p) ∙ p) there in
        asked o q' a b n ys (same_sites o q' before' h' ∙ size) ha hb
        ∙ ap Ok (best_unique laws n other best a b ha hb)

    careful : (at : ℕ → Step) → Lawful (2 ^ q) at → (u0 u1 v0 v1 : List V)
        → length u0 ≡ 2 ^ q * 2 ^ q → length u1 ≡ 2 ^ q * 2 ^ q → length v0 ≡ 2 ^ q * 2 ^ q → length v1 ≡ 2 ^ q * 2 ^ q
        → get_or (careful_tables (path_rule o) (relay_steps word) q at (five (links_table o n h) u0 u1 v0 v1)).table (place (2 ^ q) a b) o.none ≡ r
    careful at lawful u0 u1 v0 v1 e1 e2 e3 e4 =
        let m : ℕ = 2 ^ q in
        let xs : List V = links_table o n h in
        let size : n ≡ m = sites_power q (length before) a ha in
        let long : length xs ≡ m * m = table_long n h ∙ ap (λ k. k * k) size in
        let T = five xs u0 u1 v0 v1 in
        let cell : ℕ → List V → V = λ k ys. get_or ys (place k a b) o.none in
        ap (λ U. cell m U.table) (cond-true (all_fit m T) (walk (path_rule o) (relay_steps word) m at xs) T (tables_fit m xs u0 u1 v0 v1 long e1 e2 e3 e4))
        ∙ ap (λ k. cell k (walk (path_rule o) (relay_steps word) k at xs).table) (sym size)
        ∙ best_unique laws n (walk_best n at (subst (λ k. Lawful k at) (sym size) lawful) h) best a b ha hb

    pub best_distance : BestDistance o q before h a b r
    best_distance = record { covers_paths = covers_paths; least = least; same_shown = same_shown; careful = careful }

  -- the law, of what an ask answers
  pub shows_best : (q word : ℕ) (xs : List V) (a b : ℕ) → ShowsBest o q word xs a b (ask_answer o q a b xs)
  shows_best q word xs a b before h leads ha hb =
      let ys : List V = ground_after o q before h in (
        route_at o (sites q before) ys a b,
        ap (ask_answer o q a b) leads ∙ asked o q a b (sites q before) ys (same_sites o q before h) ha hb,
        best_distance q before word h a b ha hb,
      )
