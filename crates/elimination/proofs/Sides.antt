-- What one careful step does to single cells of the five tables. Assumes nothing.
use Rattle.std.proofs.Common.{◌≡◌, ℕ, suc, ◌*◌, ◌<◌, ◌≤◌, min, Bool, true, false, cond, ltb, leb, ◌≢◌, List, length, get_or, set, sym, refl, ap, ◌∙◌, ⊎_elim, arith}
use Rattle.std.proofs.lemmas.List.{get_or_default}
use Rattle.std.proofs.lemmas.Bool.{cases_lt}
use Rattle.orders.specs.declared.step.Step.{Step}
use Rattle.elimination.specs.Table.{place, changed}
use Rattle.elimination.specs.Walk.{Tables, careful_value, copied_if, kept, careful_step}
use Rattle.elimination.proofs.Tables.{length-changed, changed_is_set, get_or-changed_same, get_or-changed_other}

module _ {X : Type 0} where
  pub length-copied : (b : Bool) (xs : List X) (p : ℕ) (ys : List X) → length (copied_if b xs p ys) ≡ length ys
  length-copied true xs p ys = length-changed ys p (λ y. get_or xs p y)
  length-copied false xs p ys = refl

  pub copied_elsewhere : (b : Bool) (xs : List X) (p q : ℕ) (ys : List X) (d : X) → q ≢ p → get_or (copied_if b xs p ys) q d ≡ get_or ys q d
  copied_elsewhere true xs p q ys d ne = get_or-changed_other ys p q (λ y. get_or xs p y) d ne
  copied_elsewhere false xs p q ys d ne = refl

  pub copied_here : (b : Bool) (xs : List X) (p : ℕ) (ys : List X) (d : X) → p < length xs → p < length ys → get_or (copied_if b xs p ys) p d ≡ cond b (get_or xs p d) (get_or ys p d)
  copied_here true xs p ys d hx hy =
      get_or-changed_same ys p (λ y. get_or xs p y) d hy ∙ get_or_default xs p (get_or ys p d) d hx
  copied_here false xs p ys d hx hy = refl

  pub copied_as_set : (b : Bool) (xs : List X) (p : ℕ) (ys : List X) (x : X) → ((d : X) → get_or xs p d ≡ x) → copied_if b xs p ys ≡ cond b (set ys p x) ys
  copied_as_set true xs p ys x here = changed_is_set ys p (λ y. get_or xs p y) x ∙ ap (set ys p) (here (get_or ys p x))
  copied_as_set false xs p ys x here = refl

  -- a read from one of two tables, whatever the default
  pub read_side : (b : Bool) (later earlier after before : List X) (r : ℕ) (x d : X) → r < length later → r < length earlier
      → (b ≡ true → get_or later r d ≡ get_or after r d) → (b ≡ false → get_or earlier r d ≡ get_or before r d)
      → get_or (cond b later earlier) r x ≡ get_or (cond b after before) r d
  read_side true later earlier after before r x d hl he same _ = get_or_default later r x d hl ∙ same refl
  read_side false later earlier after before r x d hl he _ same = get_or_default earlier r x d he ∙ same refl

  -- A side table that keeps a cell up to the threshold θ, when the cell passes pivot k. `seen m` is the loop's cell after its
  -- pivots below m.
  pub side_stored : (seen : ℕ → X) (θ k : ℕ) (b : Bool) (z y : X) → (b ≡ true → k < θ) → (b ≡ false → θ ≤ k)
      → z ≡ seen (suc k) → y ≡ seen (min k θ) → cond b z y ≡ seen (min (suc k) θ)
  side_stored seen θ k true z y early late new old =
      let h : k < θ = early refl in
      new ∙ ap seen (omega arith)
  side_stored seen θ k false z y early late new old =
      let h : θ ≤ k = late refl in
      old ∙ ap seen (omega arith)

  pub side_left : (seen : ℕ → X) (θ k : ℕ) (y : X) → seen (suc k) ≡ seen k → y ≡ seen (min k θ) → y ≡ seen (min (suc k) θ)
  side_left seen θ k y same old =
      ⊎_elim
      (λ (h : k < θ). old ∙ ap seen (omega arith) ∙ sym same ∙ ap seen (omega arith))
      (λ (h : θ ≤ k). old ∙ ap seen (omega arith))
      (cases_lt k θ)

-- each of the five tables has n × n cells
pub record Long {X : Type 0} (n : ℕ) (T : Tables X) : Type 0 where
  pub table : length T.table ≡ n * n
  pub u0 : length T.u0 ≡ n * n
  pub u1 : length T.u1 ≡ n * n
  pub v0 : length T.v0 ≡ n * n
  pub v1 : length T.v1 ≡ n * n

-- the five tables agree at place q
pub record Agree {X : Type 0} (q : ℕ) (d : X) (T U : Tables X) : Type 0 where
  pub table : get_or T.table q d ≡ get_or U.table q d
  pub u0 : get_or T.u0 q d ≡ get_or U.u0 q d
  pub u1 : get_or T.u1 q d ≡ get_or U.u1 q d
  pub v0 : get_or T.v0 q d ≡ get_or U.v0 q d
  pub v1 : get_or T.v1 q d ≡ get_or U.v1 q d

module _ {X : Type 0} (rule : X → X → X → X → X) (member : Step → Bool) (n : ℕ) (s : Step) where
  abbrev p : ℕ
  p = place n s.i s.j

  pub careful_outside : (T : Tables X) → member s ≡ false → careful_step rule member n s T ≡ T
  unfolding careful_step
  careful_outside T e = rw e refl

  -- a careful step in the set, as the five tables that it leaves
  abbrev pub worked : Tables X → Tables X
  worked T = kept n s (changed T.table (place n s.i s.j) (careful_value rule n s T)) T

  pub careful_inside : (T : Tables X) → member s ≡ true → careful_step rule member n s T ≡ worked T
  unfolding careful_step
  careful_inside T e = rw e refl

  -- the same with the cell's new value x at hand
  abbrev pub stored : X → Tables X → Tables X
  stored x T = record {
    table = set T.table p x;
    u0 = cond (ltb s.k s.j) (set T.u0 p x) T.u0;
    u1 = cond (leb s.k s.j) (set T.u1 p x) T.u1;
    v0 = cond (ltb s.k s.i) (set T.v0 p x) T.v0;
    v1 = cond (leb s.k s.i) (set T.v1 p x) T.v1;
  }

  pub careful_as_stored : (x : X) (T : Tables X) → member s ≡ true → p < length T.table → x ≡ careful_value rule n s T (get_or T.table p x) → careful_step rule member n s T ≡ stored x T
  careful_as_stored x T e inside value =
      let new : List X = changed T.table p (careful_value rule n s T) in
      let here : (d : X) → get_or new p d ≡ x = λ d.
      get_or-changed_same T.table p (careful_value rule n s T) d inside
      ∙ ap (careful_value rule n s T) (get_or_default T.table p d x inside)
      ∙ sym value in
      let table : new ≡ set T.table p x = changed_is_set T.table p (careful_value rule n s T) x ∙ ap (set T.table p) (sym value) in
      let u0 = copied_as_set (ltb s.k s.j) new p T.u0 x here in
      let u1 = copied_as_set (leb s.k s.j) new p T.u1 x here in
      let v0 = copied_as_set (ltb s.k s.i) new p T.v0 x here in
      let v1 = copied_as_set (leb s.k s.i) new p T.v1 x here in
      careful_inside T e ∙ (λ i. record { table = table i; u0 = u0 i; u1 = u1 i; v0 = v0 i; v1 = v1 i })

  pub careful_long : (T : Tables X) → Long n T → Long n (careful_step rule member n s T)
  unfolding careful_step
  careful_long T long =
      elim (member s) as (λ b. Long n (cond b (worked T) T)) [
        | true ↦ record {
          table = length-changed T.table p _ ∙ long.table;
          u0 = length-copied (ltb s.k s.j) _ p T.u0 ∙ long.u0;
          u1 = length-copied (leb s.k s.j) _ p T.u1 ∙ long.u1;
          v0 = length-copied (ltb s.k s.i) _ p T.v0 ∙ long.v0;
          v1 = length-copied (leb s.k s.i) _ p T.v1 ∙ long.v1;
        }
        | false ↦ long
      ]

  pub careful_elsewhere : (q : ℕ) (d : X) (T : Tables X) → q ≢ place n s.i s.j → Agree q d (careful_step rule member n s T) T
  unfolding careful_step
  careful_elsewhere q d T ne =
      elim (member s) as (λ b. Agree q d (cond b (worked T) T) T) [
        | true ↦ record {
          table = get_or-changed_other T.table p q _ d ne;
          u0 = copied_elsewhere (ltb s.k s.j) _ p q T.u0 d ne;
          u1 = copied_elsewhere (leb s.k s.j) _ p q T.u1 d ne;
          v0 = copied_elsewhere (ltb s.k s.i) _ p q T.v0 d ne;
          v1 = copied_elsewhere (leb s.k s.i) _ p q T.v1 d ne;
        }
        | false ↦ record { table = refl; u0 = refl; u1 = refl; v0 = refl; v1 = refl }
      ]
