-- The steps of a table of a blocks by a blocks, each of b sites: the block of a step, its place inside, and its number in a nested order. Assumes nothing.
use Rattle.std.specs.Prelude.{◌≡◌, ℕ, ◌+◌, ◌*◌, ◌/◌, ◌%◌, ◌<◌, ◌≤◌, ◌≢◌, ◌⊎◌}
use Rattle.std.proofs.Common.{sym, ap, subst, ◌∙◌, inl, inr, ⊎_elim, mul-le-mul_right, mul-pos, arith}
use Rattle.std.proofs.lemmas.Nat.{div-add-mod', div-mul-add, mod-mul-add, div_below, mod_below}
use Rattle.std.proofs.lemmas.Bool.{cases_eq, cases_order}
use Rattle.orders.specs.declared.step.Step.{Step}
use Rattle.orders.specs.Order.{step_count}
use Rattle.orders.specs.Lawful.{step_of, Within}
use Rattle.orders.specs.RecursiveOrder.{placed}
use Rattle.orders.specs.PivotsFirst.{nested}
use Rattle.orders.specs.Places.{row_before, place_below, step_count_mul}

-- the block of b sites that a step works in, and the step inside that block
abbrev pub block : ℕ → Step → Step
block b s = step_of (s.i / b) (s.j / b) (s.k / b)

abbrev pub offset : ℕ → Step → Step
offset b s = step_of (s.i % b) (s.j % b) (s.k % b)

-- the number of a step in the nested order
abbrev pub nested_when : ℕ → (Step → ℕ) → (Step → ℕ) → Step → ℕ
nested_when b outer inner s = outer (block b s) * step_count b + inner (offset b s)

-- `at` lists every step once, and `when` is its inverse
pub record Listing (n : ℕ) (at : ℕ → Step) (when : Step → ℕ) : Type 0 where
  pub inside : (t : ℕ) → t < step_count n → Within n (at t)
  pub below : (s : Step) → Within n s → when s < step_count n
  pub occurs : (s : Step) → Within n s → at (when s) ≡ s
  pub once : (t : ℕ) → t < step_count n → when (at t) ≡ t

module _ (a b : ℕ) (positive : 0 < b) where
  pub within_block : (s : Step) → Within (a * b) s → Within a (block b s)
  within_block s w = record {
    row = div_below s.i b a positive w.row;
    column = div_below s.j b a positive w.column;
    pivot = div_below s.k b a positive w.pivot;
  }

  pub within_offset : (s : Step) → Within b (offset b s)
  within_offset s = record { row = mod_below s.i b positive; column = mod_below s.j b positive; pivot = mod_below s.k b positive }

  within_placed : (s u : Step) → Within a s → Within b u → Within (a * b) (placed b s u)
  within_placed s u w v = record {
    row = place_below s.i a b u.i w.row v.row;
    column = place_below s.j a b u.j w.column v.column;
    pivot = place_below s.k a b u.k w.pivot v.pivot;
  }

  placed_block : (s : Step) → placed b (block b s) (offset b s) ≡ s
  placed_block s = rw (div-add-mod' s.i b, div-add-mod' s.j b, div-add-mod' s.k b)

  block_placed : (s u : Step) → Within b u → block b (placed b s u) ≡ s
  block_placed s u v = rw (div-mul-add s.i b u.i v.row, div-mul-add s.j b u.j v.column, div-mul-add s.k b u.k v.pivot)

  offset_placed : (s u : Step) → Within b u → offset b (placed b s u) ≡ u
  offset_placed s u v = rw (mod-mul-add s.i b u.i v.row, mod-mul-add s.j b u.j v.column, mod-mul-add s.k b u.k v.pivot)

  steps_positive : 0 < step_count b
  steps_positive = mul-pos (mul-pos positive positive) positive

  within_steps : (t : ℕ) → t < step_count (a * b) → (t / step_count b < step_count a) × (t % step_count b < step_count b)
  within_steps t h =
      (div_below t (step_count b) (step_count a) steps_positive (subst (λ m. t < m) (step_count_mul a b) h), mod_below t (step_count b) steps_positive)

  pub listing_nested : {outer inner : ℕ → Step} {ow iw : Step → ℕ} → Listing a outer ow → Listing b inner iw → Listing (a * b) (nested b outer inner) (nested_when b ow iw)
  listing_nested {outer} {inner} {ow} {iw} o i = record {
    inside = λ t h. let l = within_steps t h in within_placed (outer (t / step_count b)) (inner (t % step_count b)) (o.inside _ l.0) (i.inside _ l.1);
    below = λ s w. subst (λ m. nested_when b ow iw s < m) (sym (step_count_mul a b)) (place_below _ (step_count a) (step_count b) _ (o.below _ (within_block s w)) (i.below _ (within_offset s)));
    occurs = λ s w.
        let u = ow (block b s) in
        let v = iw (offset b s) in
        let small : v < step_count b = i.below _ (within_offset s) in
        let at_block = o.occurs _ (within_block s w) in
        let at_offset = i.occurs _ (within_offset s) in
        let at_places : nested b outer inner (nested_when b ow iw s) ≡ placed b (block b s) (offset b s) = rw (div-mul-add u (step_count b) v small, mod-mul-add u (step_count b) v small, at_block, at_offset) in
        at_places ∙ placed_block s;
    once = λ t h.
        let l = within_steps t h in
        let s = outer (t / step_count b) in
        let u = inner (t % step_count b) in
        let within : Within b u = i.inside _ l.1 in
        let numbers : nested_when b ow iw (placed b s u) ≡ t / step_count b * step_count b + t % step_count b = rw (block_placed s u within, offset_placed s u within, o.once _ l.0, i.once _ l.1) in
        numbers ∙ div-add-mod' t (step_count b);
  }

-- two numbers in order, or unequal, by their blocks and by their places inside
split_lt : (b : ℕ) → 0 < b → (h k : ℕ) → h < k → (h / b < k / b) ⊎ ((h / b ≡ k / b) × (h % b < k % b))
split_lt b positive h k l =
    let sum_h = div-add-mod' h b in
    let sum_k = div-add-mod' k b in
    ⊎_elim (λ (e : h / b ≡ k / b). let same = ap (λ x. x * b) e in inr (e, omega arith))
    (⊎_elim (λ (lt : h / b < k / b). inl lt) (λ (gt : k / b < h / b). let r = row_before (k / b) (h / b) b (k % b) (h % b) gt (mod_below k b positive) in inl (omega arith)))
    (cases_order (h / b) (k / b))

split_ne : (b j k : ℕ) → j ≢ k → (j / b ≢ k / b) ⊎ ((j / b ≡ k / b) × (j % b ≢ k % b))
split_ne b j k ne =
    ⊎_elim (λ (e : j / b ≡ k / b). inr (e, λ (f : j % b ≡ k % b). ne (sym (div-add-mod' j b) ∙ ap (λ x. x * b + j % b) e ∙ ap (λ x. k / b * b + x) f ∙ div-add-mod' k b)))
    (λ (n : j / b ≢ k / b). inl n) (cases_eq (j / b) (k / b))

-- the number of a step grows with its block's, and inside one block with its own
module _ (b : ℕ) (positive : 0 < b) (ow iw : Step → ℕ) (below : (s : Step) → Within b s → iw s < step_count b) where
  by_block : (s u : Step) → ow (block b s) < ow (block b u) → nested_when b ow iw s < nested_when b ow iw u
  by_block s u l = row_before _ _ (step_count b) _ _ l (below _ (within_offset b b positive s))

  by_offset : (s u : Step) → ow (block b s) ≤ ow (block b u) → iw (offset b s) < iw (offset b u) → nested_when b ow iw s < nested_when b ow iw u
  by_offset s u m l = let more = mul-le-mul_right (step_count b) m in omega arith

  -- where a smaller number decides, by its block or by its place inside
  pub earlier_by_less : (s u : Step) (h k : ℕ) → h < k
      → (h / b < k / b → ow (block b s) < ow (block b u))
      → (h / b ≡ k / b → ow (block b s) ≤ ow (block b u))
      → (h % b < k % b → iw (offset b s) < iw (offset b u))
      → nested_when b ow iw s < nested_when b ow iw u
  earlier_by_less s u h k l less same inner =
      ⊎_elim (λ (lt : h / b < k / b). by_block s u (less lt)) (λ (e : (h / b ≡ k / b) × (h % b < k % b)). by_offset s u (same e.0) (inner e.1)) (split_lt b positive h k l)

  -- where two unequal numbers decide
  pub earlier_by_other : (s u : Step) (j k : ℕ) → j ≢ k
      → (j / b ≢ k / b → ow (block b s) < ow (block b u))
      → ow (block b s) ≤ ow (block b u)
      → (j % b ≢ k % b → iw (offset b s) < iw (offset b u))
      → nested_when b ow iw s < nested_when b ow iw u
  earlier_by_other s u j k n other same inner =
      ⊎_elim (λ (ne : j / b ≢ k / b). by_block s u (other ne)) (λ (e : (j / b ≡ k / b) × (j % b ≢ k % b)). by_offset s u same (inner e.1)) (split_ne b j k n)
