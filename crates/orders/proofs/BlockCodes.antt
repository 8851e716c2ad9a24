-- The codes of a part of the table: how the parts of the eight digits follow one another. Assumes nothing.
use Rattle.std.proofs.Common.{◌≡◌, ℕ, zero, suc, ◌+◌, ◌*◌, ◌^◌, ◌<◌, ◌≤◌, List, [], ◌∷◌, ◌++◌, map, length, take, set, sym, refl, ap, ◌∙◌, add-zero, mul-le-mul_right, suc-mul, mul_comm, add-mul, one-mul, pow-suc, zero-add, zero-mul, add-one, arith}
use Rattle.std.specs.List.{range_with_len}
use Rattle.std.proofs.lemmas.List.{append-nil, append_assoc, take_all}
use Rattle.std.proofs.lemmas.List.FromFn.{length-map-range_with_len, map-range_with_len_more}
use Rattle.std.proofs.lemmas.Slice.{take-put_mid}
use borrow.Rule.Slice.PartMut.{put_mid}
use Rattle.orders.specs.declared.step.Step.{Step}
use Rattle.orders.specs.Order.{step_count}
use Rattle.orders.specs.Lawful.{step_of}
use Rattle.orders.specs.RecursiveOrder.{digit_step, placed, recursive_at}
use Rattle.orders.specs.Codes.{step_code, step_codes}
use Rattle.orders.specs.Writing.{moved, block_codes}
use Rattle.orders.specs.Places.{step_count_mul}
use Rattle.orders.specs.Steps.{same_step}
use Rattle.orders.specs.RecursiveLaws.{highest_digit}

-- a list made from a function of the index, cut in two
counted_both : {X : Type 0} (f g : ℕ → X) (a m : ℕ) → ((t : ℕ) → t < m → f (a + t) ≡ g t) → map f (range_with_len 0 (a + m)) ≡ map f (range_with_len 0 a) ++ map g (range_with_len 0 m)
counted_both f g a zero same = ap (λ n. map f (range_with_len 0 n)) (add-zero a) ∙ sym (append-nil (map f (range_with_len 0 a)))
counted_both f g a (suc m) same =
    ap (λ n. map f (range_with_len 0 n)) (omega arith)
    ∙ map-range_with_len_more f 0 (a + m) (a + m) (omega arith)
    ∙ ap (λ l. l ++ (f (a + m) ∷ [])) (counted_both f g a m (λ t h. same t (omega arith)))
    ∙ append_assoc (map f (range_with_len 0 a)) (map g (range_with_len 0 m)) (f (a + m) ∷ [])
    ∙ ap (λ x. map f (range_with_len 0 a) ++ (map g (range_with_len 0 m) ++ (x ∷ []))) (same m (omega arith))
    ∙ ap (λ l. map f (range_with_len 0 a) ++ l) (sym (map-range_with_len_more g 0 m m (omega arith)) ∙ ap (λ n. map g (range_with_len 0 n)) (add-one m))

block_codes_none : (q : ℕ) (c : Step) → block_codes q c 0 ≡ []
unfolding block_codes
block_codes_none q c = refl

length_block_codes : (q : ℕ) (c : Step) (m : ℕ) → length (block_codes q c m) ≡ m
unfolding block_codes
length_block_codes q c m = length-map-range_with_len _ 0 m

-- a table of one site has one step
block_codes_one : (c : Step) → block_codes 0 c 1 ≡ step_code c ∷ []
unfolding block_codes
block_codes_one c = ap (λ s. step_code s ∷ []) (same_step (add-zero c.i) (add-zero c.j) (add-zero c.k))

-- the one step of a table of one site, written
pub one_written : (q v : ℕ) (c : Step) (xs : List ℕ) → q ≡ 0 → v ≡ step_code c → length xs ≡ step_count (2 ^ q) → set xs 0 v ≡ block_codes q c (step_count (2 ^ q))
one_written q v c xs none is_code room =
    let one : step_count (2 ^ q) ≡ 1 = ap (λ p. step_count (2 ^ p)) none in
    one_cell v xs (room ∙ one) ∙ rw (none, is_code) (sym (block_codes_one c))
  where
    one_cell : (x : ℕ) (ys : List ℕ) → length ys ≡ 1 → set ys 0 x ≡ x ∷ []
    one_cell x [] h = absurd (omega arith)
    one_cell x (y ∷ []) h = refl
    one_cell x (y ∷ z ∷ zs) h = absurd (omega arith)

-- no step yet
pub none_written : (q m : ℕ) (c : Step) → block_codes q c (0 * m) ≡ []
none_written q m c = ap (block_codes q c) (zero-mul m) ∙ block_codes_none q c

-- the codes from the corner of the whole table
pub block_codes_all : (q : ℕ) → block_codes q (step_of 0 0 0) (step_count (2 ^ q)) ≡ step_codes q
unfolding block_codes step_codes
block_codes_all q = ap (λ f. map f (range_with_len 0 (step_count (2 ^ q)))) (λ i t. step_code (from_zero (recursive_at q t) i))
  where
    from_zero : (s : Step) → moved (step_of 0 0 0) s ≡ s
    from_zero s = same_step (zero-add s.i) (zero-add s.j) (zero-add s.k)

-- the part of a table that the digit d names, after the parts of the smaller digits
pub block_codes_part : (q d : ℕ) (c : Step) → d < 8 →
    block_codes (suc q) c (d * step_count (2 ^ q) + step_count (2 ^ q)) ≡ block_codes (suc q) c (d * step_count (2 ^ q)) ++ block_codes q (placed (2 ^ q) (digit_step d) c) (step_count (2 ^ q))
unfolding block_codes
block_codes_part q d c h = counted_both _ _ (d * step_count (2 ^ q)) (step_count (2 ^ q)) (λ t l. ap step_code (ap (moved c) (highest_digit q d t h l) ∙ moved_placed (recursive_at q t)))
  where
    moved_placed : (s : Step) → moved c (placed (2 ^ q) (digit_step d) s) ≡ moved (placed (2 ^ q) (digit_step d) c) s
    moved_placed s = same_step (omega arith) (omega arith) (omega arith)

-- a table of 2^q sites by its halves of 2^p, which has eight parts of s steps each
module _ (q p s : ℕ) (above : q ≡ p + 1) (is_steps : s ≡ step_count (2 ^ p)) where
  sites_by_half : 2 ^ q ≡ 2 ^ p * 2
  sites_by_half = ap (λ e. 2 ^ e) (above ∙ add-one p) ∙ pow-suc 2 p

  steps_by_part : step_count (2 ^ q) ≡ s * 8
  steps_by_part = ap step_count sites_by_half ∙ step_count_mul (2 ^ p) 2 ∙ ap (λ x. x * 8) (sym is_steps)

  -- the part that a digit names ends within the table's steps
  pub part_room : (d : ℕ) → d < 8 → d * s + s ≤ step_count (2 ^ q)
  part_room d h = omega (arith, mul-le-mul_right s h, suc-mul d s, steps_by_part)

  -- the codes of one part more
  part_codes : (d : ℕ) (c : Step) → d < 8 → block_codes q c (d * s) ++ block_codes p (placed (2 ^ p) (digit_step d) c) (step_count (2 ^ p)) ≡ block_codes q c (d * s + s)
  part_codes d c h = rw (above, add-one p, is_steps) (sym (block_codes_part p d c h))

  -- written from its corner e on
  pub part_written : (d k : ℕ) (c e : Step) (xs ys : List ℕ) → d < 8 → length xs ≡ step_count (2 ^ q) → e ≡ placed (2 ^ p) (digit_step d) c
      → take (d * s) xs ≡ block_codes q c (d * s) → ys ≡ block_codes p e (step_count (2 ^ p))
      → take ((d + 1) * s) (put_mid (d * s) k xs ys) ≡ block_codes q c ((d + 1) * s)
  part_written d k c e xs ys h room corner before part =
      let more : (d + 1) * s ≡ d * s + s = add-mul d 1 s ∙ ap (λ x. d * s + x) (one-mul s) in
      let long : length ys ≡ s = ap length part ∙ length_block_codes p e (step_count (2 ^ p)) ∙ sym is_steps in
      rw more (take-put_mid (d * s) k xs ys (d * s + s) (omega arith) (omega (arith, part_room d h)) ∙ rw (before, part, corner) (part_codes d c h))

  -- all eight
  pub all_written : (d : ℕ) (c : Step) (xs : List ℕ) → d ≡ 8 → length xs ≡ step_count (2 ^ q) → take (d * s) xs ≡ block_codes q c (d * s) → xs ≡ block_codes q c (step_count (2 ^ q))
  all_written d c xs e room written =
      let all : d * s ≡ step_count (2 ^ q) = ap (λ x. x * s) e ∙ mul_comm 8 s ∙ sym steps_by_part in
      sym (take_all (step_count (2 ^ q)) xs (omega arith)) ∙ rw all at written

-- what the recursion rests on: one code, or eight parts one after another
pub ruleset block_written = (one_written, none_written, part_room, part_written, all_written)
