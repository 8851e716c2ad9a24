-- The laws of the recursive order: it has the pivots first for every exponent, and its highest digit names a quarter of the table. Assumes nothing.
use Rattle.std.specs.Prelude.{◌≡◌, ℕ, zero, suc, ◌+◌, ◌-◌, ◌*◌, ◌/◌, ◌%◌, ◌^◌, ◌<◌, ◌≤◌}
use Rattle.std.proofs.Common.{sym, ap, subst, ◌∙◌, pow-suc, add-mul, mul_assoc, arith, lit<}
use Rattle.std.proofs.lemmas.Nat.{shr-shr}
use Rattle.orders.specs.declared.step.Step.{Step}
use Rattle.orders.specs.Size.{sites_most}
use Rattle.orders.specs.Order.{step_count}
use Rattle.orders.specs.Lawful.{step_of, Within, Lawful}
use Rattle.orders.specs.RecursiveOrder.{flipped, digit_step, placed, recursive_at}
use Rattle.orders.specs.PivotsFirst.{PivotsFirst}
use Rattle.orders.specs.Places.{step_count_mul}
use Rattle.orders.specs.Steps.{same_step}
use Rattle.orders.specs.PivotsFirstLawful.{lawful_from_pivots_first}
use Rattle.orders.specs.Nesting.{pivots_first_nested}

-- the digit that gives the three bits of a step of two sites
abbrev pub digit_of : Step → ℕ
digit_of s = 4 * s.k + 2 * ((s.i + s.k) % 2) + (s.j + s.k) % 2

-- flipping twice
flipped_back : (x k : ℕ) → x < 2 → k < 2 → flipped ((x + k) % 2) k ≡ x
flipped_back x k hx hk = omega arith

digit_occurs : (s : Step) → Within 2 s → digit_step (digit_of s) ≡ s
digit_occurs s w =
    let d = digit_of s in
    let high : d / 4 ≡ s.k = omega arith in
    let middle : d / 2 % 2 ≡ (s.i + s.k) % 2 = omega arith in
    let low : d % 2 ≡ (s.j + s.k) % 2 = omega arith in
    let row = ap (λ x. flipped x (d / 4)) middle ∙ ap (flipped ((s.i + s.k) % 2)) high ∙ flipped_back s.i s.k w.row w.pivot in
    let column = ap (λ x. flipped x (d / 4)) low ∙ ap (flipped ((s.j + s.k) % 2)) high ∙ flipped_back s.j s.k w.column w.pivot in
    same_step row column high

-- two sites, eight steps
pub digit_pivots_first : PivotsFirst 2 digit_step
digit_pivots_first = record {
  when = digit_of;
  inside = λ t h. record { row = omega arith; column = omega arith; pivot = omega arith };
  below = λ s w. omega arith;
  occurs = digit_occurs;
  once = λ t h. omega arith;
  cell = λ i j k h w l. omega arith;
  row_first = λ i j k w ne. omega arith;
  column_first = λ i j k w ne. omega arith;
}

-- one site, one step
one_pivots_first : PivotsFirst 1 (λ _. step_of 0 0 0)
one_pivots_first = record {
  when = λ _. 0;
  inside = λ t h. record { row = lit< tt; column = lit< tt; pivot = lit< tt };
  below = λ s w. lit< tt;
  occurs = λ s w. same_step (omega arith) (omega arith) (omega arith);
  once = λ t h. omega arith;
  cell = λ i j k h w l. omega arith;
  row_first = λ i j k w ne. omega arith;
  column_first = λ i j k w ne. omega arith;
}

-- 2^q sites: each digit nests two sites in the table of the digits above it
pub recursive_pivots_first : (q : ℕ) → PivotsFirst (2 ^ q) (recursive_at q)
recursive_pivots_first zero = one_pivots_first
recursive_pivots_first (suc q) =
    subst (λ n. PivotsFirst n (recursive_at (suc q))) (sym (pow-suc 2 q)) (pivots_first_nested (lit< tt) (recursive_pivots_first q) digit_pivots_first)

pub recursive_lawful : (q : ℕ) → Lawful (2 ^ q) (recursive_at q)
recursive_lawful q = lawful_from_pivots_first (recursive_pivots_first q)

-- every number gives a step inside the table, since only its lowest digits count
pub recursive_within : (q t : ℕ) → Within (2 ^ q) (recursive_at q t)
recursive_within zero t = record { row = lit< tt; column = lit< tt; pivot = lit< tt }
recursive_within (suc q) t =
    let rest = recursive_within q (t / 8) in
    let double = pow-suc 2 q in
    record { row = omega arith; column = omega arith; pivot = omega arith }

-- so its numbers are below 64
pub recursive_small : (q t : ℕ) → q ≤ 6 → Within 64 (recursive_at q t)
recursive_small q t small =
    let w = recursive_within q t in
    let most = sites_most q small in
    record { row = omega arith; column = omega arith; pivot = omega arith }

-- reading the digits from the highest: the step by the digits from `level` up, and one digit more
pub digit_more : (q level t : ℕ) → 0 < level → level ≤ q
    → placed 2 (recursive_at (q - level) (t / 2 ^ (3 * level))) (digit_step (t / 2 ^ (3 * (level - 1)) % 8)) ≡ recursive_at (q - (level - 1)) (t / 2 ^ (3 * (level - 1)))
digit_more q level t positive within =
    let u = t / 2 ^ (3 * (level - 1)) in
    let digits : 3 * (level - 1) + 3 ≡ 3 * level = omega arith in
    let above : t / 2 ^ (3 * level) ≡ u / 8 = sym (shr-shr t (3 * (level - 1)) 3 ∙ ap (λ x. t / 2 ^ x) digits) in
    let count : suc (q - level) ≡ q - (level - 1) = omega arith in
    ap (λ x. placed 2 (recursive_at (q - level) x) (digit_step (u % 8))) above ∙ ap (λ p. recursive_at p u) count

-- a table of one exponent more has eight times the steps
pub step_count_suc : (q : ℕ) → step_count (2 ^ suc q) ≡ step_count (2 ^ q) * 8
step_count_suc q = ap step_count (pow-suc 2 q) ∙ step_count_mul (2 ^ q) 2

-- blocks inside blocks
placed_placed : (m n : ℕ) (a b c : Step) → placed n (placed m a b) c ≡ placed (m * n) a (placed n b c)
placed_placed m n a b c = same_step (level a.i b.i c.i) (level a.j b.j c.j) (level a.k b.k c.k)
  where
    level : (x y z : ℕ) → (x * m + y) * n + z ≡ x * (m * n) + (y * n + z)
    level x y z = omega (arith, add-mul (x * m) y n, mul_assoc x m n)

-- the highest digit d names a quarter of the table and a half of the pivots
pub highest_digit : (q d t : ℕ) → d < 8 → t < step_count (2 ^ q) → recursive_at (suc q) (d * step_count (2 ^ q) + t) ≡ placed (2 ^ q) (digit_step d) (recursive_at q t)
highest_digit zero d t hd ht = let digit : (d * 1 + t) % 8 ≡ d = omega arith in rw digit (same_step (omega arith) (omega arith) (omega arith))
highest_digit (suc q) d t hd ht =
    let count = step_count (2 ^ q) in
    let more = step_count_suc q in
    let whole : d * step_count (2 ^ suc q) ≡ d * count * 8 = ap (λ x. d * x) more ∙ sym (mul_assoc d count 8) in
    let rest : (d * step_count (2 ^ suc q) + t) / 8 ≡ d * count + t / 8 = omega arith in
    let digit : (d * step_count (2 ^ suc q) + t) % 8 ≡ t % 8 = omega arith in
    ap (λ u. placed 2 (recursive_at (suc q) u) (digit_step ((d * step_count (2 ^ suc q) + t) % 8))) rest
    ∙ ap (λ v. placed 2 (recursive_at (suc q) (d * count + t / 8)) (digit_step v)) digit
    ∙ ap (λ s. placed 2 s (digit_step (t % 8))) (highest_digit q d (t / 8) hd (omega arith))
    ∙ placed_placed (2 ^ q) 2 (digit_step d) (recursive_at q (t / 8)) (digit_step (t % 8))
    ∙ ap (λ m. placed m (digit_step d) (recursive_at (suc q) t)) (sym (pow-suc 2 q))
