-- The laws of writing a part of a list, and what they say of the codes of a whole table. Assumes nothing.
use Rattle.std.proofs.Common.{◌≡◌, ℕ, ◌+◌, ◌-◌, ◌^◌, ◌<◌, ◌≤◌, List, [], ◌∷◌, ◌++◌, length, take, drop, set, sym, refl, ap, ◌∙◌, subst, zero-add, arith}
use Rattle.std.proofs.lemmas.List.{append-nil, append_assoc, take-append-drop, take_more_set, drop-set-lt, drop-drop}
use Rattle.orders.specs.Order.{step_count}
use Rattle.orders.specs.Lawful.{step_of}
use Rattle.orders.specs.Codes.{step_codes}
use Rattle.orders.specs.Writing.{block_codes, Wrote}
use Rattle.orders.proofs.BlockCodes.{block_codes_all}

pub wrote_none : (a : ℕ) (xs : List ℕ) → Wrote a a [] xs xs
wrote_none a xs = record { front = sym (append-nil (take a xs)); rest = refl }

pub wrote_one : (a v : ℕ) (xs : List ℕ) → a < length xs → Wrote a (a + 1) (v ∷ []) xs (set xs a v)
wrote_one a v xs h = record { front = take_more_set xs a v h; rest = drop-set-lt (a + 1) xs a v (omega arith) }

-- one part after another
pub wrote_both : {a b c : ℕ} {cs ds xs ys zs : List ℕ} → b ≤ c → Wrote a b cs xs ys → Wrote b c ds ys zs → Wrote a c (cs ++ ds) xs zs
wrote_both {a} {b} {c} {cs} {ds} {xs} {ys} {zs} h p q =
    let sum : b + (c - b) ≡ c = omega arith in
    let later : (ws : List ℕ) → drop c ws ≡ drop (c - b) (drop b ws) = λ ws. ap (λ m. drop m ws) (sym sum) ∙ sym (drop-drop (c - b) b ws) in
    record {
      front = q.front ∙ ap (λ l. l ++ ds) p.front ∙ append_assoc (take a xs) cs ds;
      rest = q.rest ∙ later ys ∙ ap (drop (c - b)) p.rest ∙ sym (later xs);
    }

pub wrote_same : {a b e : ℕ} {cs ds xs ys : List ℕ} → b ≡ e → cs ≡ ds → Wrote a b cs xs ys → Wrote a e ds xs ys
wrote_same {a} {b} {e} {cs} {ds} {xs} {ys} p q w = subst (λ m. Wrote a m ds xs ys) p (subst (λ l. Wrote a b l xs ys) q w)

-- from the start of the list
pub wrote_all : {b : ℕ} {cs xs ys : List ℕ} → Wrote 0 b cs xs ys → ys ≡ cs ++ drop b xs
wrote_all {b} {cs} {xs} {ys} w = sym (take-append-drop b ys) ∙ ap (λ l. l ++ drop b ys) w.front ∙ ap (λ l. cs ++ l) w.rest

-- the whole table, written from the start of a list
pub table_written : (q : ℕ) {xs ys : List ℕ} → Wrote 0 (0 + step_count (2 ^ q)) (block_codes q (step_of 0 0 0) (step_count (2 ^ q))) xs ys → ys ≡ step_codes q ++ drop (step_count (2 ^ q)) xs
table_written q {xs} {ys} w = wrote_all (wrote_same (zero-add (step_count (2 ^ q))) (block_codes_all q) w)
