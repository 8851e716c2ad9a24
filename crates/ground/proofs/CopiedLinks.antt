-- The links of a ground copied to its routes, and a run on the routes alone. Assumes nothing.
use Rattle.std.proofs.Common.{◌≡◌, ℕ, ◌+◌, ◌-◌, ◌*◌, ◌<◌, ◌≤◌, List, ◌++◌, length, get_or, take, drop, set, sym, ap, ◌∙◌, arith}
use lib.Seq.{paste}
use borrow.Rule.Slice.PartMut.{put_mid}
use Rattle.std.specs.List.{copy_within}
use Rattle.std.proofs.lemmas.List.{append_assoc, length-take-le, get_or_append_left, take_at, drop_at}
use Rattle.std.proofs.lemmas.List.Edits.{paste_none, paste_more, paste_all}

module _ {X : Type 0} (m : ℕ) (xs : List X) where
  abbrev links : List X
  links = take m xs

  -- the ground with the links before place p copied
  abbrev pub copied_until : ℕ → List X
  copied_until p = paste xs m links p

  -- the ground with all links copied
  abbrev pub copied : List X
  copied = links ++ (links ++ drop (2 * m) xs)

  pub copied_none : copied_until 0 ≡ xs
  copied_none = sym (paste_none xs m links)

  pub copied_is : copy_within xs 0 m m ≡ copied
  copied_is = grind (arith, append_assoc)

  module _ (room : 2 * m ≤ length xs) where
    long : length links ≡ m
    long = length-take-le m xs (omega arith)

    -- the links themselves stay
    link_stays : (p : ℕ) (d : X) → p < m → get_or (copied_until p) p d ≡ get_or links p d
    link_stays p d h =
        ap (λ ys. get_or ys p d) (append_assoc links (take p links) (drop (m + p) xs))
        ∙ get_or_append_left links (take p links ++ drop (m + p) xs) d p (omega (arith, long))

    pub copied_more : (p : ℕ) (d : X) → p < m → set (copied_until p) (m + p) (get_or (copied_until p) p d) ≡ copied_until (p + 1)
    copied_more p d h =
        ap (set (copied_until p) (m + p)) (link_stays p d h) ∙ paste_more xs m links p d (omega arith) (omega (arith, long))

    pub copied_all : copied_until m ≡ copied
    copied_all = paste_all xs m links m (sym long) ∙ ap (λ k. links ++ (links ++ drop k xs)) (let e : m + m ≡ 2 * m = omega arith in e)

    -- the part that holds the routes, and what a write to it leaves
    pub routes_part : take (2 * m - m) (drop m copied) ≡ links
    routes_part = grind (arith, long, take_at, drop_at)

    pub routes_written : (ys : List X) → put_mid m (2 * m - m) copied ys ≡ links ++ (ys ++ drop (2 * m) xs)
    routes_written ys = grind (arith, long, take_at, drop_at)
