-- The links and relays that a history tells, from its calls alone. Assumes nothing.
-- o is the kind and n the number of sites; a refused call counts for nothing.
use Rattle.std.specs.Prelude.{ℕ, ◌*◌, ◌/◌, ◌%◌, Bool, cond, not, ◌&&◌, List, [], ◌∷◌, map, ◌==◌, nat_lt}
use Rattle.std.specs.List.{range_with_len}
use Rattle.kinds.specs.Kind.{Ops}
use Rattle.runs.specs.Sets.{bit_is_one}
use Rattle.paths.specs.Calls.{Status, tally}
use Rattle.paths.specs.History.{History, made, posted, withdrawn, settled_by, reopened}

-- the join of the values of a list, none for no value
abbrev pub join_all : {V : Type 0} → Ops V → List V → V
join_all o [] = o.none
join_all o (v ∷ vs) = o.join (join_all o vs) v

-- whether a call on (from, to) concerns the link from i to j, two different sites below n
abbrev pub concerns : ℕ → ℕ → ℕ → ℕ → ℕ → Bool
concerns n from to i j = (nat_lt from n && nat_lt to n && not (from == to)) && (from == i && to == j)

-- the values posted from i to j since the link's last withdrawal, or since the making; the newest first
abbrev pub posted_since : {V : Type 0} → Ops V → ℕ → {s : Status} → History V s → ℕ → ℕ → List V
posted_since o n made i j = []
posted_since o n (posted h from to v) i j = cond (concerns n from to i j) (v ∷ posted_since o n h i j) (posted_since o n h i j)
posted_since o n (withdrawn h from to) i j =
    cond (concerns n from to i j && not (o.same (join_all o (posted_since o n h i j)) o.none)) [] (posted_since o n h i j)
posted_since o n (settled_by h word e at lawful) i j = posted_since o n h i j
posted_since o n (reopened h) i j = posted_since o n h i j

-- the link from i to j: the join of those values, and here from a site to itself
unfoldable pub link_told : {V : Type 0} → Ops V → ℕ → {s : Status} → History V s → ℕ → ℕ → V
link_told o n h i j = cond (i == j) o.here (join_all o (posted_since o n h i j))

-- the relays: the sites below n whose bit is 1 in the word of the last settling, which the state of a history carries
unfoldable pub relay_told : ℕ → ℕ → ℕ → Bool
relay_told n word s = nat_lt s n && bit_is_one word s

-- the table of those links
abbrev pub links_table : {V : Type 0} → Ops V → ℕ → {s : Status} → History V s → List V
links_table o n h = map (λ p. link_told o n h (p / n) (p % n)) (range_with_len 0 (n * n))

-- the number of ordered pairs of different sites whose link is not none
abbrev pub count_told : {V : Type 0} → Ops V → ℕ → {s : Status} → History V s → ℕ
count_told o n h = tally (n * n) (λ p. not (p / n == p % n) && not (o.same (link_told o n h (p / n) (p % n)) o.none))
