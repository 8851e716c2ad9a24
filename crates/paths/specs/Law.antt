-- The law of best distances, and what a count is to be. Assumes nothing.
use Rattle.std.specs.Prelude.{◌≡◌, ℕ, ◌*◌, ◌^◌, ◌<◌, List, length, Ok, Result, slice_index_or}
use Rattle.faults.specs.declared.LinkFault.{LinkFault}
use Rattle.kinds.specs.Kind.{Ops, Covers}
use Rattle.orders.specs.declared.step.Step.{Step}
use Rattle.orders.specs.Lawful.{Lawful}
use Rattle.elimination.specs.Table.{place}
use Rattle.elimination.specs.Walk.{five}
use Rattle.runs.specs.Results.{careful_tables}
use Rattle.paths.specs.Paths.{PathOver, path_value}
use Rattle.paths.specs.Ground.{sites}
use Rattle.paths.specs.Calls.{Status, settled, path_rule, relay_steps, ask_answer}
use Rattle.paths.specs.History.{History, ground_after, Leads}
use Rattle.paths.specs.Told.{link_told, relay_told, links_table, count_told}

-- r is the best distance from a to b after the history h, which ends settled with a relay word; q is the exponent and
-- `before` the ground before the making
pub record BestDistance {V : Type 0} (o : Ops V) (q : ℕ) (before : List V) {word : ℕ} (h : History V (settled word)) (a b : ℕ) (r : V) : Type 0 where
  -- it covers the value of every path over the links told whose inner sites are relays
  pub covers_paths : (path : List ℕ) → PathOver (relay_told (sites q before) word) a b path
      → Covers o r (path_value o (link_told o (sites q before) h) path)
  -- and is covered by every value that covers all those values
  pub least : (v : V)
      → ((path : List ℕ) → PathOver (relay_told (sites q before) word) a b path → Covers o v (path_value o (link_told o (sites q before) h) path))
      → Covers o v r
  -- every settled board of this size with equal links and relays shows it, whatever led there
  pub same_shown : (q' : ℕ) (before' : List V) (word' : ℕ) (h' : History V (settled word')) → sites q' before' ≡ sites q before
      → ((i j : ℕ) → i < sites q before → j < sites q before → link_told o (sites q before) h' i j ≡ link_told o (sites q before) h i j)
      → ((s : ℕ) → s < sites q before → relay_told (sites q before) word' s ≡ relay_told (sites q before) word s)
      → ask_answer o q' a b (ground_after o q' before' h') ≡ Ok r
  -- the careful run with the path rule over these links and relays leaves it, by every lawful order of the exponent
  pub careful : (at : ℕ → Step) → Lawful (2 ^ q) at → (u0 u1 v0 v1 : List V)
      → length u0 ≡ 2 ^ q * 2 ^ q → length u1 ≡ 2 ^ q * 2 ^ q → length v0 ≡ 2 ^ q * 2 ^ q → length v1 ≡ 2 ^ q * 2 ^ q
      → slice_index_or (careful_tables (path_rule o) (relay_steps word) q at (five (links_table o (sites q before) h) u0 u1 v0 v1)).table (place (2 ^ q) a b) o.none ≡ r

-- What an ask answers on a settled board with this ground: if a history leads to the board, then for two of its sites the
-- answer is the best distance after that history.
abbrev pub ShowsBest : {V : Type 0} → Ops V → ℕ → ℕ → List V → ℕ → ℕ → Result V LinkFault → Type 0
ShowsBest {V = V} o q word xs a b answer =
    (before : List V) (h : History V (settled word)) → Leads o q before h xs
    → a < sites q before → b < sites q before → (r : V) × (answer ≡ Ok r) × BestDistance o q before h a b r

-- What a count answers on a board of this state and ground: if a history leads to the board, the number of links that it
-- tells.
abbrev pub CountsTold : {V : Type 0} → Ops V → ℕ → Status → List V → ℕ → Type 0
CountsTold {V = V} o q s xs count = (before : List V) (h : History V s) → Leads o q before h xs → count ≡ count_told o (sites q before) h
