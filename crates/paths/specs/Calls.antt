-- What each call of a board answers, and every cell of the ground that it leaves. Assumes nothing.
-- o is the kind, q the exponent, xs the ground as the call meets it, n its number of sites.
use Rattle.std.specs.Prelude.{ℕ, zero, suc, ◌+◌, ◌-◌, ◌*◌, ◌/◌, ◌%◌, ◌^◌, Bool, cond, not, ◌&&◌, ◌||◌, List, ◌++◌, take, drop, Ok, Err, Result, ◌==◌, nat_le, nat_lt}
use Rattle.faults.specs.declared.LayoutFault.{LayoutFault}
use Rattle.faults.specs.declared.LayoutFault.TheVariants.{ExponentTooLarge, SizeMismatch}
use Rattle.faults.specs.declared.LinkFault.{LinkFault}
use Rattle.faults.specs.declared.LinkFault.TheVariants.{SiteOutside, SameSite, NoLink}
use Rattle.kinds.specs.Kind.{Ops}
use Rattle.orders.specs.declared.step.Step.{Step}
use Rattle.orders.specs.LoopOrder.{loop_at}
use Rattle.elimination.specs.Table.{place, changed}
use Rattle.elimination.specs.Loop.{run_in_place}
use Rattle.runs.specs.Sets.{bit_is_one}
use Rattle.paths.specs.Ground.{sites, link_at, route_at, by_place}

-- a board is a draft, or it is settled with a relay word
pub data Status : Type 0 where
  draft : Status
  settled : ℕ → Status

-- what is left: x by a call that was taken, y by one that was refused
abbrev pub if_taken : {X : Type 0} → Result (Unit {0}) LinkFault → X → X → X
if_taken (Ok _) x y = x
if_taken (Err _) x y = y

-- MAKE. The question beforehand: the exponent is looked at first.
abbrev pub make_answer : ℕ → ℕ → Result (Unit {0}) LayoutFault
make_answer q cells = cond (nat_le q 6) (cond (nat_le (2 * (2 ^ q * 2 ^ q)) cells) (Ok tt) (Err SizeMismatch)) (Err ExponentTooLarge)

-- here on the diagonal of a table, none elsewhere
abbrev pub diagonal : {V : Type 0} → Ops V → ℕ → ℕ → V
diagonal o n p = cond (p / n == p % n) o.here o.none

-- the cell x at place p as a making leaves it
abbrev pub fresh : {V : Type 0} → Ops V → ℕ → ℕ → V → V
fresh o n p x = cond (nat_lt p (n * n)) (diagonal o n p) (cond (nat_lt p (2 * (n * n))) (diagonal o n (p - n * n)) x)

abbrev pub make_ground : {V : Type 0} → Ops V → ℕ → List V → List V
make_ground o q xs = by_place (fresh o (sites q xs)) xs

-- POST. Two sites below n, then different ones.
abbrev pub pair_answer : ℕ → ℕ → ℕ → Result (Unit {0}) LinkFault
pair_answer n from to = cond (nat_lt from n && nat_lt to n) (cond (from == to) (Err SameSite) (Ok tt)) (Err SiteOutside)

abbrev pub post_answer : {V : Type 0} → ℕ → ℕ → ℕ → List V → Result (Unit {0}) LinkFault
post_answer q from to xs = pair_answer (sites q xs) from to

-- v joined to the link
abbrev pub join_link : {V : Type 0} → Ops V → ℕ → ℕ → ℕ → V → List V → List V
join_link o n from to v xs = changed xs (place n from to) (λ x. o.join x v)

-- whether a route that begins or ends at a may pass on at s: a is s, or s is a relay
abbrev pub meets : ℕ → ℕ → ℕ → Bool
meets word s a = a == s || bit_is_one word s

-- the route x from a to b, joined with route a to from, v, and route to to b, where these meet
abbrev pub joined_route : {V : Type 0} → Ops V → ℕ → ℕ → ℕ → ℕ → V → List V → ℕ → ℕ → V → V
joined_route o n word from to v xs a b x =
    cond (meets word from a && meets word to b) (o.join x (o.chain (o.chain (route_at o n xs a from) v) (route_at o n xs to b))) x

-- the cell x at place p: a route is joined, any other cell stays
abbrev pub joined_cell : {V : Type 0} → Ops V → ℕ → ℕ → ℕ → ℕ → V → List V → ℕ → V → V
joined_cell o n word from to v xs p x =
    cond (nat_le (n * n) p && nat_lt p (2 * (n * n))) (joined_route o n word from to v xs ((p - n * n) / n) ((p - n * n) % n) x) x

-- every route joined, each from the routes as they were
abbrev pub join_routes : {V : Type 0} → Ops V → ℕ → ℕ → ℕ → ℕ → V → List V → List V
join_routes o n word from to v xs = by_place (joined_cell o n word from to v xs) xs

abbrev pub posted_ground : {V : Type 0} → Ops V → ℕ → Status → ℕ → ℕ → V → List V → List V
posted_ground o n draft from to v xs = join_link o n from to v xs
posted_ground o n (settled word) from to v xs = join_routes o n word from to v (join_link o n from to v xs)

abbrev pub post_ground : {V : Type 0} → Ops V → ℕ → Status → ℕ → ℕ → V → List V → List V
post_ground o q s from to v xs = if_taken (post_answer q from to xs) (posted_ground o (sites q xs) s from to v xs) xs

-- WITHDRAW. As for a post, then a link that is not none.
abbrev pub link_answer : {V : Type 0} → Ops V → V → Result (Unit {0}) LinkFault
link_answer o x = cond (o.same x o.none) (Err NoLink) (Ok tt)

abbrev pub withdraw_answer : {V : Type 0} → Ops V → ℕ → ℕ → ℕ → List V → Result (Unit {0}) LinkFault
withdraw_answer o q from to xs =
    cond (nat_lt from (sites q xs) && nat_lt to (sites q xs))
    (cond (from == to) (Err SameSite) (link_answer o (link_at o (sites q xs) xs from to)))
    (Err SiteOutside)

abbrev pub withdraw_ground : {V : Type 0} → Ops V → ℕ → ℕ → ℕ → List V → List V
withdraw_ground o q from to xs =
    if_taken (withdraw_answer o q from to xs) (changed xs (place (sites q xs) from to) (λ _. o.none)) xs

-- SETTLE. The path rule over the steps whose pivot is a relay.
abbrev pub path_rule : {V : Type 0} → Ops V → V → V → V → V → V
path_rule o x u v w = o.join x (o.chain u v)

abbrev pub relay_steps : ℕ → Step → Bool
relay_steps word s = bit_is_one word s.k

-- an order of another exponent e is replaced by the loop order
abbrev pub order_taken : ℕ → ℕ → (ℕ → Step) → ℕ → Step
order_taken q e at = cond (e == q) at (loop_at (2 ^ q))

-- the links copied to the routes, and the steps worked there in place
abbrev pub settled_ground : {V : Type 0} → Ops V → ℕ → ℕ → (ℕ → Step) → List V → List V
settled_ground o n word at xs =
    take (n * n) xs ++ (run_in_place (path_rule o) (relay_steps word) n at (take (n * n) xs) ++ drop (2 * (n * n)) xs)

abbrev pub settle_ground : {V : Type 0} → Ops V → ℕ → ℕ → ℕ → (ℕ → Step) → List V → List V
settle_ground o q word e at xs = settled_ground o (sites q xs) word (order_taken q e at) xs

-- ASK. Two sites below n, which may be the same.
abbrev pub ask_answer : {V : Type 0} → Ops V → ℕ → ℕ → ℕ → List V → Result V LinkFault
ask_answer o q a b xs = cond (nat_lt a (sites q xs) && nat_lt b (sites q xs)) (Ok (route_at o (sites q xs) xs a b)) (Err SiteOutside)

-- COUNT. The numbers below m that pass a test.
unfoldable pub tally : ℕ → (ℕ → Bool) → ℕ
tally zero test = 0
tally (suc m) test = tally m test + cond (test m) 1 0

-- whether the link at place p is one between different sites and not none
abbrev pub is_link : {V : Type 0} → Ops V → ℕ → List V → ℕ → Bool
is_link o n xs p = not (p / n == p % n) && not (o.same (link_at o n xs (p / n) (p % n)) o.none)

abbrev pub count_links : {V : Type 0} → Ops V → ℕ → List V → ℕ
count_links o q xs = tally (sites q xs * sites q xs) (is_link o (sites q xs) xs)
