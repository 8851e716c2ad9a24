-- The larger width first, then the smaller cost: a choice that is no kind. Assumes nothing.
use Rattle.std.specs.Prelude.{◌≡◌, ℕ, ◌^◌, ◌<◌, cond, ◌==◌, nat_le, nat_lt}
use Rattle.std.proofs.Common.{arith}
use Rattle.kinds.specs.Kind.{Ops, Laws}
use Rattle.kinds.specs.Costs.{cost, costs}
use Rattle.kinds.specs.Widths.{width, widths}
use Rattle.kinds.specs.declared.widest.WidestCheapest.{WidestCheapest}

abbrev pair : (w c : ℕ) → w < 2 ^ 32 → c < 2 ^ 32 → WidestCheapest
pair w c p q = record { width = width w p; cost = cost c q }

-- (10, 9) is preferred to (5, 1), and no more once each is chained with (5, 0)
abbrev pub wide_route : WidestCheapest
wide_route = pair 10 9 (omega arith) (omega arith)

abbrev pub narrow_route : WidestCheapest
narrow_route = pair 5 1 (omega arith) (omega arith)

abbrev pub shared_link : WidestCheapest
shared_link = pair 5 0 (omega arith) (omega arith)

-- the wider; at one width the cheaper
abbrev pub preferred : WidestCheapest → WidestCheapest → WidestCheapest
preferred a b =
    cond (a.width.value == b.width.value)
    (cond (nat_le a.cost.value b.cost.value) a b)
    (cond (nat_lt b.width.value a.width.value) a b)

-- part by part
abbrev pub chained : WidestCheapest → WidestCheapest → WidestCheapest
chained a b = record { width = widths.chain a.width b.width; cost = costs.chain a.cost b.cost }

-- no kind has this choice for its join and this chain
abbrev pub NoKind : Type 0
NoKind =
    (o : Ops WidestCheapest)
    → ((a b : WidestCheapest) → o.join a b ≡ preferred a b)
    → ((a b : WidestCheapest) → o.chain a b ≡ chained a b)
    → Laws o → ⊥
