-- The distances of the network of four mirrors, computed from the definitions of the runs. Assumes nothing.
use Rattle.std.proofs.Common.{◌≡◌, ℕ, min, true, cond, List, [], ◌∷◌, map, refl, ap, ◌∙◌, arith}
use Rattle.orders.specs.RecursiveOrder.{recursive_at}
use Rattle.kinds.specs.declared.cells.Cost.{Cost}
use Rattle.kinds.specs.Costs.{cost, costs}
use Rattle.kinds.specs.Equal.{cost_equal}
use Rattle.elimination.specs.Table.{changed, upto}
use Rattle.elimination.specs.Loop.{step_in_place, run_until, run_in_place}
use Rattle.elimination.specs.Walk.{Tables, five, careful_step, walk_until, walk}
use Rattle.runs.specs.Sizes.{all_fit}
use Rattle.runs.specs.Results.{in_place_table, careful_tables}
use Rattle.fill_table.specs.Network.{values, link_costs, distance_costs}
use Rattle.fill_table.proofs.Computed.{all}

abbrev pub path : Cost → Cost → Cost → Cost → Cost
path x u v w = costs.join x (costs.chain u v)

-- costs of these numbers
abbrev pub costs_of : List ℕ → List Cost
costs_of ns = map (λ n. cost (min n 4294967295) (omega arith)) ns

-- lists of costs are equal once their numbers are
pub same_costs : (xs ys : List Cost) → values xs ≡ values ys → xs ≡ ys
same_costs [] [] e = refl
same_costs [] (y ∷ ys) e = let z : ◌≡◌ {A = ℕ} 0 1 = cc in absurd (omega arith)
same_costs (x ∷ xs) [] e = let z : ◌≡◌ {A = ℕ} 0 1 = cc in absurd (omega arith)
same_costs (x ∷ xs) (y ∷ ys) e =
    let head : x.value ≡ y.value = cc in
    let tail : values xs ≡ values ys = cc in
    let same = cost_equal x y head in
    let rest = same_costs xs ys tail in
    cc

pub run_distances : values (run_in_place path all 4 (recursive_at 2) (costs_of link_costs)) ≡ distance_costs
unfolding run_until step_in_place changed upto
run_distances = refl

pub walk_distances : values (walk path all 4 (recursive_at 2) (costs_of link_costs)).table ≡ distance_costs
unfolding walk_until careful_step changed upto
walk_distances = refl

-- what the calls leave, from what they promise: e is the exponent of the order that was made, xs the table of the links
module _ (e : ℕ) (two : e ≡ 2) (xs : List Cost) (linked : values xs ≡ link_costs) where
  linked_costs : xs ≡ costs_of link_costs
  linked_costs = same_costs xs (costs_of link_costs) linked

  pub left_in_place : (ys : List Cost) → ys ≡ in_place_table path all e (recursive_at e) xs → values ys ≡ distance_costs
  left_in_place ys left =
      ap values (left ∙ ap (λ q. in_place_table path all q (recursive_at q) xs) two ∙ ap (in_place_table path all 2 (recursive_at 2)) linked_costs)
      ∙ run_distances

  pub left_careful : (u0 u1 v0 v1 : List Cost) (T : Tables Cost) → all_fit 4 (five (costs_of link_costs) u0 u1 v0 v1) ≡ true
      → T ≡ careful_tables path all e (recursive_at e) (five xs u0 u1 v0 v1) → values T.table ≡ distance_costs
  left_careful u0 u1 v0 v1 T fit left =
      let at : ℕ → List Cost → Tables Cost = λ q ys. careful_tables path all q (recursive_at q) (five ys u0 u1 v0 v1) in
      let walked : T ≡ walk path all 4 (recursive_at 2) (costs_of link_costs) =
      left ∙ ap (λ q. at q xs) two ∙ ap (at 2) linked_costs
      ∙ ap (λ b. cond b (walk path all 4 (recursive_at 2) (costs_of link_costs)) (five (costs_of link_costs) u0 u1 v0 v1)) fit in
      ap (λ U. values U.table) walked ∙ walk_distances
