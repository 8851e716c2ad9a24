-- The summing rule on the table 0 0 0 1 of two sites, computed from the definitions of the runs. Assumes nothing.
use Rattle.std.proofs.Common.{◌≡◌, ℕ, ◌+◌, ◌%◌, ◌^◌, Bool, true, List, [], ◌∷◌, Ok, ap, ◌∙◌, refl}
use Rattle.orders.specs.declared.step.Step.{Step}
use Rattle.orders.specs.Size.{exponent_answer}
use Rattle.orders.specs.RecursiveOrder.{recursive_at}
use Rattle.elimination.specs.Table.{changed, upto}
use Rattle.elimination.specs.Loop.{step_in_place, loop_until, looped, run_until, run_in_place}
use Rattle.elimination.specs.Walk.{Tables, five, careful_step, walk_until, walk}
use Rattle.runs.specs.Results.{in_place_table, careful_tables}
use Rattle.runs.proofs.Fitting.{made_exponent}

abbrev pub sum : ℕ → ℕ → ℕ → ℕ → ℕ
sum x u v w = (x + u + v + w) % 2 ^ 32

abbrev pub all : Step → Bool
all s = true

abbrev pub start : List ℕ
start = 0 ∷ 0 ∷ 0 ∷ 1 ∷ []

pub loop_leaves : looped sum all 2 start ≡ 1 ∷ 2 ∷ 2 ∷ 4 ∷ []
unfolding loop_until step_in_place changed upto
loop_leaves = refl

abbrev zeros : List ℕ
zeros = 0 ∷ 0 ∷ 0 ∷ 0 ∷ []

-- the five tables that the walk leaves
abbrev left : Tables ℕ
left = five (1 ∷ 2 ∷ 2 ∷ 4 ∷ []) (0 ∷ 0 ∷ 0 ∷ 1 ∷ []) (0 ∷ 2 ∷ 0 ∷ 4 ∷ []) (0 ∷ 0 ∷ 0 ∷ 1 ∷ []) (0 ∷ 0 ∷ 2 ∷ 4 ∷ [])

run_computed : run_in_place sum all 2 (recursive_at 1) start ≡ 20 ∷ 8 ∷ 8 ∷ 4 ∷ []
unfolding run_until step_in_place changed upto
run_computed = refl

-- e is the exponent of the order that was made
pub run_leaves : (e : ℕ) → Ok e ≡ exponent_answer 1 → in_place_table sum all e (recursive_at e) start ≡ 20 ∷ 8 ∷ 8 ∷ 4 ∷ []
run_leaves e made = ap (λ q. in_place_table sum all q (recursive_at q) start) (made_exponent 1 e made).1 ∙ run_computed

walk_computed : walk sum all 2 (recursive_at 1) start ≡ left
unfolding walk_until careful_step changed upto
walk_computed = refl

pub walk_leaves : (e : ℕ) → Ok e ≡ exponent_answer 1 → careful_tables sum all e (recursive_at e) (five start zeros zeros zeros zeros) ≡ left
walk_leaves e made =
    ap (λ q. careful_tables sum all q (recursive_at q) (five start zeros zeros zeros zeros)) (made_exponent 1 e made).1 ∙ walk_computed
