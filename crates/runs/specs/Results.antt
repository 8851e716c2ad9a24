-- What each run over 2^q sites answers and what it leaves, a refusal included. Assumes nothing.
-- `rule`, `member` and `at` are the meanings of the rule, the set and the order.
use Rattle.std.specs.Prelude.{◌≡◌, ℕ, ◌^◌, Bool, true, cond, List, Ok, Err, Result, nat_le}
use Rattle.faults.specs.declared.LayoutFault.{LayoutFault}
use Rattle.faults.specs.declared.LayoutFault.TheVariants.{ExponentTooLarge, SizeMismatch}
use Rattle.orders.specs.declared.step.Step.{Step}
use Rattle.orders.specs.Lawful.{Lawful}
use Rattle.elimination.specs.Loop.{looped, run_in_place}
use Rattle.elimination.specs.Walk.{Tables, walk, LeavesLoop}
use Rattle.runs.specs.Sizes.{fits, all_fit}

-- refused where a size does not fit
abbrev pub size_answer : Bool → Result (Unit {0}) LayoutFault
size_answer b = cond b (Ok tt) (Err SizeMismatch)

-- the run in place: the fold of the order's steps, or the table as it was
abbrev pub in_place_answer : {X : Type 0} → ℕ → List X → Result (Unit {0}) LayoutFault
in_place_answer q xs = size_answer (fits (2 ^ q) xs)

abbrev pub in_place_table : {X : Type 0} → (X → X → X → X → X) → (Step → Bool) → ℕ → (ℕ → Step) → List X → List X
in_place_table rule member q at xs = cond (fits (2 ^ q) xs) (run_in_place rule member (2 ^ q) at xs) xs

-- the loop: the exponent is looked at first
abbrev pub loop_answer : {X : Type 0} → ℕ → List X → Result (Unit {0}) LayoutFault
loop_answer q xs = cond (nat_le q 6) (size_answer (fits (2 ^ q) xs)) (Err ExponentTooLarge)

abbrev pub loop_table : {X : Type 0} → (X → X → X → X → X) → (Step → Bool) → ℕ → List X → List X
loop_table rule member q xs = cond (nat_le q 6) (cond (fits (2 ^ q) xs) (looped rule member (2 ^ q) xs) xs) xs

-- the careful run: the five tables of the walk, or as they were
abbrev pub careful_answer : {X : Type 0} → ℕ → Tables X → Result (Unit {0}) LayoutFault
careful_answer q T = size_answer (all_fit (2 ^ q) T)

abbrev pub careful_tables : {X : Type 0} → (X → X → X → X → X) → (Step → Bool) → ℕ → (ℕ → Step) → Tables X → Tables X
careful_tables rule member q at T = cond (all_fit (2 ^ q) T) (walk rule member (2 ^ q) at T.table) T

-- where the tables fit, the walk over the table leaves the loop's tables, for every lawful list of steps
abbrev pub WalkIsLoop : {X : Type 0} → (X → X → X → X → X) → (Step → Bool) → ℕ → Tables X → Type 0
WalkIsLoop rule member q T =
    all_fit (2 ^ q) T ≡ true → (at : ℕ → Step) → Lawful (2 ^ q) at → LeavesLoop rule member (2 ^ q) T.table (walk rule member (2 ^ q) at T.table)

-- the careful run took the tables from T to U, and where they fit U is the loop's, whatever the order
abbrev pub CarefulIsLoop : {X : Type 0} → (X → X → X → X → X) → (Step → Bool) → ℕ → Tables X → Tables X → Type 0
CarefulIsLoop rule member q T U = all_fit (2 ^ q) T ≡ true → LeavesLoop rule member (2 ^ q) T.table U
