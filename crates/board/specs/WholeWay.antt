-- The life of one small board as a history, and what the board shows. Assumes nothing.
use Rattle.std.specs.Prelude.{◌≡◌, ℕ, List, replicate, Ok, Err, Result}
use Rattle.std.proofs.Common.{arith}
use Rattle.faults.specs.declared.LinkFault.{LinkFault}
use Rattle.faults.specs.declared.LinkFault.TheVariants.{SameSite}
use Rattle.kinds.specs.declared.cells.Cost.{Cost}
use Rattle.kinds.specs.Costs.{cost, costs}
use Rattle.orders.specs.LoopOrder.{loop_at}
use Rattle.orders.specs.RecursiveOrder.{recursive_at}
use Rattle.orders.specs.Lawful.{Lawful}
use Rattle.paths.specs.Calls.{draft, settled}
use Rattle.paths.specs.History.{History, made, posted, withdrawn, settled_by, reopened}
use Rattle.paths.specs.Law.{BestDistance}
use Rattle.board.specs.declared.whole_way.Answers.{Answers}

-- the costs that are posted, and what the ground held before
abbrev pub one : Cost
one = cost 1 (omega arith)

abbrev pub five : Cost
five = cost 5 (omega arith)

abbrev pub seven : Cost
seven = cost 7 (omega arith)

abbrev pub nine : Cost
nine = cost 9 (omega arith)

abbrev pub ten : Cost
ten = cost 10 (omega arith)

-- the ground before the making
abbrev pub found : List Cost
found = replicate 32 seven

-- links 0→1 and 1→2, and a post that is refused
abbrev pub drafted : History Cost draft
drafted = posted (posted (posted made 0 1 ten) 1 2 five) 1 1 one

-- settled with site 1 as the relay, by the recursive order, which is lawful
abbrev pub settled_first : Lawful 4 (recursive_at 2) → History Cost (settled 2)
settled_first lawful = settled_by drafted 2 2 (recursive_at 2) lawful

-- a link 0→2 posted on the settled board
abbrev pub improved : Lawful 4 (recursive_at 2) → History Cost (settled 2)
improved lawful = posted (settled_first lawful) 0 2 nine

-- reopened, that link withdrawn, and settled again by the loop order
abbrev pub settled_again : Lawful 4 (recursive_at 2) → Lawful 4 (loop_at 4) → History Cost (settled 2)
settled_again lawful lawful' = settled_by (withdrawn (reopened (improved lawful)) 0 2) 2 2 (loop_at 4) lawful'

-- an ask from 0 to 2 answered this number, and it is the best distance after the history
pub record Shows {word : ℕ} (h : History Cost (settled word)) (number : ℕ) (answer : Result Cost LinkFault) : Type 0 where
  pub shown : Cost
  pub is_shown : answer ≡ Ok shown
  pub number_is : shown.value ≡ number
  pub best : BestDistance costs 2 found h 0 2 shown

-- what each call answered
pub record Went (a : Answers) : Type 0 where
  pub first_link : a.first_link ≡ Ok tt
  pub second_link : a.second_link ≡ Ok tt
  pub same_site : a.same_site ≡ Err SameSite
  pub recursive : Lawful 4 (recursive_at 2)
  pub settled : Shows (settled_first recursive) 15 a.settled
  pub better_link : a.better_link ≡ Ok tt
  pub improved : Shows (improved recursive) 9 a.improved
  pub withdrawn : a.withdrawn ≡ Ok tt
  pub looping : Lawful 4 (loop_at 4)
  pub settled_again : Shows (settled_again recursive looping) 15 a.settled_again
