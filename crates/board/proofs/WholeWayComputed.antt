-- What the board of the whole way answers, computed from the definitions of its calls. Assumes nothing.
use Rattle.std.proofs.Common.{◌≡◌, ℕ, List, Ok, Err, Result, sym, refl, ap, ◌∙◌, subst, arith}
use Rattle.std.specs.Result.{result_map_both}
use Rattle.faults.specs.declared.LinkFault.{LinkFault}
use Rattle.faults.specs.declared.LinkFault.TheVariants.{SameSite}
use Rattle.kinds.specs.declared.cells.Cost.{Cost}
use Rattle.kinds.specs.Costs.{costs}
use Rattle.orders.specs.declared.step.Step.{Step}
use Rattle.orders.specs.LoopOrder.{loop_at}
use Rattle.orders.specs.RecursiveOrder.{recursive_at}
use Rattle.orders.specs.Lawful.{Lawful}
use Rattle.elimination.specs.Table.{changed, upto}
use Rattle.elimination.specs.Loop.{step_in_place, run_until}
use Rattle.paths.specs.Ground.{sites_on, by_place_from}
use Rattle.paths.specs.Calls.{Status, settled, post_answer, withdraw_answer, ask_answer}
use Rattle.paths.specs.History.{History, made, posted, reopened, ground_after, Leads, Longer, Settles}
use Rattle.paths.specs.Law.{ShowsBest}
use Rattle.board.specs.WholeWay.{ten, five, found, settled_first, improved, settled_again, Shows}

-- the ground after a history on this board
abbrev pub after : {s : Status} → History Cost s → List Cost
after h = ground_after costs 2 found h

-- the number that an ask from 0 to 2 answers
abbrev pub number : Result Cost LinkFault → Result ℕ LinkFault
number r = result_map_both (λ c. c.value) (λ e. e) r

pub takes_first : post_answer 2 0 1 (after made) ≡ Ok tt
unfolding sites_on by_place_from
takes_first = refl

pub takes_second : post_answer 2 1 2 (after (posted made 0 1 ten)) ≡ Ok tt
unfolding sites_on by_place_from changed
takes_second = refl

pub refuses_same : post_answer 2 1 1 (after (posted (posted made 0 1 ten) 1 2 five)) ≡ Err SameSite
unfolding sites_on by_place_from changed
refuses_same = refl

module _ (recursive : Lawful 4 (recursive_at 2)) (looping : Lawful 4 (loop_at 4)) where
  pub shows_first : number (ask_answer costs 2 0 2 (after (settled_first recursive))) ≡ Ok 15
  unfolding sites_on by_place_from changed upto step_in_place run_until
  shows_first = refl

  pub takes_better : post_answer 2 0 2 (after (settled_first recursive)) ≡ Ok tt
  unfolding sites_on by_place_from changed upto step_in_place run_until
  takes_better = refl

  pub shows_better : number (ask_answer costs 2 0 2 (after (improved recursive))) ≡ Ok 9
  unfolding sites_on by_place_from changed upto step_in_place run_until
  shows_better = refl

  pub takes_withdrawal : withdraw_answer costs 2 0 2 (after (reopened (improved recursive))) ≡ Ok tt
  unfolding sites_on by_place_from changed upto step_in_place run_until
  takes_withdrawal = refl

  pub shows_last : number (ask_answer costs 2 0 2 (after (settled_again recursive looping))) ≡ Ok 15
  unfolding sites_on by_place_from changed upto step_in_place run_until
  shows_last = refl

-- a board of four sites with these cells, which the history led to
pub record Stands {s : Status} (h : History Cost s) (e : ℕ) (xs : List Cost) : Type 0 where
  pub two : e ≡ 2
  pub leads : Leads costs 2 found h xs

-- a call that makes histories longer
pub called : {s t : Status} (call : History Cost s → History Cost t) {h : History Cost s} {e e' : ℕ} {xs : List Cost} (ys : List Cost) → Stands h e xs
    → e' ≡ e → Longer costs e call xs ys → Stands (call h) e' ys
called call {h = h} {xs = xs} ys st same longer =
    record { two = same ∙ st.two; leads = subst (λ q. Longer costs q call xs ys) st.two longer found h st.leads }

-- a post of x, which is the value v
pub posting : {s : Status} {h : History Cost s} {e e' : ℕ} {xs : List Cost} (ys : List Cost) (from to : ℕ) {x v : Cost} → x ≡ v → Stands h e xs
    → e' ≡ e → Longer costs e {s = s} (λ h. posted h from to x) xs ys → Stands (posted h from to v) e' ys
posting {s = s} {h = h} {e' = e'} ys from to {x = x} is st same longer =
    subst (λ w. Stands (posted h from to w) e' ys) is (called {s = s} (λ h. posted h from to x) ys st same longer)

-- a settling by an order of exponent d, which is 2
pub settles : (order : ℕ → ℕ → Step) (d e : ℕ) (xs ys : List Cost) → d ≡ 2 → Settles costs e 2 d (order d) xs ys → Settles costs e 2 2 (order 2) xs ys
settles order d e xs ys same = subst (λ m. Settles costs e 2 m (order m) xs ys) same

-- what a call answers
pub answered : {s : Status} {h : History Cost s} {e : ℕ} {xs : List Cost} (answer : ℕ → List Cost → Result (Unit {0}) LinkFault) {r a : Result (Unit {0}) LinkFault} → Stands h e xs
    → r ≡ answer e xs → answer 2 (after h) ≡ a → r ≡ a
answered {xs = xs} answer st is computed = is ∙ ap (λ q. answer q xs) st.two ∙ ap (answer 2) st.leads ∙ computed

-- what an ask shows, with its number
pub shows : {word : ℕ} {h : History Cost (settled word)} {e : ℕ} {xs : List Cost} (n word' : ℕ) (r : Result Cost LinkFault) → Stands h e xs → word' ≡ word
    → number (ask_answer costs 2 0 2 (after h)) ≡ Ok n → r ≡ ask_answer costs e 0 2 xs → ShowsBest costs e word' xs 0 2 r → Shows h n r
unfolding sites_on
shows {word = word} {h = h} {xs = xs} n word' r st same computed answer law =
    let law' : ShowsBest costs 2 word xs 0 2 r = subst (λ w. ShowsBest costs 2 w xs 0 2 r) same (subst (λ q. ShowsBest costs q word' xs 0 2 r) st.two law) in
    let best = law' found h st.leads (omega arith) (omega arith) in
    let is = ap (λ q. ask_answer costs q 0 2 xs) st.two ∙ ap (ask_answer costs 2 0 2) st.leads in
    let both : Ok best.0.value ≡ Ok n = ap number (sym best.1) ∙ ap number (answer ∙ is) ∙ computed in
    let equal : best.0.value ≡ n = cc in
    record { shown = best.0; is_shown = best.1; number_is = equal; best = best.2 }
