-- Histories: the calls made on one board from its making on, each in a state that takes it. Assumes nothing.
use Rattle.std.specs.Prelude.{◌≡◌, ℕ, ◌^◌, List}
use Rattle.kinds.specs.Kind.{Ops}
use Rattle.orders.specs.declared.step.Step.{Step}
use Rattle.orders.specs.Lawful.{Lawful}
use Rattle.paths.specs.Calls.{Status, draft, settled, make_ground, post_ground, withdraw_ground, settle_ground}

-- A history has the calls that were taken and those that were refused. An ask and a count leave every cell and number, and
-- an end only gives the cells back, so no history has them.
pub data History (V : Type 0) : Status → Type 0 where
  made : History V draft
  -- a post of a value from one site to another
  posted : {s : Status} → History V s → ℕ → ℕ → V → History V s
  -- a withdrawal of the link from one site to another
  withdrawn : History V draft → ℕ → ℕ → History V draft
  -- a settling with a relay word by a lawful order of any exponent
  settled_by : History V draft → (word exponent : ℕ) (at : ℕ → Step) → Lawful (2 ^ exponent) at → History V (settled word)
  reopened : {word : ℕ} → History V (settled word) → History V draft

-- the ground that a history leads to, from the ground before the making and by what each call leaves
abbrev pub ground_after : {V : Type 0} → Ops V → ℕ → List V → {s : Status} → History V s → List V
ground_after o q before made = make_ground o q before
ground_after o q before (posted {s = s} h from to v) = post_ground o q s from to v (ground_after o q before h)
ground_after o q before (withdrawn h from to) = withdraw_ground o q from to (ground_after o q before h)
ground_after o q before (settled_by h word e at lawful) = settle_ground o q word e at (ground_after o q before h)
ground_after o q before (reopened h) = ground_after o q before h

-- the ground xs is the one that the history leads to
abbrev pub Leads : {V : Type 0} → Ops V → ℕ → List V → {s : Status} → History V s → List V → Type 0
Leads o q before h xs = xs ≡ ground_after o q before h

-- a call that took the ground from xs to ys makes each history that led to xs longer by itself
abbrev pub Longer : {V : Type 0} → Ops V → ℕ → {s t : Status} → (History V s → History V t) → List V → List V → Type 0
Longer {V = V} o q {s = s} call xs ys = (before : List V) (h : History V s) → Leads o q before h xs → Leads o q before (call h) ys

-- the same of a settling by an order, which is lawful
pub record Settles {V : Type 0} (o : Ops V) (q word e : ℕ) (at : ℕ → Step) (xs ys : List V) : Type 0 where
  pub lawful : Lawful (2 ^ e) at
  pub longer : Longer o q (λ h. settled_by h word e at lawful) xs ys
