use Rattle.std.proofs.Common.{◌≡◌, ◌^◌}
use Rattle.elimination.specs.Loop.{run_until}
use Rattle.runs.proofs.in_place.Table.run.Given as goal

-- the steps so far are worked
abbrev pub invariant-loop-step : goal.invariant-loop-step
invariant-loop-step g l = record {
  order : l.step-iterator.order.now ≡ l.order;
  cells : l.self.cells.now ≡ run_until (g.R.Rule.means l.rule) (g.S.UpdateSet.member l.set) (2 ^ l.initial.self.size.exponent) (g.O.Order.at l.order) l.step-iterator.next l.initial.self.cells.now;
  same_size : l.self.size ≡ l.initial.self.size;
  same_loan : l.self.cells.ghost_name ≡ l.initial.self.cells.ghost_name;
}
