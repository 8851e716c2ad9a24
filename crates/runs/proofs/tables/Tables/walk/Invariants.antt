use Rattle.std.proofs.Common.{◌≡◌, ◌^◌}
use Rattle.elimination.specs.Walk.{walk_until}
use Rattle.runs.specs.SideTables.{cells_of, Kept}
use Rattle.runs.proofs.tables.Tables.walk.Given as goal

-- the steps so far are worked
abbrev pub invariant-loop-step : goal.invariant-loop-step
invariant-loop-step g l = record {
  order : l.step-iterator.order.now ≡ l.order;
  cells : cells_of l.self ≡ walk_until (g.R.Rule.means l.rule) (g.S.UpdateSet.member l.set) (2 ^ l.fn.self.size.exponent) (g.O.Order.at l.order) l.step-iterator.next l.fn.self.table.now;
  kept : Kept l.fn.self l.self;
}
