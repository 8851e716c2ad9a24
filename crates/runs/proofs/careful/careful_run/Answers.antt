-- What the walk leaves is the loop's, since the order is lawful.
use Rattle.std.proofs.Common.{rules}
use Rattle.elimination.specs.Walk.{five}
use Rattle.runs.proofs.Fitting.{walk_is_loop, careful_is_loop}
use Rattle.runs.proofs.careful.careful_run.Goals as goal

pub returns-clause-every_order : goal.returns-clause-every_order
returns-clause-every_order g c =
    walk_is_loop (g.R.Rule.means c.args.rule.now) (g.S.UpdateSet.member c.args.set.now) (g.O.Order.log c.args.order.now) (five c.args.table.now c.args.u0.now c.args.u1.now c.args.v0.now c.args.v1.now)

pub returns-clause-looped : goal.returns-clause-looped
returns-clause-looped g c =
    careful_is_loop (g.R.Rule.means c.args.rule.now) (g.S.UpdateSet.member c.args.set.now) (g.O.Order.log c.args.order.now) (g.O.Order.at c.args.order.now) (five c.args.table.now c.args.u0.now c.args.u1.now c.args.v0.now c.args.v1.now) _ (g.met.O.Order.lawful c.args.order.now) (search rules)
