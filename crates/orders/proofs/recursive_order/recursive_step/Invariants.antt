use Rattle.std.proofs.Common.{◌≡◌, ◌-◌, ◌*◌, ◌/◌, ◌^◌}
use Rattle.orders.specs.RecursiveOrder.{recursive_at}
use Rattle.orders.proofs.recursive_order.recursive_step.Given as goal

abbrev pub invariant-loop-level : goal.invariant-loop-level
invariant-loop-level l = l.s ≡ recursive_at (l.fn.size.exponent - l.level) (l.t / 2 ^ (3 * l.level))
