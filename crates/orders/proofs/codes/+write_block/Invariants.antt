use Rattle.std.proofs.Common.{◌≡◌, ◌*◌, take}
use Rattle.orders.specs.Writing.{block_codes}
use Rattle.orders.proofs.codes.+write_block.Given as goal

abbrev pub decreases-write_block : goal.decreases-write_block
decreases-write_block l = l.size.exponent

abbrev pub invariant-loop-digit : goal.invariant-loop-digit
invariant-loop-digit l = take (l.digit * l.steps) l.codes ≡ block_codes l.fn.size.exponent l.corner (l.digit * l.steps)
