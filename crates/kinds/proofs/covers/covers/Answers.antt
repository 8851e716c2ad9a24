-- Covering is an order, by the laws of the kind.
use Rattle.kinds.proofs.Order.{covering}
use Rattle.kinds.proofs.covers.covers.Goals as goal

pub returns-clause-order : goal.returns-clause-order
returns-clause-order g c = covering g.met.V.Kind.lawful
