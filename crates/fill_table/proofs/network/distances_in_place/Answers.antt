use Rattle.std.proofs.Common.{Ok, ap}
use Rattle.runs.proofs.Fitting.{made_exponent}
use Rattle.fill_table.proofs.Distances.{left_in_place}
use Rattle.fill_table.proofs.network.distances_in_place.Goals as goal

pub returns : goal.returns
returns c = ap Ok (left_in_place _ (made_exponent 2 _ c.in_ok-order.ensures).1 _ c.links-costs.ensures _ c.run_in_place.ensures.table)
