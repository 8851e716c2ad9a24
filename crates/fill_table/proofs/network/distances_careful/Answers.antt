use Rattle.std.proofs.Common.{replicate, Ok, refl, ap}
use Rattle.runs.proofs.Fitting.{made_exponent}
use Rattle.fill_table.proofs.Distances.{left_careful}
use Rattle.fill_table.proofs.network.distances_careful.Goals as goal

pub returns : goal.returns
returns c =
    let none = replicate 16 c.none-none.result in
    ap Ok (left_careful _ (made_exponent 2 _ c.in_ok-order.ensures).1 _ c.links-costs.ensures none none none none _ refl c.careful_run.ensures.walk)
