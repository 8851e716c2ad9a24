-- What the ask shows is the best distance, since every history keeps it so.
use Rattle.std.proofs.Common.{sym, subst}
use Rattle.paths.specs.Law.{ShowsBest}
use Rattle.paths.proofs.ShowsBest.{shows_best}
use Rattle.board.proofs.settled.Settled.ask.Goals as goal

pub returns-clause-best : goal.returns-clause-best
returns-clause-best g c =
    let board = c.args.self.now in
    let q = board.exponent in
    let xs = board.ground.now in
    subst (ShowsBest g.V.Kind.ops q board.relays.word xs c.args.from c.args.to) (sym c.shown.ensures)
    (shows_best g.met.V.Kind.lawful q board.relays.word xs c.args.from c.args.to)
