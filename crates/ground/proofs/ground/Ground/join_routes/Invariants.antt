use Rattle.std.proofs.Common.{◌≡◌}
use Rattle.ground.specs.Kept.{Kept}
use Rattle.ground.proofs.JoinedRoutes.{joined_until}
use Rattle.ground.proofs.ground.Ground.join_routes.Given as goal

-- the first p routes are joined
abbrev pub invariant-loop-p : goal.invariant-loop-p
invariant-loop-p g l = record {
  joined : l.self.cells.now ≡ joined_until g.V.Kind.ops l.n l.relays.word l.link.from l.link.to l.link.value l.initial.self.cells.now l.p;
  kept : Kept l.initial.self l.self;
}
