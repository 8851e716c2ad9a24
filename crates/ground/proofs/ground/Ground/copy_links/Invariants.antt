use Rattle.std.proofs.Common.{◌≡◌, ◌*◌}
use Rattle.ground.specs.Kept.{Kept}
use Rattle.ground.proofs.CopiedLinks.{copied_until}
use Rattle.ground.proofs.ground.Ground.copy_links.Given as goal

-- the links before place p are copied
abbrev pub invariant-loop-p : goal.invariant-loop-p
invariant-loop-p g l = record {
  copied : l.self.cells.now ≡ copied_until (l.n * l.n) l.initial.self.cells.now l.p;
  kept : Kept l.initial.self l.self;
}
