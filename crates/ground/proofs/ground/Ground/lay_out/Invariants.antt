use Rattle.std.proofs.Common.{◌≡◌, ℕ, ◌<◌, get_or}
use Rattle.ground.specs.Cells.{fresh_cell}
use Rattle.ground.proofs.ground.Ground.lay_out.Given as goal

-- the cells before p are laid
abbrev pub invariant-loop-p : goal.invariant-loop-p
invariant-loop-p g l = (k : ℕ) (d : _) → k < l.p → get_or l.cell-items k d ≡ fresh_cell g.V.Kind.ops l.n k
