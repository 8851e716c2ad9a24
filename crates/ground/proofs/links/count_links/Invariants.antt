use Rattle.std.proofs.Common.{◌≡◌, ◌≤◌}
use Rattle.paths.specs.Calls.{tally, is_link}
use Rattle.ground.proofs.links.count_links.Given as goal

-- the links at the places below p are counted
abbrev pub invariant-loop-p : goal.invariant-loop-p
invariant-loop-p g l = record {
  counted : l.count ≡ tally l.p (is_link g.V.Kind.ops l.n l.cells);
  few : l.count ≤ l.p;
}
