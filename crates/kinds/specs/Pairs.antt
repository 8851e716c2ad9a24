-- Two kinds side by side, part by part. Assumes nothing.
use Rattle.std.specs.Prelude.{◌&&◌}
use Rattle.kinds.specs.Kind.{Ops}
use Rattle.kinds.specs.declared.cells.Beside.{Beside}

abbrev pub pairs : {L R : Type 0} → Ops L → Ops R → Ops (Beside L R)
pairs l r = record {
  join = λ a b. record { left = l.join a.left b.left; right = r.join a.right b.right };
  chain = λ a b. record { left = l.chain a.left b.left; right = r.chain a.right b.right };
  none = record { left = l.none; right = r.none };
  here = record { left = l.here; right = r.here };
  same = λ a b. l.same a.left b.left && r.same a.right b.right;
}
