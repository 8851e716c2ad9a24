-- The lent tables of the careful run: their cells, and what each call on them keeps. Assumes nothing.
use Rattle.std.specs.Prelude.{◌≡◌, ℕ, cond, nat_le, nat_lt, slice_set}
use Rattle.orders.specs.declared.step.Step.{Step}
use Rattle.elimination.specs.Table.{place}
use Rattle.elimination.specs.Walk.{Tables, five}
use Rattle.runs.specs.declared.tables.Tables as lent

-- the cells of five lent tables
abbrev pub cells_of : {C : Type 0} → lent.Tables C → Tables C
cells_of t = five t.table.now t.u0.now t.u1.now t.v0.now t.v1.now

-- cell (i, j) with the value x, which is kept in u0 if k < j, in u1 if k ≤ j, in v0 if k < i, in v1 if k ≤ i
abbrev pub stored : {C : Type 0} → ℕ → Step → C → Tables C → Tables C
stored n s x T = record {
  table = slice_set T.table (place n s.i s.j) x;
  u0 = cond (nat_lt s.k s.j) (slice_set T.u0 (place n s.i s.j) x) T.u0;
  u1 = cond (nat_le s.k s.j) (slice_set T.u1 (place n s.i s.j) x) T.u1;
  v0 = cond (nat_lt s.k s.i) (slice_set T.v0 (place n s.i s.j) x) T.v0;
  v1 = cond (nat_le s.k s.i) (slice_set T.v1 (place n s.i s.j) x) T.v1;
}

-- the same size, and the same five lists are still lent
pub record Kept {C : Type 0} (old new : lent.Tables C) : Type 0 where
  pub size : new.size ≡ old.size
  pub table : new.table.ghost_name ≡ old.table.ghost_name
  pub u0 : new.u0.ghost_name ≡ old.u0.ghost_name
  pub u1 : new.u1.ghost_name ≡ old.u1.ghost_name
  pub v0 : new.v0.ghost_name ≡ old.v0.ghost_name
  pub v1 : new.v1.ghost_name ≡ old.v1.ghost_name
