-- The kind of widths. Assumes nothing.
use Rattle.std.specs.Prelude.{ℕ, ◌^◌, ◌<◌, min, max, ◌==◌}
use Rattle.std.proofs.Common.{arith}
use Rattle.kinds.specs.Kind.{Ops}
use Rattle.kinds.specs.declared.cells.Width.{Width}

abbrev pub width : (n : ℕ) → n < 2 ^ 32 → Width
width n h = record { value = n; fits = h }

-- join takes the larger, chain the smaller
abbrev pub widths : Ops Width
widths = record {
  join = λ a b. width (max a.value b.value) (omega arith);
  chain = λ a b. width (min a.value b.value) (omega arith);
  none = width 0 (omega arith);
  here = width 4294967295 (omega arith);
  same = λ a b. a.value == b.value;
}
