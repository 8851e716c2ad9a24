-- The kind of channel sets. Assumes nothing.
use Rattle.std.specs.Prelude.{ℕ, ◌^◌, ◌<◌, ◌==◌, bit_and, bit_or}
use Rattle.std.proofs.Common.{arith}
use Rattle.std.specs.Int.Bits.{and_lt}
use Rattle.std.proofs.lemmas.Nat.{or_lt}
use Rattle.kinds.specs.Kind.{Ops}
use Rattle.kinds.specs.declared.cells.Channels.{Channels}

abbrev pub channels : (n : ℕ) → n < 2 ^ 64 → Channels
channels n h = record { set = n; fits = h }

-- join unites, chain intersects
abbrev pub channel_sets : Ops Channels
channel_sets = record {
  join = λ a b. channels (bit_or a.set b.set) (or_lt 64 a.set b.set a.fits b.fits);
  chain = λ a b. channels (bit_and a.set b.set) (and_lt 64 a.set b.set a.fits b.fits);
  none = channels 0 (omega arith);
  here = channels 18446744073709551615 (omega arith);
  same = λ a b. a.set == b.set;
}
