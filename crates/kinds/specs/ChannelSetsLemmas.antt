-- Channel sets keep the laws of a kind. Assumes nothing.
use Rattle.std.proofs.Common.{ap}
use Rattle.std.proofs.lemmas.Nat.{or_comm}
use Rattle.std.specs.Int.Bits.{and_zero_l, and_zero_r, or_zero_r}
use Rattle.std.proofs.lemmas.Bool.{eqb-true, eq-eqb}
use Rattle.kinds.specs.Kind.{Laws}
use Rattle.kinds.specs.ChannelSets.{channel_sets}
use Rattle.kinds.specs.declared.cells.Channels.{Channels}
use Rattle.kinds.specs.Equal.{channels_equal}
use Rattle.kinds.specs.Sets.{and_assoc, or_assoc, and_or, or_and, and_full, full_and, full_or}

pub channel_sets_lawful : Laws channel_sets
channel_sets_lawful = record {
  join_assoc = λ a b c. channels_equal _ _ (or_assoc a.set b.set c.set);
  join_comm = λ a b. channels_equal _ _ (or_comm a.set b.set);
  chain_assoc = λ a b c. channels_equal _ _ (and_assoc a.set b.set c.set);
  chain_join = λ a b c. channels_equal _ _ (and_or a.set b.set c.set);
  join_chain = λ a b c. channels_equal _ _ (or_and a.set b.set c.set);
  join_none = λ a. channels_equal _ _ (or_zero_r a.set);
  none_chain = λ a. channels_equal _ _ (and_zero_l a.set);
  chain_none = λ a. channels_equal _ _ (and_zero_r a.set);
  here_chain = λ a. channels_equal _ _ (full_and a.set a.fits);
  chain_here = λ a. channels_equal _ _ (and_full a.set a.fits);
  here_join = λ a. channels_equal _ _ (full_or a.set a.fits);
  same_equal = λ a b e. channels_equal a b (eqb-true _ _ e);
  equal_same = λ a b e. eq-eqb _ _ (ap (λ (x : Channels). x.set) e);
}
