-- Unions and intersections of sets of bits: both associate, and the intersection goes into a union. Assumes nothing.
use Rattle.std.specs.Prelude.{◌≡◌, ℕ, ◌/◌, ◌%◌, ◌^◌, ◌<◌, min, max, bit_and, bit_or}
use Rattle.std.proofs.Common.{◌∙◌, mod-eq_of_lt, arith}
use Rattle.std.specs.Int.Bits.{and_step, or_step, or_add_and}
use Rattle.std.proofs.lemmas.Nat.{and_shr, or_shr, and_comm, and_mask}
use Rattle.std.proofs.lemmas.Nat.Bits.{same_from_bits, bit_at_and, bit_at_or}

-- A number is known by its half and its last bit, and what these are of an intersection and of a union. The proofs below go by single bits and need none of this.
by_bits : (a b : ℕ) → a / 2 ≡ b / 2 → a % 2 ≡ b % 2 → a ≡ b
by_bits a b h l = omega arith

and_half : (a b : ℕ) → bit_and a b / 2 ≡ bit_and (a / 2) (b / 2)
and_half a b = and_shr a b 1

or_half : (a b : ℕ) → bit_or a b / 2 ≡ bit_or (a / 2) (b / 2)
or_half a b = or_shr a b 1

and_last : (a b : ℕ) → bit_and a b % 2 ≡ min (a % 2) (b % 2)
and_last a b = omega (arith, and_step a b)

or_last : (a b : ℕ) → bit_or a b % 2 ≡ max (a % 2) (b % 2)
or_last a b = omega (arith, or_step a b)

pub and_assoc : (a b c : ℕ) → bit_and (bit_and a b) c ≡ bit_and a (bit_and b c)
and_assoc a b c = same_from_bits _ _ (λ i. simp bit_at_and (omega arith))

pub or_assoc : (a b c : ℕ) → bit_or (bit_or a b) c ≡ bit_or a (bit_or b c)
or_assoc a b c = same_from_bits _ _ (λ i. simp bit_at_or (omega arith))

pub and_or : (a b c : ℕ) → bit_and a (bit_or b c) ≡ bit_or (bit_and a b) (bit_and a c)
and_or a b c = same_from_bits _ _ (λ i. simp (bit_at_and, bit_at_or) (omega arith))

pub or_and : (a b c : ℕ) → bit_and (bit_or a b) c ≡ bit_or (bit_and a c) (bit_and b c)
or_and a b c = same_from_bits _ _ (λ i. simp (bit_at_and, bit_at_or) (omega arith))

-- 2 ^ 64 - 1 is the full set
pub and_full : (a : ℕ) → a < 2 ^ 64 → bit_and a 18446744073709551615 ≡ a
and_full a h = and_mask a 64 ∙ mod-eq_of_lt h

pub full_and : (a : ℕ) → a < 2 ^ 64 → bit_and 18446744073709551615 a ≡ a
full_and a h = and_comm 18446744073709551615 a ∙ and_full a h

pub full_or : (a : ℕ) → a < 2 ^ 64 → bit_or 18446744073709551615 a ≡ 18446744073709551615
full_or a h = omega (arith, or_add_and 18446744073709551615 a, full_and a h)
