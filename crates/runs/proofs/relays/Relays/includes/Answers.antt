-- A word of 64 bits has no bit from 64 up.
use Rattle.std.proofs.Common.{◌^◌, ◌<◌, arith, pow_mono}
use native.Mathlib.Nat.{div-eq_of_lt}
use Rattle.std.proofs.lemmas.Bool.Decides.{nat_tests}
use Rattle.runs.proofs.relays.Relays.includes.Goals as goal

pub returns-else-site-lt64 : goal.returns-else-site-lt64
returns-else-site-lt64 c =
    let power = pow_mono c.if-site-lt64.false in
    let small : c.args.self.word < 2 ^ c.args.site = omega (arith, power) in
    let no_bit = div-eq_of_lt small in
    grind (arith, nat_tests)
