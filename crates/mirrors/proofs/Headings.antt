-- The line of a heading. Assumes nothing.
use Rattle.std.proofs.Common.{◌≡◌, ◌==◌, ◌&&◌, ◌-◌, ◌∙◌, ℕ, List, Bool, zero, suc, false, true, cond, [], ◌∷◌, ap, refl, arith}
use Rattle.std.specs.List.{repeat}
use Rattle.std.specs.Fmt.{format_spec, styled_text, padded, char_count, take_chars}

abbrev dash : List ℕ
dash = 45 ∷ []

-- what fills the width of an empty text
pub dashes : (n : ℕ) → styled_text (format_spec 45 1 0 n 18446744073709551615) [] ≡ repeat n dash
unfolding padded char_count take_chars lib.Utf8.encode
dashes zero = refl
dashes (suc n) =
    let wide : (suc n == 0) ≡ false = grind arith in
    let all : suc n - 0 - 0 ≡ suc n = omega arith in
    let line : Bool → List ℕ = λ b. cond (b && true) [] (repeat (suc n - 0 - 0) dash) in
    let filled : styled_text (format_spec 45 1 0 (suc n) 18446744073709551615) [] ≡ line (suc n == 0) = refl in
    filled ∙ ap line wide ∙ ap (λ k. repeat k dash) all
