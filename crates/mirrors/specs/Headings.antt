-- What a heading prints. Assumes nothing.
use Rattle.std.specs.Prelude.{ℕ, List, ◌∷◌, ◌++◌, length, codes}
use Rattle.std.specs.List.{repeat}

-- as many dashes as a title has bytes
abbrev pub under : List ℕ → List ℕ
under title = repeat (length title) (codes "-")

-- a title, and that line under it
abbrev pub underlined : List ℕ → List ℕ
underlined title = title ++ 10 ∷ under title
