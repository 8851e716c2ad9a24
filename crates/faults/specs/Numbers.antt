-- The number of each fault. Assumes nothing.
use Rattle.std.specs.Prelude.{ℕ}
use Rattle.faults.specs.declared.LinkFault.{LinkFault}
use Rattle.faults.specs.declared.LinkFault.TheVariants.{SiteOutside, SameSite, NoLink}
use Rattle.faults.specs.declared.LayoutFault.{LayoutFault}
use Rattle.faults.specs.declared.LayoutFault.TheVariants.{ExponentTooLarge, SizeMismatch}

-- whoever posts links: 1 to 3
abbrev pub link_number : LinkFault → ℕ
link_number SiteOutside = 1
link_number SameSite = 2
link_number NoLink = 3

-- whoever lays out memory: 4 and 5
abbrev pub layout_number : LayoutFault → ℕ
layout_number ExponentTooLarge = 4
layout_number SizeMismatch = 5
