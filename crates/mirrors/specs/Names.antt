-- The names of the mirrors. Assumes nothing.
use Rattle.std.specs.Prelude.{ℕ, List, codes}
use Rattle.mirrors.specs.declared.Mirror.{Mirror}
use Rattle.mirrors.specs.declared.Mirror.TheVariants.{Bergen, Geneva, Kyoto, Lima}

abbrev pub name : Mirror → List ℕ
name Bergen = codes "Bergen"
name Geneva = codes "Geneva"
name Kyoto = codes "Kyoto"
name Lima = codes "Lima"
