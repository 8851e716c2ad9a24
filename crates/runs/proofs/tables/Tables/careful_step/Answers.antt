-- A step in the set stores its cell's new value.
use Rattle.std.proofs.Common.{◌^◌, ◌<◌, length, sym, ◌∙◌, arith}
use Rattle.elimination.specs.Table.{place}
use Rattle.elimination.proofs.Tables.{place_below}
use Rattle.elimination.proofs.Sides.{careful_as_stored}
use Rattle.runs.specs.SideTables.{cells_of}
use Rattle.runs.proofs.tables.Tables.careful_step.Goals as goal

pub returns-then-has-clause-cells : goal.returns-then-has-clause-cells
returns-then-has-clause-cells g c =
    let s = c.args.step in
    let n = 2 ^ c.args.self.now.size.exponent in
    let T = cells_of c.args.self.now in
    let x = c.new_value-x.result in
    let inside : place n s.i s.j < length T.table = omega (arith, place_below n s.i s.j c.requires.row c.requires.column) in
    c.store.ensures.cells ∙ sym (careful_as_stored (g.R.Rule.means c.args.rule.now) (g.S.UpdateSet.member c.args.set.now) n s x T (sym c.has.ensures ∙ c.if-has.true) inside (c.new_value-x.ensures x))
