-- What the two tests pick is what is linked. Assumes nothing.
use Rattle.lattice.specs.Rows.{held}
use Rattle.lattice.proofs.FillLaws.{linked_is}
use Rattle.lattice.proofs.rows.link.Goals as goal

pub returns-clause-linked : goal.returns-clause-linked
returns-clause-linked c =
    rw (c.from-2.ensures, c.from.ensures, c.select_unpredictable.ensures, c.select_unpredictable-2.ensures, c.select_unpredictable-before.ensures)
    (linked_is c.args.x c.args.position (held c.args.rows.now))
