-- Both position rows are cleared, and the start mark is then the first and the last at 0. Assumes nothing.
use Rattle.lattice.specs.Rows.{held}
use Rattle.lattice.proofs.FillLaws.{fill_start}
use Rattle.lattice.proofs.forward.start_mark.Goals as goal

pub returns-clause-filled : goal.returns-clause-filled
returns-clause-filled c =
    rw (c.link.ensures.linked, c.clear.ensures, c.clear-2.ensures) (fill_start c.args.n (held c.args.rows.now) c.requires)
