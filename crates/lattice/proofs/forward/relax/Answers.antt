-- What the rows hold for the relaxation, they hold without their left row. Assumes nothing.
use mathlib.Core.List.{[]}
use Rattle.lattice.proofs.GoingLaws.{any_left}
use Rattle.lattice.proofs.forward.relax.Goals as goal

pub relax-requires : goal.relax-requires
relax-requires c =
    let (es, (one, other)) = c.requires in
    (es, (any_left [] one, any_left [] other))

pub returns-clause-taken : goal.returns-clause-taken
returns-clause-taken c = λ es both. c.relax.ensures.taken es (any_left [] both.0, any_left [] both.1)
