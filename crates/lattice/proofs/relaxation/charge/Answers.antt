-- In each arm the mode is the arm's case; Normal charges nothing. Assumes nothing.
use Rattle.ground.proofs.ChargeLaws.{charge_normal}
use Rattle.lattice.proofs.relaxation.charge.Goals as goal

pub returns-in-Normal : goal.returns-in-Normal
returns-in-Normal c = rw (c.in-Normal.is, charge_normal)
