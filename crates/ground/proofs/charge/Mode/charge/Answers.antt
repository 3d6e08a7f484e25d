-- In each arm the mode is the arm's case, at which the charge computes. Assumes nothing.
use mathlib.Core.Path.{◌∙◌}
use native.Mathlib.Omega.{arith}
use borrow.Author.Tests.{le-leb, lt-leb}
use mir.Syntax.{w32}
use Rattle.ground.specs.Charge.{charge}
use Rattle.ground.proofs.SignedLaws.{back}
use Rattle.ground.proofs.charge.Mode.charge.Goals as goal

pub returns-in-Normal : goal.returns-in-Normal
unfolding charge
returns-in-Normal c = rw c.in-Normal.is

pub returns-then-len-run : goal.returns-then-len-run
unfolding charge
returns-then-len-run c =
    let s = c.args in
    rw (c.in-Decompose.is, le-leb s.len s.run (omega arith))
    (back w32 c.above.result c.above.type_inv ∙ c.above.ensures)

pub returns-else-len-run : goal.returns-else-len-run
unfolding charge
returns-else-len-run c =
    let s = c.args in
    rw (c.in-Decompose.is, lt-leb s.len s.run (omega arith))
    (back w32 c.above-else-len-run.result c.above-else-len-run.type_inv ∙ c.above-else-len-run.ensures)
