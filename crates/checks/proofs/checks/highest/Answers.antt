use Rattle.std.proofs.Common.{arith, below_more}
use Rattle.checks.proofs.checks.highest.Goals as goal

pub loop-k-preserved : goal.loop-k-preserved
loop-k-preserved g c =
    below_more _ _ (λ i h. let (r, p, l) = c.loop-k.invariant i h in (r, p, omega (arith, c.max-highest.ensures)))
    (c.number.result, c.number.ensures, omega (arith, c.max-highest.ensures))

pub returns : goal.returns
returns g c k h = c.loop-k.invariant k (omega arith)
