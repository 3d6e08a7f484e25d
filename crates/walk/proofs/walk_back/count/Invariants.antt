-- The loop's invariant is `Counting`; the measure is the position, which each link to a candidate lowers. Assumes nothing.
use Rattle.walk.proofs.Passes.{Counting}
use Rattle.walk.proofs.walk_back.count.Given as goal

abbrev pub invariant-loop-k : goal.invariant-loop-k
invariant-loop-k l = Counting l.start l.end l.left l.n l.position l.entry l.count

abbrev pub decreases-loop-k : goal.decreases-loop-k
decreases-loop-k l = l.position
