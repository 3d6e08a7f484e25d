-- The loop's invariant: the first refusal from k on is the first of all. Assumes nothing.
use Rattle.std.proofs.Common.{◌≡◌, ◌-◌, length}
use Rattle.checks.specs.Checks.{first_refused}
use Rattle.checks.specs.Inner.{candidate_refusal, first_refusal}
use Rattle.checks.proofs.checks.first_refused.Given as goal

abbrev pub invariant-loop-k : goal.invariant-loop-k
invariant-loop-k l =
    first_refused (candidate_refusal l.n l.candidates l.matrix) l.k (length l.candidates.start.now - l.k)
    ≡ first_refusal l.n l.candidates l.matrix
