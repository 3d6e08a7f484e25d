-- The loop's invariant: none of the numbers before k is above the highest. Assumes nothing.
use Rattle.std.proofs.Common.{ℕ, ◌≤◌, ◌<◌}
use Rattle.checks.proofs.checks.highest.Given as goal

abbrev pub invariant-loop-k : goal.invariant-loop-k
invariant-loop-k g l = (i : ℕ) → i < l.k → (r : ℕ) × goal.F-post g l.number i r × (r ≤ l.highest)
