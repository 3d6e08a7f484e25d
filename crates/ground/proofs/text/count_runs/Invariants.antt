-- The loop's invariant: the places from i on are counted, and those before i are as they came.
-- A run is no longer than the places that are left, so it fits. Assumes nothing.
use Prim.Native.Nat.{◌-◌, ◌≤◌}
use mathlib.Core.Path.{◌≡◌}
use mathlib.Core.List.{◌++◌}
use lib.ListN.{length, take, get_or}
use Rattle.ground.proofs.RowLaws.{behind}
use Rattle.ground.proofs.text.count_runs.Given as goal

abbrev pub invariant-loop-i : goal.invariant-loop-i
invariant-loop-i l =
    (l.i ≤ l.n) × (length l.run ≡ length l.initial.run) × (l.run ≡ take l.i l.initial.run ++ behind l.initial.run l.n l.i) × (get_or l.run l.i 0 ≤ l.n - l.i)
