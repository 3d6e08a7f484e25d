-- The loop's invariant: the rows hold the entries before word k goes in, over what they held at first, and are the same rows. Assumes nothing.
use Prim.Native.Nat.{suc, ◌-◌, ◌≤◌}
use Rattle.lattice.specs.Words.{given_by, count}
use Rattle.lattice.specs.Rows.{held, SameRows, Filled}
use Rattle.lattice.specs.Inner.{entries_before, SizedBefore}
use Rattle.lattice.proofs.forward.all_words.Given as goal

abbrev pub invariant-loop-k : goal.invariant-loop-k
invariant-loop-k l =
    let g = given_by l.sentence in
    (l.k ≤ suc (count g))
    × SizedBefore l.n g l.k
    × Filled l.n (entries_before l.n g l.k) (held l.initial.rows) (held l.rows)
    × SameRows l.initial.rows l.rows

abbrev pub decreases-loop-k : goal.decreases-loop-k
decreases-loop-k l = suc (count (given_by l.sentence)) - l.k
