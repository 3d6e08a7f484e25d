-- The loop's invariant is `Visited`, for every list of entries that the rows hold and each of the two rows of the matrix; the measure is how far the
-- entry's number is from none, since each is higher than the one before. Assumes nothing.
use Prim.Native.Nat.{◌-◌}
use mathlib.Core.List.{List}
use Rattle.ground.specs.Entry.{none_link}
use Rattle.lattice.specs.Words.{given_by}
use Rattle.lattice.specs.Lattice.{LatticeEntry, mark}
use Rattle.lattice.specs.Rows.{read}
use Rattle.lattice.specs.Inner.{in_row, NearPair, HeldBoth}
use Rattle.lattice.proofs.GoingLaws.{Visited}
use Rattle.lattice.proofs.relaxation.least_between.Given as goal

abbrev pub invariant-loop-at : goal.invariant-loop-at
invariant-loop-at l =
    ((es : List LatticeEntry) → HeldBoth l.position es l.row l.other_row (given_by l.sentence) (read l.rows)
    → Visited (in_row l.row) (mark l.position) es l.least.one l.at × Visited (in_row l.other_row) (mark l.position) es l.least.other l.at)
    × NearPair l.position l.least

abbrev pub decreases-loop-at : goal.decreases-loop-at
decreases-loop-at l = none_link - l.at
