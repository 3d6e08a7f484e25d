-- The loop's invariant is `Writing`, and that the rows are those that were lent. Assumes nothing.
use Rattle.walk.specs.Inner.{SameRows}
use Rattle.walk.proofs.WordLaws.{Writing}
use Rattle.walk.proofs.words.write.Given as goal

abbrev pub invariant-loop-i : goal.invariant-loop-i
invariant-loop-i l =
    Writing l.candidates.start.now l.candidates.kind.now l.candidates.entry.now l.offset l.left l.count
    l.initial.rows.offset.now l.initial.rows.id.now l.initial.rows.kind.now
    l.rows.offset.now l.rows.id.now l.rows.kind.now l.at l.i
    × SameRows l.initial.rows l.rows
