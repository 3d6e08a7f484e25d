-- The loop's invariant is `Filled`: so a character is left where fewer than n are done. Assumes nothing.
use Rattle.ground.proofs.Filled.{Filled}
use Rattle.ground.proofs.text.fill_bits.Given as goal

abbrev pub invariant-loop-i : goal.invariant-loop-i
invariant-loop-i l = Filled l.text l.initial.offset l.initial.run l.offset l.run l.at l.i
