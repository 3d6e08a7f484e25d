-- The loop's invariant: what the rows from the index on find is what all of them find. Assumes nothing.
use mathlib.Core.Path.{◌≡◌}
use lib.ListN.{drop}
use Rattle.ground.specs.Text.{leads, lead_row}
use Rattle.ground.proofs.text.lead_row.Given as goal

abbrev pub invariant-loop-row : goal.invariant-loop-row
invariant-loop-row l = lead_row (drop l.row-index leads) l.byte ≡ lead_row leads l.byte
