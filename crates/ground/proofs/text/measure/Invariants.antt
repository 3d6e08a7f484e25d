-- The loop's invariant: what is counted, with the characters of the rest, are the text's. Assumes nothing.
use Prim.Native.Nat.{◌+◌, ◌≤◌}
use mathlib.Core.Path.{◌≡◌}
use lib.ListN.{length}
use Rattle.ground.specs.Text.{letters, sizes}
use Rattle.ground.proofs.text.measure.Given as goal

abbrev pub invariant-loop-letter : goal.invariant-loop-letter
invariant-loop-letter l =
    record {
      counted : l.n + length (letters l.rest) ≡ length (letters l.text);
      taken : length l.text + sizes (letters l.rest) ≡ sizes (letters l.text) + length l.rest;
      few : l.n + length l.rest ≤ length l.text;
    }

abbrev pub decreases-loop-letter : goal.decreases-loop-letter
decreases-loop-letter l = length l.rest
