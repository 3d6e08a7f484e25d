-- The rows keep their room, and no more jobs differ than came before.
use Rattle.std.proofs.Common.{◌≤◌}
use Rattle.replay.specs.Lent.{rows_of, AnyGivenRoom, AnyRoom}
use Rattle.replay.proofs.main.Given as goal

abbrev pub invariant-loop-job : goal.invariant-loop-job
invariant-loop-job l = record {
  given_room : AnyGivenRoom l.numbers;
  room : AnyRoom (rows_of l.rows);
  counted : l.differ ≤ l.job-counter;
}
