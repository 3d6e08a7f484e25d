-- The loop's invariant: the places passed are what the bytes tell.
use Rattle.std.proofs.Common.{◌≡◌, take}
use Rattle.replay.specs.Numbers.{told}
use Rattle.replay.proofs.rows.same.Given as goal

abbrev pub invariant-loop-i : goal.invariant-loop-i
invariant-loop-i g l =
    let t = g.T.Told in take l.i l.row ≡ told (t.told_at l.bytes) t.WIDTH l.from l.i
