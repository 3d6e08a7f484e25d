-- The loop's invariant: the places passed hold what the bytes tell.
use Rattle.std.proofs.Common.{◌≡◌, take}
use Rattle.replay.specs.Numbers.{told}
use Rattle.replay.proofs.rows.fill.Given as goal

abbrev pub invariant-loop-i : goal.invariant-loop-i
invariant-loop-i g l =
    let t = g.T.Told in take l.i l.value-items ≡ told (t.told_at l.bytes) t.WIDTH l.from l.i
