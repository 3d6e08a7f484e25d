use Rattle.std.proofs.Common.{refl}
use Rattle.replay.specs.Numbers.{told}
use Rattle.replay.proofs.ToldLaws.{told_stored, told_all}
use Rattle.replay.proofs.rows.fill.Goals as goal

pub loop-i-init : goal.loop-i-init
unfolding told
loop-i-init g c = refl

pub loop-i-preserved : goal.loop-i-preserved
loop-i-preserved g c =
    let at = c.loop-i in
    told_stored _ _ at.value-items c.args.from at.i c.read.result (rw at.auto.value-items c.loop-i-test.true) at.invariant
    (rw c.WIDTH.ensures at c.read.ensures)

pub returns : goal.returns
returns g c =
    let a = c.args in
    let at = c.loop-i in
    told_all _ _ a.row.now at.value-items a.from a.count at.i c.requires.1 at.auto.value-items c.loop-i-test.false at.auto.i-end at.invariant
