-- `==` says whether a value is the told one.
use Rattle.std.proofs.Common.{◌∙◌, refl, sym}
use Rattle.replay.specs.Numbers.{told}
use Rattle.replay.proofs.TestLaws.{fails, so, not_so}
use Rattle.replay.proofs.ToldLaws.{told_next, told_other}
use Rattle.replay.proofs.rows.same.Goals as goal

pub loop-i-init : goal.loop-i-init
unfolding told
loop-i-init g c = refl

pub returns-then-ne : goal.returns-then-ne
returns-then-ne g c =
    let said = rw c.WIDTH.ensures at c.read.ensures in
    fails (told_other _ _ c.args.row.now c.args.from c.loop-i.i c.index-row-i.result c.loop-i-test.true c.index-row-i.is
    (λ e. not_so _ (g.met.T.Told.exact _ _) c.if-ne.ensures (e ∙ sym said)))

pub loop-i-preserved : goal.loop-i-preserved
loop-i-preserved g c =
    let said = rw c.WIDTH.ensures at c.read.ensures in
    told_next _ _ c.args.row.now c.args.from c.loop-i.i c.index-row-i.result c.loop-i-test.true c.index-row-i.is
    (so _ (g.met.T.Told.exact _ _) c.if-ne.ensures ∙ said) c.loop-i.invariant
