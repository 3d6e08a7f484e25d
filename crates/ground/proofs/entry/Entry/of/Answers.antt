-- Each field is what its function ensures. Assumes nothing.
use mathlib.Core.Path.{◌∙◌}
use mir.Syntax.{w16}
use Rattle.ground.specs.Entry.{entry_of}
use Rattle.ground.proofs.SignedLaws.{back}
use Rattle.ground.proofs.entry.Entry.of.Goals as goal

pub returns : goal.returns
unfolding entry_of
returns c =
    let cost = c.signed in
    let q = back w16 cost.result cost.type_inv ∙ cost.ensures in
    cc
