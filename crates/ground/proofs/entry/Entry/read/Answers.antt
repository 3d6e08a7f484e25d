-- The entry of the candidate's part. Assumes nothing.
use mathlib.Core.Path.{◌∙◌, ap}
use Rattle.ground.specs.Entry.{entry_of, entry_at}
use Rattle.ground.proofs.entry.Entry.read.Goals as goal

pub returns : goal.returns
unfolding entry_at
returns c = c.of.ensures ∙ ap entry_of c.part.ensures.0
