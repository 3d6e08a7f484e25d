-- The right id is the last two bytes of the candidate's part. Assumes nothing.
use Prim.Native.Nat.{ℕ}
use mathlib.Core.Path.{◌∙◌, ap}
use mathlib.Core.List.{List}
use Rattle.ground.specs.Entry.{entry_at, u16_at}
use Rattle.ground.proofs.entry.Entry.right_id_of.Goals as goal

pub returns : goal.returns
unfolding entry_at
returns c = c.two.ensures ∙ ap (λ (part : List ℕ). u16_at part 8) c.part.ensures.0
