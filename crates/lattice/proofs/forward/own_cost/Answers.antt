-- The sum lies no further from zero than its parts do. Assumes nothing.
use mathlib.Core.Path.{◌≡◌, ◌∙◌}
use native.Mathlib.Omega.{arith}
use lib.IntN.{◌+ℤ◌}
use mir.Syntax.{w32}
use mir.Val.{to_z, of_z}
use mir.Facts.{to_z-of_z}
use Rattle.ground.proofs.SignedLaws.{back}
use Rattle.lattice.proofs.SizeLaws.{sum_up, sum_down, sum_fits, up_16, down_16}
use Rattle.lattice.proofs.forward.own_cost.Goals as goal

pub returns : goal.returns
returns c =
    let a = c.args.extra in
    let b = c.args.word_cost in
    let a-up = up_16 a c.ranges.extra in
    let a-down = down_16 a c.ranges.extra in
    let b-up = up_16 b c.ranges.word_cost in
    let b-down = down_16 b c.ranges.word_cost in
    let sum : to_z w32 (of_z w32 (to_z w32 (of_z w32 c.from.result) +ℤ to_z w32 (of_z w32 c.from-2.result))) ≡ a +ℤ b =
    rw (back w32 c.from.result c.from.type_inv, back w32 c.from-2.result c.from-2.type_inv, c.from.ensures ∙ to_z-of_z c.ranges.extra, c.from-2.ensures ∙ to_z-of_z c.ranges.word_cost)
    (to_z-of_z (sum_fits w32 a b (omega arith) (omega arith))) in
    (sum, rw sum (omega (arith, sum_up a b)), rw sum (omega (arith, sum_down a b)))
