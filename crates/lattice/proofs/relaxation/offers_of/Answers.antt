-- Each part is read back as it is, and so is the sum, whose range is that of its parts. Assumes nothing.
use Prim.Native.Nat.{ℕ, suc, ◌+◌, ◌<◌, ◌^◌}
use mathlib.Core.Path.{◌≡◌, ◌∙◌, ap}
use mathlib.Core.List.{List}
use native.Mathlib.Omega.{arith}
use native.Mathlib.Numerals.{add-one}
use lib.ListN.{get_or}
use lib.IntN.{ℤ, pos, ◌+ℤ◌}
use lib.Signed.{mag}
use mir.Syntax.{w32}
use mir.Val.{SFits, to_z, of_z}
use mir.Facts.{to_z-of_z}
use Rattle.ground.specs.Entry.{entry_at}
use Rattle.ground.specs.Matrix.{value_in}
use Rattle.ground.proofs.SignedLaws.{back}
use Rattle.lattice.specs.Words.{given_by}
use Rattle.lattice.specs.Rows.{read}
use Rattle.lattice.specs.Inner.{charge_to, Offering, Near}
use Rattle.lattice.proofs.SizeLaws.{fits, near_offer, joined_fits, offer_fits}
use Rattle.lattice.proofs.relaxation.offers_of.Goals as goal
use Rattle.lattice.proofs.relaxation.offers_of.Goals.{After-charge-charged, After-joint-2, Start}

-- by a row of the matrix, and the joint that was read of it
module _ (c : goal.After-charge-charged) (row : List ℤ) (o : Offering row (given_by c.args.sentence.now) (read c.args.rows.now) c.args.position c.args.k)
    (joint : ℤ) (is : joint ≡ value_in row c.from-right_id.result) (small : mag joint < 2 ^ 15) where
  abbrev cost : ℤ
  cost = get_or c.args.rows.now.cost.now (suc c.args.k) (pos 0)

  abbrev charged : ℕ
  charged = charge_to (given_by c.args.sentence.now) c.args.position c.args.k

  abbrev J : ℤ
  J = value_in row (entry_at c.args.sentence.now.candidates.entry.now c.args.k).right_id

  cost_is : to_z w32 (of_z w32 (get_or c.args.rows.now.cost.now (c.args.k + 1) (pos 0))) ≡ cost
  cost_is = rw add-one (to_z-of_z (fits w32 cost (omega (arith, o.most, o.within)) (omega (arith, o.least, o.within))))

  joint_read : joint ≡ J
  joint_read = is ∙ ap (value_in row) (c.from-right_id.ensures ∙ c.right_id_of.ensures)

  joint_small : mag J < 2 ^ 15
  joint_small = rw joint_read at small

  joint_is : to_z w32 (of_z w32 joint) ≡ J
  joint_is = back w32 joint (omega (arith, small)) ∙ joint_read

  charge_is : to_z w32 (of_z w32 c.charge-charged.result) ≡ pos charged
  charge_is = back w32 c.charge-charged.result c.charge-charged.type_inv ∙ c.charge-charged.ensures

  abbrev summed : ℤ
  summed =
      to_z w32 (of_z w32 (to_z w32 (of_z w32 (get_or c.args.rows.now.cost.now (c.args.k + 1) (pos 0))) +ℤ to_z w32 (of_z w32 joint)))
      +ℤ to_z w32 (of_z w32 c.charge-charged.result)

  summed_is : summed ≡ cost +ℤ J +ℤ pos charged
  summed_is = rw (cost_is, joint_is, charge_is, to_z-of_z (joined_fits c.args.position cost J charged o.most o.least joint_small o.within))

  summed_fits : SFits w32 summed
  summed_fits = rw summed_is (offer_fits c.args.position cost J charged o.most o.least joint_small o.within)

  sum_is : to_z w32 (of_z w32 summed) ≡ cost +ℤ J +ℤ pos charged
  sum_is = to_z-of_z summed_fits ∙ summed_is

  near : Near c.args.position (cost +ℤ J +ℤ pos charged)
  near = near_offer c.args.position cost J charged o.most o.least joint_small

pub overflow_add-result-4 : goal.overflow_add-result-4
overflow_add-result-4 c =
    summed_fits (goal.at.overflow_add-result-4 c).After-charge-charged c.args.other_row.now c.requires.offering.1 c.joint-2.result c.joint-2.ensures.0 c.joint-2.ensures.1

pub returns : goal.returns
returns c =
    let p = (goal.at.returns c).After-charge-charged in
    let (o, o') = c.requires.offering in
    let sum = sum_is p c.args.row.now o c.joint.result c.joint.ensures.0 c.joint.ensures.1 in
    let other = sum_is p c.args.other_row.now o' c.joint-2.result c.joint-2.ensures.0 c.joint-2.ensures.1 in
    record {
      one = rw (sum, add-one);
      other = rw (other, add-one);
      near_pair = (
        rw sum (near p c.args.row.now o c.joint.result c.joint.ensures.0 c.joint.ensures.1),
        rw other (near p c.args.other_row.now o' c.joint-2.result c.joint-2.ensures.0 c.joint-2.ensures.1),
      );
    }
