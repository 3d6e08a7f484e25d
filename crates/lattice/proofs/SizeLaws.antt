-- How far sums of whole numbers lie above zero and below: both only add up, so a sum's range is a question of natural numbers. Assumes nothing.
use Prim.Native.Nat.{ℕ, suc, ◌+◌, ◌-◌, ◌*◌, ◌≤◌, ◌<◌, ◌^◌}
use mathlib.Core.Bool.{Bool, true, false, cond}
use native.Mathlib.Omega.{arith}
use lib.Dec.{ltb}
use lib.IntN.{ℤ, pos, negsuc, ◌+ℤ◌}
use lib.Signed.{mag}
use Rattle.std.proofs.Common.{Option, None, Some}
use mir.Syntax.{Width, w16, w32}
use mir.Val.{SFits, hbits}
use Rattle.ground.specs.Limits.{character_limit, price_limit}
use Rattle.lattice.specs.Words.{Word}
use Rattle.lattice.specs.Lattice.{entry_by}
use Rattle.lattice.specs.Size.{most_each, least_each, least_cost, most_cost, InRange}
use Rattle.lattice.specs.Inner.{up, down, Near, NearTaken, Sized, SumFits}
use Rattle.lattice.specs.declared.relaxation.Offer.{Offer}
use Rattle.lattice.proofs.OrderLaws.{le_show}

-- a difference of two naturals is no more than the first, and no less than the second's opposite
sub_up : (t : Bool) (a b : ℕ) → up (cond t (negsuc (b - suc a)) (pos (a - b))) ≤ a
sub_up true a b = omega arith
sub_up false a b = omega arith

sub_down : (t : Bool) (a b : ℕ) → down (cond t (negsuc (b - suc a)) (pos (a - b))) ≤ suc (b - suc a)
sub_down true a b = omega arith
sub_down false a b = omega arith

pub sum_up : (a b : ℤ) → up (a +ℤ b) ≤ up a + up b
sum_up (pos a) (pos b) = omega arith
sum_up (pos a) (negsuc b) = omega (arith, sub_up (ltb a (suc b)) a (suc b))
sum_up (negsuc a) (pos b) = omega (arith, sub_up (ltb b (suc a)) b (suc a))
sum_up (negsuc a) (negsuc b) = omega arith

pub sum_down : (a b : ℤ) → down (a +ℤ b) ≤ down a + down b
sum_down (pos a) (pos b) = omega arith
sum_down (pos a) (negsuc b) = omega (arith, sub_down (ltb a (suc b)) a (suc b))
sum_down (negsuc a) (pos b) = omega (arith, sub_down (ltb b (suc a)) b (suc a))
sum_down (negsuc a) (negsuc b) = omega arith

-- A number is held by a width if its two distances are.
pub fits : (w : Width) (z : ℤ) → up z < 2 ^ hbits w → down z ≤ 2 ^ hbits w → SFits w z
fits w (pos n) h l = record { sfits = h }
fits w (negsuc n) h l = record { sfits = l }

-- A sum is if its parts' distances are.
pub sum_fits : (w : Width) (a b : ℤ) → up a + up b < 2 ^ hbits w → down a + down b ≤ 2 ^ hbits w → SFits w (a +ℤ b)
sum_fits w a b h l = fits w (a +ℤ b) (omega (arith, sum_up a b)) (omega (arith, sum_down a b))

-- the two distances of a number whose bits are few
pub up_mag : (z : ℤ) → up z ≤ mag z
up_mag (pos n) = omega arith
up_mag (negsuc n) = omega arith

pub down_mag : (z : ℤ) → down z ≤ suc (mag z)
down_mag (pos n) = omega arith
down_mag (negsuc n) = omega arith

-- Of sixteen bits they are no more than these.
pub up_16 : (z : ℤ) → SFits w16 z → up z ≤ 32767
up_16 (pos n) h = omega (arith, h.sfits)
up_16 (negsuc n) h = omega arith

pub down_16 : (z : ℤ) → SFits w16 z → down z ≤ 32768
down_16 (pos n) h = omega arith
down_16 (negsuc n) h = omega (arith, h.sfits)

-- A cost that lies near by where its entry ends, with a joint and its charge, is an offer that lies near by the position.
pub near_offer : (position : ℕ) (cost joint : ℤ) (charge : ℕ)
    → up cost + charge ≤ most_each * position → down cost ≤ least_each * position → mag joint < 2 ^ 15
    → Near position (cost +ℤ joint +ℤ pos charge)
near_offer position cost joint charge most least small =
    record {
      most = omega (arith, sum_up (cost +ℤ joint) (pos charge), sum_up cost joint, up_mag joint);
      least = omega (arith, sum_down (cost +ℤ joint) (pos charge), sum_down cost joint, down_mag joint);
    }

-- And its sums are held by thirty-two bits.
pub joined_fits : (position : ℕ) (cost joint : ℤ) (charge : ℕ)
    → up cost + charge ≤ most_each * position → down cost ≤ least_each * position → mag joint < 2 ^ 15 → position ≤ character_limit
    → SFits w32 (cost +ℤ joint)
joined_fits position cost joint charge most least small within =
    sum_fits w32 cost joint (omega (arith, up_mag joint)) (omega (arith, down_mag joint))

pub offer_fits : (position : ℕ) (cost joint : ℤ) (charge : ℕ)
    → up cost + charge ≤ most_each * position → down cost ≤ least_each * position → mag joint < 2 ^ 15 → position ≤ character_limit
    → SFits w32 (cost +ℤ joint +ℤ pos charge)
offer_fits position cost joint charge most least small within =
    let near = near_offer position cost joint charge most least small in
    fits w32 (cost +ℤ joint +ℤ pos charge) (omega (arith, near.most)) (omega (arith, near.least))

-- A joint alone lies near.
pub near_joint : (position : ℕ) (joint : ℤ) → mag joint < 2 ^ 15 → Near position joint
near_joint position joint small = record { most = omega (arith, up_mag joint); least = omega (arith, down_mag joint) }

-- Document 01's range, by the two distances.
pub in_range : (z : ℤ) → up z ≤ character_limit * most_each + 32767 → down z ≤ character_limit * least_each + 32768 → InRange z
in_range z h l = record { least = le_show least_cost z (omega arith); most = le_show z most_cost (omega arith) }

-- An extra and a word cost, by their distances from zero.
pub record SmallOwn (own_cost : ℤ) : Type 0 where
  pub most : up own_cost ≤ 65534
  pub least : down own_cost ≤ 65536

-- Such a cost is held by thirty-two bits.
pub small_fits : (z : ℤ) → SmallOwn z → SFits w32 z
small_fits z h = fits w32 z (omega (arith, h.most)) (omega (arith, h.least))

-- An entry's cost lies near by where it ends, if its offer lies near by where it starts and its word has a length.
pub sized_entry : (w : Word) (m : Option Offer) → NearTaken w.start m → SmallOwn w.own_cost
    → w.start < w.end → w.charged ≤ (w.end - w.start) * price_limit → Sized (entry_by w m)
sized_entry w None near small forward charged = record { most = omega arith; least = omega arith }
sized_entry w (Some o) near small forward charged =
    record {
      most = omega (arith, sum_up o.cost w.own_cost, near.most, small.most);
      least = omega (arith, sum_down o.cost w.own_cost, near.least, small.least);
    }

-- The offer that a word takes and its own_cost can be summed.
pub sum_of : (position : ℕ) (m : Option Offer) (own_cost : ℤ) → NearTaken position m → SmallOwn own_cost → position ≤ character_limit
    → SumFits m own_cost
sum_of position None own_cost near small few = tt
sum_of position (Some o) own_cost near small few =
    sum_fits w32 o.cost own_cost (omega (arith, near.most, small.most)) (omega (arith, near.least, small.least))
