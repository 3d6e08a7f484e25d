-- Whole numbers' order and sum, read as facts on natural numbers: x is `up x` less `down x`. With `ints` in its list, `omega` takes an order or
-- an equation between whole numbers as hypothesis or goal; list `sum x y` for each sum x +ℤ y that matters. Assumes nothing.
use Prim.Native.Nat.{ℕ, zero, suc, ◌+◌, ◌-◌, ◌≤◌, ◌<◌}
use mathlib.Core.Path.{◌≡◌, refl, ap}
use mathlib.Core.Bool.{Bool, true, false, cond}
use native.Mathlib.Omega.{arith}
use lib.IntN.{ℤ, pos, negsuc, ◌+ℤ◌, neg_ℤ, sub_ℕ}
use lib.Signed.{lt_z, le_z, ◌≤ℤ◌, ◌<ℤ◌, le_z_yes, lt_z_yes, lt_z_no}
use lib.Dec.{T, ltb, ltb→lt, lt→ltb, leb→le, le→leb}
use borrow.Author.Tests.{ltb-true, ltb-false}
use Rattle.lattice.specs.Inner.{up, down}

-- ---- the order
from_le_z : (x y : ℤ) → T (le_z x y) → up x + down y ≤ up y + down x
from_le_z (pos a) (pos b) t = omega (arith, leb→le)
from_le_z (pos a) (negsuc b) t = absurd t
from_le_z (negsuc a) (pos b) t = omega arith
from_le_z (negsuc a) (negsuc b) t = omega (arith, leb→le)

to_le_z : (x y : ℤ) → up x + down y ≤ up y + down x → T (le_z x y)
to_le_z (pos a) (pos b) h = le→leb a b (omega arith)
to_le_z (pos a) (negsuc b) h = omega arith
to_le_z (negsuc a) (pos b) h = tt
to_le_z (negsuc a) (negsuc b) h = le→leb b a (omega arith)

from_lt_z : (x y : ℤ) → T (lt_z x y) → up x + down y < up y + down x
from_lt_z (pos a) (pos b) t = omega (arith, ltb→lt)
from_lt_z (pos a) (negsuc b) t = absurd t
from_lt_z (negsuc a) (pos b) t = omega arith
from_lt_z (negsuc a) (negsuc b) t = omega (arith, ltb→lt)

to_lt_z : (x y : ℤ) → up x + down y < up y + down x → T (lt_z x y)
to_lt_z (pos a) (pos b) h = lt→ltb a b (omega arith)
to_lt_z (pos a) (negsuc b) h = omega arith
to_lt_z (negsuc a) (pos b) h = tt
to_lt_z (negsuc a) (negsuc b) h = lt→ltb b a (omega arith)

pub le_read : (x y : ℤ) → x ≤ℤ y → up x + down y ≤ up y + down x
le_read x y h = from_le_z x y h.le

pub le_show : (x y : ℤ) → up x + down y ≤ up y + down x → x ≤ℤ y
le_show x y h = le_z_yes (to_le_z x y h)

pub lt_read : (x y : ℤ) → x <ℤ y → up x + down y < up y + down x
lt_read x y h = from_lt_z x y h.lt

pub lt_show : (x y : ℤ) → up x + down y < up y + down x → x <ℤ y
lt_show x y h = lt_z_yes (to_lt_z x y h)

-- ---- equations
pub eq_read : (x y : ℤ) → x ≡ y → up x + down y ≡ up y + down x
eq_read x y e = rw e

pub eq_show : (x y : ℤ) → up x + down y ≡ up y + down x → x ≡ y
eq_show (pos a) (pos b) e = ap pos (omega arith)
eq_show (pos a) (negsuc b) e = absurd (omega arith)
eq_show (negsuc a) (pos b) e = absurd (omega arith)
eq_show (negsuc a) (negsuc b) e = ap negsuc (omega arith)

-- ---- sums
difference : (a b : ℕ) → up (sub_ℕ a b) + b ≡ a + down (sub_ℕ a b)
difference a b = go (ltb a b) refl
  where
    go : (t : Bool) → ltb a b ≡ t → up (cond t (negsuc (b - suc a)) (pos (a - b))) + b ≡ a + down (cond t (negsuc (b - suc a)) (pos (a - b)))
    go true e = omega (arith, ltb-true)
    go false e = omega (arith, ltb-false)

pub sum : (x y : ℤ) → up (x +ℤ y) + (down x + down y) ≡ up x + up y + down (x +ℤ y)
sum (pos a) (pos b) = omega arith
sum (pos a) (negsuc b) = omega (arith, difference a (suc b))
sum (negsuc a) (pos b) = omega (arith, difference b (suc a))
sum (negsuc a) (negsuc b) = omega arith

pub negation : (x : ℤ) → (up (neg_ℤ x) ≡ down x) × (down (neg_ℤ x) ≡ up x)
negation (pos zero) = (refl, refl)
negation (pos (suc n)) = (refl, refl)
negation (negsuc n) = (refl, refl)

-- ---- a test's answer
pub lt_z_true : (x y : ℤ) → lt_z x y ≡ true → up x + down y < up y + down x
lt_z_true x y e = from_lt_z x y (rw e tt)

pub lt_z_false : (x y : ℤ) → lt_z x y ≡ false → up y + down x ≤ up x + down y
lt_z_false x y e = le_read y x (lt_z_no (rw e tt))

pub true_lt_z : (x y : ℤ) → up x + down y < up y + down x → lt_z x y ≡ true
true_lt_z x y h = go (lt_z x y) refl
  where
    go : (t : Bool) → lt_z x y ≡ t → t ≡ true
    go true e = refl
    go false e = absurd (omega (arith, lt_z_false))

pub false_lt_z : (x y : ℤ) → up y + down x ≤ up x + down y → lt_z x y ≡ false
false_lt_z x y h = go (lt_z x y) refl
  where
    go : (t : Bool) → lt_z x y ≡ t → t ≡ false
    go true e = absurd (omega (arith, lt_z_true))
    go false e = refl

pub ruleset ints = (arith, le_read, le_show, lt_read, lt_show, eq_read, eq_show, lt_z_true, lt_z_false, true_lt_z, false_lt_z)

-- ---- the laws
pub ≤ℤ-trans : {x y z : ℤ} → x ≤ℤ y → y ≤ℤ z → x ≤ℤ z
≤ℤ-trans h k = omega ints

pub ≤ℤ-antisym : {x y : ℤ} → x ≤ℤ y → y ≤ℤ x → x ≡ y
≤ℤ-antisym h k = omega ints

pub +ℤ-mono : {x y : ℤ} (z : ℤ) → x ≤ℤ y → (x +ℤ z) ≤ℤ (y +ℤ z)
+ℤ-mono {x} {y} z h = omega (ints, sum x z, sum y z)

pub +ℤ-mono< : {x y : ℤ} (z : ℤ) → x <ℤ y → (x +ℤ z) <ℤ (y +ℤ z)
+ℤ-mono< {x} {y} z h = omega (ints, sum x z, sum y z)
