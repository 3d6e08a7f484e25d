-- What the proofs share about signed numbers. Assumes nothing.
use Prim.Native.Nat.{ℕ, ◌-◌, ◌<◌, ◌^◌}
use mathlib.Core.Path.{◌≡◌, refl}
use mathlib.Core.Bool.{Bool, true, false, cond}
use native.Mathlib.Omega.{arith}
use borrow.Author.Tests.{ltb-true, ltb-false}
use lib.Dec.{ltb}
use lib.IntN.{ℤ, pos, negsuc}
use lib.Signed.{mag}
use mir.Syntax.{Width}
use mir.Val.{hbits, to_z, of_z}
use mir.Facts.{to_z-of_z}
use Rattle.ground.specs.Entry.{signed16}

-- A number that the width holds is read back from its bits as it is.
pub back : (w : Width) (z : ℤ) → mag z < 2 ^ hbits w → to_z w (of_z w z) ≡ z
back w z h = to_z-of_z (record { sfits = h })

-- Sixteen bits read with a sign are held by sixteen bits.
pub signed16_small : (x : ℕ) → x < 65536 → mag (signed16 x) < 2 ^ 15
signed16_small x h = go (ltb x 32768) refl
  where
    go : (t : Bool) → ltb x 32768 ≡ t → mag (cond t (pos x) (negsuc (65535 - x))) < 2 ^ 15
    go true q = ltb-true x 32768 q
    go false q = omega (arith, ltb-false x 32768 q)
