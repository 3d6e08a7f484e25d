-- Ranges of numbers, and the 0 or 1 that says whether a number has reached one. Assumes nothing.
use Prim.Native.Nat.{ℕ, ◌≤◌, ◌<◌}
use mathlib.Core.Path.{◌≡◌, refl}
use mathlib.Core.Bool.{Bool, true, false, cond, ◌&&◌, false≢true}
use native.Mathlib.Omega.{arith}
use lib.Dec.{leb}
use borrow.Author.Tests.{leb-true, leb-false, le-leb, lt-leb}
use Rattle.ground.specs.Text.{within}
use Rattle.ground.specs.Filling.{at_least, kanji_bit}

-- a range is told by its ends
pub in_range : (low high x : ℕ) → within low high x ≡ true → (low ≤ x) × (x ≤ high)
in_range low high x e = go (leb low x) refl (leb x high) refl e
  where
    go : (s : Bool) → leb low x ≡ s → (t : Bool) → leb x high ≡ t → (s && t) ≡ true → (low ≤ x) × (x ≤ high)
    go true f true g e = (leb-true low x f, leb-true x high g)
    go true f false g e = absurd (false≢true e)
    go false f t g e = absurd (false≢true e)

pub at_least_below : (low x : ℕ) → x < low → at_least low x ≡ 0
at_least_below low x h = rw (lt-leb low x h)

pub at_least_above : (low x : ℕ) → low ≤ x → at_least low x ≡ 1
at_least_above low x h = rw (le-leb low x h)

pub at_least_mono : (low a b : ℕ) → a ≤ b → at_least low a ≤ at_least low b
at_least_mono low a b h = go (leb low a) refl (leb low b) refl
  where
    go : (s : Bool) → leb low a ≡ s → (t : Bool) → leb low b ≡ t → cond s 1 0 ≤ cond t 1 0
    go false e t f = omega arith
    go true e true f = omega arith
    go true e false f = absurd (omega (arith, leb-true low a e, leb-false low b f))

-- no kanji comes before the first block
pub no_kanji_below : (code : ℕ) → code < 0x3400 → kanji_bit code ≡ 0
no_kanji_below code h = rw (lt-leb 0x4e00 code (omega arith), lt-leb 0x3400 code h)
