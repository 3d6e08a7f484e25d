-- What the lattice may lean on about the charge: where it is 0, how large it gets, and that it gets so large. Assumes nothing.
use Prim.Native.Nat.{ℕ, ◌-◌, ◌*◌, ◌≤◌}
use mathlib.Core.Path.{◌≡◌, ◌∙◌, refl}
use mathlib.Core.Bool.{Bool, true, false, cond}
use native.Mathlib.Omega.{arith}
use native.Mathlib.Nat.{mul-le-mul}
use borrow.Author.Tests.{ltb-false, le-ltb, le-leb}
use lib.Dec.{ltb}
use Rattle.ground.specs.Limits.{character_limit, price_limit}
use Rattle.ground.specs.Charge.{charge, above, kanji_only, PricesFit}
use Rattle.ground.specs.declared.charge.Mode.{Mode}
use Rattle.ground.specs.declared.charge.Mode.TheVariants.{Normal, Decompose}

-- Normal charges nothing.
pub charge_normal : (run len : ℕ) → charge Normal run len ≡ 0
unfolding charge
charge_normal run len = refl

-- The start mark has length 0 and is charged 0.
pub charge_start : (m : Mode) (run : ℕ) → charge m run 0 ≡ 0
unfolding charge
charge_start Normal run = refl
charge_start (Decompose p) run = rw (le-leb 0 run (omega arith), le-ltb p.kanji_threshold 0 (omega arith))

-- What holds of both cases of a test holds of the one that it picks.
either : (P : ℕ → Type 0) {x y : ℕ} (t : Bool) → P x → P y → P (cond t x y)
either P true p q = p
either P false p q = q

-- No word is charged more than the largest price for each of its characters.
above_most : (len threshold price : ℕ) → price ≤ price_limit → above len threshold price ≤ len * price_limit
above_most len threshold price h =
    either (λ (n : ℕ). n ≤ len * price_limit) (ltb threshold len) (mul-le-mul {n₁ = len - threshold} (omega arith) h) (omega arith)

pub charge_most : (m : Mode) (run len : ℕ) → PricesFit m → charge m run len ≤ len * price_limit
unfolding charge
charge_most Normal run len h = omega arith
charge_most (Decompose p) run len h =
    either (λ (n : ℕ). n ≤ len * price_limit) (kanji_only run len)
    (above_most len p.kanji_threshold p.kanji_price h.0)
    (above_most len p.other_threshold p.other_price h.1)

-- Of at most 4,096 characters: 134,213,632.
pub charge_largest : (m : Mode) (run len : ℕ) → PricesFit m → len ≤ character_limit → charge m run len ≤ 134213632
charge_largest m run len p h = omega (arith, charge_most m run len p)

-- A mode with one threshold and one price for both kinds of words.
abbrev pub flat : ℕ → ℕ → Mode
flat threshold price =
    Decompose (record { kanji_threshold = threshold; kanji_price = price; other_threshold = threshold; other_price = price })

charge_flat : (threshold price run len : ℕ) → charge (flat threshold price) run len ≡ above len threshold price
unfolding charge
charge_flat threshold price run len =
    either (λ (n : ℕ). n ≡ above len threshold price) (kanji_only run len) refl refl

-- With the largest price it may be used, and both ends are attained, whatever the run: at threshold 0 every character is paid for, and at
-- a threshold of the word's own length none is.
pub flat_priced : (threshold : ℕ) → PricesFit (flat threshold price_limit)
flat_priced threshold = omega arith

pub charge_most_attained : (run len : ℕ) → charge (flat 0 price_limit) run len ≡ len * price_limit
charge_most_attained run len = charge_flat 0 price_limit run len ∙ go (ltb 0 len) refl
  where
    go : (t : Bool) → ltb 0 len ≡ t → cond t ((len - 0) * price_limit) 0 ≡ len * price_limit
    go true q = omega arith
    go false q = omega (arith, ltb-false 0 len q)

pub charge_none_attained : (run len : ℕ) → charge (flat len price_limit) run len ≡ 0
charge_none_attained run len = charge_flat len price_limit run len ∙ rw (le-ltb len len (omega arith))

pub charge_largest_attained : (run : ℕ) → charge (flat 0 price_limit) run character_limit ≡ 134213632
charge_largest_attained run = charge_most_attained run character_limit

-- With O below K: two characters that are not kanji only, at K 2, P 3,000, O 1, Q 1,700, are charged 1,700 (docs/DIFFERENCES.md, 1).
pub charge_below :
    charge (Decompose (record { kanji_threshold = 2; kanji_price = 3000; other_threshold = 1; other_price = 1700 })) 0 2 ≡ 1700
unfolding charge
charge_below = refl
