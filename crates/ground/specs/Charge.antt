-- Document 01, "Mode": the charge of a word that stands on the left of a joint.
use Rattle.std.specs.Prelude.{ℕ, ◌-◌, ◌*◌, ◌≤◌, Bool, cond, ltb, leb}
use Rattle.ground.specs.Limits.{price_limit}
use Rattle.ground.specs.declared.charge.Mode.{Mode}
use Rattle.ground.specs.declared.charge.Mode.TheVariants.{Normal, Decompose}

-- (L − threshold) × price if L is above the threshold, otherwise 0.
abbrev pub above : ℕ → ℕ → ℕ → ℕ
above len threshold price = cond (ltb threshold len) ((len - threshold) * price) 0

-- A word is kanji only if the kanji run at its start is at least its length.
abbrev pub kanji_only : ℕ → ℕ → Bool
kanji_only run len = leb len run

-- The charge of a word of `len` characters, at whose start the kanji run is `run`.
unfoldable pub charge : Mode → ℕ → ℕ → ℕ
charge Normal run len = 0
charge (Decompose p) run len =
    cond (kanji_only run len) (above len p.kanji_threshold p.kanji_price) (above len p.other_threshold p.other_price)

-- The prices are within the limit (answer 6); in Normal they are not looked at.
abbrev pub PricesFit : Mode → Type 0
PricesFit Normal = Unit {0}
PricesFit (Decompose p) = (p.kanji_price ≤ price_limit) × (p.other_price ≤ price_limit)
