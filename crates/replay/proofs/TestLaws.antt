-- A test that says exactly whether something holds. Assumes nothing.
use mathlib.Core.Path.{◌≡◌, refl, sym}
use mathlib.Core.Bool.{Bool, true, false, not, false≢true}
use mathlib.Core.Logic.{◌↔◌}

-- it does not
pub fails : {P : Type 0} → (P → ⊥) → (false ≡ true) ↔ P
fails never = (λ e. absurd (false≢true e), λ p. absurd (never p))

-- what the test's negation says
pub so : {P : Type 0} (t : Bool) → (t ≡ true) ↔ P → false ≡ not t → P
so true exactly q = exactly.0 refl
so false exactly q = absurd (false≢true q)

pub not_so : {P : Type 0} (t : Bool) → (t ≡ true) ↔ P → true ≡ not t → P → ⊥
not_so true exactly q p = false≢true (sym q)
not_so false exactly q p = false≢true (exactly.1 p)
