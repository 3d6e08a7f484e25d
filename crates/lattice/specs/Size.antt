-- Document 01, "In this domain every cost lies from −402,685,952 to 536,887,295".
use Rattle.std.specs.Prelude.{ℕ, ◌+◌, ◌*◌, ◌<◌, List, length, ℤ, pos, neg_ℤ, ◌≤ℤ◌}
use Rattle.ground.specs.Limits.{character_limit}
use Rattle.lattice.specs.Lattice.{LatticeEntry, entry_numbered}

-- A word of L characters adds at most a joint, an extra and a word cost of 32,767 each and a charge of L × 32,767: at most L × 131,068, since L is
-- at least 1.
abbrev pub most_each : ℕ
most_each = 131068

-- It takes off at most a joint, an extra and a word cost of 32,768 each: at most L × 98,304.
abbrev pub least_each : ℕ
least_each = 98304

-- The least that a stored cost can be, of all characters and the joint to the end mark: −402,685,952.
abbrev pub least_cost : ℤ
least_cost = neg_ℤ (pos (character_limit * least_each + 32768))

-- The most: 536,887,295.
abbrev pub most_cost : ℤ
most_cost = pos (character_limit * most_each + 32767)

-- A cost lies in document 01's range.
pub record InRange (cost : ℤ) : Type 0 where
  pub least : least_cost ≤ℤ cost
  pub most : cost ≤ℤ most_cost

-- All stored costs lie in it.
abbrev pub AllInRange : List LatticeEntry → Type 0
AllInRange es = (i : ℕ) → i < length es → InRange (entry_numbered es i).cost
