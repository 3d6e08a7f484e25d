-- Document 01's rules of the entries and the rows, as statements about the whole lattice: what it holds, said without how it is computed.
-- They hold for all that the forward pass accepts: `rules` in RuleLaws, `row_rules_lem` in RowRules.
use Rattle.std.specs.Prelude.{ℕ, suc, ◌≤◌, ◌<◌, ◌≡◌, ◌↔◌, true, false, List, length, get_or, ℤ, pos, ◌+ℤ◌, ◌≤ℤ◌, Option, None, Some}
use Rattle.ground.specs.Entry.{none_link}
use Rattle.lattice.specs.Words.{Word, Given, count, candidate}
use Rattle.lattice.specs.Lattice.{LatticeEntry, entry_numbered, start_mark, mark, via, joints_of, lattice}
use Rattle.lattice.specs.Rows.{link_of, firsts, lasts, lefts, costs, nexts}

-- ---- the entries

-- Entry j can stand before entry i, whose word is w: it is another one (so the end mark is never joined to itself), it is reached, and it ends at
-- the word's start.
pub record Joins (es : List LatticeEntry) (w : Word) (i j : ℕ) : Type 0 where
  pub listed : j < length es
  pub other : j ≡ i → ⊥
  pub reached : (entry_numbered es j).reached ≡ true
  pub meets : (entry_numbered es j).word.end ≡ w.start

-- What the word costs if it comes from entry j.
abbrev pub cost_from : (ℕ → ℕ → ℤ) → List LatticeEntry → Word → ℕ → ℤ
cost_from joints es w j = via joints w (entry_numbered es j) +ℤ w.own_cost

-- The rules of entry i, whose word is w, over all entries.
pub record Ruled (joints : ℕ → ℕ → ℤ) (es : List LatticeEntry) (w : Word) (i : ℕ) : Type 0 where
  pub word : (entry_numbered es i).word ≡ w
  -- it is reached exactly if a reached entry ends at its start
  pub reached : ((entry_numbered es i).reached ≡ true) ↔ ((j : ℕ) × Joins es w i j)
  -- its cost is that from its left, the least over all such entries, and its left the lowest-numbered that gives it
  pub left : (entry_numbered es i).reached ≡ true → Joins es w i (entry_numbered es i).left
  pub cost : (entry_numbered es i).reached ≡ true → (entry_numbered es i).cost ≡ cost_from joints es w (entry_numbered es i).left
  pub least : (j : ℕ) → Joins es w i j → (entry_numbered es i).cost ≤ℤ cost_from joints es w j
  pub lowest : (j : ℕ) → Joins es w i j → (entry_numbered es i).cost ≡ cost_from joints es w j → (entry_numbered es i).left ≤ j
  -- unreached: left none, cost 0, next none
  pub unreached : (entry_numbered es i).reached ≡ false
      → ((entry_numbered es i).left ≡ none_link) × ((entry_numbered es i).cost ≡ pos 0) × (get_or (nexts es) i 0 ≡ none_link)

-- The rules of all entries: 0 the start mark, k + 1 candidate k, c + 1 the end mark.
pub record Rules (n : ℕ) (g : Given) : Type 0 where
  pub many : length (lattice n g) ≡ suc (suc (count g))
  pub start : entry_numbered (lattice n g) 0 ≡ start_mark
  pub each : (k : ℕ) → k < count g → Ruled (joints_of g) (lattice n g) (candidate g k) (suc k)
  pub end : Ruled (joints_of g) (lattice n g) (mark n) (suc (count g))

-- ---- the rows

-- Entry i is reached and ends at a position.
pub record Ends (es : List LatticeEntry) (position i : ℕ) : Type 0 where
  pub reached : (entry_numbered es i).reached ≡ true
  pub end : (entry_numbered es i).word.end ≡ position

-- Of the entries from number `from` on that do so, i is the one that stands in an order to all of them: with i ≤ j the lowest, with j ≤ i the
-- highest.
pub record Foremost (order : ℕ → ℕ → Type 0) (es : List LatticeEntry) (position from i : ℕ) : Type 0 where
  pub listed : from ≤ i
  pub ends : Ends es position i
  pub foremost : (j : ℕ) → from ≤ j → Ends es position j → order i j

-- It is that one, or there is none.
abbrev pub Chief : (ℕ → ℕ → Type 0) → List LatticeEntry → ℕ → ℕ → Option ℕ → Type 0
Chief order es position from None = (j : ℕ) → from ≤ j → Ends es position j → ⊥
Chief order es position from (Some i) = Foremost order es position from i

-- The lowest and the highest, or none.
abbrev pub Lowest : List LatticeEntry → ℕ → ℕ → Option ℕ → Type 0
Lowest es position from m = Chief (λ (i j : ℕ). i ≤ j) es position from m

abbrev pub Highest : List LatticeEntry → ℕ → ℕ → Option ℕ → Type 0
Highest es position from m = Chief (λ (i j : ℕ). j ≤ i) es position from m

-- What a row holds is a number or none, and of that something is told.
abbrev pub Holds : (Option ℕ → Type 0) → ℕ → Type 0
Holds Told link = (m : Option ℕ) × (link ≡ link_of m) × Told m

-- The rules of the five rows: first and last of a position the lowest and the highest reached entry that ends there, next of a reached entry the
-- next higher one that ends at the same position, or none; left and cost those of the entries.
pub record RowRules (n : ℕ) (es : List LatticeEntry) : Type 0 where
  pub first : (position : ℕ) → position ≤ n → Holds (Lowest es position 0) (get_or (firsts n es) position 0)
  pub last : (position : ℕ) → position ≤ n → Holds (Highest es position 0) (get_or (lasts n es) position 0)
  pub next : (i : ℕ) → (entry_numbered es i).reached ≡ true → Holds (Lowest es (entry_numbered es i).word.end (suc i)) (get_or (nexts es) i 0)
  pub left : (i : ℕ) → i < length es → get_or (lefts es) i 0 ≡ (entry_numbered es i).left
  pub cost : (i : ℕ) → i < length es → get_or (costs es) i (pos 0) ≡ (entry_numbered es i).cost
