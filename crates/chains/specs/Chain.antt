-- Document 01, "The lattice", second paragraph: chains and paths, and what they cost: plain sums, with no least in them. Candidates stand in these
-- lists by their numbers, in sentence order.
use Rattle.std.specs.Prelude.{ℕ, ◌<◌, ◌≡◌, length, ℤ, pos, ◌+ℤ◌}
use mathlib.Core.List.{List, [], ◌∷◌, map, drop_last, sum}
use Rattle.ground.specs.Entry.{mark_id}
use Rattle.lattice.specs.Words.{Word, Given, count, candidate}
use Rattle.lattice.specs.Lattice.{mark, joints_of}

-- ---- one after the other

-- Each number of a list stands in a relation to what the one before it leaves, and the first to what is there before. Of k and l: k so stands to
-- what is there before, and l to what k leaves.
unfoldable pub InTurn : {A : Type 0} → (A → ℕ → Type 0) → (ℕ → A) → A → List ℕ → Type 0
InTurn Stands leaves before [] = Unit
InTurn Stands leaves before (k ∷ ks) = Stands before k × InTurn Stands leaves (leaves k) ks

-- What the last of them leaves; where there is none, what is there before.
unfoldable pub last_of : {A : Type 0} → (ℕ → A) → A → List ℕ → A
last_of leaves before [] = before
last_of leaves before (k ∷ ks) = last_of leaves (leaves k) ks

-- ---- chains and paths

-- Number k is a candidate's, and that candidate starts where the word before it ends.
abbrev pub StartsAfter : Given → Word → ℕ → Type 0
StartsAfter g before k = (k < count g) × ((candidate g k).start ≡ before.end)

-- A chain is a list of one or more candidates, the first starting at 0 (where the start mark ends) and each later one where the one before ends.
abbrev pub Chain : Given → List ℕ → Type 0
Chain g ks = (0 < length ks) × InTurn (StartsAfter g) (candidate g) (mark 0) ks

-- The last of these words; where there is none, the start mark.
abbrev pub last_word : Given → List ℕ → Word
last_word g ks = last_of (candidate g) (mark 0) ks

-- A path is a chain that ends at n, or on empty text no words.
pub data Path (n : ℕ) (g : Given) : List ℕ → Type 0 where
  chain_to_end : {ks : List ℕ} → Chain g ks → (last_word g ks).end ≡ n → Path n g ks
  no_words : n ≡ 0 → Path n g []

-- ---- costs

-- The joints from a word to the last of the words after it.
unfoldable pub joints_along : Given → Word → List ℕ → List ℤ
joints_along g before [] = []
joints_along g before (k ∷ ks) =
    joints_of g (candidate g k).left_id before.right_id ∷ joints_along g (candidate g k) ks

-- What is charged for candidate k on the left of a joint; its extra and its word cost.
abbrev pub charge_of : Given → ℕ → ℤ
charge_of g k = pos (candidate g k).charged

abbrev pub own_cost_of : Given → ℕ → ℤ
own_cost_of g k = (candidate g k).own_cost

-- The sum of a list.
abbrev pub total : List ℤ → ℤ
total xs = sum ◌+ℤ◌ (pos 0) xs

-- A chain's cost: the joints from the start mark to its last word, the charge of every word but the last, and every word's extra and word cost.
unfoldable pub chain_cost : Given → List ℕ → ℤ
unfolding joints_along sum
chain_cost g ks = total (joints_along g (mark 0) ks) +ℤ total (map (charge_of g) (drop_last ks)) +ℤ total (map (own_cost_of g) ks)

-- A path's cost adds the last word's charge, if there is one, and the joint to the end mark, whose left id is 0. (The start mark is charged 0.)
unfoldable pub path_cost : Given → List ℕ → ℤ
unfolding chain_cost last_of
path_cost g ks = chain_cost g ks +ℤ pos (last_word g ks).charged +ℤ joints_of g mark_id (last_word g ks).right_id
