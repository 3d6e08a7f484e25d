-- The order's third demand, "no chain of the listed words with the same last word costs less", and document 01's "lowest-numbered entry giving that
-- least": which of all chains that end in a word, and of all paths, is meant, said without the lattice; and what the left and the cost row say of it.
use Rattle.std.specs.Prelude.{ℕ, suc, ◌≤◌, ◌<◌, ◌≡◌, ◌⊎◌, List, [], ◌∷◌, ◌++◌, reverse, length, get_or, ℤ, pos, ◌≤ℤ◌}
use Rattle.ground.specs.Entry.{none_link}
use Rattle.lattice.specs.Words.{Given, candidate}
use Rattle.chains.specs.Chain.{InTurn, Chain, chain_cost}

-- ---- the least, and the tie rule

-- Where two lists first differ, the first of them has the lower number; or they are the same, or the first ends before they differ.
unfoldable pub Lower : List ℕ → List ℕ → Type 0
Lower [] others = Unit
Lower (k ∷ ks) [] = ⊥
Lower (k ∷ ks) (other ∷ others) = (k < other) ⊎ ((k ≡ other) × Lower ks others)

-- The list that is taken among all chains that end in a word, or among all paths: none costs less; and against each other one that costs as little,
-- read from the last word to the first, it has the lower number where they first differ. (None ends before that, since a word ends above 0.) So
-- there is only one: `best_unique` in ChainLaws.
pub record Best (Among : List ℕ → Type 0) (cost_of : List ℕ → ℤ) (ks : List ℕ) : Type 0 where
  pub among : Among ks
  pub least : (others : List ℕ) → Among others → cost_of ks ≤ℤ cost_of others
  pub tie : (others : List ℕ) → Among others → cost_of others ≡ cost_of ks → Lower (reverse ks) (reverse others)

-- ---- the left and the cost row: entry 0 is the start mark, and candidate k's entry is `suc k`

-- An entry other than the start mark is reached exactly if its left is not none.
abbrev pub Reached : List ℕ → ℕ → Type 0
Reached left i = get_or left i none_link ≡ none_link → ⊥

-- The left of candidate k's entry is the entry of this number.
abbrev pub LinkedTo : List ℕ → ℕ → ℕ → Type 0
LinkedTo left i k = get_or left (suc k) none_link ≡ i

-- The left links lead from the last of these candidates back to the first, and from there to the start mark: one link from each.
abbrev pub Linked : List ℕ → List ℕ → Type 0
Linked left ks = InTurn (LinkedTo left) suc 0 ks

-- Earlier candidates, and then candidate k, are a chain; and what it costs.
abbrev pub ChainTo : Given → ℕ → List ℕ → Type 0
ChainTo g k earlier = Chain g (earlier ++ (k ∷ []))

abbrev pub cost_to : Given → ℕ → List ℕ → ℤ
cost_to g k earlier = chain_cost g (earlier ++ (k ∷ []))

-- What the rows say of a reached candidate k, by the candidates before it.
pub record LeftChain (g : Given) (left : List ℕ) (cost : List ℤ) (k : ℕ) (earlier : List ℕ) : Type 0 where
  -- with k they are a chain, so each starts where the one before ends; of all chains that end in k it is the one that is taken
  pub best : Best (ChainTo g k) (cost_to g k) earlier
  -- the left links lead along it to the sentence start, in at most as many links as there are characters up to k's end
  pub links : Linked left (earlier ++ (k ∷ []))
  pub few : length (earlier ++ (k ∷ [])) ≤ (candidate g k).end
  -- the stored cost is its cost
  pub stored : get_or cost (suc k) (pos 0) ≡ cost_to g k earlier
