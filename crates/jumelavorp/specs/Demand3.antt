-- The order's third demand, of a job that passes the tests: what its numbers and its rows after the call say of document 01's chains and paths
-- (Chain and Least of `chains`). Whatever meets the promise has it: `demand3` in DemandLaws. What it leaves open, the promise names.
use Rattle.std.specs.Prelude.{ℕ, suc, ◌+◌, ◌≤◌, ◌<◌, ◌≡◌, ◌↔◌, false, length, get_or, pos, ◌≤ℤ◌}
use mathlib.Core.List.{List, flat_map}
use Rattle.std.proofs.Math.Seq.{slice}
use Rattle.ground.specs.Entry.{entry_at, none_link}
use Rattle.ground.specs.Text.{letters, offsets}
use Rattle.ground.specs.declared.answer.Numbers.{Numbers}
use Rattle.lattice.specs.Words.{candidate}
use Rattle.lattice.specs.Size.{InRange}
use Rattle.checks.specs.Job.{Job, JobRows, character_count, candidate_count}
use Rattle.checks.specs.Checks.{short_row}
use Rattle.chains.specs.Chain.{last_of, Path, path_cost}
use Rattle.chains.specs.Least.{Best, Reached, Linked, ChainTo, cost_to, LeftChain}
use Rattle.segmenter.specs.Segment.{given_of}

-- ---- the words that come with answer 0, as candidates in sentence order

-- The byte at which the character of a position starts; at n the text length.
abbrev pub byte_at : Job → ℕ → ℕ
byte_at j position = get_or (offsets (letters j.text)) position 0

-- Candidate k's bytes: those of the text from where it starts to where it ends.
abbrev pub bytes_of : Job → ℕ → List ℕ
bytes_of j k = slice (byte_at j (candidate (given_of j) k).start) (byte_at j (candidate (given_of j) k).end) j.text

-- Place i of the word rows tells candidate k.
pub record Tells (j : Job) (after : JobRows) (i k : ℕ) : Type 0 where
  pub offset : get_or after.word_offset i 0 ≡ byte_at j (candidate (given_of j) k).start
  pub id : get_or after.word_id i 0 ≡ (entry_at j.entry k).id
  pub kind : get_or after.word_kind i 0 ≡ get_or j.kind k 0

-- The words returned.
pub record Returned (j : Job) (numbers : Numbers) (after : JobRows) (words : List ℕ) : Type 0 where
  -- they are a path, so they cover the sentence without gap or overlap; of all paths it is the one that is taken: none costs less, and the tie rule
  pub best : Best (Path (character_count j) (given_of j)) (path_cost (given_of j)) words
  -- the cost returned, and stored for the end mark, is its cost
  pub cost : numbers.cost ≡ path_cost (given_of j) words
  pub stored : get_or after.cost (suc (candidate_count j)) (pos 0) ≡ path_cost (given_of j) words
  -- the count is the number of its words: no more words than characters
  pub count : numbers.count ≡ length words
  pub few : length words ≤ character_count j
  -- the left links lead from the end mark along it to the start mark
  pub end_link : get_or after.left (suc (candidate_count j)) none_link ≡ last_of suc 0 words
  pub links : Linked after.left words
  -- the word rows tell its words; so their bytes, one after the other, are the text
  pub told : (i : ℕ) → i < length words → Tells j after i (get_or words i 0)
  pub bytes : flat_map (bytes_of j) words ≡ j.text

-- ---- the demand, in the order's words; a "word" is a candidate k, and its entry is `suc k`

pub record Demand3 (j : Job) (numbers : Numbers) (after : JobRows) : Type 0 where
  -- "from each reached word the left links lead to the sentence start, each to a word that ends where this one begins, so in at most as many links as
  -- there are characters up to its end. The stored cost is that chain's cost"
  pub chain : (k : ℕ) → k < candidate_count j → Reached after.left (suc k)
      → (earlier : List ℕ) × LeftChain (given_of j) after.left after.cost k earlier
  -- "and no chain of the listed words with the same last word costs less"
  pub least : (k : ℕ) → k < candidate_count j → (earlier : List ℕ) → ChainTo (given_of j) k earlier
      → get_or after.cost (suc k) (pos 0) ≤ℤ cost_to (given_of j) k earlier
  -- a word is reached exactly if some chain ends in it, and the end mark exactly if there is a path
  pub reached : (k : ℕ) → k < candidate_count j → Reached after.left (suc k) ↔ ((earlier : List ℕ) × ChainTo (given_of j) k earlier)
  pub end_reached : Reached after.left (suc (candidate_count j)) ↔ ((ks : List ℕ) × Path (character_count j) (given_of j) ks)
  -- "Hence a returned path covers the sentence without gap or overlap at the least cost, in no more words than characters": with answer 0, which comes
  -- exactly when there is a path
  pub done : (numbers.number ≡ 0) ↔ ((ks : List ℕ) × Path (character_count j) (given_of j) ks)
  pub words : numbers.number ≡ 0 → (ks : List ℕ) × Returned j numbers after ks
  -- "and answer 12 comes exactly when no listed words cover the sentence"
  pub no_path : (numbers.number ≡ 12) ↔ ((ks : List ℕ) → Path (character_count j) (given_of j) ks → ⊥)
  -- document 01: "every cost lies from −402,685,952 to 536,887,295"
  pub range : (i : ℕ) → i < candidate_count j + 2 → InRange (get_or after.cost i (pos 0))
  -- each row has the places that test 7 names: what stands above for a place that a row does not have is never met
  pub room : short_row (character_count j) (candidate_count j) after ≡ false
