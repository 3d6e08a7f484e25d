-- What the forward pass asks of what it reads: what document 01's tests 2 to 6 and 9 to 11 leave. Test 7 is `Room` (in Rows); kinds are not read.
-- The number beside a line is its test's.
-- The height is not read either: a left id below it means that its row lies within the matrix (`row_fits` in MatrixLaws).
use Rattle.std.specs.Prelude.{ℕ, ◌+◌, ◌*◌, ◌≤◌, ◌<◌, ◌≡◌, length}
use Rattle.ground.specs.Limits.{character_limit, candidate_limit}
use Rattle.ground.specs.Entry.{entry_bytes}
use Rattle.ground.specs.Charge.{PricesFit}
use Rattle.lattice.specs.Words.{Given, count, candidate}

pub record Accepted (n : ℕ) (g : Given) : Type 0 where
  pub characters : n ≤ character_limit  -- 2
  pub ends : length g.end ≡ count g  -- 3
  pub extras : length g.extra ≡ count g
  pub entries : length g.entry ≡ entry_bytes * count g
  pub few : count g ≤ candidate_limit  -- 4
  pub wide : 0 < g.width  -- 5
  pub high : g.width ≤ length g.matrix
  pub priced : PricesFit g.mode  -- 6
  pub runs : n < length g.run  -- the run row has n + 1 places; its contents are taken as they are
  pub sorted : (i k : ℕ) → i ≤ k → k < count g → (candidate g i).start ≤ (candidate g k).start  -- 9
  pub forward : (k : ℕ) → k < count g → (candidate g k).start < (candidate g k).end  -- 10
  pub inside : (k : ℕ) → k < count g → (candidate g k).end ≤ n
  pub left_ids : (k : ℕ) → k < count g → (candidate g k).left_id * g.width + g.width ≤ length g.matrix  -- 11
  pub right_ids : (k : ℕ) → k < count g → (candidate g k).right_id < g.width
