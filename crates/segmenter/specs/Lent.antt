-- Inner, no part of document 01: the rows that the functions are lent, and what the last step asks of them and leaves.
use Rattle.std.specs.Prelude.{ℕ, ◌+◌, ◌≤◌, ◌≡◌, List, length, get_or, take, pos}
use Rattle.ground.specs.Limits.{character_limit, candidate_limit}
use Rattle.ground.specs.Answer.{Answer}
use Rattle.ground.specs.declared.candidates.Candidates.{Candidates}
use Rattle.lattice.specs.declared.rows.Rows.{Rows}
use Rattle.walk.specs.Inner.{Listed, Roomy, Ended}
use Rattle.walk.specs.declared.words.WordRows.{WordRows}
use Rattle.checks.specs.Job.{JobRows, job_rows}

-- The ten rows, put together.
abbrev pub ten : List ℕ → List ℕ → Rows → WordRows → JobRows
ten offset run lattice words =
    job_rows
    offset
    run
    lattice.first.now
    lattice.last.now
    lattice.left.now
    lattice.cost.now
    lattice.next.now
    words.offset.now
    words.id.now
    words.kind.now

-- The words can be read and written: the candidate rows are even, each start has an offset, and the rows have room.
pub record Finishable (n : ℕ) (c : Candidates) (offset : List ℕ) (lattice : Rows) (words : WordRows) : Type 0 where
  pub listed : Listed c.start.now c.kind.now c.entry.now offset
  pub ends : length c.end.now ≡ length c.start.now
  pub few : length c.start.now ≤ candidate_limit
  pub characters : n ≤ character_limit
  pub left : length c.start.now + 2 ≤ length lattice.left.now
  pub cost : length c.start.now + 2 ≤ length lattice.cost.now
  pub room : Roomy n words.offset.now words.id.now words.kind.now

-- What the last step leaves, by the left row's entries and the end mark's cost.
abbrev pub Finished : ℕ → Candidates → List ℕ → Rows → WordRows → Answer → WordRows → Type 0
Finished n c offset lattice words answer after =
    Ended n c.start.now c.end.now c.kind.now c.entry.now offset
    (take (length c.start.now + 2) lattice.left.now)
    (get_or lattice.cost.now (length c.start.now + 1) (pos 0))
    words.offset.now words.id.now words.kind.now
    answer
    after.offset.now after.id.now after.kind.now
