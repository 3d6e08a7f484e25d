-- Document 01, "Given exactly when", of the answers that come after the tests, and what each answer leaves: statements about the whole job, for
-- every job and all rows. They hold: `answers` in JobLaws.
use Rattle.std.specs.Prelude.{ℕ, suc, ◌≤◌, ◌<◌, ◌≡◌, ◌↔◌, true, false, List, length, ℤ}
use Rattle.std.specs.Prelude.{None, Some, Err}
use Rattle.ground.specs.Rows.{over}
use Rattle.ground.specs.Answer.{work_done, numbers_of}
use Rattle.ground.specs.Text.{letters, offsets, runs}
use Rattle.ground.specs.declared.answer.Refusal.{Refusal}
use Rattle.ground.specs.declared.answer.Refusal.TheVariants.{NoPath, BrokenLink}
use Rattle.lattice.specs.Lattice.{LatticeEntry, entry_numbered, lattice}
use Rattle.lattice.specs.Rows.{LatticeRows, rows, Filled}
use Rattle.lattice.specs.Rules.{Rules, RowRules}
use Rattle.lattice.specs.Size.{AllInRange}
use Rattle.walk.specs.WalkBack.{walk_back}
use Rattle.walk.specs.WordRows.{word_offsets, word_ids, word_kinds}
use Rattle.checks.specs.Job.{Job, JobRows, character_count, candidate_count}
use Rattle.checks.specs.Checks.{refused}
use Rattle.segmenter.specs.Segment.{outcome, given_of, segment}

-- A job's lattice, and its end mark.
abbrev pub lattice_of : Job → List LatticeEntry
lattice_of j = lattice (character_count j) (given_of j)

abbrev pub end_mark : Job → LatticeEntry
end_mark j = entry_numbered (lattice_of j) (suc (candidate_count j))

-- Past the tests every stored cost lies in document 01's range. (The job's contract has it: it leans on the widths of the numbers.)
abbrev pub Ranged : Job → JobRows → Type 0
Ranged j r = refused j r ≡ None → AllInRange (lattice_of j)

-- Each row is as long as before.
pub record SameLengths (before after : JobRows) : Type 0 where
  pub offset : length after.offset ≡ length before.offset
  pub run : length after.run ≡ length before.run
  pub first : length after.first ≡ length before.first
  pub last : length after.last ≡ length before.last
  pub left : length after.left ≡ length before.left
  pub cost : length after.cost ≡ length before.cost
  pub next : length after.next ≡ length before.next
  pub word_offset : length after.word_offset ≡ length before.word_offset
  pub word_id : length after.word_id ≡ length before.word_id
  pub word_kind : length after.word_kind ≡ length before.word_kind

-- The word rows are as before.
pub record SameWords (before after : JobRows) : Type 0 where
  pub offset : after.word_offset ≡ before.word_offset
  pub id : after.word_id ≡ before.word_id
  pub kind : after.word_kind ≡ before.word_kind

-- The lattice's rows among the ten.
abbrev pub lattice_rows : JobRows → LatticeRows
lattice_rows r = rows r.first r.last r.left r.cost r.next

-- The words found stand in the word rows, over what these held.
pub record Written (j : Job) (found : List ℕ) (before after : JobRows) : Type 0 where
  pub offset : after.word_offset ≡ over (word_offsets (offsets (letters j.text)) j.start found) before.word_offset
  pub id : after.word_id ≡ over (word_ids j.entry found) before.word_id
  pub kind : after.word_kind ≡ over (word_kinds j.kind found) before.word_kind

-- What a caller may lean on, beside the definition.
pub record Answers (j : Job) (r : JobRows) : Type 0 where
  -- the first test that holds is the answer, and nothing changes: these are the answers 1 to 11
  pub first_test : (why : Refusal) → refused j r ≡ Some why → segment j r ≡ outcome (Err why) r
  pub unchanged : 1 ≤ (numbers_of (segment j r).answer).number → (numbers_of (segment j r).answer).number ≤ 11 → (segment j r).rows ≡ r
  -- the place of 1 is an offset in the text, and that of 8 to 11 a candidate's number
  pub offset_place : (numbers_of (segment j r).answer).number ≡ 1 → (numbers_of (segment j r).answer).place ≤ length j.text
  pub candidate_place : 8 ≤ (numbers_of (segment j r).answer).number → (numbers_of (segment j r).answer).number ≤ 11
      → (numbers_of (segment j r).answer).place < candidate_count j
  -- past the tests the lattice keeps document 01's rules, over all entries; so do its rows; and with them the rows are filled
  pub rules : refused j r ≡ None → Rules (character_count j) (given_of j)
  pub row_rules : RowRules (character_count j) (lattice_of j)
  pub offset : refused j r ≡ None → (segment j r).rows.offset ≡ over (offsets (letters j.text)) r.offset
  pub run : refused j r ≡ None → (segment j r).rows.run ≡ over (runs (letters j.text)) r.run
  pub filled : refused j r ≡ None → Filled (character_count j) (lattice_of j) (lattice_rows r) (lattice_rows (segment j r).rows)
  -- 12 exactly if they are passed and the end mark is not reached; the word rows keep their contents
  pub no_path : ((segment j r).answer ≡ Err NoPath) ↔ ((refused j r ≡ None) × ((end_mark j).reached ≡ false))
  pub no_words : (segment j r).answer ≡ Err NoPath → SameWords r (segment j r).rows
  -- 0 exactly if they are passed and it is reached: at the end mark's cost, with the words that the walk back finds over the left row
  pub done : ((count : ℕ) × (cost : ℤ) × ((segment j r).answer ≡ work_done count cost)) ↔ ((refused j r ≡ None) × ((end_mark j).reached ≡ true))
  pub cost : (count : ℕ) (cost : ℤ) → (segment j r).answer ≡ work_done count cost → cost ≡ (end_mark j).cost
  pub words : (count : ℕ) (cost : ℤ) → (segment j r).answer ≡ work_done count cost
      → (found : List ℕ)
      × (walk_back j.start j.end (segment j r).rows.left (character_count j) ≡ Some found)
      × (count ≡ length found)
      × Written j found r (segment j r).rows
  -- 13 never
  pub never_broken : (segment j r).answer ≡ Err BrokenLink → ⊥
  -- no row changes its length
  pub lengths : SameLengths r (segment j r).rows
