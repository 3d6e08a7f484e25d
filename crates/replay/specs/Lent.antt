-- The rows that are lent to the library, and how many places they have.
use Rattle.std.specs.Prelude.{ℕ, ◌≡◌, ◌≤◌, List, length}
use Rattle.std.specs.Borrow.{MutBor}
use Rattle.checks.specs.Job.{JobRows, job_rows}
use Rattle.replay.specs.declared.lent.GivenRows.{GivenRows}
use Rattle.replay.specs.declared.lent.WrittenRows.{WrittenRows}

-- What the ten rows hold.
abbrev pub rows_of : WrittenRows → JobRows
rows_of rows =
    job_rows rows.offset.now rows.run.now rows.first.now rows.last.now rows.left.now rows.cost.now rows.next.now
    rows.word_offset.now rows.word_id.now rows.word_kind.now

-- The same row as before, as long as before; what it holds may be new.
abbrev pub SameRow : {A : Type 0} → MutBor (List A) → MutBor (List A) → Type 0
SameRow old new = (new.ghost_name ≡ old.ghost_name) × (length new.now ≡ length old.now)

-- Each row is the same.
pub record SameGiven (old new : GivenRows) : Type 0 where
  pub start : SameRow old.start new.start
  pub end : SameRow old.end new.end
  pub extra : SameRow old.extra new.extra
  pub matrix : SameRow old.matrix new.matrix

pub record SameWritten (old new : WrittenRows) : Type 0 where
  pub offset : SameRow old.offset new.offset
  pub run : SameRow old.run new.run
  pub first : SameRow old.first new.first
  pub last : SameRow old.last new.last
  pub left : SameRow old.left new.left
  pub cost : SameRow old.cost new.cost
  pub next : SameRow old.next new.next
  pub word_offset : SameRow old.word_offset new.word_offset
  pub word_id : SameRow old.word_id new.word_id
  pub word_kind : SameRow old.word_kind new.word_kind

-- So many places in each row of a group.
pub record GivenRoom (candidates values : ℕ) (rows : GivenRows) : Type 0 where
  pub start : candidates ≤ length rows.start.now
  pub end : candidates ≤ length rows.end.now
  pub extra : candidates ≤ length rows.extra.now
  pub matrix : values ≤ length rows.matrix.now

pub record PositionRoom (places : ℕ) (rows : JobRows) : Type 0 where
  pub offset : places ≤ length rows.offset
  pub run : places ≤ length rows.run
  pub first : places ≤ length rows.first
  pub last : places ≤ length rows.last

pub record EntryRoom (places : ℕ) (rows : JobRows) : Type 0 where
  pub left : places ≤ length rows.left
  pub cost : places ≤ length rows.cost
  pub next : places ≤ length rows.next

pub record WordRoom (count : ℕ) (rows : JobRows) : Type 0 where
  pub word_offset : count ≤ length rows.word_offset
  pub word_id : count ≤ length rows.word_id
  pub word_kind : count ≤ length rows.word_kind

-- Room for any job within the limits of the list.
abbrev pub AnyGivenRoom : GivenRows → Type 0
AnyGivenRoom rows = GivenRoom 512 1024 rows

pub record AnyRoom (rows : JobRows) : Type 0 where
  pub positions : PositionRoom 129 rows
  pub entries : EntryRoom 514 rows
  pub words : WordRoom 128 rows
