-- What a job of the list is given: text, start, end, kind, extra, entry and matrix, one behind the other.
use Rattle.std.specs.Prelude.{ℕ, ◌+◌, ◌*◌, ◌≤◌, ◌≡◌, List, length, take, drop, ℤ}
use Rattle.ground.specs.Entry.{u16_at}
use Rattle.ground.specs.Rows.{over}
use Rattle.checks.specs.Job.{Job, job}
use Rattle.replay.specs.declared.head.Head.{Head}
use Rattle.replay.specs.declared.lent.GivenRows.{GivenRows}
use Rattle.replay.specs.Head.{value_count, Within}
use Rattle.replay.specs.Lent.{GivenRoom}
use Rattle.replay.specs.Numbers.{i16_at, told}

-- Where each begins, and how many bytes all of them have.
abbrev pub end_from : Head → ℕ
end_from head = head.text + 2 * head.c

abbrev pub kind_from : Head → ℕ
kind_from head = head.text + 4 * head.c

abbrev pub extra_from : Head → ℕ
extra_from head = head.text + 5 * head.c

abbrev pub entry_from : Head → ℕ
entry_from head = head.text + 7 * head.c

abbrev pub matrix_from : Head → ℕ
matrix_from head = head.text + 17 * head.c

abbrev pub given_bytes : Head → ℕ
given_bytes head = matrix_from head + 2 * value_count head

-- The rows of numbers.
abbrev pub starts : Head → List ℕ → List ℕ
starts head bytes = told (u16_at bytes) 2 head.text head.c

abbrev pub ends : Head → List ℕ → List ℕ
ends head bytes = told (u16_at bytes) 2 (end_from head) head.c

abbrev pub extras : Head → List ℕ → List ℤ
extras head bytes = told (i16_at bytes) 2 (extra_from head) head.c

abbrev pub joints : Head → List ℕ → List ℤ
joints head bytes = told (i16_at bytes) 2 (matrix_from head) (value_count head)

-- The job of a head and its bytes, with the rows of numbers beside them.
abbrev pub job_with : Head → List ℕ → List ℕ → List ℕ → List ℤ → List ℤ → Job
job_with head bytes start end extra matrix =
    job (take head.text bytes) start end
    (take head.c (drop (kind_from head) bytes)) extra
    (take (10 * head.c) (drop (entry_from head) bytes))
    head.height head.width matrix
    head.mode head.kanji_threshold head.kanji_price head.other_threshold head.other_price

-- The job that they tell.
abbrev pub job_of : Head → List ℕ → Job
job_of head bytes = job_with head bytes (starts head bytes) (ends head bytes) (extras head bytes) (joints head bytes)

-- The job of a head, its bytes and the rows of numbers that are lent.
abbrev pub job_lent : Head → List ℕ → GivenRows → Job
job_lent head bytes rows =
    job_with head bytes
    (take head.c rows.start.now) (take head.c rows.end.now)
    (take head.c rows.extra.now) (take (value_count head) rows.matrix.now)

-- The bytes are all there, and the rows have room for what they tell.
pub record Given (head : Head) (bytes : List ℕ) (rows : GivenRows) : Type 0 where
  pub all : given_bytes head ≤ length bytes
  pub room : GivenRoom head.c (value_count head) rows

-- So it is, and the job keeps to the limits of the list.
abbrev pub GivenWithin : Head → List ℕ → GivenRows → Type 0
GivenWithin head bytes rows = Within head × Given head bytes rows

-- The rows after what the bytes tell is written into them.
pub record Filled (head : Head) (bytes : List ℕ) (old new : GivenRows) : Type 0 where
  pub start : new.start.now ≡ over (starts head bytes) old.start.now
  pub end : new.end.now ≡ over (ends head bytes) old.end.now
  pub extra : new.extra.now ≡ over (extras head bytes) old.extra.now
  pub matrix : new.matrix.now ≡ over (joints head bytes) old.matrix.now
