-- What a job of the list records: the answer's numbers in its head, and the ten rows, one behind the other.
use Rattle.std.specs.Prelude.{ℕ, ◌+◌, ◌*◌, ◌≡◌, List, take, drop}
use Rattle.ground.specs.Answer.{numbers_of}
use Rattle.ground.specs.Entry.{u16_at, u32_at}
use Rattle.ground.specs.declared.answer.Numbers.{Numbers}
use Rattle.checks.specs.Job.{JobRows}
use Rattle.segmenter.specs.Segment.{segment}
use Rattle.replay.specs.declared.head.Head.{Head}
use Rattle.replay.specs.Head.{word_count}
use Rattle.replay.specs.Lent.{PositionRoom, EntryRoom, WordRoom}
use Rattle.replay.specs.Numbers.{i32_at, told}
use Rattle.replay.specs.Given.{job_of}

-- The rows of positions hold what the bytes tell.
pub record Positions (bytes : List ℕ) (places : ℕ) (rows : JobRows) : Type 0 where
  pub offsets : take places rows.offset ≡ told (u32_at bytes) 4 0 places
  pub runs : take places rows.run ≡ told (u16_at bytes) 2 (4 * places) places
  pub firsts : take places rows.first ≡ told (u16_at bytes) 2 (6 * places) places
  pub lasts : take places rows.last ≡ told (u16_at bytes) 2 (8 * places) places

-- The rows of entries, from a byte on.
pub record Entries (bytes : List ℕ) (from places : ℕ) (rows : JobRows) : Type 0 where
  pub lefts : take places rows.left ≡ told (u16_at bytes) 2 from places
  pub costs : take places rows.cost ≡ told (i32_at bytes) 4 (from + 2 * places) places
  pub nexts : take places rows.next ≡ told (u16_at bytes) 2 (from + 6 * places) places

-- The rows of words, from a byte on.
pub record Words (bytes : List ℕ) (from count : ℕ) (rows : JobRows) : Type 0 where
  pub offsets : take count rows.word_offset ≡ told (u32_at bytes) 4 from count
  pub ids : take count rows.word_id ≡ told (u32_at bytes) 4 (from + 4 * count) count
  pub kinds : take count rows.word_kind ≡ take count (drop (from + 8 * count) bytes)

-- Places of the rows: n + 1 of each position's, c + 2 of each entry's.
abbrev pub position_places : Head → ℕ
position_places head = head.n + 1

abbrev pub entry_places : Head → ℕ
entry_places head = head.c + 2

-- Where the rows of entries and of words begin, and how many bytes all the rows have.
abbrev pub entries_from : Head → ℕ
entries_from head = 10 * position_places head

abbrev pub words_from : Head → ℕ
words_from head = entries_from head + 8 * entry_places head

abbrev pub recorded_bytes : Head → ℕ
recorded_bytes head = words_from head + 9 * word_count head

-- The rows have the places.
pub record Room (head : Head) (rows : JobRows) : Type 0 where
  pub positions : PositionRoom (position_places head) rows
  pub entries : EntryRoom (entry_places head) rows
  pub words : WordRoom (word_count head) rows

-- The answer is the recorded one: the four numbers, and all ten rows.
pub record Recorded (head : Head) (bytes : List ℕ) (numbers : Numbers) (rows : JobRows) : Type 0 where
  pub answer : numbers ≡ head.numbers
  pub positions : Positions bytes (position_places head) rows
  pub entries : Entries bytes (entries_from head) (entry_places head) rows
  pub words : Words bytes (words_from head) (word_count head) rows

-- What the promise leaves as the answer to the job, over rows that came, is the recorded one.
abbrev pub Answered : Head → List ℕ → List ℕ → JobRows → Type 0
Answered head given recorded rows =
    let done = segment (job_of head given) rows in
    Recorded head recorded (numbers_of done.answer) done.rows
