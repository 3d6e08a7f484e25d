-- Document 01, "What comes in, what goes out": a job, and the rows that it writes.
use Rattle.std.specs.Prelude.{ℕ, List, length, ℤ}
use Rattle.ground.specs.Text.{letters}
use Rattle.checks.specs.declared.job.Job.{Job as Lent}

-- A job: a text, candidates in rows, a connection matrix, and a mode with its four numbers. (How wide each number is, `jumelavorp_segment` in
-- jumelavorp's src/lib.rt says.)
pub record Job : Type 0 where
  pub text : List ℕ
  pub start : List ℕ
  pub end : List ℕ
  pub kind : List ℕ
  pub extra : List ℤ
  pub entry : List ℕ  -- ten bytes each
  pub height : ℕ
  pub width : ℕ
  pub matrix : List ℤ
  pub mode : ℕ
  pub kanji_threshold : ℕ
  pub kanji_price : ℕ
  pub other_threshold : ℕ
  pub other_price : ℕ

-- The same, put together.
abbrev pub job : List ℕ → List ℕ → List ℕ → List ℕ → List ℤ → List ℕ → ℕ → ℕ → List ℤ → ℕ → ℕ → ℕ → ℕ → ℕ → Job
job text start end kind extra entry height width matrix mode kanji_threshold kanji_price other_threshold other_price =
    record {
      text = text;
      start = start;
      end = end;
      kind = kind;
      extra = extra;
      entry = entry;
      height = height;
      width = width;
      matrix = matrix;
      mode = mode;
      kanji_threshold = kanji_threshold;
      kanji_price = kanji_price;
      other_threshold = other_threshold;
      other_price = other_price;
    }

-- The job that the functions are lent.
abbrev pub told : Lent → Job
told j =
    job j.text.now
    j.candidates.start.now j.candidates.end.now j.candidates.kind.now j.candidates.extra.now j.candidates.entry.now
    j.matrix.height j.matrix.width j.matrix.values.now
    j.mode.mode j.mode.kanji_threshold j.mode.kanji_price j.mode.other_threshold j.mode.other_price

-- n, the number of characters.
abbrev pub character_count : Job → ℕ
character_count j = length (letters j.text)

-- c, the number of candidates: the length of the start row.
abbrev pub candidate_count : Job → ℕ
candidate_count j = length j.start

-- Rows written: of characters and positions, of entries, and of words.
pub record JobRows : Type 0 where
  pub offset : List ℕ
  pub run : List ℕ
  pub first : List ℕ
  pub last : List ℕ
  pub left : List ℕ
  pub cost : List ℤ
  pub next : List ℕ
  pub word_offset : List ℕ
  pub word_id : List ℕ
  pub word_kind : List ℕ

-- The same, put together.
abbrev pub job_rows : List ℕ → List ℕ → List ℕ → List ℕ → List ℕ → List ℤ → List ℕ → List ℕ → List ℕ → List ℕ → JobRows
job_rows offset run first last left cost next word_offset word_id word_kind =
    record {
      offset = offset;
      run = run;
      first = first;
      last = last;
      left = left;
      cost = cost;
      next = next;
      word_offset = word_offset;
      word_id = word_id;
      word_kind = word_kind;
    }
