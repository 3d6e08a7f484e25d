-- Document 01, "What comes in": the listed words, as the lattice takes them.
use Rattle.std.specs.Prelude.{ℕ, zero, suc, ◌-◌, List, [], ◌∷◌, map, length, get_or, ℤ, pos, ◌+ℤ◌}
use Rattle.ground.specs.Entry.{entry_at}
use Rattle.ground.specs.Charge.{charge}
use Rattle.ground.specs.declared.charge.Mode.{Mode}
use Rattle.lattice.specs.declared.sentence.Sentence.{Sentence}

-- What can stand in the sentence: a candidate, or a mark, which is taken as a word of length 0.
pub record Word : Type 0 where
  pub start : ℕ
  pub end : ℕ
  pub left_id : ℕ
  pub right_id : ℕ
  pub charged : ℕ  -- when it stands on the left of a joint
  pub own_cost : ℤ  -- its extra and its word cost

-- What the lattice reads of a job: the candidate rows, the kanji runs, the mode, and the matrix with its width.
pub record Given : Type 0 where
  pub start : List ℕ
  pub end : List ℕ
  pub extra : List ℤ
  pub entry : List ℕ
  pub run : List ℕ
  pub mode : Mode
  pub matrix : List ℤ
  pub width : ℕ

-- The same, put together.
abbrev pub given : List ℕ → List ℕ → List ℤ → List ℕ → List ℕ → Mode → List ℤ → ℕ → Given
given start end extra entry run mode matrix width =
    record { start = start; end = end; extra = extra; entry = entry; run = run; mode = mode; matrix = matrix; width = width }

-- What a caller gives.
abbrev pub given_by : Sentence → Given
given_by s =
    let c = s.candidates in
    given c.start.now c.end.now c.extra.now c.entry.now s.run.now s.mode s.matrix.now s.width

-- c, the number of candidates.
abbrev pub count : Given → ℕ
count g = length g.start

-- Candidate k: charged by its length and the kanji run at its start.
abbrev pub candidate : Given → ℕ → Word
candidate g k =
    let start = get_or g.start k 0 in
    let end = get_or g.end k 0 in
    let word_entry = entry_at g.entry k in
    record {
      start = start;
      end = end;
      left_id = word_entry.left_id;
      right_id = word_entry.right_id;
      charged = charge g.mode (get_or g.run start 0) (end - start);
      own_cost = get_or g.extra k (pos 0) +ℤ word_entry.cost;
    }

-- from, from + 1, .., `many` numbers.
unfoldable pub up_from : ℕ → ℕ → List ℕ
up_from from zero = []
up_from from (suc many) = from ∷ up_from (suc from) many

-- The first k candidates.
unfoldable pub candidates_to : Given → ℕ → List Word
unfolding up_from
candidates_to g k = map (candidate g) (up_from 0 k)

-- All candidates.
abbrev pub candidates : Given → List Word
candidates g = candidates_to g (count g)
