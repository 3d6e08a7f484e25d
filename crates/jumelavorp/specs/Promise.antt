-- What a caller of the C library may lean on: the four numbers and every row after the call, from the inputs and the rows before it.
use Rattle.std.specs.Prelude.{ℕ, ◌≡◌, List}
use Rattle.ground.specs.Answer.{numbers_of}
use Rattle.ground.specs.Characters.{characters}
use Rattle.ground.specs.declared.answer.Numbers.{Numbers}
use Rattle.walk.specs.WalkBack.{walk_back_alone}
use Rattle.checks.specs.Job.{Job, JobRows}
use Rattle.segmenter.specs.Segment.{segment}
use Rattle.segmenter.specs.Answers.{Ranged}

-- The character table alone.
pub record Characters (text offset run : List ℕ) (numbers : Numbers) (offset_after run_after : List ℕ) : Type 0 where
  pub answers : numbers ≡ numbers_of (characters text offset run).answer
  pub offsets : offset_after ≡ (characters text offset run).offset
  pub runs : run_after ≡ (characters text offset run).run

-- The whole job, and its ten rows; past the tests every stored cost lies in document 01's range.
pub record Segment (j : Job) (r : JobRows) (numbers : Numbers) (after : JobRows) : Type 0 where
  pub answers : numbers ≡ numbers_of (segment j r).answer
  pub rows : after ≡ (segment j r).rows
  pub ranged : Ranged j r

-- The walk back alone.
pub record WalkBack (start end left : List ℕ) (n : ℕ) (word : List ℕ) (numbers : Numbers) (word_after : List ℕ) : Type 0 where
  pub answers : numbers ≡ numbers_of (walk_back_alone start end left n word).answer
  pub words : word_after ≡ (walk_back_alone start end left n word).word
