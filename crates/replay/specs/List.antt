-- What reading a job does to a list whose bytes are known (`Consumes`: they begin with what is read, and lose it).
use Rattle.std.specs.Prelude.{ℕ, ◌≡◌, ◌↔◌, Bool, true, List, ◌++◌, length, Option}
use Rattle.std.specs.Io.KnownBytes.{Consumes}
use Rattle.checks.specs.Job.{JobRows}
use Rattle.replay.specs.declared.head.Head.{Head}
use Rattle.replay.specs.Head.{head_bytes, head_of, Within}
use Rattle.replay.specs.Given.{given_bytes}
use Rattle.replay.specs.Same.{recorded_bytes, Answered}

-- The head that stands next, within the limits.
pub record NextHead (before after : Option (List ℕ)) (head : Head) : Type 0 where
  pub bytes : List ℕ
  pub read : Consumes before after bytes
  pub whole : length bytes ≡ head_bytes
  pub told : head ≡ head_of bytes
  pub within : Within head

-- The job that stands next: its head, what it is given and what it records, one behind the other, and whether the library's answer over the
-- rows is the recorded one.
pub record Replayed (before after : Option (List ℕ)) (rows : JobRows) (same : Bool) : Type 0 where
  pub head : Head
  pub bytes : List ℕ
  pub given : List ℕ
  pub recorded : List ℕ
  pub read : Consumes before after (bytes ++ given ++ recorded)
  pub whole : length bytes ≡ head_bytes
  pub told : head ≡ head_of bytes
  pub within : Within head
  pub given_whole : length given ≡ given_bytes head
  pub recorded_whole : length recorded ≡ recorded_bytes head
  pub answered : (same ≡ true) ↔ Answered head given recorded rows
