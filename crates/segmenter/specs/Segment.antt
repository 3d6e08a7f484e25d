-- Document 01: the whole job. Its answer and every row at exit, from its inputs and the rows at entry.
use Rattle.std.specs.Prelude.{ℕ, suc, List, length}
use Rattle.std.specs.Prelude.{Option, None, Some, Err}
use Rattle.ground.specs.Rows.{over}
use Rattle.ground.specs.Text.{letters, offsets, runs}
use Rattle.ground.specs.declared.text.Letter.{Letter}
use Rattle.ground.specs.Answer.{Answer}
use Rattle.ground.specs.declared.answer.Refusal.{Refusal}
use Rattle.ground.specs.declared.charge.Mode.{Mode}
use Rattle.lattice.specs.Words.{Given, given, count}
use Rattle.lattice.specs.Lattice.{entry_numbered, lattice}
use Rattle.lattice.specs.Rows.{firsts, lasts, lefts, costs, nexts}
use Rattle.walk.specs.WalkBack.{walk_back}
use Rattle.walk.specs.WordRows.{word_offsets, word_ids, word_kinds, answer_by, words_by}
use Rattle.checks.specs.Job.{Job, JobRows, job_rows}
use Rattle.checks.specs.Checks.{mode_of, refused}

-- What a call leaves: the answer, and the ten rows after it.
pub record Outcome : Type 0 where
  pub answer : Answer
  pub rows : JobRows

-- An answer and rows, put together.
abbrev pub outcome : Answer → JobRows → Outcome
outcome answer rows = record { answer = answer; rows = rows }

-- The lattice of what is given, its walk back, and every row over what it held: places beyond keep their contents, and with no words the
-- word rows keep all of theirs.
unfoldable pub worked : List Letter → List ℕ → Given → JobRows → Outcome
unfolding lattice firsts lasts lefts costs walk_back runs
worked ls kind g r =
    let n = length ls in
    let es = lattice n g in
    let end_mark = entry_numbered es (suc (count g)) in
    let walked = walk_back g.start g.end (lefts es) n in
    let words = words_by end_mark.reached walked in
    outcome (answer_by end_mark.reached walked end_mark.cost)
    (job_rows
    (over (offsets ls) r.offset)
    (over (runs ls) r.run)
    (over (firsts n es) r.first)
    (over (lasts n es) r.last)
    (over (lefts es) r.left)
    (over (costs es) r.cost)
    (over (nexts es) r.next)
    (over (word_offsets (offsets ls) g.start words) r.word_offset)
    (over (word_ids g.entry words) r.word_id)
    (over (word_kinds kind words) r.word_kind))

-- ---- the whole job

-- What the lattice reads of a job in a mode: the kanji runs are those of its text.
abbrev pub given_in : Job → Mode → Given
given_in j mode =
    given j.start j.end j.extra j.entry (runs (letters j.text)) mode j.matrix j.width

-- The same in the job's own mode.
abbrev pub given_of : Job → Given
given_of j = given_in j (mode_of j.mode j.kanji_threshold j.kanji_price j.other_threshold j.other_price)

-- A refusal by a test changes nothing.
abbrev pub unless : Option Refusal → JobRows → Outcome → Outcome
unless (Some why) r otherwise = outcome (Err why) r
unless None r otherwise = otherwise

-- The tests, then the work.
unfoldable pub segment : Job → JobRows → Outcome
unfolding refused worked letters
segment j r = unless (refused j r) r (worked (letters j.text) j.kind (given_of j) r)
