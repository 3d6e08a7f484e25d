-- The library's promise, taken to the job that the bytes tell. Assumes nothing.
use Prim.Native.Nat.{ℕ}
use mathlib.Core.Path.{◌≡◌, refl, ap, ◌∙◌, subst}
use mathlib.Core.Bool.{Bool, true}
use mathlib.Core.Logic.{◌↔◌}
use mathlib.Core.List.{List}
use lib.ListN.{take}
use Rattle.ground.specs.Entry.{u16_at}
use Rattle.ground.specs.declared.answer.Numbers.{Numbers}
use Rattle.checks.specs.Job.{Job, JobRows}
use Rattle.segmenter.specs.Segment.{segment}
use Rattle.jumelavorp.specs.Promise.{Segment}
use Rattle.replay.specs.declared.head.Head.{Head}
use Rattle.replay.specs.declared.lent.GivenRows.{GivenRows}
use Rattle.replay.specs.Numbers.{i16_at}
use Rattle.replay.specs.Head.{value_count}
use Rattle.replay.specs.Given.{end_from, extra_from, matrix_from, job_lent, job_of, Filled}
use Rattle.replay.specs.Same.{Recorded, Answered}
use Rattle.replay.proofs.ToldLaws.{told_taken}

-- the rows that are filled give the job that the bytes tell
pub job_told : (head : Head) (bytes : List ℕ) {old new : GivenRows} → Filled head bytes old new → job_lent head bytes new ≡ job_of head bytes
job_told head bytes {old} {new} told =
    let s = ap (take head.c) told.start ∙ told_taken (u16_at bytes) 2 old.start.now head.text head.c in
    let e = ap (take head.c) told.end ∙ told_taken (u16_at bytes) 2 old.end.now (end_from head) head.c in
    let x = ap (take head.c) told.extra ∙ told_taken (i16_at bytes) 2 old.extra.now (extra_from head) head.c in
    let v = ap (take (value_count head)) told.matrix ∙ told_taken (i16_at bytes) 2 old.matrix.now (matrix_from head) (value_count head) in
    rw (s, e, x, v) refl

-- a test of what came out is one of what the promise leaves
pub answered : (head : Head) (given recorded : List ℕ) {old new : GivenRows} {rows after : JobRows} {numbers : Numbers} {t : Bool}
    → Filled head given old new → Segment (job_lent head given new) rows numbers after
    → (t ≡ true) ↔ Recorded head recorded numbers after → (t ≡ true) ↔ Answered head given recorded rows
answered head given recorded {rows = rows} {after = after} {numbers = numbers} {t = t} told promise exactly =
    let kept = subst (λ (j : Job). Segment j rows numbers after) (job_told head given told) promise in
    subst (λ (n : Numbers). (t ≡ true) ↔ Recorded head recorded n (segment (job_of head given) rows).rows) kept.answers
    (subst (λ (left : JobRows). (t ≡ true) ↔ Recorded head recorded numbers left) kept.rows exactly)
