-- Each promise leaves one answer and one content of every row: two results that meet it are equal. Assumes nothing.
use Prim.Native.Nat.{ℕ}
use mathlib.Core.Path.{◌≡◌, ◌∙◌, sym}
use mathlib.Core.List.{List}
use Rattle.ground.specs.declared.answer.Numbers.{Numbers}
use Rattle.checks.specs.Job.{Job, JobRows}
use Rattle.jumelavorp.specs.Promise.{Characters, Segment, WalkBack}

pub characters_unique : (text offset run : List ℕ) (a b : Numbers) (offset_a run_a offset_b run_b : List ℕ)
    → Characters text offset run a offset_a run_a → Characters text offset run b offset_b run_b
    → (a ≡ b) × (offset_a ≡ offset_b) × (run_a ≡ run_b)
characters_unique text offset run a b offset_a run_a offset_b run_b p q =
    (p.answers ∙ sym q.answers, p.offsets ∙ sym q.offsets, p.runs ∙ sym q.runs)

pub segment_unique : (j : Job) (r : JobRows) (a b : Numbers) (after_a after_b : JobRows) → Segment j r a after_a → Segment j r b after_b → (a ≡ b) × (after_a ≡ after_b)
segment_unique j r a b after_a after_b p q = (p.answers ∙ sym q.answers, p.rows ∙ sym q.rows)

pub walk_back_unique : (start end left : List ℕ) (n : ℕ) (word : List ℕ) (a b : Numbers) (word_a word_b : List ℕ)
    → WalkBack start end left n word a word_a → WalkBack start end left n word b word_b → (a ≡ b) × (word_a ≡ word_b)
walk_back_unique start end left n word a b word_a word_b p q =
    (p.answers ∙ sym q.answers, p.words ∙ sym q.words)
