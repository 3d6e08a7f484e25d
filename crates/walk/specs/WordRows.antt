-- Document 01, "What goes out", and answers 0 and 12: the words of a job, by its end mark and its walk back.
use Rattle.std.specs.Prelude.{ℕ, Bool, true, false, List, [], map, Option, None, Some, Err, length, get_or, ℤ}
use Rattle.ground.specs.Entry.{entry_at}
use Rattle.ground.specs.Answer.{Answer, work_done}
use Rattle.ground.specs.declared.answer.Refusal.TheVariants.{NoPath, BrokenLink}

-- The words are candidates by their numbers, in sentence order. Of each: the byte offset of the character at which it starts, its word id, and
-- its kind.
abbrev pub word_offsets : List ℕ → List ℕ → List ℕ → List ℕ
word_offsets offset start words = map (λ (k : ℕ). get_or offset (get_or start k 0) 0) words

abbrev pub word_ids : List ℕ → List ℕ → List ℕ
word_ids entry words = map (λ (k : ℕ). (entry_at entry k).id) words

abbrev pub word_kinds : List ℕ → List ℕ → List ℕ
word_kinds kind words = map (λ (k : ℕ). get_or kind k 0) words

-- ---- the answer, once the tests are passed

-- 12 where the end mark is not reached; otherwise how many words the walk back finds, and the end mark's cost. (In a job no link is broken, so
-- 13 never comes: `never_broken` in the segmenter's Answers.)
abbrev pub answer_by : Bool → Option (List ℕ) → ℤ → Answer
answer_by false walked cost = Err NoPath
answer_by true None cost = Err BrokenLink
answer_by true (Some words) cost = work_done (length words) cost

-- The words that are returned: those that the walk back finds, and none with 12.
abbrev pub words_by : Bool → Option (List ℕ) → List ℕ
words_by false walked = []
words_by true None = []
words_by true (Some words) = words
