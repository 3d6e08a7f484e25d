-- Rows that a call reads in parts, and rows that it writes.
use Rattle.std.specs.Prelude.{ℕ, ◌*◌, List, ◌++◌, length, take, drop}

-- The k-th part of a row that is cut into parts of `width` places: those from k × width on.
abbrev pub part {ℓ} : {A : Type ℓ} → ℕ → ℕ → List A → List A
part width k row = take width (drop (k * width) row)

-- A row after a write from its start: the places beyond keep their contents. (More than the row has places would lengthen it; no call does:
-- `lengths` in CharacterLaws and in the segmenter's Answers, `word_kept` in the walk's WalkLaws.)
abbrev pub over {ℓ} : {A : Type ℓ} → List A → List A → List A
over new old = new ++ drop (length new) old
