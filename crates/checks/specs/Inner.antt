-- Inner, no part of document 01: the tests by the structs that the functions are lent, and what they tell.
use Rattle.std.specs.Prelude.{ℕ, Bool, ◌≡◌, ◌*◌, length, Option}
use Rattle.ground.specs.Entry.{entry_bytes}
use Rattle.ground.specs.Answer.{refuse}
use Rattle.ground.specs.declared.answer.Refusal.{Refusal}
use Rattle.ground.specs.declared.answer.Refusal.TheVariants.{BadMode}
use Rattle.ground.specs.declared.candidates.Candidates.{Candidates}
use Rattle.ground.specs.declared.charge.Mode.{Mode}
use Rattle.ground.specs.declared.charge.ModeNumbers.{ModeNumbers}
use Rattle.ground.specs.declared.matrix.Matrix.{Matrix}
use Rattle.checks.specs.Job.{Job, character_count}
use Rattle.checks.specs.Checks.{bad_mode, mode_of, too_short, candidate_refused, candidates_refused}
use Rattle.checks.specs.declared.checks.Passed.{Passed}
use Rattle.checks.specs.declared.checks.RowLengths.{RowLengths}

-- 6, and the mode, of the numbers that are lent.
abbrev pub mode_refused : ModeNumbers → Option Refusal
mode_refused m = refuse (bad_mode m.mode m.kanji_threshold m.kanji_price m.other_threshold m.other_price) BadMode

abbrev pub mode_named : ModeNumbers → Mode
mode_named m = mode_of m.mode m.kanji_threshold m.kanji_price m.other_threshold m.other_price

-- What inputs that pass are told to be.
abbrev pub passed_inputs : Job → Passed
passed_inputs j =
    record { n = character_count j; mode = mode_of j.mode j.kanji_threshold j.kanji_price j.other_threshold j.other_price }

-- 7, by the ten lengths.
abbrev pub row_too_short : ℕ → ℕ → RowLengths → Bool
row_too_short n c l =
    too_short n c l.offset l.run l.first l.last l.left l.cost l.next l.word_offset l.word_id l.word_kind

-- ---- the candidates that are lent

-- As many ends and kinds as starts, and ten entry bytes for each.
abbrev pub EvenRows : Candidates → Type 0
EvenRows c =
    (length c.end.now ≡ length c.start.now) × (length c.kind.now ≡ length c.start.now) × (length c.entry.now ≡ entry_bytes * length c.start.now)

-- 8 to 11 of candidate k, and of all.
abbrev pub candidate_refusal : ℕ → Candidates → Matrix → ℕ → Option Refusal
candidate_refusal n c m k = candidate_refused n c.start.now c.end.now c.kind.now c.entry.now m.height m.width k

abbrev pub first_refusal : ℕ → Candidates → Matrix → Option Refusal
first_refusal n c m = candidates_refused n c.start.now c.end.now c.kind.now c.entry.now m.height m.width
