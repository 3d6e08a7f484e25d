-- The public operation "character table alone": its tests in document 01's order, and its whole effect.
use Rattle.std.specs.Prelude.{ℕ, ◌+◌, ◌≤◌, ◌≡◌, Bool, not, ◌||◌, List, length, pos, ltb, Option, None, Some, Result, Err}
use Rattle.std.specs.Option.{option_or}
use Rattle.ground.specs.Limits.{text_limit, character_limit}
use Rattle.ground.specs.Rows.{over}
use Rattle.ground.specs.Answer.{Answer, work_done, refuse, unless}
use Rattle.ground.specs.Text.{letters, sizes, well_formed, offsets, runs}
use Rattle.ground.specs.declared.answer.Refusal.{Refusal}
use Rattle.ground.specs.declared.answer.Refusal.TheVariants.{TooLong, NotUtf8, ShortRow}

-- The tests of a text, 2, 1 and 2: the first that holds decides.
abbrev pub text_refused : List ℕ → Option Refusal
text_refused text =
    option_or (refuse (ltb text_limit (length text)) TooLong)
    (option_or (refuse (not (well_formed text)) (NotUtf8 (sizes (letters text))))
    (refuse (ltb character_limit (length (letters text))) TooLong))

-- What the tests of a text tell: the number of characters, or the refusal of the test that holds.
unfoldable pub checked : List ℕ → Result ℕ Refusal
checked text = unless (text_refused text) (length (letters text))

-- A text that passes them: within both limits, well formed, and of n characters (`passed` in CharacterLaws).
pub record Sound (text : List ℕ) (n : ℕ) : Type 0 where
  pub bytes : length text ≤ text_limit
  pub whole : sizes (letters text) ≡ length text
  pub count : n ≡ length (letters text)
  pub few : n ≤ character_limit

-- What a call leaves: the answer, and the two rows after it.
pub record Outcome : Type 0 where
  pub answer : Answer
  pub offset : List ℕ
  pub run : List ℕ

-- An answer and two rows, put together.
abbrev pub outcome : Answer → List ℕ → List ℕ → Outcome
outcome answer offset run = record { answer = answer; offset = offset; run = run }

-- A row that has fewer than n + 1 places.
abbrev pub short : ℕ → List ℕ → Bool
short n row = ltb (length row) (n + 1)

-- A refusal changes nothing; otherwise both rows are filled, and the places beyond keep their contents.
abbrev pub filled_unless : Option Refusal → List ℕ → List ℕ → List ℕ → Outcome
filled_unless (Some why) text offset run = outcome (Err why) offset run
filled_unless None text offset run =
    outcome (work_done (length (letters text)) (pos 0)) (over (offsets (letters text)) offset) (over (runs (letters text)) run)

-- The character table: the tests of the text, then 7, then the filling.
unfoldable pub characters : List ℕ → List ℕ → List ℕ → Outcome
characters text offset run =
    filled_unless
    (option_or (text_refused text)
    (refuse (short (length (letters text)) offset || short (length (letters text)) run) ShortRow))
    text
    offset
    run
