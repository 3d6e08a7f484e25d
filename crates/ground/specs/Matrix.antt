-- Document 01, "Word entry and matrix": what it costs to join two words.
use Rattle.std.specs.Prelude.{ℕ, List, get_or, ℤ, pos}
use Rattle.ground.specs.Rows.{part}

-- The row of a later word with left id l: the values from l × width on, `width` many.
abbrev pub matrix_row : List ℤ → ℕ → ℕ → List ℤ
matrix_row matrix width l = part width l matrix

-- The value at r in a row.
abbrev pub value_in : List ℤ → ℕ → ℤ
value_in row r = get_or row r (pos 0)

-- Joining an earlier word with right id r to a later word with left id l: the value at l × width + r (`joint_at` in MatrixLaws).
unfoldable pub joint : List ℤ → ℕ → ℕ → ℕ → ℤ
joint matrix width l r = value_in (matrix_row matrix width l) r
