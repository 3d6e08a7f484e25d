-- Document 01, "Largest sizes", each once; and the highest kind, of test 8.
use Rattle.std.specs.Prelude.{ℕ}

-- Characters of a text.
abbrev pub character_limit : ℕ
character_limit = 4096

-- Bytes of a text.
abbrev pub text_limit : ℕ
text_limit = 16384

-- Candidates.
abbrev pub candidate_limit : ℕ
candidate_limit = 16384

-- The height and the width of a matrix.
abbrev pub size_limit : ℕ
size_limit = 65535

-- A price of the Decompose mode.
abbrev pub price_limit : ℕ
price_limit = 32767

-- A threshold of the Decompose mode.
abbrev pub threshold_limit : ℕ
threshold_limit = 65535

-- The number of a kind.
abbrev pub kind_limit : ℕ
kind_limit = 2
