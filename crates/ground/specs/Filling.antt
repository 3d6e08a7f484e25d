-- Inner, no part of document 01: what the functions under the character table leave on the way.
use Rattle.std.specs.Prelude.{ℕ, ◌+◌, ◌-◌, Bool, cond, not, List, [], ◌∷◌, take, drop, get_or, leb, eqb}
use Rattle.ground.specs.Text.{code_of, is_kanji, run_ahead}
use Rattle.ground.specs.declared.text.Letter.{Letter}

-- 1 for yes and 0 for no.
abbrev pub bit : Bool → ℕ
bit t = cond t 1 0

-- 1 from `low` on, and 0 below.
abbrev pub at_least : ℕ → ℕ → ℕ
at_least low x = bit (leb low x)

-- The length of a character by its lead byte, once it is known to be well formed: one more from 80, from E0 and from F0 on.
abbrev pub size_by_lead : ℕ → ℕ
size_by_lead lead = 1 + at_least 0x80 lead + at_least 0xe0 lead + at_least 0xf0 lead

-- The character that the first `size` bytes make, well formed or not.
abbrev pub letter_of_size : List ℕ → ℕ → Letter
letter_of_size bytes size =
    record { size = size; code = code_of (get_or bytes 0 0) (take (size - 1) (drop 1 bytes)) }

-- 1 for a kanji and 0 for another character.
abbrev pub kanji_bit : ℕ → ℕ
kanji_bit code = bit (is_kanji code)

-- Whether a bit is set.
abbrev pub is_set : ℕ → Bool
is_set b = not (eqb b 0)

-- The kanji bits of the characters, and 0 behind the last.
unfoldable pub kanji_bits : List Letter → List ℕ
kanji_bits [] = 0 ∷ []
kanji_bits (letter ∷ more) = kanji_bit letter.code ∷ kanji_bits more

-- Kanji bits made runs, from the right, ahead of what stands behind them.
unfoldable pub counted : List ℕ → List ℕ → List ℕ
counted [] behind = behind
counted (b ∷ more) behind = run_ahead (is_set b) (counted more behind)
