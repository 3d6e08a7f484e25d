-- Document 01, "Characters": text by RFC 3629, and the two rows of the character table.
use Rattle.std.specs.Prelude.{ℕ, zero, suc, ◌+◌, ◌-◌, ◌*◌, ◌%◌, Bool, true, cond, ◌&&◌, ◌||◌, List, [], ◌∷◌, length, take, drop, get_or, leb, eqb, Option, None, Some}
use Rattle.ground.specs.declared.text.Lead.{Lead}
use Rattle.ground.specs.declared.text.Letter.{Letter}

-- A range of bytes or of code points, both ends in it.
abbrev pub within : ℕ → ℕ → ℕ → Bool
within low high x = leb low x && leb x high

-- ---- the lead bytes

-- A row of the table: lead bytes, second bytes, length.
abbrev pub lead : ℕ → ℕ → ℕ → ℕ → ℕ → Lead
lead low high second_low second_high size =
    record { low = low; high = high; second_low = second_low; second_high = second_high; size = size }

-- The nine lead-byte rows. (The first has no second byte; its range 00–00 is never read.)
unfoldable pub leads : List Lead
leads =
    lead 0x00 0x7f 0x00 0x00 1
    ∷ lead 0xc2 0xdf 0x80 0xbf 2
    ∷ lead 0xe0 0xe0 0xa0 0xbf 3
    ∷ lead 0xe1 0xec 0x80 0xbf 3
    ∷ lead 0xed 0xed 0x80 0x9f 3
    ∷ lead 0xee 0xef 0x80 0xbf 3
    ∷ lead 0xf0 0xf0 0x90 0xbf 4
    ∷ lead 0xf1 0xf3 0x80 0xbf 4
    ∷ lead 0xf4 0xf4 0x80 0x8f 4
    ∷ []

-- Whether a byte is one of a row's lead bytes.
abbrev pub is_lead : Lead → ℕ → Bool
is_lead row byte = within row.low row.high byte

-- The row that has the byte as a lead byte. (No two rows have one in common: `row_exact` in LeadLaws.)
unfoldable pub lead_row : List Lead → ℕ → Option Lead
lead_row [] byte = None
lead_row (row ∷ rows) byte = cond (is_lead row byte) (Some row) (lead_row rows byte)

-- ---- one character

-- Whether a byte is one of a row's second bytes.
abbrev pub is_second : Lead → ℕ → Bool
is_second row byte = within row.second_low row.second_high byte

-- Later bytes are 80–BF.
abbrev pub is_later : ℕ → Bool
is_later byte = within 0x80 0xbf byte

-- Whether all of the bytes are later bytes.
unfoldable pub all_later : List ℕ → Bool
all_later [] = true
all_later (byte ∷ bytes) = is_later byte && all_later bytes

-- What may follow a lead byte of the row: nothing, or a second byte and then later bytes.
abbrev pub may_follow : Lead → List ℕ → Bool
may_follow row [] = true
may_follow row (second ∷ later) = is_second row second && all_later later

-- The bits x of a lead byte, by the number of bytes that follow it: 0xxxxxxx, 110xxxxx, 1110xxxx, 11110xxx (RFC 3629, section 3).
abbrev pub lead_bits : ℕ → ℕ → ℕ
lead_bits zero byte = byte
lead_bits (suc zero) byte = byte % 32
lead_bits (suc (suc zero)) byte = byte % 16
lead_bits (suc (suc (suc more))) byte = byte % 8

-- The bits so far, with six more of each byte that follows: 10xxxxxx.
unfoldable pub six_bits : ℕ → List ℕ → ℕ
six_bits bits [] = bits
six_bits bits (byte ∷ bytes) = six_bits (bits * 64 + byte % 64) bytes

-- The code point of a lead byte and the bytes that follow it.
abbrev pub code_of : ℕ → List ℕ → ℕ
code_of byte following = six_bits (lead_bits (length following) byte) following

-- A character of a row: it has as many bytes as the row's length says, and those behind the lead byte may follow it.
abbrev pub letter_of : Lead → ℕ → List ℕ → Option Letter
letter_of row byte following =
    cond (eqb (suc (length following)) row.size && may_follow row following)
    (Some (record { size = row.size; code = code_of byte following }))
    None

-- The character that a lead byte and the rest begin with: by the lead byte's row.
abbrev pub letter_by : Option Lead → ℕ → List ℕ → Option Letter
letter_by None byte rest = None
letter_by (Some row) byte rest = letter_of row byte (take (row.size - 1) rest)

-- The character that the bytes begin with, if they begin with a whole well-formed one.
unfoldable pub letter_at : List ℕ → Option Letter
unfolding leads lead_row
letter_at [] = None
letter_at (byte ∷ rest) = letter_by (lead_row leads byte) byte rest

-- ---- the text: a list of letters. (A letter is one of document 01's characters: its length in bytes and its code point.)

-- A whole character and those after it; nothing where none stands.
abbrev pub followed_by : Option Letter → (ℕ → List Letter) → List Letter
followed_by None more = []
followed_by (Some letter) more = letter ∷ more letter.size

-- The whole well-formed characters from the start, one after the other, at most `most` of them.
unfoldable pub letters_in : ℕ → List ℕ → List Letter
unfolding letter_at
letters_in zero bytes = []
letters_in (suc most) bytes = followed_by (letter_at bytes) (λ (size : ℕ). letters_in most (drop size bytes))

-- The longest run of whole well-formed characters from the start (`longest` in TextLaws). A text has no more characters than bytes, so the bound cuts none off.
unfoldable pub letters : List ℕ → List Letter
unfolding letters_in
letters bytes = letters_in (length bytes) bytes

-- How many bytes the characters take: the offset just after them.
unfoldable pub sizes : List Letter → ℕ
sizes [] = 0
sizes (letter ∷ more) = letter.size + sizes more

-- The text is UTF-8: its whole characters take all of it.
abbrev pub well_formed : List ℕ → Bool
well_formed bytes = eqb (sizes (letters bytes)) (length bytes)

-- ---- the rows

-- Where each character starts and, last, where the text ends, counted from `at`.
unfoldable pub offsets_from : ℕ → List Letter → List ℕ
offsets_from at [] = at ∷ []
offsets_from at (letter ∷ more) = at ∷ offsets_from (at + letter.size) more

-- Offset row: where each character starts; at n the text length.
abbrev pub offsets : List Letter → List ℕ
offsets all = offsets_from 0 all

-- Kanji by document 000.
abbrev pub is_kanji : ℕ → Bool
is_kanji code = within 0x4e00 0x9faf code || within 0x3400 0x4dbf code

-- A run: 0 if the character is no kanji, otherwise 1 + the run at the next.
abbrev pub run_of : Bool → ℕ → ℕ
run_of kanji next = cond kanji (1 + next) 0

-- The runs from the next character on, with this one's in front.
abbrev pub run_ahead : Bool → List ℕ → List ℕ
run_ahead kanji next = run_of kanji (get_or next 0 0) ∷ next

-- Run row: the run at each character; at n it is 0.
unfoldable pub runs : List Letter → List ℕ
runs [] = 0 ∷ []
runs (letter ∷ more) = run_ahead (is_kanji letter.code) (runs more)
