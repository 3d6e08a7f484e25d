-- Document 01, "Word entry and matrix": the ten bytes of a word entry, and the kinds.
use Rattle.std.specs.Prelude.{ℕ, zero, suc, ◌+◌, ◌-◌, ◌*◌, cond, List, get_or, ℤ, pos, negsuc, ltb, Result, Ok, Err}
use Rattle.ground.specs.Rows.{part}
use Rattle.ground.specs.declared.entry.Entry.{Entry}
use Rattle.ground.specs.declared.entry.Kind.{Kind}
use Rattle.ground.specs.declared.entry.Kind.TheVariants.{System, User, Unknown}
use Rattle.ground.specs.declared.entry.UnnamedKind.{UnnamedKind}

-- Two bytes from place i on, little-endian.
abbrev pub u16_at : List ℕ → ℕ → ℕ
u16_at bytes i = get_or bytes i 0 + 256 * get_or bytes (i + 1) 0

-- Four bytes from place i on, little-endian.
abbrev pub u32_at : List ℕ → ℕ → ℕ
u32_at bytes i = u16_at bytes i + 65536 * u16_at bytes (i + 2)

-- Sixteen bits read with a sign: from 32,768 on they stand for the number less 65,536 (negsuc m is −1 − m).
abbrev pub signed16 : ℕ → ℤ
signed16 x = cond (ltb x 32768) (pos x) (negsuc (65535 - x))

-- The start mark has right id 0, the end mark left id 0.
abbrev pub mark_id : ℕ
mark_id = 0

-- The number that means "none".
abbrev pub none_link : ℕ
none_link = 65535

-- How many bytes a word entry has.
abbrev pub entry_bytes : ℕ
entry_bytes = 10

-- Ten bytes: word id, word cost, left id, right id.
unfoldable pub entry_of : List ℕ → Entry
entry_of bytes =
    record { id = u32_at bytes 0; cost = signed16 (u16_at bytes 4); left_id = u16_at bytes 6; right_id = u16_at bytes 8 }

-- Candidate k's ten bytes: those from 10 × k on.
abbrev pub entry_part : List ℕ → ℕ → List ℕ
entry_part bytes k = part entry_bytes k bytes

-- Candidate k's word entry.
unfoldable pub entry_at : List ℕ → ℕ → Entry
unfolding entry_of
entry_at bytes k = entry_of (entry_part bytes k)

-- 0 system, 1 user, 2 unknown; any other number names no kind.
abbrev pub kind_of : ℕ → Result Kind UnnamedKind
kind_of zero = Ok System
kind_of (suc zero) = Ok User
kind_of (suc (suc zero)) = Ok Unknown
kind_of (suc (suc (suc more))) = Err (record {})
