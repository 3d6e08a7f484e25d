-- Numbers that bytes tell, little-endian, and rows of them.
use Rattle.std.specs.Prelude.{ℕ, zero, suc, ◌+◌, ◌-◌, cond, List, [], ◌∷◌, ℤ, pos, negsuc, ltb}
use Rattle.ground.specs.Entry.{u16_at, u32_at, signed16}

-- Thirty-two bits read with a sign: from 2,147,483,648 on they stand for the number less 4,294,967,296 (negsuc m is −1 − m).
abbrev pub signed32 : ℕ → ℤ
signed32 x = cond (ltb x 2147483648) (pos x) (negsuc (4294967295 - x))

-- Two bytes from place i on, with a sign.
abbrev pub i16_at : List ℕ → ℕ → ℤ
i16_at bytes i = signed16 (u16_at bytes i)

-- Four bytes from place i on, with a sign.
abbrev pub i32_at : List ℕ → ℕ → ℤ
i32_at bytes i = signed32 (u32_at bytes i)

-- A row of so many values: `read` at place `from` and at each `width` further.
unfoldable pub told : {A : Type 0} → (ℕ → A) → ℕ → ℕ → ℕ → List A
told read width from zero = []
told read width from (suc count) = read from ∷ told read width (from + width) count
