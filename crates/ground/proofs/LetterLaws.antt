-- One character: what decides it, and how its bits and the bytes behind its lead byte are told one by one. Assumes nothing.
use Prim.Native.Nat.{ℕ, suc, ◌+◌, ◌-◌, ◌*◌, ◌%◌, ◌≤◌, ◌<◌}
use mathlib.Core.Path.{◌≡◌, refl, ap, ◌∙◌, sym}
use mathlib.Core.Bool.{Bool, true, false, cond, ◌&&◌}
use mathlib.Core.List.{List, [], ◌∷◌}
use native.Mathlib.Omega.{arith}
use lib.Dec.{eqb}
use lib.ListN.{length, take, drop, get_or, length-take, length-drop}
use lib.Seq.{drop-cons, length-take-le, take_all}
use borrow.Author.Tests.{eqb-true, ne_eqb}
use Rattle.ground.specs.Text.{leads, lead_row, is_second, is_later, all_later, may_follow, lead_bits, six_bits, code_of, letter_of, letter_by, letter_at}
use Rattle.ground.specs.Filling.{letter_of_size}
use Rattle.ground.specs.declared.text.Lead.{Lead}
use Rattle.std.specs.Prelude.{Option, None, Some}
use Rattle.ground.specs.declared.text.Letter.{Letter}
use Rattle.ground.proofs.LeadLaws.{row_size}

-- no character is made of too few bytes
pub too_short : (row : Lead) (byte : ℕ) (following : List ℕ) → suc (length following) < row.size → letter_of row byte following ≡ None
too_short row byte following h = rw (ne_eqb (suc (length following)) row.size (λ e. omega arith))

-- the row of the first byte decides
pub letter_row : (bytes : List ℕ) (found : Option Lead) → 0 < length bytes → lead_row leads (get_or bytes 0 0) ≡ found
    → letter_at bytes ≡ letter_by found (get_or bytes 0 0) (drop 1 bytes)
unfolding letter_at
letter_row [] found h e = absurd (omega arith)
letter_row (byte ∷ rest) found h e = ap (λ (f : Option Lead). letter_by f byte rest) e

-- no bytes begin with none
pub no_letter : (bytes : List ℕ) → length bytes ≤ 0 → letter_at bytes ≡ None
unfolding letter_at
no_letter [] h = refl
no_letter (byte ∷ rest) h = absurd (omega arith)

-- What is known of a character: the row of its lead byte gives its length, and its code point is made of as many bytes.
pub record Parts (bytes : List ℕ) (letter : Letter) : Type 0 where
  pub row : Lead
  pub lead : lead_row leads (get_or bytes 0 0) ≡ Some row
  pub size : letter.size ≡ row.size
  pub code : letter.code ≡ (letter_of_size bytes letter.size).code
  pub enough : letter.size ≤ length bytes

pub letter_parts : (bytes : List ℕ) (letter : Letter) → letter_at bytes ≡ Some letter → Parts bytes letter
unfolding letter_at
letter_parts [] letter e = let z : ◌≡◌ {A = ℕ} 0 1 = cc in absurd (omega arith)
letter_parts (byte ∷ rest) letter e = go (lead_row leads byte) refl e
  where
    made : (row : Lead) → lead_row leads byte ≡ Some row → (following : List ℕ) → following ≡ take (row.size - 1) rest
        → (t : Bool) → eqb (suc (length following)) row.size ≡ t
        → (m : Bool) → cond (t && m) (Some (record { size = row.size; code = code_of byte following })) None ≡ Some letter
        → Parts (byte ∷ rest) letter
    made row f following l true t true w =
        let long : suc (length following) ≡ row.size = eqb-true (suc (length following)) row.size t in
        let size : letter.size ≡ row.size = cc in
        let code : letter.code ≡ code_of byte following = cc in
        let same : following ≡ take (letter.size - 1) rest = l ∙ ap (λ (n : ℕ). take (n - 1) rest) (sym size) in
        record {
          row = row;
          lead = f;
          size = size;
          code = code ∙ ap (λ (bs : List ℕ). code_of byte bs) same;
          enough = omega (arith, ap length l, length-take (row.size - 1) rest);
        }
    made row f following l true t false w = let z : ◌≡◌ {A = ℕ} 0 1 = cc in absurd (omega arith)
    made row f following l false t m w = let z : ◌≡◌ {A = ℕ} 0 1 = cc in absurd (omega arith)

    go : (r : Option Lead) → lead_row leads byte ≡ r → letter_by r byte rest ≡ Some letter → Parts (byte ∷ rest) letter
    go None f w = let z : ◌≡◌ {A = ℕ} 0 1 = cc in absurd (omega arith)
    go (Some row) f w =
        made row f (take (row.size - 1) rest) refl (eqb (suc (length (take (row.size - 1) rest))) row.size) refl (may_follow row (take (row.size - 1) rest)) w

-- a character has at least one byte, and no more than there are
pub letter_size : (bytes : List ℕ) (letter : Letter) → letter_at bytes ≡ Some letter → (1 ≤ letter.size) × (letter.size ≤ length bytes)
letter_size bytes letter e =
    let p = letter_parts bytes letter e in
    (omega (arith, row_size (get_or bytes 0 0) p.row p.lead), p.enough)

-- what is not ill formed is a character
pub well_formed_lem : (bytes : List ℕ) → (letter_at bytes ≡ None → ⊥) → (letter : Letter) × (letter_at bytes ≡ Some letter)
well_formed_lem bytes h = go (letter_at bytes) refl
  where
    go : (next : Option Letter) → letter_at bytes ≡ next → (letter : Letter) × (letter_at bytes ≡ Some letter)
    go None e = absurd (h e)
    go (Some letter) e = (letter, e)

-- a part from a place on to the end, and one byte at a time
pub part_rest : (text : List ℕ) (at : ℕ) → take (length text - at) (drop at text) ≡ drop at text
part_rest text at = take_all (length text - at) (drop at text) (omega (arith, length-drop at text))

pub take_drop : (k i : ℕ) (bytes : List ℕ) → i < length bytes → take (suc k) (drop i bytes) ≡ get_or bytes i 0 ∷ take k (drop (suc i) bytes)
take_drop k i bytes h = ap (λ (l : List ℕ). take (suc k) l) (drop-cons bytes i 0 h)

-- what may follow a lead byte, one byte at a time
pub follow_second : (row : Lead) (bytes : List ℕ) (k : ℕ) → 1 < length bytes
    → may_follow row (take (suc k) (drop 1 bytes)) ≡ (is_second row (get_or bytes 1 0) && all_later (take k (drop 2 bytes)))
follow_second row bytes k h = ap (λ (l : List ℕ). may_follow row l) (take_drop k 1 bytes h)

pub follow_later : (bytes : List ℕ) (k i : ℕ) → i < length bytes
    → all_later (take (suc k) (drop i bytes)) ≡ (is_later (get_or bytes i 0) && all_later (take k (drop (suc i) bytes)))
unfolding all_later
follow_later bytes k i h = ap (λ (l : List ℕ). all_later l) (take_drop k i bytes h)

-- a code point's lead bits go by the number of its bytes
pub code_sized : (bytes : List ℕ) (size : ℕ) → 1 ≤ size → size ≤ length bytes
    → (letter_of_size bytes size).code ≡ six_bits (lead_bits (size - 1) (get_or bytes 0 0)) (take (size - 1) (drop 1 bytes))
code_sized bytes size l h =
    ap (λ (k : ℕ). six_bits (lead_bits k (get_or bytes 0 0)) (take (size - 1) (drop 1 bytes)))
    (length-take-le (size - 1) (drop 1 bytes) (omega (arith, length-drop 1 bytes)))

-- the bits of a character, one byte at a time
pub six_next : (bytes : List ℕ) (k i code : ℕ) → i < length bytes
    → six_bits code (take (suc k) (drop i bytes)) ≡ six_bits (code * 64 + get_or bytes i 0 % 64) (take k (drop (suc i) bytes))
unfolding six_bits
six_next bytes k i code h = ap (λ (l : List ℕ). six_bits code l) (take_drop k i bytes h)

-- a character of one byte, or of two, has a code point below 800
pub code_one : (bytes : List ℕ) → get_or bytes 0 0 < 0x80 → (letter_of_size bytes 1).code < 0x800
unfolding six_bits
code_one bytes h = omega arith

pub code_two : (bytes : List ℕ) → 2 ≤ length bytes → (letter_of_size bytes 2).code < 0x800
unfolding six_bits
code_two bytes h =
    omega (arith, code_sized bytes 2 (omega arith) h ∙ six_next bytes 0 1 (get_or bytes 0 0 % 32) (omega arith))

-- a character of a text ends within it
pub letter_ends : (text : List ℕ) (at : ℕ) (letter : Letter) → letter_at (drop at text) ≡ Some letter → at ≤ length text
    → (1 ≤ letter.size) × (at + letter.size ≤ length text)
letter_ends text at letter e h =
    let s = letter_size (drop at text) letter e in
    omega (arith, length-drop at text)
