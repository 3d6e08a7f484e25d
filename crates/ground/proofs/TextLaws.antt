-- The characters of a text: laws of `letters` and of the bytes that they take. Assumes nothing.
use Prim.Native.Nat.{ℕ, zero, suc, ◌+◌, ◌≤◌, ◌<◌}
use mathlib.Core.Path.{◌≡◌, refl, ap, ◌∙◌}
use mathlib.Core.List.{List, [], ◌∷◌}
use mathlib.Core.Bool.{Bool, true, false}
use native.Mathlib.Omega.{arith}
use lib.Dec.{ltb}
use borrow.Author.Tests.{ltb-true, ltb-false}
use lib.ListN.{length, drop, length-drop, drop_of_length-le}
use lib.Seq.{drop-drop}
use Rattle.ground.specs.Text.{letter_at, followed_by, letters_in, letters, sizes}
use Rattle.ground.specs.declared.text.Letter.{Letter}
use Rattle.std.specs.Prelude.{Option, None, Some}
use Rattle.ground.proofs.LetterLaws.{letter_size}

-- a limit that is no less than the number of bytes changes nothing
enough : (most more : ℕ) (bytes : List ℕ) → length bytes ≤ most → length bytes ≤ more → letters_in most bytes ≡ letters_in more bytes
unfolding letters_in letter_at
enough zero zero bytes h k = refl
enough zero (suc more) [] h k = refl
enough zero (suc more) (byte ∷ rest) h k = absurd (omega arith)
enough (suc most) zero [] h k = refl
enough (suc most) zero (byte ∷ rest) h k = absurd (omega arith)
enough (suc most) (suc more) bytes h k = go (letter_at bytes) refl (enough most more)
  where
    go : (next : Option Letter) → letter_at bytes ≡ next
        → ((less : List ℕ) → length less ≤ most → length less ≤ more → letters_in most less ≡ letters_in more less)
        → followed_by next (λ (size : ℕ). letters_in most (drop size bytes)) ≡ followed_by next (λ (size : ℕ). letters_in more (drop size bytes))
    go None e again = refl
    go (Some letter) e again =
        let s = letter_size bytes letter e in
        ap (λ (ls : List Letter). letter ∷ ls)
        (again (drop letter.size bytes) (omega (arith, length-drop letter.size bytes)) (omega (arith, length-drop letter.size bytes)))

-- the characters are the first one and those of the bytes behind it
pub letters_whole : (bytes : List ℕ) (letter : Letter) → letter_at bytes ≡ Some letter → letters bytes ≡ letter ∷ letters (drop letter.size bytes)
unfolding letters letters_in letter_at
letters_whole [] letter e = let z : ◌≡◌ {A = ℕ} 0 1 = cc in absurd (omega arith)
letters_whole (byte ∷ rest) letter e =
    let s = letter_size (byte ∷ rest) letter e in
    ap (λ (next : Option Letter). followed_by next (λ (size : ℕ). letters_in (length rest) (drop size (byte ∷ rest)))) e
    ∙ ap (λ (ls : List Letter). letter ∷ ls)
    (enough (length rest) (length (drop letter.size (byte ∷ rest))) (drop letter.size (byte ∷ rest))
    (omega (arith, length-drop letter.size (byte ∷ rest))) (omega arith))

-- the characters from one place of a text on, and from the next one on
pub letters_next : (text : List ℕ) (at : ℕ) (letter : Letter) → letter_at (drop at text) ≡ Some letter
    → letters (drop at text) ≡ letter ∷ letters (drop (at + letter.size) text)
letters_next text at letter e =
    letters_whole (drop at text) letter e ∙ ap (λ (l : List ℕ). letter ∷ letters l) (drop-drop letter.size at text)

pub letters_end : (text : List ℕ) (at : ℕ) → length text ≤ at → letters (drop at text) ≡ []
unfolding letters letters_in
letters_end text at h = rw (drop_of_length-le text {i = at} h)

-- where no whole character stands, none is counted
pub letters_ill_formed : (bytes : List ℕ) → letter_at bytes ≡ None → letters bytes ≡ []
unfolding letters letters_in letter_at
letters_ill_formed [] e = refl
letters_ill_formed (byte ∷ rest) e = ap (λ (next : Option Letter). followed_by next (λ (size : ℕ). letters_in (length rest) (drop size (byte ∷ rest)))) e

-- where characters are left from a place on, it lies within the text, and a whole one stands there
pub letters_left : (text : List ℕ) (at : ℕ) → 0 < length (letters (drop at text)) → (at < length text) × (letter_at (drop at text) ≡ None → ⊥)
letters_left text at h = (go (ltb at (length text)) refl, λ e. omega (arith, ap length (letters_ill_formed (drop at text) e)))
  where
    go : (t : Bool) → ltb at (length text) ≡ t → at < length text
    go true e = ltb-true at (length text) e
    go false e = omega (arith, ap length (letters_end text at (ltb-false at (length text) e)))

-- no characters take no bytes
pub sizes_none : (ls : List Letter) → length ls ≡ 0 → sizes ls ≡ 0
unfolding sizes
sizes_none [] e = refl
sizes_none (letter ∷ more) e = absurd (omega arith)

-- ---- the longest run

-- Whole well-formed characters, one after the other, from the bytes' start.
pub data Begins : List ℕ → List Letter → Type 0 where
  none : {bytes : List ℕ} → Begins bytes []
  one : {bytes : List ℕ} {letter : Letter} {more : List Letter} → letter_at bytes ≡ Some letter
      → Begins (drop letter.size bytes) more → Begins bytes (letter ∷ more)

-- The characters of a text are such a run ..
begins_most : (most : ℕ) (bytes : List ℕ) → length bytes ≤ most → Begins bytes (letters bytes)
begins_most zero bytes h = rw (letters_end bytes 0 (omega arith)) none
begins_most (suc most) bytes h = go (letter_at bytes) refl (begins_most most)
  where
    go : (next : Option Letter) → letter_at bytes ≡ next → ((less : List ℕ) → length less ≤ most → Begins less (letters less)) → Begins bytes (letters bytes)
    go None e again = rw (letters_ill_formed bytes e) none
    go (Some letter) e again =
        let s = letter_size bytes letter e in
        rw (letters_whole bytes letter e) (one e (again (drop letter.size bytes) (omega (arith, length-drop letter.size bytes))))

pub letters_begin : (bytes : List ℕ) → Begins bytes (letters bytes)
letters_begin bytes = begins_most (length bytes) bytes (omega arith)

-- .. and no run goes further.
pub longest : {bytes : List ℕ} {run : List Letter} → Begins bytes run → sizes run ≤ sizes (letters bytes)
unfolding sizes
longest none = omega arith
longest {bytes} (one {letter = letter} e r) = let h = longest r in rw (letters_whole bytes letter e) (omega arith)

-- A run takes no more bytes than there are.
begins_within : {bytes : List ℕ} {run : List Letter} → Begins bytes run → sizes run ≤ length bytes
unfolding sizes
begins_within none = omega arith
begins_within {bytes} (one {letter = letter} e r) =
    let s = letter_size bytes letter e in
    let h = begins_within r in
    omega (arith, length-drop letter.size bytes)

pub sizes_within : (bytes : List ℕ) → sizes (letters bytes) ≤ length bytes
sizes_within bytes = begins_within (letters_begin bytes)
