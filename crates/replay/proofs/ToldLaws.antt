-- Rows that bytes tell, over any width and any way to read a value. Assumes nothing.
use Prim.Native.Nat.{ℕ, zero, suc, ◌+◌, ◌*◌, ◌≤◌, ◌<◌}
use mathlib.Core.Path.{◌≡◌, refl, ap, ◌∙◌, sym}
use mathlib.Core.List.{List, [], ◌∷◌, ◌++◌}
use native.Mathlib.Omega.{arith}
use native.Mathlib.Numerals.{add-one}
use lib.ListN.{length, take, get_or, set, drop}
use lib.Seq.{take_at, length-take-le}
use Rattle.std.proofs.Common.{take_all}
use Rattle.std.proofs.lemmas.List.{take_more, take_more_set}
use Rattle.ground.specs.Rows.{over}
use Rattle.replay.specs.Numbers.{told}

module _ {A : Type 0} (read : ℕ → A) (width : ℕ) where
  pub told_length : (from count : ℕ) → length (told read width from count) ≡ count
  unfolding told
  told_length from zero = refl
  told_length from (suc count) = ap suc (told_length (from + width) count)

  pub told_at : (from count k : ℕ) (d : A) → k < count → get_or (told read width from count) k d ≡ read (from + width * k)
  unfolding told
  told_at from zero k d h = absurd (omega arith)
  told_at from (suc count) zero d h = let q : from ≡ from + width * 0 = omega arith in ap read q
  told_at from (suc count) (suc k) d h =
      let q : from + width + width * k ≡ from + width * suc k = omega arith in
      told_at (from + width) count k d (omega arith) ∙ ap read q

  -- one value more
  told_more : (from i : ℕ) → told read width from (suc i) ≡ told read width from i ++ (read (from + width * i) ∷ [])
  unfolding told
  told_more from zero = let q : from ≡ from + width * 0 = omega arith in ap (λ (at : ℕ). read at ∷ []) q
  told_more from (suc i) =
      let q : from + width + width * i ≡ from + width * suc i = omega arith in
      ap (λ (l : List A). read from ∷ l) (told_more (from + width) i)
      ∙ ap (λ (at : ℕ). read from ∷ (told read width (from + width) i ++ (read at ∷ []))) q

  -- one store more, in the place behind those that hold what is told
  pub told_stored : (row : List A) (from i : ℕ) (x : A) → i < length row → take i row ≡ told read width from i → x ≡ read (from + width * i)
      → take (i + 1) (set row i x) ≡ told read width from (i + 1)
  told_stored row from i x h so_far said =
      take_more_set row i x h ∙ ap (λ (l : List A). l ++ (x ∷ [])) so_far ∙ ap (λ (y : A). told read width from i ++ (y ∷ [])) said
      ∙ sym (told_more from i) ∙ ap (λ (k : ℕ). told read width from k) (sym (add-one i))

  -- all of them, before what stood behind
  pub told_all : (old part : List A) (from count i : ℕ) → count ≤ length old → length part ≡ length (take count old) → length (take count old) ≤ i
      → i ≤ length (take count old) → take i part ≡ told read width from i → part ++ drop count old ≡ over (told read width from count) old
  told_all old part from count i room long all within so_far =
      let whole : i ≡ count = omega (arith, length-take-le count old room) in
      let written : part ≡ told read width from count =
      sym (take_all i part (omega arith)) ∙ so_far ∙ ap (λ (k : ℕ). told read width from k) whole in
      ap (λ (l : List A). l ++ drop count old) written
      ∙ ap (λ (k : ℕ). told read width from count ++ drop k old) (sym (told_length from count))

  -- the written places alone
  pub told_taken : (old : List A) (from i : ℕ) → take i (over (told read width from i) old) ≡ told read width from i
  told_taken old from i = take_at (told read width from i) (drop (length (told read width from i)) old) i (told_length from i)

  -- a row's value at the next place is the told one, or is not
  pub told_next : (row : List A) (from i : ℕ) (x : A) → i < length row → x ≡ get_or row i x → x ≡ read (from + width * i)
      → take i row ≡ told read width from i → take (i + 1) row ≡ told read width from (i + 1)
  told_next row from i x h own said so_far =
      take_more row i x h ∙ ap (λ (l : List A). l ++ (get_or row i x ∷ [])) so_far
      ∙ ap (λ (y : A). told read width from i ++ (y ∷ [])) (sym own ∙ said)
      ∙ sym (told_more from i) ∙ ap (λ (k : ℕ). told read width from k) (sym (add-one i))

  pub told_other : (row : List A) (from i : ℕ) (x : A) → i < length row → x ≡ get_or row i x → (x ≡ read (from + width * i) → ⊥)
      → row ≡ told read width from (length row) → ⊥
  told_other row from i x h own other e =
      other (own ∙ ap (λ (l : List A). get_or l i x) e ∙ told_at from (length row) i x h)
