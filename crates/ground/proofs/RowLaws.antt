-- Parts and places of rows; the two rows of the character table: their lengths, that offsets rise, and the runs counted from the right. Assumes nothing.
use Prim.Native.Nat.{ℕ, zero, suc, ◌+◌, ◌*◌, ◌≤◌, ◌<◌}
use mathlib.Core.Path.{◌≡◌, refl, ap, ◌∙◌, sym}
use mathlib.Core.Bool.{Bool, true, false, cond}
use mathlib.Core.List.{List, [], ◌∷◌, ◌++◌}
use native.Mathlib.Omega.{arith}
use native.Mathlib.Nat.{zero-add, suc-mul, mul-le-mul_right}
use lib.ListN.{length, take, drop, get_or, set, take-append-drop, length-append, length-take, length-drop, drop_of_length-le}
use lib.Seq.{sets, sets-eq, take-suc, drop-cons, append_snoc, get_or_at, get_or-append-add, get_or-take, get_or-drop, set_at, length-take-le}
use Rattle.ground.specs.Text.{is_kanji, run_of, run_ahead, runs, sizes, offsets_from}
use Rattle.ground.specs.Rows.{part, over}
use Rattle.ground.specs.Filling.{is_set, kanji_bits, counted}
use Rattle.ground.specs.declared.text.Letter.{Letter}

-- ---- parts

-- a place of a part is a place of the row
pub part_at {ℓ} : {A : Type ℓ} (width k r : ℕ) (row : List A) (d : A) → r < width → get_or (part width k row) r d ≡ get_or row (k * width + r) d
part_at width k r row d h = rw (get_or-take, get_or-drop)

-- a part that lies within the row has its width
pub part_length {ℓ} : {A : Type ℓ} (width k : ℕ) (row : List A) → k * width + width ≤ length row → length (part width k row) ≡ width
part_length width k row h = length-take-le width (drop (k * width) row) (rw length-drop (omega arith))

-- of a row of `count` parts, each lies within
pub part_fits {ℓ} : {A : Type ℓ} (width k count : ℕ) (row : List A) → length row ≡ count * width → k < count → k * width + width ≤ length row
part_fits width k count row e h = omega (arith, suc-mul k width, mul-le-mul_right {m = suc k} {n = count} width h)

-- a place that the row has holds the same, whatever is taken where there is none
pub in_row {ℓ} : {A : Type ℓ} (row : List A) (i : ℕ) (d e : A) → i < length row → get_or row i d ≡ get_or row i e
in_row [] i d e h = absurd (omega arith)
in_row (x ∷ row) zero d e h = refl
in_row (x ∷ row) (suc i) d e h = in_row row i d e (omega arith)

-- ---- lengths

pub bits_length : (ls : List Letter) → length (kanji_bits ls) ≡ suc (length ls)
unfolding kanji_bits
bits_length [] = refl
bits_length (l ∷ ls) = ap suc (bits_length ls)

pub runs_length : (ls : List Letter) → length (runs ls) ≡ suc (length ls)
unfolding runs
runs_length [] = refl
runs_length (l ∷ ls) = ap suc (runs_length ls)

pub offsets_length : (at : ℕ) (ls : List Letter) → length (offsets_from at ls) ≡ suc (length ls)
unfolding offsets_from
offsets_length at [] = refl
offsets_length at (l ∷ ls) = ap suc (offsets_length (at + l.size) ls)

-- offsets rise from 0, or where they are counted from, to the end of the last character
pub offsets_first : (at : ℕ) (ls : List Letter) → get_or (offsets_from at ls) 0 0 ≡ at
unfolding offsets_from
offsets_first at [] = refl
offsets_first at (l ∷ ls) = refl

pub offsets_end : (at : ℕ) (ls : List Letter) → get_or (offsets_from at ls) (length ls) 0 ≡ at + sizes ls
unfolding offsets_from sizes
offsets_end at [] = omega arith
offsets_end at (l ∷ ls) = omega (arith, offsets_end (at + l.size) ls)

offsets_above : (at : ℕ) (ls : List Letter) (i : ℕ) → i ≤ length ls → at ≤ get_or (offsets_from at ls) i 0
unfolding offsets_from
offsets_above at [] zero h = omega arith
offsets_above at [] (suc i) h = absurd (omega arith)
offsets_above at (l ∷ ls) zero h = omega arith
offsets_above at (l ∷ ls) (suc i) h = omega (arith, offsets_above (at + l.size) ls i (omega arith))

pub offsets_rise : (at : ℕ) (ls : List Letter) (i k : ℕ) → i ≤ k → k ≤ length ls → get_or (offsets_from at ls) i 0 ≤ get_or (offsets_from at ls) k 0
unfolding offsets_from
offsets_rise at [] i k h l = let (p, q) : (i ≡ 0) × (k ≡ 0) = (omega arith, omega arith) in rw (p, q) (omega arith)
offsets_rise at (x ∷ ls) zero k h l = offsets_above at (x ∷ ls) k l
offsets_rise at (x ∷ ls) (suc i) zero h l = absurd (omega arith)
offsets_rise at (x ∷ ls) (suc i) (suc k) h l = offsets_rise (at + x.size) ls i k (omega arith) (omega arith)

-- a write that the row has room for keeps its length
pub over_length {ℓ} : {A : Type ℓ} (new old : List A) → length new ≤ length old → length (over new old) ≡ length old
over_length new old h = simp (length-append, length-drop) (omega arith)

-- stores from place 0 on are one write over the row
pub sets_over : (new old : List ℕ) → length new ≤ length old → sets old 0 new ≡ over new old
sets_over new old h = sets-eq new old 0 (omega arith) ∙ ap (λ (k : ℕ). new ++ drop k old) (zero-add (length new))

-- ---- runs

bit_kanji : (kanji : Bool) → is_set (cond kanji 1 0) ≡ kanji
bit_kanji true = refl
bit_kanji false = refl

runs_first : (ls : List Letter) (rest : List ℕ) → get_or (runs ls ++ rest) 0 0 ≡ get_or (runs ls) 0 0
unfolding runs
runs_first [] rest = refl
runs_first (l ∷ ls) rest = refl

-- kanji bits counted from the right are the runs
pub bits_counted : (ls : List Letter) (rest : List ℕ)
    → counted (take (length ls) (kanji_bits ls ++ rest)) (drop (length ls) (kanji_bits ls ++ rest)) ≡ runs ls ++ rest
unfolding kanji_bits counted runs
bits_counted [] rest = refl
bits_counted (l ∷ ls) rest =
    let k = is_kanji l.code in
    ap (λ (t : Bool). run_ahead t (counted (take (length ls) (kanji_bits ls ++ rest)) (drop (length ls) (kanji_bits ls ++ rest)))) (bit_kanji k)
    ∙ ap (λ (behind : List ℕ). run_ahead k behind) (bits_counted ls rest)
    ∙ ap (λ (first : ℕ). run_of k first ∷ runs ls ++ rest) (runs_first ls rest)

pub bits_last : (ls : List Letter) (rest : List ℕ) → get_or (kanji_bits ls ++ rest) (length ls) 0 ≡ 0
unfolding kanji_bits
bits_last [] rest = refl
bits_last (l ∷ ls) rest = bits_last ls rest

pub counted_over : (ls : List Letter) (old : List ℕ)
    → counted (take (length ls) (over (kanji_bits ls) old)) (drop (length ls) (over (kanji_bits ls) old)) ≡ over (runs ls) old
counted_over ls old =
    bits_counted ls (drop (length (kanji_bits ls)) old)
    ∙ ap (λ (k : ℕ). runs ls ++ drop k old) (bits_length ls ∙ sym (runs_length ls))

pub run_most : (kanji : Bool) (x : ℕ) → run_of kanji x ≤ 1 + x
run_most true x = omega arith
run_most false x = omega arith

-- ---- counting, one place further to the left

-- the places from i to n, counted, before what stands behind them
abbrev pub behind : List ℕ → ℕ → ℕ → List ℕ
behind run₀ n i = counted (drop i (take n run₀)) (drop n run₀)

module _ (run₀ : List ℕ) (n : ℕ) (fits : n ≤ length run₀) where
  pub counted_none : run₀ ≡ take n run₀ ++ behind run₀ n n
  unfolding counted
  counted_none =
      rw (drop_of_length-le (take n run₀) {i = n} (omega (arith, length-take n run₀))) (sym (take-append-drop n run₀))

  pub counted_more : (run : List ℕ) (j : ℕ) → j < n → run ≡ take (suc j) run₀ ++ behind run₀ n (suc j)
      → set run j (run_of (is_set (get_or run j 0)) (get_or run (j + 1) 0)) ≡ take j run₀ ++ behind run₀ n j
  unfolding counted
  counted_more run j h e =
      let x = get_or run₀ j 0 in
      let shown : run ≡ take j run₀ ++ x ∷ behind run₀ n (suc j) =
      e ∙ ap (λ (l : List ℕ). l ++ behind run₀ n (suc j)) (take-suc run₀ j 0 (omega arith)) ∙ append_snoc (take j run₀) x (behind run₀ n (suc j)) in
      let long : length (take j run₀) ≡ j = length-take-le j run₀ (omega arith) in
      let here : get_or run j 0 ≡ x = ap (λ (l : List ℕ). get_or l j 0) shown ∙ get_or_at (take j run₀) x (behind run₀ n (suc j)) 0 j long in
      let after : get_or run (j + 1) 0 ≡ get_or (behind run₀ n (suc j)) 0 0 =
      ap (λ (l : List ℕ). get_or l (j + 1) 0) shown
      ∙ ap (λ (k : ℕ). get_or (take j run₀ ++ x ∷ behind run₀ n (suc j)) (k + 1) 0) (sym long)
      ∙ get_or-append-add (take j run₀) (x ∷ behind run₀ n (suc j)) 1 0 in
      let next : drop j (take n run₀) ≡ x ∷ drop (suc j) (take n run₀) =
      drop-cons (take n run₀) j 0 (omega (arith, length-take n run₀))
      ∙ ap (λ (y : ℕ). y ∷ drop (suc j) (take n run₀)) (get_or-take n run₀ j 0 h) in
      ap (λ (l : List ℕ). set l j (run_of (is_set (get_or run j 0)) (get_or run (j + 1) 0))) shown
      ∙ set_at (take j run₀) x (behind run₀ n (suc j)) (run_of (is_set (get_or run j 0)) (get_or run (j + 1) 0)) j long
      ∙ ap (λ (y : ℕ). take j run₀ ++ run_of (is_set y) (get_or run (j + 1) 0) ∷ behind run₀ n (suc j)) here
      ∙ ap (λ (y : ℕ). take j run₀ ++ run_of (is_set x) y ∷ behind run₀ n (suc j)) after
      ∙ ap (λ (l : List ℕ). take j run₀ ++ counted l (drop n run₀)) (sym next)
