-- Rows that are written from their start: what stands in them, and how a store changes them. Over any element. Assumes nothing.
use Prim.Native.Nat.{ℕ, zero, suc, ◌+◌, ◌-◌, ◌≤◌, ◌<◌}
use mathlib.Core.Path.{◌≡◌, refl, sym, ap, ◌∙◌}
use mathlib.Core.List.{List, [], ◌∷◌, ◌++◌, map}
use native.Mathlib.Omega.{arith}
use native.Mathlib.Decide.{ℕ_discrete}
use lib.ListN.{length, get_or, set, drop, length-append, length-drop, length-set, get_or-append}
use lib.Seq.{set-append_left, set-append_seam, drop-cons, append_snoc, drop-append-add, drop-drop}
use Rattle.ground.specs.Rows.{over}
use Rattle.lattice.specs.Words.{up_from}

module _ {ℓ} {A : Type ℓ} where
  pub over_at : (new old : List A) (i : ℕ) (d : A) → i < length new → get_or (over new old) i d ≡ get_or new i d
  over_at new old i d h = get_or-append new (drop (length new) old) d i h

  -- a store in the written places
  pub over_set : (new old : List A) (i : ℕ) (a : A) → i < length new → set (over new old) i a ≡ over (set new i a) old
  over_set new old i a h =
      set-append_left new (drop (length new) old) i a h ∙ ap (λ (k : ℕ). set new i a ++ drop k old) (sym (length-set new i a))

  -- a store just behind them
  pub over_snoc : (new old : List A) (a : A) → length new < length old → set (over new old) (length new) a ≡ over (new ++ (a ∷ [])) old
  over_snoc new old a h =
      let rest = drop (suc (length new)) old in
      let k : length (new ++ (a ∷ [])) ≡ suc (length new) = length-append new (a ∷ []) ∙ omega arith in
      ap (λ (l : List A). set (new ++ l) (length new) a) (drop-cons old (length new) a h)
      ∙ set-append_seam new (get_or old (length new) a) rest a
      ∙ sym (append_snoc new a rest)
      ∙ ap (λ (m : ℕ). (new ++ (a ∷ [])) ++ drop m old) (sym k)

  -- of two writes the longer one is seen
  pub over_over : (new newer old : List A) → length new ≤ length newer → over newer (over new old) ≡ over newer old
  over_over new newer old h =
      let l = length new in
      let m = length newer in
      let q : l + (m - l) ≡ m = omega arith in
      ap (λ (k : ℕ). newer ++ drop k (new ++ drop l old)) (sym q)
      ∙ ap (λ (r : List A). newer ++ r) (drop-append-add new (drop l old) (m - l) ∙ drop-drop (m - l) l old ∙ ap (λ (k : ℕ). drop k old) q)

  -- a row that holds what is written has room for it, and holds it place by place
  pub held_room : (new row : List A) → row ≡ over new row → length new ≤ length row
  held_room new row e = omega (arith, ap length e ∙ length-append new (drop (length new) row), length-drop (length new) row)

  pub held_at : (new row : List A) (i : ℕ) (d : A) → row ≡ over new row → i < length new → get_or row i d ≡ get_or new i d
  held_at new row i d e h = ap (λ (r : List A). get_or r i d) e ∙ over_at new row i d h

-- ---- a row that is told place by place
module _ (f g : ℕ → ℕ) where
  -- the same from a place on
  pub table_same : (from many : ℕ) → ((q : ℕ) → from ≤ q → f q ≡ g q) → map f (up_from from many) ≡ map g (up_from from many)
  unfolding up_from
  table_same from zero h = refl
  table_same from (suc many) h = rw (h from (omega arith), table_same (suc from) many (λ q l. h q (omega arith)))

  -- the same but at one place, from a place on
  set_from : (from many p v : ℕ) → from ≤ p → p < from + many → ((q : ℕ) → (q ≡ p → ⊥) → f q ≡ g q) → f p ≡ v
      → map f (up_from from many) ≡ set (map g (up_from from many)) (p - from) v
  unfolding up_from
  set_from from zero p v l m h e = absurd (omega arith)
  set_from from (suc many) p v l m h e = go (ℕ_discrete from p) (set_from (suc from) many p v)
    where
      go : Dec (from ≡ p) → (suc from ≤ p → p < suc from + many → ((q : ℕ) → (q ≡ p → ⊥) → f q ≡ g q) → f p ≡ v
          → map f (up_from (suc from) many) ≡ set (map g (up_from (suc from) many)) (p - suc from) v)
          → f from ∷ map f (up_from (suc from) many) ≡ set (g from ∷ map g (up_from (suc from) many)) (p - from) v
      go (yes q) up =
          let z : p - from ≡ 0 = omega arith in
          rw (z, ap f q ∙ e, table_same (suc from) many (λ r k. h r (λ w. omega arith)))
      go (no q) up =
          let z : p - from ≡ suc (p - suc from) = omega arith in
          rw (z, h from q, up (omega arith) (omega arith) h e)

  -- the same but at one place
  pub table_set : (many p v : ℕ) → p < many → ((q : ℕ) → (q ≡ p → ⊥) → f q ≡ g q) → f p ≡ v
      → map f (up_from 0 many) ≡ set (map g (up_from 0 many)) p v
  table_set many p v l h e = let z : p - 0 ≡ p = omega arith in rw z at (set_from 0 many p v (omega arith) (omega arith) h e)
