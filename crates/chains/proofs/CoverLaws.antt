-- A path covers the text: the bytes of its words, one after the other, are the text's. Assumes that the lattice accepts what is given, and a row of
-- offsets that rise from 0 to the length of the text.
use Prim.Native.Nat.{ℕ, ◌≤◌}
use mathlib.Core.Path.{◌≡◌, sym, ap, ◌∙◌}
use mathlib.Core.List.{List, [], ◌∷◌, ◌++◌, reverse, reverse-cons, reverse-reverse, append_assoc, append-nil, flat_map}
use native.Mathlib.Omega.{arith}
use lib.ListN.{length, get_or, take, take-append-drop}
use lib.Seq.{slice, take-take, take_all}
use Rattle.lattice.specs.Words.{Word, Given, candidate}
use Rattle.lattice.specs.Accepted.{Accepted}
use Rattle.chains.specs.Chain.{Path}
use Rattle.chains.proofs.BackLaws.{Before, first, after, path_back}

-- one more at the end
flat_snoc : {A B : Type 0} (f : A → List B) (xs : List A) (x : A) → flat_map f (xs ++ (x ∷ [])) ≡ flat_map f xs ++ f x
unfolding flat_map
flat_snoc f [] x = append-nil (f x)
flat_snoc {A} {B} f (y ∷ xs) x = ap (λ (l : List B). f y ++ l) (flat_snoc f xs x) ∙ sym (append_assoc (f y) (flat_map f xs) (f x))

-- a first part, and the part from there on
take_slice : {A : Type 0} (a b : ℕ) (l : List A) → a ≤ b → take a l ++ slice a b l ≡ take b l
take_slice {A} a b l h = ap (λ (x : List A). x ++ slice a b l) (sym (take-take a b l h)) ∙ take-append-drop a (take b l)

module _ (n : ℕ) (g : Given) (ok : Accepted n g) (offset text : List ℕ) (rise : (i k : ℕ) → i ≤ k → k ≤ n → get_or offset i 0 ≤ get_or offset k 0) (start : get_or offset 0 0 ≡ 0) where
  -- The bytes of a candidate.
  abbrev pub bytes : ℕ → List ℕ
  bytes k = slice (get_or offset (candidate g k).start 0) (get_or offset (candidate g k).end 0) text

  -- those of the words before a word are the text up to where it starts
  before_bytes : {w : Word} {js : List ℕ} → Before g w js → flat_map bytes (reverse js) ≡ take (get_or offset w.start 0) text
  unfolding flat_map
  before_bytes {w} (first s) = rw (s, start)
  before_bytes {w} (after {k = k} {js = js} h e d) =
      rw reverse-cons (flat_snoc bytes (reverse js) k
      ∙ ap (λ (l : List ℕ). l ++ bytes k) (before_bytes d)
      ∙ take_slice (get_or offset (candidate g k).start 0) (get_or offset (candidate g k).end 0) text
      (rise (candidate g k).start (candidate g k).end (omega (arith, ok.forward k h)) (ok.inside k h))
      ∙ ap (λ (p : ℕ). take (get_or offset p 0) text) e)

  pub path_bytes : (ks : List ℕ) → Path n g ks → get_or offset n 0 ≡ length text → flat_map bytes ks ≡ text
  path_bytes ks p e =
      ap (flat_map bytes) (sym (reverse-reverse ks))
      ∙ before_bytes ((path_back g n ks).0 p)
      ∙ take_all (get_or offset n 0) text (omega arith)
