-- How the lattice grows: its length, that it grows at its end only, and whose word each entry holds. Assumes nothing.
use Prim.Native.Nat.{ℕ, zero, suc, ◌+◌, ◌-◌, ◌≤◌, ◌<◌}
use mathlib.Core.Path.{◌≡◌, refl, sym, ap, ◌∙◌}
use mathlib.Core.List.{List, [], ◌∷◌, ◌++◌, map, map-append, append-nil, append_assoc}
use Rattle.std.proofs.Common.{Option, None, Some}
use native.Mathlib.Omega.{arith}
use native.Mathlib.Nat.{add-zero, zero-add, add-suc}
use lib.ListN.{length, get_or, length-append, length-map, get_or-append}
use lib.Seq.{get_or_at}
use lib.IntN.{ℤ}
use Rattle.lattice.specs.Words.{Word, Given, count, candidate, up_from, candidates_to}
use Rattle.lattice.specs.Lattice.{LatticeEntry, mark, start_mark, unreached, entry_numbered, taken, entry_by, one_more, grow, joints_of, entries_to, lattice}
use Rattle.lattice.specs.declared.relaxation.Offer.{Offer}

-- ---- numbers counted up

-- as many as asked
pub up_length : (from many : ℕ) → length (up_from from many) ≡ many
unfolding up_from
up_length from zero = refl
up_length from (suc many) = ap suc (up_length (suc from) many)

-- number i of them is i further
pub up_at : (from many i : ℕ) → i < many → get_or (up_from from many) i 0 ≡ from + i
unfolding up_from
up_at from zero i h = absurd (omega arith)
up_at from (suc many) zero h = omega arith
up_at from (suc many) (suc i) h = up_at (suc from) many i (omega arith) ∙ omega arith

-- one more stands at the end
pub up_snoc : (from many : ℕ) → up_from from (suc many) ≡ up_from from many ++ ((from + many) ∷ [])
unfolding up_from
up_snoc from zero = rw add-zero
up_snoc from (suc many) =
    let e : suc from + many ≡ from + suc many = omega arith in
    ap (λ (l : List ℕ). from ∷ l) (up_snoc (suc from) many ∙ rw e)

-- what is mapped over a list, at a place of the list
pub map_at : {A B : Type 0} (f : A → B) (l : List A) (i : ℕ) (a : A) (b : B) → i < length l → get_or (map f l) i b ≡ f (get_or l i a)
map_at f [] i a b h = absurd (omega arith)
map_at f (x ∷ xs) zero a b h = refl
map_at f (x ∷ xs) (suc i) a b h = map_at f xs i a b (omega arith)

-- ---- the candidates

module _ (g : Given) where
  -- the first k are k
  pub candidates_length : (k : ℕ) → length (candidates_to g k) ≡ k
  unfolding candidates_to
  candidates_length k = length-map (up_from 0 k) (candidate g) ∙ up_length 0 k

  -- one more is candidate k
  pub candidates_suc : (k : ℕ) → candidates_to g (suc k) ≡ candidates_to g k ++ (candidate g k ∷ [])
  unfolding candidates_to
  candidates_suc k =
      ap (map (candidate g)) (up_snoc 0 k) ∙ map-append (candidate g) (up_from 0 k) ((0 + k) ∷ []) ∙ rw zero-add

-- ---- growing

module _ (joints : ℕ → ℕ → ℤ) where
  -- an entry for each word
  pub grow_length : (es : List LatticeEntry) (ws : List Word) → length (grow joints es ws) ≡ length es + length ws
  unfolding grow
  grow_length es [] = omega arith
  grow_length es (w ∷ ws) = grow_length (one_more joints es w) ws ∙ simp length-append (omega arith)

  -- some words, then the others
  pub grow_append : (es : List LatticeEntry) (xs ys : List Word) → grow joints es (xs ++ ys) ≡ grow joints (grow joints es xs) ys
  unfolding grow
  grow_append es [] ys = refl
  grow_append es (w ∷ xs) ys = grow_append (one_more joints es w) xs ys

  -- one more word at the end
  pub grow_snoc : (es : List LatticeEntry) (ws : List Word) (w : Word) → grow joints es (ws ++ (w ∷ [])) ≡ one_more joints (grow joints es ws) w
  unfolding grow
  grow_snoc es ws w = grow_append es ws (w ∷ [])

-- An entry's word is the one it was made for.
pub entry_by_word : (w : Word) (m : Option Offer) → (entry_by w m).word ≡ w
entry_by_word w None = refl
entry_by_word w (Some o) = refl

-- ---- the entries

-- The word of entry i: the start mark's, or a candidate.
abbrev pub word_numbered : Given → ℕ → Word
word_numbered g zero = mark 0
word_numbered g (suc k) = candidate g k

-- A list of entries begins with another.
abbrev pub Begins : List LatticeEntry → List LatticeEntry → Type 0
Begins whole es = (rest : List LatticeEntry) × (whole ≡ es ++ rest)

-- then the entries of that other stand in it at their places
kept : (i : ℕ) (whole es : List LatticeEntry) → i < length es → Begins whole es → entry_numbered whole i ≡ entry_numbered es i
kept i whole es h (rest, e) = ap (λ (l : List LatticeEntry). entry_numbered l i) e ∙ get_or-append es rest (unreached (mark 0)) i h

-- and one more at its end changes nothing of that
begins_more : (whole es last : List LatticeEntry) → Begins whole es → Begins (whole ++ last) es
begins_more whole es last (rest, e) = (rest ++ last, ap (λ (l : List LatticeEntry). l ++ last) e ∙ append_assoc es rest last)

module _ (g : Given) where
  -- the entry that candidate k gets
  abbrev pub entry_for : ℕ → LatticeEntry
  entry_for k = entry_by (candidate g k) (taken (joints_of g) (entries_to g k) (candidate g k))

  -- one more entry is candidate k's
  pub entries_suc : (k : ℕ) → entries_to g (suc k) ≡ one_more (joints_of g) (entries_to g k) (candidate g k)
  entries_suc k =
      ap (grow (joints_of g) (start_mark ∷ [])) (candidates_suc g k) ∙ grow_snoc (joints_of g) (start_mark ∷ []) (candidates_to g k) (candidate g k)

  -- the start mark and k candidates
  pub entries_length : (k : ℕ) → length (entries_to g k) ≡ suc k
  entries_length k = grow_length (joints_of g) (start_mark ∷ []) (candidates_to g k) ∙ rw candidates_length (omega arith)

  -- the entries of more candidates begin with those of fewer
  pub entries_more : (k more : ℕ) → Begins (entries_to g (k + more)) (entries_to g k)
  entries_more k zero = ([], rw add-zero (sym (append-nil (entries_to g k))))
  entries_more k (suc more) =
      rw (add-suc, entries_suc) (begins_more (entries_to g (k + more)) (entries_to g k) (entry_for (k + more) ∷ []) (entries_more k more))

  -- an entry keeps its place as more are added
  pub entries_kept : (i k m : ℕ) → i < suc k → k ≤ m → entry_numbered (entries_to g m) i ≡ entry_numbered (entries_to g k) i
  entries_kept i k m h l =
      let q : m ≡ k + (m - k) = omega arith in
      rw q (kept i (entries_to g (k + (m - k))) (entries_to g k) (rw entries_length h) (entries_more k (m - k)))

  -- entry 0 is the start mark
  pub entries_start : (k : ℕ) → entry_numbered (entries_to g k) 0 ≡ start_mark
  unfolding grow candidates_to
  entries_start k = entries_kept 0 0 k (omega arith) (omega arith)

  -- entry k + 1 is what candidate k gets
  pub entries_last : (k : ℕ) → entry_numbered (entries_to g (suc k)) (suc k) ≡ entry_for k
  entries_last k = rw entries_suc (get_or_at (entries_to g k) (entry_for k) [] (unreached (mark 0)) (suc k) (entries_length k))

  -- entry 0 holds the start mark's word, entry k + 1 candidate k
  pub entry_word : (i k : ℕ) → i < suc k → (entry_numbered (entries_to g k) i).word ≡ word_numbered g i
  entry_word zero k h = rw (entries_start k)
  entry_word (suc i) k h =
      rw (entries_kept (suc i) (suc i) k (omega arith) (omega arith), entries_last i)
      (entry_by_word (candidate g i) (taken (joints_of g) (entries_to g i) (candidate g i)))

  -- ---- with the end mark
  module _ (n : ℕ) where
    -- the end mark stands last
    pub lattice_end : lattice n g ≡ one_more (joints_of g) (entries_to g (count g)) (mark n)
    unfolding lattice
    lattice_end = grow_snoc (joints_of g) (start_mark ∷ []) (candidates_to g (count g)) (mark n)

    -- both marks and the candidates
    pub lattice_length : length (lattice n g) ≡ suc (suc (count g))
    lattice_length = rw (lattice_end, length-append, entries_length) (omega arith)

    -- the lattice begins with the entries of any number of candidates
    pub lattice_more : (k : ℕ) → k ≤ count g → Begins (lattice n g) (entries_to g k)
    lattice_more k h =
        let q : k + (count g - k) ≡ count g = omega arith in
        rw lattice_end (begins_more (entries_to g (count g)) (entries_to g k) _ (rw q at (entries_more k (count g - k))))

    -- an entry keeps its place in the whole lattice
    pub lattice_kept : (i k : ℕ) → i < suc k → k ≤ count g → entry_numbered (lattice n g) i ≡ entry_numbered (entries_to g k) i
    lattice_kept i k h l = kept i (lattice n g) (entries_to g k) (rw entries_length h) (lattice_more k l)

    -- entry c + 1 is what the end mark gets
    pub lattice_last : entry_numbered (lattice n g) (suc (count g)) ≡ entry_by (mark n) (taken (joints_of g) (entries_to g (count g)) (mark n))
    lattice_last = rw lattice_end (get_or_at (entries_to g (count g)) _ [] (unreached (mark 0)) (suc (count g)) (entries_length (count g)))

    -- the words: of the start mark and the candidates, and of the end mark
    pub lattice_word : (i : ℕ) → i < suc (count g) → (entry_numbered (lattice n g) i).word ≡ word_numbered g i
    lattice_word i h = rw (lattice_kept i (count g) h (omega arith)) (entry_word i (count g) h)

    pub lattice_end_word : (entry_numbered (lattice n g) (suc (count g))).word ≡ mark n
    lattice_end_word = rw lattice_last (entry_by_word (mark n) (taken (joints_of g) (entries_to g (count g)) (mark n)))
