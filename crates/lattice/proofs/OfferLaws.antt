-- What the entries offer a word: which entry each offer comes from, and what the least of them says of the entry that the word gets. Assumes
-- nothing.
use Prim.Native.Nat.{ℕ, zero, suc, ◌+◌, ◌≤◌, ◌<◌}
use mathlib.Core.Path.{◌≡◌, refl, sym, ap, ◌∙◌}
use mathlib.Core.Bool.{Bool, true, false, true≢false, ◌&&◌}
use mathlib.Core.List.Memᴰ
use mathlib.Core.List.{List, [], ◌∷◌, ◌++◌, append-nil, Memᴰ}
use Rattle.std.proofs.Common.{Option, None, Some}
use native.Mathlib.Omega.{arith}
use native.Mathlib.Nat.{add-zero}
use lib.ListN.{length}
use lib.Seq.{get_or-append-add}
use lib.IntN.{ℤ, ◌+ℤ◌}
use lib.Signed.{◌≤ℤ◌, ◌<ℤ◌}
use lib.Dec.{eqb}
use borrow.Author.Tests.{eqb-true, eq-eqb}
use Rattle.lattice.specs.Words.{Word}
use Rattle.lattice.specs.Lattice.{LatticeEntry, mark, unreached, entry_numbered, ends_at, via, offer, keep, offers, cheaper, entry_by}
use Rattle.lattice.specs.declared.relaxation.Offer.{Offer}
use Rattle.lattice.proofs.OrderLaws.{ints, +ℤ-mono, +ℤ-mono<}
use Rattle.lattice.proofs.LeastLaws.{First, here, later, Chosen, member, low, cheaper_fair}

-- ---- the test of an entry

-- both of two tests hold
both : (a b : Bool) → (a && b) ≡ true → (a ≡ true) × (b ≡ true)
both true b e = (refl, e)
both false b e = absurd (true≢false (sym e))

-- an entry that passes it is reached and ends at the position
pub ends_read : (position : ℕ) (e : LatticeEntry) → ends_at position e ≡ true → (e.reached ≡ true) × (e.word.end ≡ position)
ends_read position e t = let (r, s) = both e.reached (eqb e.word.end position) t in (r, eqb-true _ _ s)

-- one that is reached and ends at the position passes it
pub ends_show : (position : ℕ) (e : LatticeEntry) → e.reached ≡ true → e.word.end ≡ position → ends_at position e ≡ true
ends_show position e r s = rw (r, eq-eqb _ _ s)

-- one that ends elsewhere does not
pub ends_not : (position : ℕ) (e : LatticeEntry) → (e.word.end ≡ position → ⊥) → ends_at position e ≡ false
ends_not position e h = go (ends_at position e) refl
  where
    go : (t : Bool) → ends_at position e ≡ t → t ≡ false
    go true t = absurd (h (ends_read position e t).1)
    go false t = refl

-- ---- the offers

-- Entry i can offer a word something: it is reached and ends where the word starts.
abbrev pub Meets : Word → List LatticeEntry → ℕ → Type 0
Meets w es i = ends_at w.start (entry_numbered es i) ≡ true

-- one kept in front, with more behind
keep_append : {A : Type 0} (t : Bool) (x : A) (xs ys : List A) → keep t x (xs ++ ys) ≡ keep t x xs ++ ys
keep_append true x xs ys = refl
keep_append false x xs ys = refl

-- only an entry of the list can
pub meets_listed : (w : Word) (es : List LatticeEntry) (i : ℕ) → Meets w es i → i < length es
meets_listed w [] i m = absurd (true≢false (sym m))
meets_listed w (e ∷ es) zero m = omega arith
meets_listed w (e ∷ es) (suc i) m = let h = meets_listed w es i m in omega arith

-- an offer that is not beaten costs no more
not_cheaper : (o p : Offer) → cheaper p o ≡ false → o.cost ≤ℤ p.cost
not_cheaper o p h = omega ints

module _ (joints : ℕ → ℕ → ℤ) (w : Word) where
  -- what some entries offer, then what the others do
  pub offers_append : (i : ℕ) (xs ys : List LatticeEntry) → offers joints w i (xs ++ ys) ≡ offers joints w i xs ++ offers joints w (i + length xs) ys
  unfolding offers
  offers_append i [] ys = rw add-zero
  offers_append i (x ∷ xs) ys =
      let q : i + suc (length xs) ≡ suc i + length xs = omega arith in
      rw (q, offers_append (suc i) xs ys)
      (keep_append (ends_at w.start x) (offer joints w i x) (offers joints w (suc i) xs) (offers joints w (suc i + length xs) ys))

  -- entries none of which ends where the word starts offer nothing
  pub silent : (i : ℕ) (es : List LatticeEntry) → ((j : ℕ) → ends_at w.start (entry_numbered es j) ≡ false) → offers joints w i es ≡ []
  unfolding offers
  silent i [] h = refl
  silent i (e ∷ es) h = rw (h 0) (silent (suc i) es (λ j. h (suc j)))

  -- and so, at the end of a list, they add nothing
  pub silent_after : (i : ℕ) (xs ys : List LatticeEntry) → ((j : ℕ) → length xs ≤ j → ends_at w.start (entry_numbered (xs ++ ys) j) ≡ false)
      → offers joints w i (xs ++ ys) ≡ offers joints w i xs
  silent_after i xs ys h =
      let none-there : (j : ℕ) → ends_at w.start (entry_numbered ys j) ≡ false =
      λ j. rw (get_or-append-add xs ys j (unreached (mark 0))) at (h (length xs + j) (omega arith)) in
      rw (offers_append, silent (i + length xs) ys none-there) (append-nil (offers joints w i xs))

  -- an entry that ends where the word starts makes its offer
  pub offered : (a : ℕ) (es : List LatticeEntry) (i : ℕ) → Meets w es i → Memᴰ (offer joints w (a + i) (entry_numbered es i)) (offers joints w a es)
  unfolding offers
  offered a [] i m = absurd (true≢false (sym m))
  offered a (e ∷ es) zero m = rw (m, add-zero) (Memᴰ.head refl)
  offered a (e ∷ es) (suc i) m =
      go (ends_at w.start e) (Memᴰ.cast (ap (λ (n : ℕ). offer joints w n (entry_numbered es i)) (omega arith)) (offered (suc a) es i m))
    where
      go : {o : Offer} (t : Bool) → Memᴰ o (offers joints w (suc a) es) → Memᴰ o (keep t (offer joints w a e) (offers joints w (suc a) es))
      go true m = Memᴰ.tail m
      go false m = m

  -- ---- the offer taken

  -- An offer comes from an entry that ends where the word starts, and of such entries those below it cost more.
  pub record Best (a : ℕ) (es : List LatticeEntry) (o : Offer) : Type 0 where
    pub at : ℕ
    pub number : o.from ≡ a + at
    pub meets : Meets w es at
    pub cost : o.cost ≡ via joints w (entry_numbered es at)
    pub first : (i : ℕ) → i < at → Meets w es i → o.cost <ℤ via joints w (entry_numbered es i)

  -- the first of the least offers is such
  pub best : (a : ℕ) (es : List LatticeEntry) (o : Offer) → First cheaper o (offers joints w a es) → Best a es o
  unfolding offers
  best a [] o f = absurd (Memᴰ.not-nil (member cheaper f))
  best a (e ∷ es) o f = go (ends_at w.start e) refl f (best (suc a) es o)
    where
      further : (ends_at w.start e ≡ true → o.cost <ℤ via joints w e) → Best (suc a) es o → Best a (e ∷ es) o
      further l b =
          record { at = suc b.at; number = omega (arith, b.number); meets = b.meets; cost = b.cost; first = firsts }
        where
          firsts : (i : ℕ) → i < suc b.at → Meets w (e ∷ es) i → o.cost <ℤ via joints w (entry_numbered (e ∷ es) i)
          firsts zero h m = l m
          firsts (suc i) h m = b.first i (omega arith) m

      go : (t : Bool) → ends_at w.start e ≡ t → First cheaper o (keep t (offer joints w a e) (offers joints w (suc a) es))
          → (First cheaper o (offers joints w (suc a) es) → Best (suc a) es o) → Best a (e ∷ es) o
      go true t (here q h) up =
          record { at = 0; number = rw (q, add-zero); meets = t; cost = rw q; first = λ i h m. absurd (omega arith) }
      go true t (later l f) up = further (λ _. omega ints) (up f)
      go false t f up = further (λ z. absurd (true≢false (sym z ∙ t))) (up f)

  -- ---- the entry that the word gets

  -- What its left and its cost say, if it is reached.
  pub record Settled (es : List LatticeEntry) (e : LatticeEntry) : Type 0 where
    pub meets : Meets w es e.left
    pub cost : e.cost ≡ via joints w (entry_numbered es e.left) +ℤ w.own_cost
    pub low : (i : ℕ) → Meets w es i → e.cost ≤ℤ (via joints w (entry_numbered es i) +ℤ w.own_cost)
    pub first : (i : ℕ) → i < e.left → Meets w es i → e.cost <ℤ (via joints w (entry_numbered es i) +ℤ w.own_cost)

  -- by the first of the least offers it is so
  pub settled : (es : List LatticeEntry) (m : Option Offer) → Chosen cheaper (offers joints w 0 es) m → (entry_by w m).reached ≡ true → Settled es (entry_by w m)
  settled es None c r = absurd (true≢false (sym r))
  settled es (Some o) f r =
      let b = best 0 es o f in
      let at : o.from ≡ b.at = omega (arith, b.number) in
      record {
        meets = rw at b.meets;
        cost = rw at (ap (λ (c : ℤ). c +ℤ w.own_cost) b.cost);
        low = λ i m. +ℤ-mono w.own_cost (not_cheaper o (offer joints w i (entry_numbered es i)) (low cheaper cheaper_fair f (offered 0 es i m)));
        first = λ i h m. +ℤ-mono< w.own_cost (b.first i (omega arith) m);
      }

  -- It is reached if some entry can offer the word something.
  pub reachable : (es : List LatticeEntry) (m : Option Offer) → Chosen cheaper (offers joints w 0 es) m → (i : ℕ) → Meets w es i → (entry_by w m).reached ≡ true
  reachable es None e i m = absurd (Memᴰ.not-nil (rw e at (offered 0 es i m)))
  reachable es (Some o) f i m = refl
