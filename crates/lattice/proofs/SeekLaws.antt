-- The first entry that ends where a word starts: its offer is the first, and what follows it is told by its next. Assumes nothing.
use Prim.Native.Nat.{ℕ, zero, suc, ◌+◌, ◌≤◌, ◌<◌}
use Rattle.std.proofs.Common.{Option, None, Some}
use Rattle.std.specs.Option.{option_or}
use mathlib.Core.Path.{◌≡◌, refl, ap, ◌∙◌}
use mathlib.Core.Bool.{Bool, true, false}
use mathlib.Core.List.{List, [], ◌∷◌}
use native.Mathlib.Omega.{arith}
use native.Mathlib.Nat.{add-zero}
use lib.ListN.{length, get_or, drop}
use lib.IntN.{ℤ}
use Rattle.ground.specs.Entry.{none_link}
use Rattle.lattice.specs.Words.{Word}
use Rattle.lattice.specs.Lattice.{LatticeEntry, entry_numbered, ends_at, offer, offers}
use Rattle.lattice.specs.Rows.{only_if, link_of, first_at, nexts_from}
use Rattle.lattice.proofs.OfferLaws.{Meets, ends_read}

module _ (joints : ℕ → ℕ → ℤ) (w : Word) where
  -- Of entries numbered from i on, number f is the first that ends where the word starts, so that its offer is the first.
  pub record Hit (i : ℕ) (es : List LatticeEntry) (f : ℕ) : Type 0 where
    pub place : ℕ
    pub inside : place < length es
    pub number : f ≡ i + place
    pub meets : Meets w es place
    pub more : offers joints w i es ≡ offer joints w f (entry_numbered es place) ∷ offers joints w (suc f) (drop (suc place) es)

  -- What a search may have found: such an entry, or none, and then there are no offers.
  abbrev pub Sought : ℕ → List LatticeEntry → Option ℕ → Type 0
  Sought i es None = offers joints w i es ≡ []
  Sought i es (Some f) = Hit i es f

  -- a head that ends there is the first
  here : (i : ℕ) (e : LatticeEntry) (es : List LatticeEntry) → ends_at w.start e ≡ true → Hit i (e ∷ es) i
  unfolding offers
  here i e es q = record { place = 0; inside = omega arith; number = omega arith; meets = q; more = rw q }

  -- behind a head that does not, what was found stays so
  later : (i : ℕ) (e : LatticeEntry) (es : List LatticeEntry) (m : Option ℕ) → ends_at w.start e ≡ false → Sought (suc i) es m → Sought i (e ∷ es) m
  unfolding offers
  later i e es None q s = rw q s
  later i e es (Some f) q h =
      record {
        place = suc h.place;
        inside = omega (arith, h.inside);
        number = omega (arith, h.number);
        meets = h.meets;
        more = rw q h.more;
      }

  -- `first_at` finds it.
  pub seek : (i : ℕ) (es : List LatticeEntry) → Sought i es (first_at w.start i es)
  unfolding first_at offers
  seek i [] = refl
  seek i (e ∷ es) = go (ends_at w.start e) refl (seek (suc i) es)
    where
      go : (t : Bool) → ends_at w.start e ≡ t → Sought (suc i) es (first_at w.start (suc i) es)
          → Sought i (e ∷ es) (option_or (only_if t i) (first_at w.start (suc i) es))
      go true q s = here i e es q
      go false q s = later i e es (first_at w.start (suc i) es) q s

  -- ---- as a link

  -- a link that is not none leads to the first
  pub hit : (i : ℕ) (es : List LatticeEntry) (f : ℕ) → f ≡ link_of (first_at w.start i es) → (f ≡ none_link → ⊥) → Hit i es f
  hit i es f q some-there = go (first_at w.start i es) (seek i es) q
    where
      go : (m : Option ℕ) → Sought i es m → f ≡ link_of m → Hit i es f
      go None s q = absurd (some-there q)
      go (Some g) s q = rw q s

  module _ (i : ℕ) (es : List LatticeEntry) (few : i + length es ≤ none_link) where
    -- where the link is none there are no offers, since no entry has that number
    pub dry : none_link ≡ link_of (first_at w.start i es) → offers joints w i es ≡ []
    dry q = go (first_at w.start i es) (seek i es) q
      where
        go : (m : Option ℕ) → Sought i es m → none_link ≡ link_of m → offers joints w i es ≡ []
        go None s q = s
        go (Some f) s q = absurd (omega (arith, s.inside, s.number))

    -- a link is not below where the search began, and not above none
    pub link_low : i ≤ link_of (first_at w.start i es)
    link_low = go (first_at w.start i es) (seek i es)
      where
        go : (m : Option ℕ) → Sought i es m → i ≤ link_of m
        go None s = omega arith
        go (Some f) s = omega (arith, s.number)

    pub link_high : link_of (first_at w.start i es) ≤ none_link
    link_high = go (first_at w.start i es) (seek i es)
      where
        go : (m : Option ℕ) → Sought i es m → link_of m ≤ none_link
        go None s = omega arith
        go (Some f) s = omega (arith, s.inside, s.number)

-- The next of an entry that ends at a position is the first of the later ones that end there.
pub next_at : (position i : ℕ) (es : List LatticeEntry) (j : ℕ) → j < length es → ends_at position (entry_numbered es j) ≡ true
    → get_or (nexts_from i es) j 0 ≡ link_of (first_at position (suc (i + j)) (drop (suc j) es))
unfolding nexts_from
next_at position i [] j h q = absurd (omega arith)
next_at position i (e ∷ es) zero h q = let (r, s) = ends_read position e q in rw (r, s, add-zero)
next_at position i (e ∷ es) (suc j) h q =
    let g : suc i + j ≡ i + suc j = omega arith in
    next_at position (suc i) es j (omega arith) q ∙ ap (λ (n : ℕ). link_of (first_at position (suc n) (drop (suc j) es))) g
