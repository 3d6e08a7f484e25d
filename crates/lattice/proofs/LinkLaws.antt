-- The first, the last and the next entries of a list, and of the list with one more at its end. Assumes nothing.
use Prim.Native.Nat.{ℕ, zero, suc, ◌+◌, ◌-◌, ◌≤◌, ◌<◌}
use Rattle.std.proofs.Common.{Option, None, Some}
use Rattle.std.specs.Option.{option_or}
use Rattle.std.proofs.lemmas.Option.{none-some, same_Some}
use mathlib.Core.Path.{◌≡◌, refl, sym, ap, ◌∙◌}
use mathlib.Core.Bool.{Bool, true, false, true≢false}
use mathlib.Core.List.{List, [], ◌∷◌, ◌++◌}
use native.Mathlib.Omega.{arith}
use native.Mathlib.Nat.{add-zero}
use native.Mathlib.Decide.{ℕ_discrete}
use lib.ListN.{length, set, drop}
use Rattle.ground.specs.Entry.{none_link}
use Rattle.lattice.specs.Lattice.{LatticeEntry, entry_numbered, ends_at}
use Rattle.lattice.specs.Rows.{only_if, link_of, first_at, last_at, next_of, nexts_from}
use Rattle.lattice.proofs.OfferLaws.{ends_read, ends_show, ends_not}

-- ---- one or another
none≢some : {A : Type 0} {x : A} → None ≡ Some x → ⊥
none≢some {A} {x} e = none-some x e

some≢none : {A : Type 0} {x : A} → Some x ≡ None → ⊥
some≢none {A} {x} e = none-some x (sym e)

else_none : {A : Type 0} (a : Option A) → option_or a None ≡ a
else_none None = refl
else_none (Some x) = refl

else_assoc : {A : Type 0} (a b c : Option A) → option_or (option_or a b) c ≡ option_or a (option_or b c)
else_assoc None b c = refl
else_assoc (Some x) b c = refl

-- ---- one more entry at the end
module _ (e : LatticeEntry) (position : ℕ) where
  -- it is the first, unless there was one
  pub first_snoc : (i : ℕ) (es : List LatticeEntry)
      → first_at position i (es ++ (e ∷ [])) ≡ option_or (first_at position i es) (only_if (ends_at position e) (i + length es))
  unfolding first_at
  first_snoc i [] = rw add-zero (else_none (only_if (ends_at position e) i))
  first_snoc i (f ∷ es) =
      let q : suc i + length es ≡ i + suc (length es) = omega arith in
      rw (first_snoc (suc i) es, q) (sym (else_assoc (only_if (ends_at position f) i) (first_at position (suc i) es) (only_if (ends_at position e) (i + suc (length es)))))

  -- it is the last, if it ends there
  pub last_snoc : (i : ℕ) (es : List LatticeEntry)
      → last_at position i (es ++ (e ∷ [])) ≡ option_or (only_if (ends_at position e) (i + length es)) (last_at position i es)
  unfolding last_at
  last_snoc i [] = rw add-zero (sym (else_none (only_if (ends_at position e) i)))
  last_snoc i (f ∷ es) =
      let q : suc i + length es ≡ i + suc (length es) = omega arith in
      rw (last_snoc (suc i) es, q) (else_assoc (only_if (ends_at position e) (i + suc (length es))) (last_at position (suc i) es) (only_if (ends_at position f) i))

  -- where it does not end, nothing changes
  pub first_past : (i : ℕ) (es : List LatticeEntry) → ends_at position e ≡ false → first_at position i (es ++ (e ∷ [])) ≡ first_at position i es
  first_past i es h = first_snoc i es ∙ rw h (else_none (first_at position i es))

  pub last_past : (i : ℕ) (es : List LatticeEntry) → ends_at position e ≡ false → last_at position i (es ++ (e ∷ [])) ≡ last_at position i es
  last_past i es h = last_snoc i es ∙ rw h

-- ---- the last one is one of them
pub record Listed (i : ℕ) (es : List LatticeEntry) (l : ℕ) : Type 0 where
  pub low : i ≤ l
  pub high : l < i + length es

further : {i : ℕ} {e : LatticeEntry} {es : List LatticeEntry} {l : ℕ} → Listed (suc i) es l → Listed i (e ∷ es) l
further h = record { low = omega (arith, h.low); high = omega (arith, h.high) }

pub last_listed : (position i : ℕ) (es : List LatticeEntry) (l : ℕ) → last_at position i es ≡ Some l → Listed i es l
unfolding last_at
last_listed position i [] l q = absurd (none≢some q)
last_listed position i (e ∷ es) l q = go (last_at position (suc i) es) (last_listed position (suc i) es l) q
  where
    here : (t : Bool) → only_if t i ≡ Some l → Listed i (e ∷ es) l
    here true r = let z : i ≡ l = same_Some i l r in record { low = omega arith; high = omega arith }
    here false r = absurd (none≢some r)

    go : (m : Option ℕ) → (m ≡ Some l → Listed (suc i) es l) → option_or m (only_if (ends_at position e) i) ≡ Some l → Listed i (e ∷ es) l
    go None up r = here (ends_at position e) r
    go (Some x) up r = further (up r)

-- the last one is the last behind any of them, or that one itself
pub last_at_lem : (position i : ℕ) (es : List LatticeEntry) (j : ℕ) → j < length es → ends_at position (entry_numbered es j) ≡ true
    → last_at position i es ≡ option_or (last_at position (suc (i + j)) (drop (suc j) es)) (Some (i + j))
unfolding last_at
last_at_lem position i [] j h q = absurd (omega arith)
last_at_lem position i (e ∷ es) zero h q = rw (q, add-zero)
last_at_lem position i (e ∷ es) (suc j) h q =
    let g : suc i + j ≡ i + suc j = omega arith in
    let own = only_if (ends_at position e) i in
    rw (last_at_lem position (suc i) es j (omega arith) q, g)
    (else_assoc (last_at position (suc (i + suc j)) (drop (suc j) es)) (Some (i + suc j)) own)

-- a first one is there exactly if a last one is
pub record Present (position i : ℕ) (es : List LatticeEntry) : Type 0 where
  pub neither : last_at position i es ≡ None → first_at position i es ≡ None
  pub either : (l : ℕ) → last_at position i es ≡ Some l → (f : ℕ) × (first_at position i es ≡ Some f)

pub present : (position i : ℕ) (es : List LatticeEntry) → Present position i es
unfolding first_at last_at
present position i [] = record { neither = λ q. refl; either = λ l q. absurd (none≢some q) }
present position i (e ∷ es) =
    let up = present position (suc i) es in
    record {
      neither = go (ends_at position e) (last_at position (suc i) es) up.neither;
      either = λ l q. there l (ends_at position e) (last_at position (suc i) es) up.either q;
    }
  where
    go : (t : Bool) (m : Option ℕ) → (m ≡ None → first_at position (suc i) es ≡ None) → option_or m (only_if t i) ≡ None
        → option_or (only_if t i) (first_at position (suc i) es) ≡ None
    go true None up q = absurd (some≢none q)
    go false None up q = up refl
    go t (Some x) up q = absurd (some≢none q)

    there : (l : ℕ) (t : Bool) (m : Option ℕ) → ((k : ℕ) → m ≡ Some k → (f : ℕ) × (first_at position (suc i) es ≡ Some f)) → option_or m (only_if t i) ≡ Some l
        → (f : ℕ) × (option_or (only_if t i) (first_at position (suc i) es) ≡ Some f)
    there l true m up q = (i, refl)
    there l false None up q = absurd (none≢some q)
    there l false (Some x) up q = up x refl

-- ---- next

-- the row of the next ones, where entry l, if there is one, gets x
abbrev pub relinked : ℕ → Option ℕ → ℕ → List ℕ → List ℕ
relinked i None x row = row
relinked i (Some l) x row = set row (l - i) x

-- An entry ends at one position only.
pub elsewhere : (position q : ℕ) (e : LatticeEntry) → (e.word.end ≡ position) → (q ≡ position → ⊥) → ends_at q e ≡ false
elsewhere position q e h n = ends_not q e (λ r. n (sym r ∙ h))

next_none : (t : Bool) → next_of t None ≡ None
next_none true = refl
next_none false = refl

module _ (e : LatticeEntry) where
  abbrev p : ℕ
  p = e.word.end

  -- the next of an entry f in front, with e at the end, which has number x
  abbrev after : LatticeEntry → ℕ → List LatticeEntry → ℕ
  after f i es = link_of (next_of f.reached (first_at f.word.end i es))

  -- it stays where e ends elsewhere or is not reached
  after_past : (f : LatticeEntry) (i : ℕ) (es : List LatticeEntry) → (f.reached ≡ true → ends_at f.word.end e ≡ false) → after f i (es ++ (e ∷ [])) ≡ after f i es
  after_past f i es h = go f.reached refl
    where
      go : (t : Bool) → f.reached ≡ t → link_of (next_of t (first_at f.word.end i (es ++ (e ∷ [])))) ≡ link_of (next_of t (first_at f.word.end i es))
      go true r = ap link_of (first_past e f.word.end i es (h r))
      go false r = refl

  -- it stays where a higher one ends at e's position already
  after_kept : (f : LatticeEntry) (i l : ℕ) (es : List LatticeEntry) → last_at p i es ≡ Some l → after f i (es ++ (e ∷ [])) ≡ after f i es
  after_kept f i l es h = go (ℕ_discrete f.word.end p)
    where
      go : Dec (f.word.end ≡ p) → after f i (es ++ (e ∷ [])) ≡ after f i es
      go (yes q) =
          let (k, there) = (present p i es).either l h in
          let same : first_at f.word.end i (es ++ (e ∷ [])) ≡ first_at f.word.end i es = rw q (first_snoc e p i es ∙ rw there) in
          ap (λ (m : Option ℕ). link_of (next_of f.reached m)) same
      go (no q) = after_past f i es (λ _. elsewhere p f.word.end e refl q)

  -- e becomes the next of the last one that ends where it does, if it is reached; it has no next itself
  pub nexts_snoc : (i : ℕ) (es : List LatticeEntry)
      → nexts_from i (es ++ (e ∷ [])) ≡ relinked i (next_of e.reached (last_at p i es)) (i + length es) (nexts_from i es) ++ (none_link ∷ [])
  unfolding nexts_from first_at last_at
  nexts_snoc i [] = rw (next_none e.reached)
  nexts_snoc i (f ∷ es) =
      let q : suc i + length es ≡ i + suc (length es) = omega arith in
      rw (nexts_snoc (suc i) es, q) (go e.reached (last_at p (suc i) es) (ends_at p f) refl refl refl)
    where
      unmoved : e.reached ≡ false → after f (suc i) (es ++ (e ∷ [])) ≡ after f (suc i) es
      unmoved r = after_past f (suc i) es (λ _. rw r)

      apart : ends_at p f ≡ false → after f (suc i) (es ++ (e ∷ [])) ≡ after f (suc i) es
      apart t = after_past f (suc i) es (λ r. elsewhere p f.word.end e refl (λ q. true≢false (sym (ends_show p f r q) ∙ t)))

      -- f is the last so far: e is its next
      joined : e.reached ≡ true → last_at p (suc i) es ≡ None → ends_at p f ≡ true → after f (suc i) (es ++ (e ∷ [])) ≡ i + suc (length es)
      joined r m t =
          let (fr, fe) = ends_read p f t in
          let last : first_at p (suc i) (es ++ (e ∷ [])) ≡ Some (suc i + length es) =
          first_snoc e p (suc i) es ∙ rw ((present p (suc i) es).neither m, ends_show p e r refl) in
          rw (fr, fe, last) (omega arith)

      go : (r : Bool) (m : Option ℕ) (t : Bool) → e.reached ≡ r → last_at p (suc i) es ≡ m → ends_at p f ≡ t
          → after f (suc i) (es ++ (e ∷ [])) ∷ relinked (suc i) (next_of r m) (i + suc (length es)) (nexts_from (suc i) es) ++ (none_link ∷ [])
          ≡ relinked i (next_of r (option_or m (only_if t i))) (i + suc (length es)) (after f (suc i) es ∷ nexts_from (suc i) es) ++ (none_link ∷ [])
      go false m t r k h = rw (unmoved r)
      go true None true r k h = let z : i - i ≡ 0 = omega arith in rw (z, joined r k h)
      go true None false r k h = rw (apart h)
      go true (Some l) t r k h =
          let z : l - i ≡ suc (l - suc i) = omega (arith, (last_listed p (suc i) es l k).low) in
          rw (z, after_kept f (suc i) l es k)
