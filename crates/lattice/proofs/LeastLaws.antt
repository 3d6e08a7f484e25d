-- The least of a list by any fair test of what goes before what, and that the test of costs is fair. Assumes nothing.
use mathlib.Core.Path.{◌≡◌, refl, sym, ◌∙◌}
use mathlib.Core.Bool.{Bool, true, false, cond}
use mathlib.Core.List.Memᴰ
use mathlib.Core.List.{List, [], ◌∷◌, Memᴰ}
use Rattle.std.proofs.Common.{Option, None, Some}
use Rattle.lattice.specs.Lattice.{against, least, cheaper}
use Rattle.lattice.proofs.OrderLaws.{ints}

module _ {A : Type 0} (before : A → A → Bool) where
  -- Nothing goes before itself, and both what goes before and what does not carry on.
  pub record Fair : Type 0 where
    pub same : (a : A) → before a a ≡ false
    pub trans : (a b c : A) → before a b ≡ true → before b c ≡ true → before a c ≡ true
    pub not_trans : (a b c : A) → before a b ≡ false → before b c ≡ false → before a c ≡ false

  -- The first of the least: it goes before all in front of it, and none behind it goes before it.
  pub data First (o : A) : List A → Type 0 where
    here : {x : A} {xs : List A} → o ≡ x → ((p : A) → Memᴰ p xs → before p o ≡ false) → First o (x ∷ xs)
    later : {x : A} {xs : List A} → before o x ≡ true → First o xs → First o (x ∷ xs)

  -- What `least` may be of a list: nothing of the empty one, the first of the least of another.
  abbrev pub Chosen : List A → Option A → Type 0
  Chosen xs None = xs ≡ []
  Chosen xs (Some o) = First o xs

  pub member : {o : A} {xs : List A} → First o xs → Memᴰ o xs
  member (here e h) = Memᴰ.head e
  member (later l f) = Memᴰ.tail (member f)

  module _ (fair : Fair) where
    one_way : (a b : A) → before a b ≡ true → before b a ≡ false
    one_way a b h = go (before b a) refl
      where
        go : (t : Bool) → before b a ≡ t → t ≡ false
        go true e = sym (fair.trans a b a h e) ∙ fair.same a
        go false e = refl

    -- nothing in the list goes before the first of the least
    pub low : {o p : A} {xs : List A} → First o xs → Memᴰ p xs → before p o ≡ false
    low {o} (here e h) (Memᴰ.head q) = rw (q, ← e) (fair.same o)
    low (here e h) (Memᴰ.tail m) = h _ m
    low {o} (later {x} l f) (Memᴰ.head q) = rw q (one_way o x l)
    low (later l f) (Memᴰ.tail m) = low f m

    pub chosen : (xs : List A) → Chosen xs (least before xs)
    unfolding least
    chosen [] = refl
    chosen (x ∷ xs) = step (least before xs) (chosen xs)
      where
        pick : (b : A) → First b xs → (t : Bool) → before b x ≡ t → First (cond t b x) (x ∷ xs)
        pick b f true e = later e f
        pick b f false e = here refl (λ p m. fair.not_trans p b x (low f m) e)

        step : (m : Option A) → Chosen xs m → First (against before x m) (x ∷ xs)
        step None e = here {xs = xs} refl (λ p m. absurd (Memᴰ.not-nil (rw e at m)))
        step (Some b) f = pick b f (before b x) refl

    -- What was found so far, against the next one and then the rest: a loop's step.
    pub against_against : (a b : A) (m : Option A)
        → against before a (Some (against before b m)) ≡ against before (against before a (Some b)) m
    against_against a b None = refl
    against_against a b (Some c) = go (before b a) (before c b) refl refl
      where
        go : (x y : Bool) → before b a ≡ x → before c b ≡ y → against before a (Some (cond y c b)) ≡ against before (cond x b a) (Some c)
        go true true p q = rw (q, fair.trans c b a q p)
        go true false p q = rw (p, q)
        go false true p q = refl
        go false false p q = rw (p, fair.not_trans c b a q p)

-- Costs are compared fairly.
pub cheaper_fair : Fair cheaper
cheaper_fair =
    record { same = λ a. omega ints; trans = λ a b c p q. omega ints; not_trans = λ a b c p q. omega ints }
