-- Rows that hold a list of entries hold, after one more is written, the list with it at its end. Assumes nothing.
use Prim.Native.Nat.{ℕ, zero, suc, ◌-◌, ◌≤◌, ◌<◌}
use Rattle.std.proofs.Common.{Option, None, Some}
use mathlib.Core.Path.{◌≡◌, refl, sym, ap, ◌∙◌}
use mathlib.Core.Bool.{Bool, true, false, cond}
use mathlib.Core.List.{List, [], ◌∷◌, ◌++◌, map, map-append}
use native.Mathlib.Omega.{arith}
use native.Mathlib.Decide.{ℕ_discrete}
use native.Mathlib.Nat.{zero-add}
use lib.ListN.{length, get_or, set, replicate, length-map, length-append}
use lib.Seq.{set-append_left, set-set}
use Rattle.std.proofs.lemmas.List.{set-get_or}
use lib.IntN.{pos}
use lib.Dec.{eqb}
use borrow.Author.Tests.{eqb-true, eq-eqb, ne_eqb}
use Rattle.ground.specs.Entry.{none_link}
use Rattle.ground.specs.Rows.{over}
use Rattle.ground.proofs.RowLaws.{over_length}
use Rattle.lattice.specs.Words.{Word, up_from}
use Rattle.lattice.specs.Lattice.{LatticeEntry, start_mark, ends_at, entry_by}
use Rattle.lattice.specs.Rows.{link_of, first_at, last_at, firsts, lasts, lefts, costs, nexts_from, nexts, LatticeRows, rows, Filled, Room}
use Rattle.lattice.specs.Inner.{linked, before_of, entered}
use Rattle.lattice.specs.declared.relaxation.Offer.{Offer}
use Rattle.lattice.proofs.LatticeLaws.{up_length}
use Rattle.lattice.proofs.OfferLaws.{ends_show}
use Rattle.lattice.proofs.RowRules.{lasts_at}
use Rattle.lattice.proofs.OverLaws.{over_at, over_set, over_snoc, over_over, table_same, table_set}
use Rattle.lattice.proofs.LinkLaws.{first_snoc, last_snoc, first_past, last_past, last_listed, present, relinked, elsewhere, nexts_snoc}

-- ---- lengths
pub firsts_length : (n : ℕ) (es : List LatticeEntry) → length (firsts n es) ≡ suc n
unfolding firsts
firsts_length n es = length-map (up_from 0 (suc n)) (λ (position : ℕ). link_of (first_at position 0 es)) ∙ up_length 0 (suc n)

pub lasts_length : (n : ℕ) (es : List LatticeEntry) → length (lasts n es) ≡ suc n
unfolding lasts
lasts_length n es = length-map (up_from 0 (suc n)) (λ (position : ℕ). link_of (last_at position 0 es)) ∙ up_length 0 (suc n)

pub lefts_length : (es : List LatticeEntry) → length (lefts es) ≡ length es
unfolding lefts
lefts_length es = length-map es (λ (e : LatticeEntry). e.left)

pub costs_length : (es : List LatticeEntry) → length (costs es) ≡ length es
unfolding costs
costs_length es = length-map es (λ (e : LatticeEntry). e.cost)

pub nexts_length : (i : ℕ) (es : List LatticeEntry) → length (nexts_from i es) ≡ length es
unfolding nexts_from
nexts_length i [] = refl
nexts_length i (e ∷ es) = ap suc (nexts_length (suc i) es)

-- ---- the columns of one more entry

lefts_snoc : (es : List LatticeEntry) (e : LatticeEntry) → lefts (es ++ (e ∷ [])) ≡ lefts es ++ (e.left ∷ [])
unfolding lefts
lefts_snoc es e = map-append (λ (e : LatticeEntry). e.left) es (e ∷ [])

costs_snoc : (es : List LatticeEntry) (e : LatticeEntry) → costs (es ++ (e ∷ [])) ≡ costs es ++ (e.cost ∷ [])
unfolding costs
costs_snoc es e = map-append (λ (e : LatticeEntry). e.cost) es (e ∷ [])

-- a column gets its next element by a store just behind the written places
column {ℓ} : {A : Type ℓ} (new old row : List A) (a : A) (x : ℕ) → row ≡ over new old → length new ≡ x → x < length old
    → set row x a ≡ over (new ++ (a ∷ [])) old
column new old row a x e l h =
    ap (λ (r : List _). set r x a) e
    ∙ ap (λ (k : ℕ). set (over new old) k a) (sym l)
    ∙ over_snoc new old a (omega arith)

module _ (n : ℕ) (es : List LatticeEntry) (e : LatticeEntry) where
  abbrev more : List LatticeEntry
  more = es ++ (e ∷ [])

  abbrev p : ℕ
  p = e.word.end

  abbrev x : ℕ
  x = length es

  -- ---- an entry that is not reached
  firsts_unreached : e.reached ≡ false → firsts n more ≡ firsts n es
  unfolding firsts
  firsts_unreached r =
      table_same (λ (q : ℕ). link_of (first_at q 0 more)) (λ (q : ℕ). link_of (first_at q 0 es)) 0 (suc n)
      (λ q l. ap link_of (first_past e q 0 es (rw r)))

  lasts_unreached : e.reached ≡ false → lasts n more ≡ lasts n es
  unfolding lasts
  lasts_unreached r =
      table_same (λ (q : ℕ). link_of (last_at q 0 more)) (λ (q : ℕ). link_of (last_at q 0 es)) 0 (suc n)
      (λ q l. ap link_of (last_past e q 0 es (rw r)))

  nexts_unreached : e.reached ≡ false → nexts more ≡ nexts es ++ (none_link ∷ [])
  nexts_unreached r = nexts_snoc e 0 es ∙ rw r

  -- ---- an entry that is reached
  module _ (r : e.reached ≡ true) (inside : p ≤ n) where
    ends : ends_at p e ≡ true
    ends = ends_show p e r refl

    -- elsewhere nothing changes
    abbrev Past : (ℕ → List LatticeEntry → Option ℕ) → Type 0
    Past at = (q : ℕ) → (q ≡ p → ⊥) → link_of (at q more) ≡ link_of (at q es)

    first_elsewhere : Past (λ (q : ℕ) (l : List LatticeEntry). first_at q 0 l)
    first_elsewhere q z = ap link_of (first_past e q 0 es (elsewhere p q e refl z))

    last_elsewhere : Past (λ (q : ℕ) (l : List LatticeEntry). last_at q 0 l)
    last_elsewhere q z = ap link_of (last_past e q 0 es (elsewhere p q e refl z))

    -- the first stays, where one ended there
    firsts_kept : (l : ℕ) → last_at p 0 es ≡ Some l → firsts n more ≡ firsts n es
    unfolding firsts
    firsts_kept l h =
        table_same (λ (q : ℕ). link_of (first_at q 0 more)) (λ (q : ℕ). link_of (first_at q 0 es)) 0 (suc n)
        (λ q _. go q (ℕ_discrete q p))
      where
        here : first_at p 0 more ≡ first_at p 0 es
        here = let (f, there) = (present p 0 es).either l h in first_snoc e p 0 es ∙ rw there

        go : (q : ℕ) → Dec (q ≡ p) → link_of (first_at q 0 more) ≡ link_of (first_at q 0 es)
        go q (yes z) = rw z (ap link_of here)
        go q (no z) = first_elsewhere q z

    -- it is the first, where none did
    firsts_new : last_at p 0 es ≡ None → firsts n more ≡ set (firsts n es) p x
    unfolding firsts
    firsts_new h =
        table_set (λ (q : ℕ). link_of (first_at q 0 more)) (λ (q : ℕ). link_of (first_at q 0 es)) (suc n) p x (omega arith)
        first_elsewhere
        (ap link_of (first_snoc e p 0 es) ∙ rw ((present p 0 es).neither h, ends) (zero-add x))

    -- it is the last
    lasts_new : lasts n more ≡ set (lasts n es) p x
    unfolding lasts
    lasts_new =
        table_set (λ (q : ℕ). link_of (last_at q 0 more)) (λ (q : ℕ). link_of (last_at q 0 es)) (suc n) p x (omega arith)
        last_elsewhere
        (ap link_of (last_snoc e p 0 es) ∙ rw ends (zero-add x))

    -- it is the next of the last so far, if there is one
    nexts_reached : nexts more ≡ relinked 0 (last_at p 0 es) x (nexts es) ++ (none_link ∷ [])
    nexts_reached = nexts_snoc e 0 es ∙ rw (r, zero-add)

  -- ---- the rows
  module _ (old t : LatticeRows) (h : Filled n es old t) (room : Room n (suc x) old) (few : x < none_link) where
    abbrev filled_left : set t.left x e.left ≡ over (lefts more) old.left
    filled_left = column (lefts es) old.left t.left e.left x h.left (lefts_length es) room.left ∙ rw (lefts_snoc es e)

    abbrev filled_cost : set t.cost x e.cost ≡ over (costs more) old.cost
    filled_cost = column (costs es) old.cost t.cost e.cost x h.cost (costs_length es) room.cost ∙ rw (costs_snoc es e)

    filled_next : set t.next x none_link ≡ over (nexts es ++ (none_link ∷ [])) old.next
    filled_next = column (nexts es) old.next t.next none_link x h.next (nexts_length 0 es) room.next

    -- an entry that is not reached is linked nowhere
    pub fill_unreached : e.reached ≡ false
        → Filled n more old (record t { left = set t.left x e.left; cost = set t.cost x e.cost; next = set t.next x none_link })
    fill_unreached r =
        record {
          first = rw (firsts_unreached r) h.first;
          last = rw (lasts_unreached r) h.last;
          left = filled_left;
          cost = filled_cost;
          next = rw (nexts_unreached r) filled_next;
        }

    -- what the last row says of the position
    pub last_row : p ≤ n → get_or t.last p 0 ≡ link_of (last_at p 0 es)
    last_row inside =
        ap (λ (row : List ℕ). get_or row p 0) h.last
        ∙ over_at (lasts n es) old.last p 0 (omega (arith, lasts_length n es))
        ∙ lasts_at n es p inside

    -- an entry that is reached is linked
    pub fill_reached : e.reached ≡ true → p ≤ n
        → Filled n more old (linked x p (record t { left = set t.left x e.left; cost = set t.cost x e.cost }))
    fill_reached r inside =
        record {
          first = rw (last_row inside) (first (last_at p 0 es) refl);
          last =
              ap (λ (row : List ℕ). set row p x) h.last
              ∙ over_set (lasts n es) old.last p x (omega (arith, lasts_length n es))
              ∙ rw (lasts_new r inside);
          left = filled_left;
          cost = filled_cost;
          next = rw (last_row inside) (next (last_at p 0 es) refl);
        }
      where
        apart : (l : ℕ) → last_at p 0 es ≡ Some l → l < x
        apart l q = let z = (last_listed p 0 es l q).high in omega arith

        first : (m : Option ℕ) → last_at p 0 es ≡ m
            → cond (eqb (link_of m) none_link) (set t.first p x) t.first ≡ over (firsts n more) old.first
        first None q =
            ap (λ (row : List ℕ). set row p x) h.first
            ∙ over_set (firsts n es) old.first p x (omega (arith, firsts_length n es))
            ∙ rw (firsts_new r inside q)
        first (Some l) q =
            rw (ne_eqb l none_link (λ z. omega (arith, apart l q)), firsts_kept r inside l q) h.first

        next : (m : Option ℕ) → last_at p 0 es ≡ m
            → cond (eqb (before_of x (link_of m)) x) (set t.next x none_link) (set (set t.next x none_link) (before_of x (link_of m)) x)
            ≡ over (nexts more) old.next
        next None q = rw (eq-eqb x x refl) (filled_next ∙ rw (nexts_reached r inside, q))
        next (Some l) q =
            let lower : l < length (nexts es) = omega (arith, apart l q, nexts_length 0 es) in
            let same : l - 0 ≡ l = omega arith in
            rw (ne_eqb l none_link (λ z. omega (arith, apart l q)), ne_eqb l x (λ z. omega (arith, apart l q)), filled_next, nexts_reached r inside, q, same)
            (over_set (nexts es ++ (none_link ∷ [])) old.next l x (rw length-append (omega arith))
            ∙ rw (set-append_left (nexts es) (none_link ∷ []) l x lower))

-- ---- rows

-- Rows are equal, one by one.
pub rows_equal : {a b : LatticeRows} → a.first ≡ b.first → a.last ≡ b.last → a.left ≡ b.left → a.cost ≡ b.cost → a.next ≡ b.next → a ≡ b
rows_equal first last left cost next = λ i. record { first = first i; last = last i; left = left i; cost = cost i; next = next i }

-- What is written when an entry is linked, by two tests.
pub linked_is : (x position : ℕ) (r : LatticeRows)
    → let so_far = get_or r.last position 0 in
    let alone = eqb so_far none_link in
    let before = before_of x so_far in
    rows (set r.first position (cond alone x (get_or r.first position 0))) (set r.last position x) r.left r.cost (set (set r.next x none_link) before (cond (eqb before x) none_link x))
    ≡ linked x position r
linked_is x position r = rows_equal (first (eqb so_far none_link)) refl refl refl (next (before_of x so_far))
  where
    so_far : ℕ
    so_far = get_or r.last position 0

    first : (t : Bool) → set r.first position (cond t x (get_or r.first position 0)) ≡ cond t (set r.first position x) r.first
    first true = refl
    first false = set-get_or r.first position 0

    next : (b : ℕ) → set (set r.next x none_link) b (cond (eqb b x) none_link x) ≡ cond (eqb b x) (set r.next x none_link) (set (set r.next x none_link) b x)
    next b = go (eqb b x) refl
      where
        go : (t : Bool) → eqb b x ≡ t → set (set r.next x none_link) b (cond t none_link x) ≡ cond t (set r.next x none_link) (set (set r.next x none_link) b x)
        go true q = rw (eqb-true b x q) (set-set r.next x none_link none_link)
        go false q = refl

-- ---- none, and one by the offer that it takes

all_none : (from many : ℕ) → map (λ (position : ℕ). none_link) (up_from from many) ≡ replicate many none_link
unfolding up_from
all_none from zero = refl
all_none from (suc many) = ap (λ (l : List ℕ). none_link ∷ l) (all_none (suc from) many)

firsts_none : (n : ℕ) → firsts n [] ≡ replicate (suc n) none_link
unfolding firsts first_at
firsts_none n = all_none 0 (suc n)

lasts_none : (n : ℕ) → lasts n [] ≡ replicate (suc n) none_link
unfolding lasts last_at
lasts_none n = all_none 0 (suc n)

-- Rows whose positions are cleared hold no entries.
pub fill_none : (n : ℕ) (old : LatticeRows)
    → let none_yet = replicate (suc n) none_link in Filled n [] old (record old { first = over none_yet old.first; last = over none_yet old.last })
unfolding lefts costs nexts_from
fill_none n old = record { first = rw (firsts_none n); last = rw (lasts_none n); left = refl; cost = refl; next = refl }

-- A word's entry is written by the offer that it takes.
pub fill_entered : (n : ℕ) (es : List LatticeEntry) (w : Word) (m : Option Offer) (old t : LatticeRows)
    → Filled n es old t → Room n (suc (length es)) old → length es < none_link → w.end ≤ n
    → Filled n (es ++ (entry_by w m ∷ [])) old (entered (length es) w.end m w.own_cost t)
fill_entered n es w None old t h room few inside = fill_unreached n es (entry_by w None) old t h room few refl
fill_entered n es w (Some o) old t h room few inside = fill_reached n es (entry_by w (Some o)) old t h room few refl inside

-- ---- one filling after another

-- the later one, of no fewer entries, is seen
pub fill_fill : (n : ℕ) (es more : List LatticeEntry) (a b c : LatticeRows)
    → Filled n es a b → Filled n more b c → length es ≤ length more → Filled n more a c
fill_fill n es more a b c f g l =
    record {
      first = g.first ∙ ap (over (firsts n more)) f.first ∙ over_over (firsts n es) (firsts n more) a.first (omega (arith, firsts_length n es, firsts_length n more));
      last = g.last ∙ ap (over (lasts n more)) f.last ∙ over_over (lasts n es) (lasts n more) a.last (omega (arith, lasts_length n es, lasts_length n more));
      left = g.left ∙ ap (over (lefts more)) f.left ∙ over_over (lefts es) (lefts more) a.left (omega (arith, lefts_length es, lefts_length more));
      cost = g.cost ∙ ap (over (costs more)) f.cost ∙ over_over (costs es) (costs more) a.cost (omega (arith, costs_length es, costs_length more));
      next = g.next ∙ ap (over (nexts more)) f.next ∙ over_over (nexts es) (nexts more) a.next (omega (arith, nexts_length 0 es, nexts_length 0 more));
    }

-- what was filled is held: to fill it again changes nothing
pub fill_held : (n : ℕ) (es : List LatticeEntry) (a b : LatticeRows) → Filled n es a b → Filled n es b b
fill_held n es a b f =
    record {
      first = again (firsts n es) a.first b.first f.first;
      last = again (lasts n es) a.last b.last f.last;
      left = again (lefts es) a.left b.left f.left;
      cost = again (costs es) a.cost b.cost f.cost;
      next = again (nexts es) a.next b.next f.next;
    }
  where
    again : {A : Type 0} (new old row : List A) → row ≡ over new old → row ≡ over new row
    again new old row e = e ∙ sym (over_over new new old (omega arith)) ∙ ap (over new) (sym e)

-- ---- the start mark alone

-- Rows whose positions are cleared hold the start mark, once it is written.
pub fill_start : (n : ℕ) (old : LatticeRows) → Room n 1 old
    → let none_yet = replicate (suc n) none_link in
    Filled n (start_mark ∷ []) old
    (linked 0 0 (rows (over none_yet old.first) (over none_yet old.last) (set old.left 0 none_link) (set old.cost 0 (pos 0)) old.next))
fill_start n old room = fill_reached n [] start_mark old _ (fill_none n old) room (omega arith) refl (omega arith)

-- ---- lengths are kept

pub record SameLengths (a b : LatticeRows) : Type 0 where
  pub first : length b.first ≡ length a.first
  pub last : length b.last ≡ length a.last
  pub left : length b.left ≡ length a.left
  pub cost : length b.cost ≡ length a.cost
  pub next : length b.next ≡ length a.next

-- rows that have room keep their lengths
pub fill_lengths : (n m : ℕ) (es : List LatticeEntry) (a b : LatticeRows) → Room n m a → length es ≤ m → Filled n es a b → SameLengths a b
fill_lengths n m es a b room l f =
    record {
      first = ap length f.first ∙ over_length (firsts n es) a.first (omega (arith, firsts_length n es, room.first));
      last = ap length f.last ∙ over_length (lasts n es) a.last (omega (arith, lasts_length n es, room.last));
      left = ap length f.left ∙ over_length (lefts es) a.left (omega (arith, lefts_length es, room.left));
      cost = ap length f.cost ∙ over_length (costs es) a.cost (omega (arith, costs_length es, room.cost));
      next = ap length f.next ∙ over_length (nexts es) a.next (omega (arith, nexts_length 0 es, room.next));
    }

-- and so their room
pub room_kept : (n m : ℕ) (a b : LatticeRows) → Room n m a → SameLengths a b → Room n m b
room_kept n m a b room s =
    record {
      first = rw s.first room.first;
      last = rw s.last room.last;
      left = rw s.left room.left;
      cost = rw s.cost room.cost;
      next = rw s.next room.next;
    }

-- Two fillings of the same rows with the same entries are equal: the forward pass leaves one content of every row.
pub filled_unique : (n : ℕ) (es : List LatticeEntry) (old a b : LatticeRows) → Filled n es old a → Filled n es old b → a ≡ b
filled_unique n es old a b f g =
    rows_equal
    (f.first ∙ sym g.first)
    (f.last ∙ sym g.last)
    (f.left ∙ sym g.left)
    (f.cost ∙ sym g.cost)
    (f.next ∙ sym g.next)
