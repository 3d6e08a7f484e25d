-- Document 01's rules of the rows: first and last of a position are the lowest and the highest reached entry that ends there, and the next of a
-- reached entry is the next higher one that ends where it does; or there is none. Assumes nothing.
use Prim.Native.Nat.{ℕ, zero, suc, ◌+◌, ◌-◌, ◌≤◌, ◌<◌}
use Rattle.std.proofs.Common.{Option, None, Some}
use Rattle.std.specs.Option.{option_or}
use mathlib.Core.Path.{◌≡◌, refl, sym, ap, ◌∙◌}
use mathlib.Core.Logic.{◌↔◌}
use mathlib.Core.Bool.{Bool, true, false, true≢false}
use mathlib.Core.List.{List, [], ◌∷◌, map}
use native.Mathlib.Omega.{arith}
use native.Mathlib.Nat.{zero-add, add-zero}
use native.Mathlib.Decide.{dec_lt}
use lib.ListN.{length, get_or}
use lib.IntN.{pos}
use Rattle.lattice.specs.Words.{up_from}
use Rattle.lattice.specs.Lattice.{LatticeEntry, mark, unreached, entry_numbered, ends_at}
use Rattle.lattice.specs.Rules.{Ends, Chief, Lowest, Highest, Holds, RowRules}
use Rattle.lattice.specs.Rows.{only_if, link_of, first_at, last_at, firsts, lasts, lefts, costs, nexts_from}
use Rattle.lattice.proofs.LatticeLaws.{up_length, up_at, map_at}
use Rattle.lattice.proofs.OfferLaws.{ends_read, ends_show}

-- There is only one such.
chief_only : (order : ℕ → ℕ → Type 0) → ((i j : ℕ) → order i j → order j i → i ≡ j)
    → (es : List LatticeEntry) (position from : ℕ) (m m' : Option ℕ)
    → Chief order es position from m → Chief order es position from m' → m ≡ m'
chief_only order anti es position from None None p q = refl
chief_only order anti es position from None (Some i) p q = absurd (p i q.listed q.ends)
chief_only order anti es position from (Some i) None p q = absurd (q i p.listed p.ends)
chief_only order anti es position from (Some i) (Some j) p q =
    ap Some (anti i j (p.foremost j q.listed q.ends) (q.foremost i p.listed p.ends))

-- ---- along the list

module _ (whole : List LatticeEntry) where
  -- These are the entries from number `from` on.
  abbrev Tail : ℕ → List LatticeEntry → Type 0
  Tail from es = (j : ℕ) → entry_numbered es j ≡ entry_numbered whole (from + j)

  -- and after the head, those from the next number on
  tail_tail : (from : ℕ) (e : LatticeEntry) (es : List LatticeEntry) → Tail from (e ∷ es) → Tail (suc from) es
  tail_tail from e es t j = let q : suc from + j ≡ from + suc j = omega arith in rw q (t (suc j))

  -- what the head's test says of the whole
  head_ends : (position from : ℕ) (e : LatticeEntry) (es : List LatticeEntry) → Tail from (e ∷ es) → ends_at position e ≡ true → Ends whole position from
  head_ends position from e es t p =
      let q : e ≡ entry_numbered whole from = rw add-zero at (t 0) in
      let (r, s) = ends_read position e p in
      record { reached = rw q at r; end = rw q at s }

  head_not : (position from : ℕ) (e : LatticeEntry) (es : List LatticeEntry) → Tail from (e ∷ es) → ends_at position e ≡ false
      → Ends whole position from → ⊥
  head_not position from e es t p h =
      let q : e ≡ entry_numbered whole from = rw add-zero at (t 0) in
      true≢false (sym (ends_show position e (rw q h.reached) (rw q h.end)) ∙ p)

  -- nothing is left
  tail_nil : (position from : ℕ) → Tail from [] → (j : ℕ) → from ≤ j → Ends whole position j → ⊥
  tail_nil position from t j h e =
      let q : from + (j - from) ≡ j = omega arith in
      true≢false (sym e.reached ∙ ap (λ (x : LatticeEntry). x.reached) (sym (rw q at (t (j - from)))))

  -- where the head does not end there, one that does comes later
  past : (position from j : ℕ) → (Ends whole position from → ⊥) → from ≤ j → Ends whole position j → suc from ≤ j
  past position from j no-head h e = go (dec_lt from j)
    where
      go : Dec (from < j) → suc from ≤ j
      go (yes l) = omega arith
      go (no l) = let q : j ≡ from = omega arith in absurd (no-head (rw q at e))

  -- so what is found among the later ones holds of all
  past_head : (order : ℕ → ℕ → Type 0) (position from : ℕ) (m : Option ℕ) → (Ends whole position from → ⊥)
      → Chief order whole position (suc from) m → Chief order whole position from m
  past_head order position from None no-head c = λ j h e. c j (past position from j no-head h e) e
  past_head order position from (Some i) no-head c =
      record {
        listed = omega (arith, c.listed);
        ends = c.ends;
        foremost = λ j h e. c.foremost j (past position from j no-head h e) e;
      }

  -- the first is the lowest
  first_from : (position from : ℕ) (es : List LatticeEntry) → Tail from es → Lowest whole position from (first_at position from es)
  unfolding first_at
  first_from position from [] t = tail_nil position from t
  first_from position from (e ∷ es) t = go (ends_at position e) refl (first_from position (suc from) es (tail_tail from e es t))
    where
      go : (b : Bool) → ends_at position e ≡ b → Lowest whole position (suc from) (first_at position (suc from) es)
          → Lowest whole position from (option_or (only_if b from) (first_at position (suc from) es))
      go true p c = record { listed = omega arith; ends = head_ends position from e es t p; foremost = λ j h x. h }
      go false p c = past_head (λ (i j : ℕ). i ≤ j) position from (first_at position (suc from) es) (head_not position from e es t p) c

  -- none of the later ones is above i, and the head is not
  up_to : (from j i : ℕ) → from ≤ i → (suc from ≤ j → j ≤ i) → j ≤ i
  up_to from j i h l = go (dec_lt from j)
    where
      go : Dec (from < j) → j ≤ i
      go (yes m) = l m
      go (no m) = omega arith

  -- the last is the highest
  last_from : (position from : ℕ) (es : List LatticeEntry) → Tail from es → Highest whole position from (last_at position from es)
  unfolding last_at
  last_from position from [] t = tail_nil position from t
  last_from position from (e ∷ es) t =
      go (ends_at position e) refl (last_at position (suc from) es) (last_from position (suc from) es (tail_tail from e es t))
    where
      go : (b : Bool) → ends_at position e ≡ b → (m : Option ℕ) → Highest whole position (suc from) m
          → Highest whole position from (option_or m (only_if b from))
      go true p None c =
          record {
            listed = omega arith;
            ends = head_ends position from e es t p;
            foremost = λ j h x. up_to from j from (omega arith) (λ l. absurd (c j l x));
          }
      go false p None c = past_head (λ (i j : ℕ). j ≤ i) position from None (head_not position from e es t p) c
      go b p (Some i) c =
          record {
            listed = omega (arith, c.listed);
            ends = c.ends;
            foremost = λ j h x. up_to from j i (omega (arith, c.listed)) (λ l. c.foremost j l x);
          }

  -- what comes next after a reached entry is the lowest of the later ones that end where it does
  next_from : (from : ℕ) (es : List LatticeEntry) → Tail from es → (i : ℕ) → (entry_numbered es i).reached ≡ true
      → Holds (Lowest whole (entry_numbered es i).word.end (suc (from + i))) (get_or (nexts_from from es) i 0)
  unfolding nexts_from
  next_from from [] t i r = absurd (true≢false (sym r))
  next_from from (e ∷ es) t zero r =
      (first_at e.word.end (suc from) es, rw r, rw add-zero (first_from e.word.end (suc from) es (tail_tail from e es t)))
  next_from from (e ∷ es) t (suc i) r =
      let q : from + suc i ≡ suc from + i = omega arith in
      rw q (next_from (suc from) es (tail_tail from e es t) i r)

-- ---- the rows

-- A list is its own entries from 0 on.
all : (es : List LatticeEntry) → Tail es 0 es
all es j = rw zero-add

-- `first_at` gives exactly the lowest, and `last_at` the highest.
pub first_exactly : (es : List LatticeEntry) (position : ℕ) (m : Option ℕ) → (first_at position 0 es ≡ m) ↔ Lowest es position 0 m
first_exactly es position m =
    let c = first_from es position 0 es (all es) in (
      λ e. rw e at c,
      λ l. chief_only (λ (i j : ℕ). i ≤ j) (λ i j p q. omega arith) es position 0 (first_at position 0 es) m c l,
    )

pub last_exactly : (es : List LatticeEntry) (position : ℕ) (m : Option ℕ) → (last_at position 0 es ≡ m) ↔ Highest es position 0 m
last_exactly es position m =
    let c = last_from es position 0 es (all es) in (
      λ e. rw e at c,
      λ l. chief_only (λ (i j : ℕ). j ≤ i) (λ i j p q. omega arith) es position 0 (last_at position 0 es) m c l,
    )

-- What the rows hold at a position, and for an entry.
position_at : (f : ℕ → ℕ) (n position : ℕ) → position ≤ n → get_or (map f (up_from 0 (suc n))) position 0 ≡ f position
position_at f n position h =
    let l : position < length (up_from 0 (suc n)) = rw up_length (omega arith) in
    map_at f (up_from 0 (suc n)) position 0 0 l ∙ ap f (up_at 0 (suc n) position (omega arith) ∙ zero-add position)

pub firsts_at : (n : ℕ) (es : List LatticeEntry) (position : ℕ) → position ≤ n → get_or (firsts n es) position 0 ≡ link_of (first_at position 0 es)
unfolding firsts
firsts_at n es position h = position_at (λ (p : ℕ). link_of (first_at p 0 es)) n position h

pub lasts_at : (n : ℕ) (es : List LatticeEntry) (position : ℕ) → position ≤ n → get_or (lasts n es) position 0 ≡ link_of (last_at position 0 es)
unfolding lasts
lasts_at n es position h = position_at (λ (p : ℕ). link_of (last_at p 0 es)) n position h

pub lefts_at : (es : List LatticeEntry) (i : ℕ) → i < length es → get_or (lefts es) i 0 ≡ (entry_numbered es i).left
unfolding lefts
lefts_at es i h = map_at (λ (e : LatticeEntry). e.left) es i (unreached (mark 0)) 0 h

pub costs_at : (es : List LatticeEntry) (i : ℕ) → i < length es → get_or (costs es) i (pos 0) ≡ (entry_numbered es i).cost
unfolding costs
costs_at es i h = map_at (λ (e : LatticeEntry). e.cost) es i (unreached (mark 0)) (pos 0) h

-- They are kept.
pub row_rules_lem : (n : ℕ) (es : List LatticeEntry) → RowRules n es
row_rules_lem n es =
    record {
      first = λ position h. (first_at position 0 es, firsts_at n es position h, first_from es position 0 es (all es));
      last = λ position h. (last_at position 0 es, lasts_at n es position h, last_from es position 0 es (all es));
      next = λ i r. rw zero-add at (next_from es 0 es (all es) i r);
      left = lefts_at es;
      cost = costs_at es;
    }
