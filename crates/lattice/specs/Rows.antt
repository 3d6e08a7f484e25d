-- Document 01, "The lattice": the five rows, and what they hold after the forward pass.
use Rattle.std.specs.Prelude.{ℕ, suc, ◌≤◌, ◌<◌, ◌≡◌, Bool, cond, List, [], ◌∷◌, map, length, ℤ, Option, None, Some}
use Rattle.std.specs.Option.{option_or}
use Rattle.ground.specs.Entry.{none_link}
use Rattle.ground.specs.Rows.{over}
use Rattle.lattice.specs.Words.{up_from}
use Rattle.lattice.specs.Lattice.{LatticeEntry, ends_at}
use Rattle.lattice.specs.declared.rows.Rows.{Rows}
use Rattle.lattice.specs.declared.rows.ReadRows.{ReadRows}

-- x where the test holds.
abbrev pub only_if : {A : Type 0} → Bool → A → Option A
only_if t x = cond t (Some x) None

-- How a row holds a number, or that there is none.
abbrev pub link_of : Option ℕ → ℕ
link_of None = none_link
link_of (Some i) = i

-- The lowest reached entry that ends at a position, of entries numbered from i on.
unfoldable pub first_at : ℕ → ℕ → List LatticeEntry → Option ℕ
first_at position i [] = None
first_at position i (e ∷ es) = option_or (only_if (ends_at position e) i) (first_at position (suc i) es)

-- The highest one.
unfoldable pub last_at : ℕ → ℕ → List LatticeEntry → Option ℕ
last_at position i [] = None
last_at position i (e ∷ es) = option_or (last_at position (suc i) es) (only_if (ends_at position e) i)

-- What comes next after an entry: if it is reached, the first of the higher reached ones that end where it does.
abbrev pub next_of : Bool → Option ℕ → Option ℕ
next_of reached higher = cond reached higher None

-- ---- the rows, as lists

-- First of the positions 0 to n.
unfoldable pub firsts : ℕ → List LatticeEntry → List ℕ
unfolding first_at up_from
firsts n es = map (λ (position : ℕ). link_of (first_at position 0 es)) (up_from 0 (suc n))

-- Last of the positions 0 to n.
unfoldable pub lasts : ℕ → List LatticeEntry → List ℕ
unfolding last_at up_from
lasts n es = map (λ (position : ℕ). link_of (last_at position 0 es)) (up_from 0 (suc n))

-- Left of each entry.
unfoldable pub lefts : List LatticeEntry → List ℕ
lefts es = map (λ (e : LatticeEntry). e.left) es

-- Cost of each entry.
unfoldable pub costs : List LatticeEntry → List ℤ
costs es = map (λ (e : LatticeEntry). e.cost) es

-- Next of each entry, of entries numbered from i on.
unfoldable pub nexts_from : ℕ → List LatticeEntry → List ℕ
unfolding first_at
nexts_from i [] = []
nexts_from i (e ∷ es) = link_of (next_of e.reached (first_at e.word.end (suc i) es)) ∷ nexts_from (suc i) es

-- Next of each entry.
abbrev pub nexts : List LatticeEntry → List ℕ
nexts es = nexts_from 0 es

-- ---- the effect

-- The lattice's rows.
pub record LatticeRows : Type 0 where
  pub first : List ℕ
  pub last : List ℕ
  pub left : List ℕ
  pub cost : List ℤ
  pub next : List ℕ

-- The same, put together.
abbrev pub rows : List ℕ → List ℕ → List ℕ → List ℤ → List ℕ → LatticeRows
rows first last left cost next = record { first = first; last = last; left = left; cost = cost; next = next }

-- What a caller's rows hold.
abbrev pub held : Rows → LatticeRows
held r = rows r.first.now r.last.now r.left.now r.cost.now r.next.now

-- The same of rows that are lent to be read: there is no left among them.
abbrev pub read : ReadRows → LatticeRows
read r = rows r.first.now r.last.now [] r.cost.now r.next.now

-- They are the same five rows, whatever they hold.
pub record SameRows (old new : Rows) : Type 0 where
  pub first : new.first.ghost_name ≡ old.first.ghost_name
  pub last : new.last.ghost_name ≡ old.last.ghost_name
  pub left : new.left.ghost_name ≡ old.left.ghost_name
  pub cost : new.cost.ghost_name ≡ old.cost.ghost_name
  pub next : new.next.ghost_name ≡ old.next.ghost_name

-- The rows after a call that writes these entries, from the rows before it: places beyond keep their contents. (None changes its length:
-- `fill_lengths` in FillLaws.)
pub record Filled (n : ℕ) (es : List LatticeEntry) (old new : LatticeRows) : Type 0 where
  pub first : new.first ≡ over (firsts n es) old.first
  pub last : new.last ≡ over (lasts n es) old.last
  pub left : new.left ≡ over (lefts es) old.left
  pub cost : new.cost ≡ over (costs es) old.cost
  pub next : new.next ≡ over (nexts es) old.next

-- The rows have room for the positions up to n and for m entries (document 01, test 7).
pub record Room (n m : ℕ) (r : LatticeRows) : Type 0 where
  pub first : n < length r.first
  pub last : n < length r.last
  pub left : m ≤ length r.left
  pub cost : m ≤ length r.cost
  pub next : m ≤ length r.next
