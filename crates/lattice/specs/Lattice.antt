-- Document 01, "The lattice": the entries, and what each is offered.
use Rattle.std.specs.Prelude.{ℕ, suc, Bool, true, false, cond, ◌&&◌, List, [], ◌∷◌, ◌++◌, get_or, ℤ, pos, ◌+ℤ◌, eqb, Option, None, Some}
use Rattle.std.specs.Int.Signed.{lt_z}
use Rattle.ground.specs.Entry.{mark_id, none_link}
use Rattle.ground.specs.Matrix.{joint}
use Rattle.lattice.specs.Words.{Word, Given, candidates, candidates_to}
use Rattle.lattice.specs.declared.relaxation.Offer.{Offer}

-- What the lattice holds of a word. (Document 01's entry; the ten bytes are the word entry.)
pub record LatticeEntry : Type 0 where
  pub word : Word
  pub reached : Bool
  pub cost : ℤ
  pub left : ℕ

-- A mark at a position: it starts and ends there, its ids are 0, and it costs nothing. (Of the start mark only the right id is read, of the end
-- mark only the left id.)
abbrev pub mark : ℕ → Word
mark position = record { start = position; end = position; left_id = mark_id; right_id = mark_id; charged = 0; own_cost = pos 0 }

-- Entry 0, the start mark: reached, ends at 0, cost 0, left none.
abbrev pub start_mark : LatticeEntry
start_mark = record { word = mark 0; reached = true; cost = pos 0; left = none_link }

-- Unreached: left none, cost 0.
abbrev pub unreached : Word → LatticeEntry
unreached w = record { word = w; reached = false; cost = pos 0; left = none_link }

-- Entry i of a list of entries; beyond the list, an unreached one.
abbrev pub entry_numbered : List LatticeEntry → ℕ → LatticeEntry
entry_numbered es i = get_or es i (unreached (mark 0))

-- ---- offers

-- Whether an entry is reached and ends at a position.
abbrev pub ends_at : ℕ → LatticeEntry → Bool
ends_at position e = e.reached && eqb e.word.end position

-- What it costs a word to come from an entry: the entry's cost + joint + charge.
abbrev pub via : (ℕ → ℕ → ℤ) → Word → LatticeEntry → ℤ
via joints w e = e.cost +ℤ joints w.left_id e.word.right_id +ℤ pos e.word.charged

-- The offer of entry number i.
abbrev pub offer : (ℕ → ℕ → ℤ) → Word → ℕ → LatticeEntry → Offer
offer joints w i e = record { from = i; cost = via joints w e }

-- x in front of the others, where the test holds.
abbrev pub keep {ℓ} : {A : Type ℓ} → Bool → A → List A → List A
keep true x xs = x ∷ xs
keep false x xs = xs

-- What the entries, numbered from i on, offer a word: one offer for each that is reached and ends at the word's start.
unfoldable pub offers : (ℕ → ℕ → ℤ) → Word → ℕ → List LatticeEntry → List Offer
offers joints w i [] = []
offers joints w i (e ∷ es) =
    keep (ends_at w.start e) (offer joints w i e) (offers joints w (suc i) es)

-- ---- the least

-- x, or another that goes before it.
abbrev pub against : {A : Type 0} → (A → A → Bool) → A → Option A → A
against before x None = x
against before x (Some other) = cond (before other x) other x

-- The least of a list by a test of what goes before what; of equals the first.
unfoldable pub least : {A : Type 0} → (A → A → Bool) → List A → Option A
least before [] = None
least before (x ∷ xs) = Some (against before x (least before xs))

-- An offer goes before another if it costs less.
abbrev pub cheaper : Offer → Offer → Bool
cheaper a b = lt_z a.cost b.cost

-- The offer that a word takes.
abbrev pub taken : (ℕ → ℕ → ℤ) → List LatticeEntry → Word → Option Offer
taken joints es w = least cheaper (offers joints w 0 es)

-- ---- the entries

-- A word's entry, by the offer that it takes: the offer's cost, then + extra + word cost.
abbrev pub entry_by : Word → Option Offer → LatticeEntry
entry_by w None = unreached w
entry_by w (Some o) = record { word = w; reached = true; cost = o.cost +ℤ w.own_cost; left = o.from }

-- One more entry, for a word that is offered what those before it offer. (These are all: every entry that ends where a candidate starts has a
-- lower number, if the tests have passed, and so have all others than the end mark: `over_all` and `rules` in RuleLaws.)
abbrev pub one_more : (ℕ → ℕ → ℤ) → List LatticeEntry → Word → List LatticeEntry
one_more joints es w = es ++ (entry_by w (taken joints es w) ∷ [])

-- One more for each word.
unfoldable pub grow : (ℕ → ℕ → ℤ) → List LatticeEntry → List Word → List LatticeEntry
grow joints es [] = es
grow joints es (w ∷ ws) = grow joints (one_more joints es w) ws

-- The joints of the matrix.
abbrev pub joints_of : Given → ℕ → ℕ → ℤ
joints_of g = joint g.matrix g.width

-- The start mark and the first k candidates.
abbrev pub entries_to : Given → ℕ → List LatticeEntry
entries_to g k = grow (joints_of g) (start_mark ∷ []) (candidates_to g k)

-- All entries: the start mark, the candidates, and the end mark, which starts and ends at n.
unfoldable pub lattice : ℕ → Given → List LatticeEntry
unfolding grow
lattice n g = grow (joints_of g) (start_mark ∷ []) (candidates g ++ (mark n ∷ []))
