-- Inner, no part of document 01: what the functions under the forward pass ask of the rows, and what they leave on the way.
use Rattle.std.specs.Prelude.{ℕ, suc, ◌+◌, ◌-◌, ◌*◌, ◌≤◌, ◌<◌, ◌≡◌, cond, ◌&&◌, List, length, get_or, set, ℤ, pos, negsuc, ◌+ℤ◌, eqb, ltb, Option, None, Some, option_map}
use Rattle.std.specs.Int.{w32}
use Rattle.std.proofs.Common.{SFits}
use Rattle.ground.specs.Limits.{character_limit, candidate_limit}
use Rattle.ground.specs.Entry.{entry_at, entry_bytes, mark_id, none_link}
use Rattle.ground.specs.Matrix.{value_in}
use Rattle.ground.specs.Charge.{charge, PricesFit}
use Rattle.lattice.specs.Words.{Word, Given, count, candidate}
use Rattle.lattice.specs.Size.{most_each, least_each, AllInRange}
use Rattle.lattice.specs.Lattice.{LatticeEntry, mark, entry_numbered, start_mark, entries_to, lattice}
use Rattle.lattice.specs.Rows.{LatticeRows, first_at, last_at, nexts, link_of}
use Rattle.lattice.specs.declared.forward.Incoming.{Incoming}
use Rattle.lattice.specs.declared.relaxation.Offer.{Offer}
use Rattle.lattice.specs.declared.relaxation.Pair.{Pair}

-- ---- sizes

-- How far a whole number lies above zero, and below.
abbrev pub up : ℤ → ℕ
up (pos n) = n
up (negsuc n) = 0

abbrev pub down : ℤ → ℕ
down (pos n) = 0
down (negsuc n) = suc n

-- ---- the relaxation

-- The joints of the word at hand, whose row of the matrix this is.
abbrev pub in_row : List ℤ → ℕ → ℕ → ℤ
in_row row l r = value_in row r

-- The charge of candidate k, if it ends at a position.
abbrev pub charge_to : Given → ℕ → ℕ → ℕ
charge_to g position k = charge g.mode (get_or g.run (get_or g.start k 0) 0) (position - get_or g.start k 0)

-- Candidate k's charge can be read.
pub record Chargeable (g : Given) (position k : ℕ) : Type 0 where
  pub priced : PricesFit g.mode
  pub listed : k < count g
  pub forward : get_or g.start k 0 < position
  pub in_run : get_or g.start k 0 < length g.run

-- What candidate k offers, if it ends at a position: by the rows.
abbrev pub offer_of : List ℤ → Given → LatticeRows → ℕ → ℕ → Offer
offer_of row g r position k =
    record {
      from = suc k;
      cost = get_or r.cost (suc k) (pos 0) +ℤ value_in row (entry_at g.entry k).right_id +ℤ pos (charge_to g position k);
    }

-- What the start mark offers a word, by its row of the matrix: the joint alone.
abbrev pub start_offer : List ℤ → Offer
start_offer row = record { from = 0; cost = value_in row mark_id }

-- How far from zero an entry's cost lies, with its charge, by where it ends; and an offer's, by the position.
pub record Sized (e : LatticeEntry) : Type 0 where
  pub most : up e.cost + e.word.charged ≤ most_each * e.word.end
  pub least : down e.cost ≤ least_each * e.word.end

pub record Near (position : ℕ) (z : ℤ) : Type 0 where
  pub most : up z ≤ most_each * position + 32767
  pub least : down z ≤ least_each * position + 32768

abbrev pub NearPair : ℕ → Pair → Type 0
NearPair position offers = Near position offers.one.cost × Near position offers.other.cost

abbrev pub NearTaken : ℕ → Option Offer → Type 0
NearTaken position None = Unit {0}
NearTaken position (Some offer) = Near position offer.cost

-- Candidate k's offer can be read, and its parts summed.
pub record Offering (row : List ℤ) (g : Given) (r : LatticeRows) (position k : ℕ) : Type 0 where
  pub charged : Chargeable g position k
  pub bytes : k * entry_bytes + entry_bytes ≤ length g.entry
  pub joined : (entry_at g.entry k).right_id < length row
  pub costed : suc k < length r.cost
  pub within : position ≤ character_limit
  pub most : up (get_or r.cost (suc k) (pos 0)) + charge_to g position k ≤ most_each * position
  pub least : down (get_or r.cost (suc k) (pos 0)) ≤ least_each * position

-- The rows hold these entries, as far as the relaxation of a word at a position reads them.
pub record Held (position : ℕ) (es : List LatticeEntry) (row : List ℤ) (g : Given) (r : LatticeRows) : Type 0 where
  pub few : length es ≤ none_link
  pub marked : 0 < length row
  pub begins : entry_numbered es 0 ≡ start_mark
  pub away : (k : ℕ) → suc k < length es → 0 < (entry_numbered es (suc k)).word.end
  pub in_first : position < length r.first
  pub head : get_or r.first position 0 ≡ link_of (first_at position 0 es)
  pub in_last : position < length r.last
  pub tail : get_or r.last position 0 ≡ link_of (last_at position 0 es)
  pub in_next : length es ≤ length r.next
  pub follows : (i : ℕ) → i < length es → get_or r.next i 0 ≡ get_or (nexts es) i 0
  pub right : (k : ℕ) → suc k < length es → (entry_numbered es (suc k)).word.right_id ≡ (entry_at g.entry k).right_id
  pub charge : (k : ℕ) → suc k < length es → (entry_numbered es (suc k)).word.end ≡ position
      → (entry_numbered es (suc k)).word.charged ≡ charge_to g position k
  pub costs : (i : ℕ) → i < length es → (entry_numbered es i).cost ≡ get_or r.cost i (pos 0)
  pub offering : (k : ℕ) → suc k < length es → (entry_numbered es (suc k)).word.end ≡ position → Offering row g r position k

-- What each of two words takes.
abbrev pub one_of : Option Pair → Option Offer
one_of pair = option_map (λ (offers : Pair). offers.one) pair

abbrev pub other_of : Option Pair → Option Offer
other_of pair = option_map (λ (offers : Pair). offers.other) pair

-- The same of two words, by their rows of the matrix.
abbrev pub HeldBoth : ℕ → List LatticeEntry → List ℤ → List ℤ → Given → LatticeRows → Type 0
HeldBoth position es row other g r = Held position es row g r × Held position es other g r

-- ---- one more entry

-- Entry x can be linked at a position: the last one there is none, or an entry that the row of next ones holds.
pub record Linkable (x position : ℕ) (r : LatticeRows) : Type 0 where
  pub in_first : position < length r.first
  pub in_last : position < length r.last
  pub in_next : x < length r.next
  pub known : (get_or r.last position 0 ≡ none_link → ⊥) → get_or r.last position 0 < length r.next

-- The one before entry x, by the last so far. (Where there is none so far, or x is linked already, it has none before it: x itself.)
abbrev pub before_of : ℕ → ℕ → ℕ
before_of x so_far = cond (eqb so_far none_link) x so_far

-- The rows with entry x linked: it becomes the last one there, and the next of the last so far, or the first.
abbrev pub linked : ℕ → ℕ → LatticeRows → LatticeRows
linked x position r =
    let so_far = get_or r.last position 0 in
    let before = before_of x so_far in
    record r {
      first = cond (eqb so_far none_link) (set r.first position x) r.first;
      last = set r.last position x;
      next = cond (eqb before x) (set r.next x none_link) (set (set r.next x none_link) before x);
    }

-- The offer that a word takes, if it takes one, and its own cost can be summed.
abbrev pub SumFits : Option Offer → ℤ → Type 0
SumFits None own_cost = Unit {0}
SumFits (Some offer) own_cost = SFits w32 (offer.cost +ℤ own_cost)

-- Entry x, which ends at a position, can be linked and written, by the offer that it takes.
pub record Enterable (x position : ℕ) (taken : Option Offer) (own_cost : ℤ) (r : LatticeRows) : Type 0 where
  pub linkable : Linkable x position r
  pub in_left : x < length r.left
  pub in_cost : x < length r.cost
  pub fits : SumFits taken own_cost

-- The rows with entry x, which ends at a position.
abbrev pub entered : ℕ → ℕ → Option Offer → ℤ → LatticeRows → LatticeRows
entered x position None own_cost r =
    record r { left = set r.left x none_link; cost = set r.cost x (pos 0); next = set r.next x none_link }
entered x position (Some offer) own_cost r =
    linked x position (record r { left = set r.left x offer.from; cost = set r.cost x (offer.cost +ℤ own_cost) })

-- ---- the whole pass

-- All entries are of such a size.
abbrev pub AllSized : List LatticeEntry → Type 0
AllSized es = (i : ℕ) → i < length es → Sized (entry_numbered es i)

-- What is read of the words has its places.
pub record Readable (n : ℕ) (g : Given) : Type 0 where
  pub characters : n ≤ character_limit
  pub few : count g ≤ candidate_limit
  pub ends : length g.end ≡ count g
  pub extras : length g.extra ≡ count g
  pub entries : length g.entry ≡ entry_bytes * count g

-- Candidate k, or behind the candidates the end mark, as the code reads it.
abbrev pub incoming_of : ℕ → Given → ℕ → Incoming
incoming_of n g k =
    let word_entry = entry_at g.entry k in
    cond (ltb k (count g))
    (record { start = get_or g.start k 0; end = get_or g.end k 0; left_id = word_entry.left_id; own_cost = get_or g.extra k (pos 0) +ℤ word_entry.cost })
    (record { start = n; end = n; left_id = mark_id; own_cost = pos 0 })

-- The same as a word of the lattice.
abbrev pub word_at : ℕ → Given → ℕ → Word
word_at n g k = cond (ltb k (count g)) (candidate g k) (mark n)

-- Which word goes in together with word k.
abbrev pub beside_of : Given → ℕ → ℕ
beside_of g k = cond (ltb (suc k) (count g) && eqb (get_or g.start k 0) (get_or g.start (suc k) 0)) (suc k) k

-- The entries before word k goes in; behind the last word, all.
abbrev pub entries_before : ℕ → Given → ℕ → List LatticeEntry
entries_before n g k = cond (ltb (count g) k) (lattice n g) (entries_to g k)

-- Their sizes.
pub record SizedBefore (n : ℕ) (g : Given) (k : ℕ) : Type 0 where
  pub some : k ≤ count g → AllSized (entries_to g k)
  pub all : count g < k → AllInRange (lattice n g)
