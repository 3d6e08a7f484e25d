-- The rows hold the entries so far, so the relaxation finds what word k and the word beside it take, and `enter` adds an entry for each. Assumes nothing.
use Prim.Native.Nat.{ℕ, suc, ◌+◌, ◌≤◌}
use mathlib.Core.Path.{◌≡◌, refl, sym, ap, ◌∙◌, subst}
use mathlib.Core.List.{List}
use native.Mathlib.Omega.{arith}
use native.Mathlib.Numerals.{add-one}
use lib.IntN.{ℤ}
use mir.Syntax.{w32}
use mir.Val.{to_z, of_z}
use mir.Facts.{to_z-of_z}
use Rattle.std.proofs.Common.{Option, rules}
use Rattle.ground.specs.Matrix.{matrix_row}
use Rattle.lattice.specs.Words.{Word, Given, given_by, count}
use Rattle.lattice.specs.Lattice.{LatticeEntry, mark, taken, joints_of, entries_to}
use Rattle.lattice.specs.Rows.{LatticeRows, held as held_by, Filled}
use Rattle.lattice.specs.Inner.{in_row, Held, NearTaken, entered, Enterable, one_of, other_of, word_at, beside_of, incoming_of, entries_before, SizedBefore}
use Rattle.lattice.specs.declared.forward.Incoming.{Incoming}
use Rattle.lattice.specs.declared.relaxation.Offer.{Offer}
use Rattle.lattice.proofs.SizeLaws.{SmallOwn, small_fits, sum_of}
use Rattle.lattice.proofs.StepLaws.{RowOf, row_taken, held, linkable}
use Rattle.lattice.proofs.TwoLaws.{Read, read_word, inside, beside_listed, beside_start, same_lengths, linkable_beside, both_in}
use Rattle.lattice.proofs.forward.two_words.Goals as goal
use Rattle.lattice.proofs.forward.two_words.Goals.{After-beside-other, After-enter_two, After-map-2, After-relax-pair, After-row-other_row, After-row-row, After-word_at-other_word, After-word_at-word, Start}

-- ---- what is read, and the rows, at the start
module _ (s : goal.Start) where
  abbrev G : Given
  G = given_by s.args.sentence.now

  abbrev T : LatticeRows
  T = held_by s.args.rows.now

  abbrev J : ℕ
  J = beside_of G s.args.k

  abbrev W : Word
  W = word_at s.args.n G s.args.k

  abbrev W' : Word
  W' = word_at s.args.n G J

  abbrev E : List LatticeEntry
  E = entries_to G s.args.k

  -- what the two take
  abbrev O : Option Offer
  O = taken (joints_of G) E W

  abbrev O' : Option Offer
  O' = taken (joints_of G) E W'

  -- both words are words of the list
  other_listed : J ≤ count G
  other_listed = beside_listed s.args.n G s.requires.accepted.1 s.args.k s.requires.accepted.0

  same_start : W'.start ≡ W.start
  same_start = beside_start s.args.n G s.requires.accepted.1 s.args.k s.requires.accepted.0

  -- the rows hold the entries so far, for the relaxation of a word by its row of the matrix
  abbrev Holds : ℕ → List ℤ → Type 0
  Holds position row = Held position E row G T

  holds : (i : ℕ) → i ≤ count G → (row : List ℤ) → RowOf G (word_at s.args.n G i) row → Holds (word_at s.args.n G i).start row
  holds i h row is =
      let ok = s.requires.accepted.1 in
      let within = inside s.args.n G ok i h in
      held s.args.n G ok s.args.k s.requires.accepted.0 T s.requires.room.0 s.requires.room.1 s.requires.accepted.2 (word_at s.args.n G i) within.start row is within.row

-- ---- what is read
word_read : (c : goal.After-word_at-word) → Read c.word_at-word.result (W (goal.at.After-word_at-word c).Start)
word_read c =
    let s = (goal.at.After-word_at-word c).Start in
    subst (λ (i : Incoming). Read i (W s)) (sym c.word_at-word.ensures.value) (read_word c.args.n (G s) c.args.k)

other_read : (c : goal.After-word_at-other_word) → Read c.word_at-other_word.result (W' (goal.at.After-word_at-other_word c).Start)
other_read c =
    let s = (goal.at.After-word_at-other_word c).Start in
    subst (λ (i : Incoming). Read i (W' s))
    (sym (c.word_at-other_word.ensures.value ∙ ap (incoming_of c.args.n (G s)) c.beside-other.ensures))
    (read_word c.args.n (G s) (J s))

-- their rows of the matrix
row_is : (c : goal.After-row-row) → let s = (goal.at.After-row-row c).Start in RowOf (G s) (W s) c.row-row.result.now
row_is c =
    let g = G (goal.at.After-row-row c).Start in
    c.row-row.ensures ∙ ap (matrix_row g.matrix g.width) (c.from.ensures ∙ (word_read (goal.at.After-row-row c).After-word_at-word).left_id)

other_row_is : (c : goal.After-row-other_row) → let s = (goal.at.After-row-other_row c).Start in RowOf (G s) (W' s) c.row-other_row.result.now
other_row_is c =
    let g = G (goal.at.After-row-other_row c).Start in
    c.row-other_row.ensures ∙ ap (matrix_row g.matrix g.width) (c.from-2.ensures ∙ (other_read (goal.at.After-row-other_row c).After-word_at-other_word).left_id)

-- ---- what is taken

-- both rows of the matrix, at the position that the code has
both_held : (c : goal.After-row-other_row) → let s = (goal.at.After-row-other_row c).Start in let position = c.word_at-word.result.start in
    Holds s position c.row-row.result.now × Holds s position c.row-other_row.result.now
both_held c =
    let s = (goal.at.After-row-other_row c).Start in
    let at = (word_read (goal.at.After-row-other_row c).After-word_at-word).start in (
      rw at (holds s c.args.k c.requires.accepted.0 c.row-row.result.now (row_is (goal.at.After-row-other_row c).After-row-row)),
      rw (at, ← same_start s) (holds s (J s) (other_listed s) c.row-other_row.result.now (other_row_is c)),
    )

-- is found by the relaxation
found : (c : goal.After-relax-pair) → one_of c.relax-pair.result ≡ O (goal.at.After-relax-pair c).Start
found c =
    let s = (goal.at.After-relax-pair c).Start in
    let row = c.row-row.result.now in
    (c.relax-pair.ensures.taken (E s) (both_held (goal.at.After-relax-pair c).After-row-other_row)).0
    ∙ ap (λ (position : ℕ). taken (in_row row) (E s) (mark position)) (word_read (goal.at.After-relax-pair c).After-word_at-word).start
    ∙ row_taken (G s) (W s) row (row_is (goal.at.After-relax-pair c).After-row-row) (E s)

other_found : (c : goal.After-relax-pair) → other_of c.relax-pair.result ≡ O' (goal.at.After-relax-pair c).Start
other_found c =
    let s = (goal.at.After-relax-pair c).Start in
    let row = c.row-other_row.result.now in
    (c.relax-pair.ensures.taken (E s) (both_held (goal.at.After-relax-pair c).After-row-other_row)).1
    ∙ ap (λ (position : ℕ). taken (in_row row) (E s) (mark position)) ((word_read (goal.at.After-relax-pair c).After-word_at-word).start ∙ sym (same_start s))
    ∙ row_taken (G s) (W' s) row (other_row_is (goal.at.After-relax-pair c).After-row-other_row) (E s)

-- and lies near
near : (c : goal.After-relax-pair) → let s = (goal.at.After-relax-pair c).Start in NearTaken (W s).start (O s)
near c =
    let s = (goal.at.After-relax-pair c).Start in
    subst (NearTaken (W s).start) (found c)
    (subst (λ (position : ℕ). NearTaken position (one_of c.relax-pair.result)) (word_read (goal.at.After-relax-pair c).After-word_at-word).start c.relax-pair.ensures.near_taken.0)

other_near : (c : goal.After-relax-pair) → let s = (goal.at.After-relax-pair c).Start in NearTaken (W' s).start (O' s)
other_near c =
    let s = (goal.at.After-relax-pair c).Start in
    subst (NearTaken (W' s).start) (other_found c)
    (subst (λ (position : ℕ). NearTaken position (other_of c.relax-pair.result))
    ((word_read (goal.at.After-relax-pair c).After-word_at-word).start ∙ sym (same_start s))
    c.relax-pair.ensures.near_taken.1)

small : (c : goal.After-word_at-word) → SmallOwn (W (goal.at.After-word_at-word c).Start).own_cost
small c = subst SmallOwn (word_read c).own_cost (record { most = c.word_at-word.ensures.own_cost_bound.0; least = c.word_at-word.ensures.own_cost_bound.1 })

other_small : (c : goal.After-word_at-other_word) → SmallOwn (W' (goal.at.After-word_at-other_word c).Start).own_cost
other_small c = subst SmallOwn (other_read c).own_cost (record { most = c.word_at-other_word.ensures.own_cost_bound.0; least = c.word_at-other_word.ensures.own_cost_bound.1 })

-- ---- what is entered

-- What the code hands to `enter_two`, and that it is the two words' own.
record Handed (s : goal.Start) (x e : ℕ) (t : Option Offer) (z : ℤ) (y e' : ℕ) (t' : Option Offer) (z' : ℤ) : Type 0 where
  number : x ≡ suc s.args.k
  end : e ≡ (W s).end
  took : t ≡ O s
  own : z ≡ (W s).own_cost
  other_number : y ≡ suc (J s)
  other_end : e' ≡ (W' s).end
  other_took : t' ≡ O' s
  other_own : z' ≡ (W' s).own_cost

-- the two can be entered
ready : (s : goal.Start) (x e : ℕ) (t : Option Offer) (z : ℤ) (y e' : ℕ) (t' : Option Offer) (z' : ℤ) → Handed s x e t z y e' t' z'
    → NearTaken (W s).start (O s) → SmallOwn (W s).own_cost → NearTaken (W' s).start (O' s) → SmallOwn (W' s).own_cost
    → Enterable x e t z (T s) × Enterable y e' t' z' (entered x e t z (T s))
ready s x e t z y e' t' z' h near small other_near other_small =
    let a = s.args in
    let ok = s.requires.accepted.1 in
    let le = s.requires.accepted.0 in
    let room = s.requires.room.0 in
    let within = inside a.n (G s) ok a.k le in
    let other-within = inside a.n (G s) ok (J s) (other_listed s) in
    let same = same_lengths a.n (G s) ok a.k le (T s) room s.requires.room.1 s.requires.accepted.2 in
    rw (h.number, h.end, h.took, h.own, h.other_number, h.other_end, h.other_took, h.other_own) (
      record {
        linkable = linkable a.n (G s) ok a.k le (T s) room s.requires.room.1 s.requires.accepted.2 (W s).end within.end;
        in_left = omega (arith, le, room.left);
        in_cost = omega (arith, le, room.cost);
        fits = sum_of (W s).start (O s) (W s).own_cost near small (omega (arith, within.start, ok.characters));
      },
      record {
        linkable = linkable_beside a.n (G s) ok a.k le (T s) room s.requires.room.1 s.requires.accepted.2 near small;
        in_left = omega (arith, other_listed s, room.left, same.left);
        in_cost = omega (arith, other_listed s, room.cost, same.cost);
        fits = sum_of (W' s).start (O' s) (W' s).own_cost other_near other_small (omega (arith, other-within.start, ok.characters));
      },
    )

-- and then stand in the rows
entered_is : (s : goal.Start) (x e : ℕ) (t : Option Offer) (z : ℤ) (y e' : ℕ) (t' : Option Offer) (z' : ℤ) → Handed s x e t z y e' t' z'
    → entered y e' t' z' (entered x e t z (T s)) ≡ entered (suc (J s)) (W' s).end (O' s) (W' s).own_cost (entered (suc s.args.k) (W s).end (O s) (W s).own_cost (T s))
entered_is s x e t z y e' t' z' h = rw (h.number, h.end, h.took, h.own, h.other_number, h.other_end, h.other_took, h.other_own)

map_is : (c : goal.After-map-2) → c.map.result ≡ one_of c.relax-pair.result
map_is c = search rules

other_map_is : (c : goal.After-map-2) → c.map-2.result ≡ other_of c.relax-pair.result
other_map_is c = search rules

-- so it is with what is handed here
handed : (c : goal.After-map-2) → Handed (goal.at.After-map-2 c).Start
    (c.args.k + 1)
    c.from-3.result
    c.map.result
    (to_z w32 (of_z w32 c.word_at-word.result.own_cost))
    (c.beside-other.result + 1)
    c.from-4.result
    c.map-2.result
    (to_z w32 (of_z w32 c.word_at-other_word.result.own_cost))
handed c =
    let read = word_read (goal.at.After-map-2 c).After-word_at-word in
    let other = other_read (goal.at.After-map-2 c).After-word_at-other_word in
    record {
      number = add-one c.args.k;
      end = c.from-3.ensures ∙ read.end;
      took = map_is c ∙ found (goal.at.After-map-2 c).After-relax-pair;
      own = to_z-of_z (small_fits _ (record { most = c.word_at-word.ensures.own_cost_bound.0; least = c.word_at-word.ensures.own_cost_bound.1 })) ∙ read.own_cost;
      other_number = add-one c.beside-other.result ∙ ap suc c.beside-other.ensures;
      other_end = c.from-4.ensures ∙ other.end;
      other_took = other_map_is c ∙ other_found (goal.at.After-map-2 c).After-relax-pair;
      other_own = to_z-of_z (small_fits _ (record { most = c.word_at-other_word.ensures.own_cost_bound.0; least = c.word_at-other_word.ensures.own_cost_bound.1 })) ∙ other.own_cost;
    }

pub relax-pair-requires : goal.relax-pair-requires
relax-pair-requires c = (E (goal.at.relax-pair-requires c).Start, both_held (goal.at.relax-pair-requires c).After-row-other_row)

pub enter_two-requires : goal.enter_two-requires
enter_two-requires c =
    let p = goal.at.enter_two-requires c in
    let parts = ready p.Start _ _ _ _ _ _ _ _ (handed p.After-map-2) (near p.After-relax-pair) (small p.After-word_at-word) (other_near p.After-relax-pair) (other_small p.After-word_at-other_word) in
    record { enterable = parts.0; enterable_after = parts.1 }

pub returns-clause-filled : goal.returns-clause-filled
returns-clause-filled c =
    let a = c.args in
    let p = goal.at.returns-clause-filled c in
    let s = p.Start in
    let (filled, sized) =
    both_in a.n (G s) c.requires.accepted.1 a.k c.requires.accepted.0 (T s) c.requires.room.0 c.requires.room.1 c.requires.accepted.2 (near p.After-relax-pair) (small p.After-word_at-word) (O' s) refl (other_near p.After-relax-pair)
    (other_small p.After-word_at-other_word) in
    subst (λ (i : ℕ). Filled a.n (entries_before a.n (G s) i) (T s) (held_by c.enter_two.new.rows) × SizedBefore a.n (G s) i)
    (sym (add-one c.beside-other.result ∙ ap suc c.beside-other.ensures)) (
      subst (Filled a.n (entries_before a.n (G s) (suc (J s))) (T s)) (sym (c.enter_two.ensures.entered ∙ entered_is s _ _ _ _ _ _ _ _ (handed p.After-map-2))) filled,
      sized,
    )
