use Prim.Native.Nat.{ℕ}
use mathlib.Core.Path.{◌≡◌, sym, ◌∙◌}
use mathlib.Core.List.{List}
use native.Mathlib.Omega.{arith}
use lib.ListN.{get_or}
use lib.IntN.{ℤ}
use Rattle.std.proofs.Common.{Some}
use Rattle.lattice.specs.Words.{Word, given_by}
use Rattle.lattice.specs.Lattice.{LatticeEntry, mark, entry_numbered, against, cheaper, offer, taken}
use Rattle.lattice.specs.Rows.{nexts, read}
use Rattle.lattice.specs.Inner.{in_row, Held}
use Rattle.lattice.specs.declared.relaxation.Offer.{Offer}
use Rattle.lattice.proofs.GoingLaws.{Visited, Turn, turn, begin, again, onward, done, Told, told, near_against}
use Rattle.lattice.proofs.relaxation.least_between.Goals as goal
use Rattle.lattice.proofs.relaxation.least_between.Goals.{After-loop-at, At-loop-at, In-loop-at, Start}

-- the rows hold some entries, by one of the two rows of the matrix
abbrev Holds : goal.Start → List ℤ → List LatticeEntry → Type 0
Holds s row es = Held s.args.position es row (given_by s.args.sentence.now) (read s.args.rows.now)

-- and tell of one of them
abbrev Tells : goal.Start → List ℤ → List LatticeEntry → ℕ → Type 0
Tells s row es f = Told s.args.position es row (given_by s.args.sentence.now) (read s.args.rows.now) f

-- the turn before the loop, of entry f
module _ (s : goal.Start) (f : ℕ) (is : f ≡ s.args.lowest) (row : List ℤ) (es : List LatticeEntry) (h : Holds s row es) where
  abbrev w : Word
  w = mark s.args.position

  first_turn : Turn (in_row row) w es 0 f
  first_turn = turn (in_row row) w es h.few 0 f (omega arith) (is ∙ s.requires.lowest.0 ∙ h.head) (λ z. s.requires.lowest.1 (sym is ∙ z))

  first_told : Tells s row es f
  first_told = told h s.requires.lowest.2 f first_turn.inside first_turn.meets

  begun : Visited (in_row row) w es (offer (in_row row) w f (entry_numbered es f)) f
  begun = begin (in_row row) w es f first_turn

-- the turn that comes to entry f, for one of the two words
module _ (c : goal.In-loop-at) (f : ℕ) (is : f ≡ get_or c.args.rows.now.next.now c.loop-at.at 0) (row : List ℤ) (es : List LatticeEntry)
    (h : Holds (goal.at.In-loop-at c).Start row es) (best : Offer) (v : Visited (in_row row) (mark c.args.position) es best c.loop-at.at) where
  follows : f ≡ get_or (nexts es) c.loop-at.at 0
  follows = is ∙ h.follows c.loop-at.at v.inside

  turn_on : Turn (in_row row) (mark c.args.position) es v.going.k (get_or (nexts es) c.loop-at.at 0)
  turn_on =
      onward (in_row row) (mark c.args.position) es h.few best c.loop-at.at v
      (λ e. c.loop-at-test.true (e ∙ sym (c.from-end.ensures ∙ c.requires.lowest.3 ∙ h.tail)))

  in_turn : Turn (in_row row) (mark c.args.position) es v.going.k f
  in_turn = rw follows turn_on

  in_told : Tells (goal.at.In-loop-at c).Start row es f
  in_told = told h c.requires.lowest.2 f in_turn.inside in_turn.meets

  visited : Visited (in_row row) (mark c.args.position) es (against cheaper best (Some (offer (in_row row) (mark c.args.position) f (entry_numbered es f)))) f
  visited = rw follows (again (in_row row) (mark c.args.position) es best (get_or (nexts es) c.loop-at.at 0) v.going turn_on)

-- behind the loop the least is held
least : (c : goal.After-loop-at) (row : List ℤ) (es : List LatticeEntry) (best : Offer) → Holds (goal.at.After-loop-at c).Start row es
    → Visited (in_row row) (mark c.args.position) es best c.loop-at.at
    → Some best ≡ taken (in_row row) es (mark c.args.position)
least c row es best h v =
    done (in_row row) (mark c.args.position) es h.few best c.loop-at.at v (c.loop-at-test.false ∙ c.from-end.ensures ∙ c.requires.lowest.3 ∙ h.tail)

pub overflow_sub-at : goal.overflow_sub-at
overflow_sub-at c =
    let (es, (h, _)) = c.requires.held_both in
    (first_told (goal.at.overflow_sub-at c).Start c.from-at.result c.from-at.ensures c.args.row.now es h).above

pub offers_of-least-requires-clause-offering : goal.offers_of-least-requires-clause-offering
offers_of-least-requires-clause-offering c =
    let (es, both) = c.requires.held_both in
    let s = (goal.at.offers_of-least-requires-clause-offering c).Start in
    let f = c.from-at.result in
    let is = c.from-at.ensures in
    ((first_told s f is c.args.row.now es both.0).offering, (first_told s f is c.args.other_row.now es both.1).offering)

pub loop-at-init : goal.loop-at-init
loop-at-init c =
    let s = (goal.at.loop-at-init c).Start in
    let f = c.from-at.result in
    let is = c.from-at.ensures in (
      λ es both. (
        rw (c.offers_of-least.ensures.one ∙ (first_told s f is c.args.row.now es both.0).is) (begun s f is c.args.row.now es both.0),
        rw (c.offers_of-least.ensures.other ∙ (first_told s f is c.args.other_row.now es both.1).is) (begun s f is c.args.other_row.now es both.1),
      ),
      c.offers_of-least.ensures.near_pair,
    )

pub offers_of-rivals-requires : goal.offers_of-rivals-requires
offers_of-rivals-requires c =
    let (es, both) = c.requires.held_both in
    let l = (goal.at.offers_of-rivals-requires c).In-loop-at in
    let f = c.from-at-in-loop-at.result in
    let is = c.from-at-in-loop-at.ensures in
    let v = c.loop-at.invariant.0 es both in
    let one = in_told l f is c.args.row.now es both.0 c.loop-at.least.one v.0 in
    let other = in_told l f is c.args.other_row.now es both.1 c.loop-at.least.other v.1 in
    record { fits = one.fits; offering = (one.offering, other.offering) }

pub loop-at-preserved : goal.loop-at-preserved
loop-at-preserved c =
    let best = c.loop-at.least in
    let l = (goal.at.loop-at-preserved c).In-loop-at in
    let f = c.from-at-in-loop-at.result in
    let is = c.from-at-in-loop-at.ensures in
    let rivals = c.offers_of-rivals in (
      λ es both.
          let v = c.loop-at.invariant.0 es both in (
            rw (c.cheaper_of.ensures, rivals.ensures.one ∙ (in_told l f is c.args.row.now es both.0 best.one v.0).is)
                (visited l f is c.args.row.now es both.0 best.one v.0),
            rw (c.cheaper_of-in-loop-at.ensures, rivals.ensures.other ∙ (in_told l f is c.args.other_row.now es both.1 best.other v.1).is)
                (visited l f is c.args.other_row.now es both.1 best.other v.1),
          ),
      (
        rw c.cheaper_of.ensures (near_against c.args.position best.one rivals.result.one c.loop-at.invariant.1.0 rivals.ensures.near_pair.0),
        rw c.cheaper_of-in-loop-at.ensures (near_against c.args.position best.other rivals.result.other c.loop-at.invariant.1.1 rivals.ensures.near_pair.1),
      ),
    )

pub returns-clause-least : goal.returns-clause-least
returns-clause-least c =
    let after = (goal.at.returns-clause-least c).After-loop-at in
    let l = c.loop-at in
    λ es both. (
      least after c.args.row.now es l.least.one both.0 (l.invariant.0 es both).0,
      least after c.args.other_row.now es l.least.other both.1 (l.invariant.0 es both).1,
    )
