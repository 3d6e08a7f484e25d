use Prim.Native.Nat.{suc, ◌+◌, ◌≤◌}
use mathlib.Core.Path.{refl, ◌∙◌}
use native.Mathlib.Omega.{arith}
use borrow.Author.Tests.{le-ltb}
use Rattle.lattice.specs.Words.{Given, given_by, count, candidates_to, up_from}
use Rattle.lattice.specs.Lattice.{grow, entries_to}
use Rattle.lattice.specs.Rows.{LatticeRows, held, Filled}
use Rattle.lattice.specs.Inner.{entries_before}
use Rattle.lattice.proofs.LatticeLaws.{entries_length}
use Rattle.lattice.proofs.FillLaws.{SameLengths, fill_fill, fill_lengths}
use Rattle.lattice.proofs.StepLaws.{sized_start}
use Rattle.lattice.proofs.TwoLaws.{before_length, beside_low, beside_listed}
use Rattle.lattice.proofs.forward.all_words.Goals as goal
use Rattle.lattice.proofs.forward.all_words.Goals.{At-loop-k, In-loop-k, Start}

abbrev G : goal.Start → Given
G s = given_by s.args.sentence.now

abbrev T₀ : goal.Start → LatticeRows
T₀ s = held s.args.rows.now

abbrev T : goal.At-loop-k → LatticeRows
T c = held c.loop-k.rows

-- no row changes its length
lengths : (c : goal.At-loop-k) → SameLengths (T₀ (goal.at.At-loop-k c).Start) (T c)
lengths c =
    let s = (goal.at.At-loop-k c).Start in
    fill_lengths c.args.n (count (G s) + 2) (entries_before c.args.n (G s) c.loop-k.k) (T₀ s) (T c) c.requires.room.0
    (before_length c.args.n (G s) c.loop-k.k c.loop-k.invariant.0).most
    c.loop-k.invariant.2

-- in a turn the entries are those of the candidates so far
filled : (c : goal.In-loop-k) → let s = (goal.at.In-loop-k c).Start in Filled c.args.n (entries_to (G s) c.loop-k.k) (T₀ s) (T (goal.at.In-loop-k c).At-loop-k)
filled c = rw (le-ltb (count (G (goal.at.In-loop-k c).Start)) c.loop-k.k c.loop-k-test.true) at c.loop-k.invariant.2

pub loop-k-init : goal.loop-k-init
unfolding candidates_to up_from grow
loop-k-init c =
    let s = (goal.at.loop-k-init c).Start in (
      omega arith,
      record { some = λ _. sized_start c.args.n (G s) c.requires.accepted; all = λ z. absurd (omega (arith, z)) },
      rw (le-ltb (count (G s)) 0 (omega arith)) c.requires.room.1,
      record { first = refl; last = refl; left = refl; cost = refl; next = refl },
    )

pub loop-k-preserved : goal.loop-k-preserved
loop-k-preserved c =
    let p = goal.at.loop-k-preserved c in
    let g = G p.Start in
    let k = c.loop-k.k in
    let w = c.two_words-k in
    let most : w.result ≤ suc (count g) = omega (arith, w.ensures.value, beside_listed c.args.n g c.requires.accepted k c.loop-k-test.true) in
    let more : suc k ≤ w.result = omega (arith, w.ensures.value, beside_low c.args.n g c.requires.accepted k) in
    let before = c.loop-k.invariant.3 in
    let now = w.ensures.same in (
      most,
      w.ensures.filled.1,
      fill_fill c.args.n (entries_to g k) (entries_before c.args.n g w.result) (T₀ p.Start) (T p.At-loop-k) _ (filled p.In-loop-k) w.ensures.filled.0
          (omega (arith, entries_length g k, (before_length c.args.n g w.result most).least, more)),
      record {
        first = now.first ∙ before.first;
        last = now.last ∙ before.last;
        left = now.left ∙ before.left;
        cost = now.cost ∙ before.cost;
        next = now.next ∙ before.next;
      },
    )
