-- The work of a job that passed its tests: what its steps leave is what `worked` says. Assumes that the lattice accepts what is given.
use Prim.Native.Nat.{ℕ, suc, ◌+◌, ◌<◌, ◌^◌}
use mathlib.Core.Path.{◌≡◌, refl, ap, ◌∙◌, sym}
use mathlib.Core.Logic.{◌↔◌}
use mathlib.Core.Bool.{Bool, true, false, not}
use mathlib.Core.List.{List}
use native.Mathlib.Omega.{arith}
use lib.ListN.{length, get_or}
use lib.IntN.{ℤ, pos, negsuc}
use lib.Signed.{mag}
use borrow.Author.Tests.{eq-eqb, ne_eqb}
use Rattle.ground.specs.Rows.{over}
use Rattle.ground.specs.Entry.{none_link}
use Rattle.ground.specs.Text.{offsets, runs}
use Rattle.ground.specs.declared.text.Letter.{Letter}
use Rattle.ground.specs.Answer.{Answer}
use Rattle.lattice.specs.Words.{Given, count}
use Rattle.lattice.specs.Lattice.{entry_numbered, lattice}
use Rattle.lattice.specs.Rows.{lefts, costs, rows, Filled}
use Rattle.lattice.specs.Accepted.{Accepted}
use Rattle.lattice.specs.Size.{InRange, least_cost, most_cost}
use Rattle.lattice.proofs.OrderLaws.{le_read}
use Rattle.lattice.proofs.LatticeLaws.{lattice_length}
use Rattle.lattice.proofs.RuleLaws.{left_none}
use Rattle.lattice.proofs.RowRules.{lefts_at}
use Rattle.chains.proofs.ChainLaws.{held_cost}
use Rattle.checks.specs.Job.{JobRows, job_rows}
use Rattle.segmenter.specs.Segment.{outcome, worked}
use Rattle.walk.specs.Inner.{end_reached, Ended}

module _ (n : ℕ) (g : Given) (ok : Accepted n g) where
  -- the end mark's number is one of the lattice's
  there : suc (count g) < length (lattice n g)
  there = omega (arith, lattice_length g n)

  -- the end mark has a left exactly if it is reached
  pub end_left : end_reached g.start (lefts (lattice n g)) ≡ (entry_numbered (lattice n g) (suc (count g))).reached
  end_left = go (entry_numbered (lattice n g) (suc (count g))).reached refl
    where
      mark : get_or (lefts (lattice n g)) (count g + 1) 0 ≡ (entry_numbered (lattice n g) (suc (count g))).left
      mark = let e : count g + 1 ≡ suc (count g) = omega arith in rw e (lefts_at (lattice n g) (suc (count g)) there)

      none_if : ((entry_numbered (lattice n g) (suc (count g))).left ≡ none_link) ↔ ((entry_numbered (lattice n g) (suc (count g))).reached ≡ false)
      none_if = left_none n g ok (suc (count g)) there (omega arith)

      no : true ≡ false → ⊥
      no e = let z : ◌≡◌ {A = ℕ} 0 1 = cc in omega arith

      go : (t : Bool) → (entry_numbered (lattice n g) (suc (count g))).reached ≡ t → end_reached g.start (lefts (lattice n g)) ≡ t
      go true e = ap not (ne_eqb (get_or (lefts (lattice n g)) (count g + 1) 0) none_link (λ q. no (sym e ∙ none_if.0 (sym mark ∙ q))))
      go false e = ap not (eq-eqb (get_or (lefts (lattice n g)) (count g + 1) 0) none_link (mark ∙ none_if.1 e))

  -- the cost that stands at its place is its cost
  pub end_cost : (old : List ℤ) → get_or (over (costs (lattice n g)) old) (count g + 1) (pos 0) ≡ (entry_numbered (lattice n g) (suc (count g))).cost
  end_cost old = let e : count g + 1 ≡ suc (count g) = omega arith in rw e (held_cost n g ok old (suc (count g)) (omega arith))

-- a cost in document 01's range is held by thirty-two bits
pub in_range_fits : (z : ℤ) → InRange z → mag z < 2 ^ 31
in_range_fits (pos a) r = omega (arith, le_read (pos a) most_cost r.most)
in_range_fits (negsuc a) r = omega (arith, le_read least_cost (negsuc a) r.least)

-- the steps, put together
module _ (ls : List Letter) (kind : List ℕ) (g : Given) (r : JobRows) (ok : Accepted (length ls) g) where
  pub worked_by : (n : ℕ) (answer : Answer) (offset run first last left : List ℕ) (cost : List ℤ) (next word_offset word_id word_kind : List ℕ) → n ≡ length ls
      → offset ≡ over (offsets ls) r.offset → run ≡ over (runs ls) r.run
      → Filled n (lattice n g) (rows r.first r.last r.left r.cost r.next) (rows first last left cost next)
      → Ended n g.start g.end kind g.entry (offsets ls) (lefts (lattice n g)) (get_or cost (count g + 1) (pos 0)) r.word_offset r.word_id r.word_kind answer word_offset word_id word_kind
      → outcome answer (job_rows offset run first last left cost next word_offset word_id word_kind) ≡ worked ls kind g r
  unfolding worked
  worked_by n answer offset run first last left cost next word_offset word_id word_kind long o u f e =
      let filled = rw long at f in
      let ended = rw long at e in
      rw (
        ended.answers,
        o,
        u,
        filled.first,
        filled.last,
        filled.left,
        filled.next,
        ended.offsets,
        ended.ids,
        ended.kinds,
        filled.cost,
        end_cost (length ls) g ok r.cost,
        end_left (length ls) g ok,
      )
