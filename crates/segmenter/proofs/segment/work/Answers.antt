-- The three steps, each by its promise; the parts lent are the lists that the rules name. Assumes nothing.
use Prim.Native.Nat.{ℕ, ◌+◌}
use mathlib.Core.Path.{◌≡◌, ap, ◌∙◌, subst}
use mathlib.Core.List.{List}
use native.Mathlib.Omega.{arith}
use lib.ListN.{length, get_or, take, drop}
use lib.Seq.{take_at}
use lib.IntN.{pos}
use Rattle.ground.specs.Text.{letters, offsets, runs}
use Rattle.ground.proofs.RowLaws.{runs_length, offsets_length}
use Rattle.lattice.specs.Words.{Given, given}
use Rattle.lattice.specs.Lattice.{lattice}
use Rattle.lattice.specs.Rows.{held, lefts, Filled}
use Rattle.lattice.proofs.LatticeLaws.{lattice_length}
use Rattle.lattice.proofs.FillLaws.{lefts_length}
use Rattle.lattice.specs.Accepted.{Accepted}
use Rattle.lattice.specs.Size.{AllInRange}
use Rattle.walk.specs.Inner.{Ended}
use Rattle.checks.specs.Job.{told, JobRows}
use Rattle.segmenter.specs.Lent.{ten}
use Rattle.segmenter.specs.Segment.{given_in}
use Rattle.segmenter.proofs.WorkLaws.{worked_by}
use Rattle.segmenter.proofs.segment.work.Goals as goal
use Rattle.segmenter.proofs.segment.work.Goals.{After-fill, After-forward_pass, Start}

-- what the lattice reads, with a run row
abbrev reading : Start → List ℕ → Given
reading s run =
    let j = told s.args.job.now in
    given j.start j.end j.extra j.entry run s.args.passed.mode j.matrix j.width

abbrev came : Start → JobRows
came s = let a = s.args in ten a.offset.now a.run.now a.rows.now a.words.now

-- the lent part of the run row, and of the offset row
run_part : (c : After-fill) → take (c.args.passed.n + 1) c.fill.new.run ≡ runs (letters c.args.job.now.text.now)
run_part c =
    let ls = letters c.args.job.now.text.now in
    ap (λ (row : List ℕ). take (c.args.passed.n + 1) row) c.fill.ensures.run_after
    ∙ take_at (runs ls) (drop (length (runs ls)) c.args.run.now) (c.args.passed.n + 1) (omega (arith, runs_length ls, c.requires.sound.0.count))

offset_part : (c : After-fill) → take (c.args.passed.n + 1) c.fill.new.offset ≡ offsets (letters c.args.job.now.text.now)
offset_part c =
    let ls = letters c.args.job.now.text.now in
    ap (λ (row : List ℕ). take (c.args.passed.n + 1) row) c.fill.ensures.offset_after
    ∙ take_at (offsets ls) (drop (length (offsets ls)) c.args.offset.now) (c.args.passed.n + 1) (omega (arith, offsets_length 0 ls, c.requires.sound.0.count))

filled : (c : After-forward_pass)
    → Filled c.args.passed.n (lattice c.args.passed.n (reading (goal.at.After-forward_pass c).Start (runs (letters c.args.job.now.text.now)))) (held c.args.rows.now) (held c.forward_pass.new.rows)
filled c =
    subst
    (λ (run : List ℕ). Filled c.args.passed.n (lattice c.args.passed.n (reading (goal.at.After-forward_pass c).Start run)) (held c.args.rows.now) (held c.forward_pass.new.rows))
    (run_part (goal.at.After-forward_pass c).After-fill)
    c.forward_pass.ensures.filled

-- and of the left row
left_part : (c : After-forward_pass)
    → let g = reading (goal.at.After-forward_pass c).Start (runs (letters c.args.job.now.text.now)) in
    take (length c.args.job.now.candidates.start.now + 2) c.forward_pass.new.rows.left.now ≡ lefts (lattice c.args.passed.n g)
left_part c =
    let g = reading (goal.at.After-forward_pass c).Start (runs (letters c.args.job.now.text.now)) in
    let es = lattice c.args.passed.n g in
    let k = length c.args.job.now.candidates.start.now + 2 in
    ap (λ (row : List ℕ). take k row) (filled c).left
    ∙ take_at (lefts es) (drop (length (lefts es)) c.args.rows.now.left.now) k (omega (arith, lefts_length es, lattice_length g c.args.passed.n))

pub returns-clause-leaves : goal.returns-clause-leaves
returns-clause-leaves c =
    let a = c.args in
    let j = told a.job.now in
    let s = (goal.at.returns-clause-leaves c).Start in
    let words = c.finish.new.words in
    let r = c.forward_pass.new.rows in
    let ended : List ℕ → List ℕ → Type 0 = λ (offset left : List ℕ).
    Ended a.passed.n j.start j.end j.kind j.entry offset left (get_or r.cost.now (length j.start + 1) (pos 0))
    a.words.now.offset.now a.words.now.id.now a.words.now.kind.now c.finish.result words.offset.now words.id.now words.kind.now in
    worked_by (letters j.text) j.kind (given_in j a.passed.mode) (came s)
    (subst (λ (n : ℕ). Accepted n (given_in j a.passed.mode)) c.requires.sound.0.count c.requires.sound.1)
    a.passed.n c.finish.result
    c.fill.new.offset c.fill.new.run r.first.now r.last.now r.left.now r.cost.now r.next.now
    words.offset.now words.id.now words.kind.now
    c.requires.sound.0.count c.fill.ensures.offset_after c.fill.ensures.run_after (filled (goal.at.returns-clause-leaves c).After-forward_pass)
    (subst (λ (left : List ℕ). ended (offsets (letters j.text)) left) (left_part (goal.at.returns-clause-leaves c).After-forward_pass)
    (subst (λ (offset : List ℕ). ended offset (take (length j.start + 2) r.left.now)) (offset_part (goal.at.returns-clause-leaves c).After-fill)
    c.finish.ensures.finished))

pub returns-clause-all_in_range : goal.returns-clause-all_in_range
returns-clause-all_in_range c =
    subst (λ (run : List ℕ). AllInRange (lattice c.args.passed.n (reading (goal.at.returns-clause-all_in_range c).Start run)))
    (run_part (goal.at.returns-clause-all_in_range c).After-fill)
    c.forward_pass.ensures.all_in_range
