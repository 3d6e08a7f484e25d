-- The tests in their order; then the work. Assumes nothing.
use Prim.Native.Nat.{ℕ}
use mathlib.Core.Path.{◌≡◌, ap, ◌∙◌, sym, subst}
use Rattle.std.specs.Prelude.{None, Some}
use Rattle.std.proofs.lemmas.Result.{err_from_is_err_and}
use Rattle.ground.specs.Characters.{Sound}
use Rattle.ground.specs.Text.{letters}
use Rattle.ground.specs.declared.answer.Refusal.TheVariants.{ShortRow}
use Rattle.lattice.specs.Accepted.{Accepted}
use Rattle.lattice.specs.Lattice.{lattice}
use Rattle.lattice.specs.Size.{AllInRange}
use Rattle.checks.specs.Job.{told, JobRows, character_count, candidate_count}
use Rattle.checks.specs.Checks.{short_row, input_refused, candidates_refused, refused}
use Rattle.checks.specs.Inner.{passed_inputs, first_refusal}
use Rattle.checks.specs.declared.checks.Passed.{Passed}
use Rattle.checks.proofs.CheckLaws.{InputsPassed, inputs_passed, candidates_passed, by_inputs, by_rows, by_candidates, told_ok, told_err}
use Rattle.segmenter.specs.Segment.{given_in, worked}
use Rattle.segmenter.specs.Lent.{ten}
use Rattle.segmenter.proofs.JobLaws.{accepted, refused_leaves, passed_job}
use Rattle.segmenter.proofs.segment.segment.Goals as goal
use Rattle.segmenter.proofs.segment.segment.Goals.{Start, In_ok-passed, After-short_row, Then-short_row, Else-short_row, In_ok-check_candidates}

-- the rows as they came
abbrev came : Start → JobRows
came s = let a = s.args in ten a.offset.now a.run.now a.rows.now a.words.now

-- what the tests of the inputs told
inputs_told : (c : In_ok-passed) → (input_refused (told c.args.job.now) ≡ None) × (passed_inputs (told c.args.job.now) ≡ c.in_ok-passed.passed)
inputs_told c = told_ok _ _ _ c.in_ok-passed.ensures

n_told : (c : In_ok-passed) → character_count (told c.args.job.now) ≡ c.in_ok-passed.passed.n
n_told c = ap (λ (p : Passed). p.n) (inputs_told c).1

inputs : (c : In_ok-passed) → InputsPassed (told c.args.job.now)
inputs c = inputs_passed (told c.args.job.now) (inputs_told c).0

-- the rows' lengths are tested as the rules say
short : (c : After-short_row) → c.short_row.result ≡ short_row (character_count (told c.args.job.now)) (candidate_count (told c.args.job.now)) (came (goal.at.After-short_row c).Start)
short c =
    c.short_row.ensures
    ∙ ap (λ (n : ℕ). short_row n (candidate_count (told c.args.job.now)) (came (goal.at.After-short_row c).Start)) (sym (n_told (goal.at.After-short_row c).In_ok-passed))

-- past them the candidates' tests decide
decides : (c : Else-short_row)
    → refused (told c.args.job.now) (came (goal.at.Else-short_row c).Start) ≡ first_refusal c.in_ok-passed.passed.n c.args.job.now.candidates c.args.job.now.matrix
decides c =
    let j = told c.args.job.now in
    by_candidates j (came (goal.at.Else-short_row c).Start) (inputs_told (goal.at.Else-short_row c).In_ok-passed).0
    (sym (short (goal.at.Else-short_row c).After-short_row) ∙ c.if-short_row.false)
    ∙ ap (λ (n : ℕ). candidates_refused n j.start j.end j.kind j.entry j.height j.width) (n_told (goal.at.Else-short_row c).In_ok-passed)

-- and where none of them holds
none_refused : (c : In_ok-check_candidates) → refused (told c.args.job.now) (came (goal.at.In_ok-check_candidates c).Start) ≡ None
none_refused c = decides (goal.at.In_ok-check_candidates c).Else-short_row ∙ (told_ok _ _ _ c.in_ok-check_candidates.ensures).0

pub returns-in_err-passed-clause-leaves : goal.returns-in_err-passed-clause-leaves
returns-in_err-passed-clause-leaves c =
    let p = err_from_is_err_and c.from_residual.result c.from_residual.ensures.1 in
    rw (p.1, p.2) (refused_leaves (told c.args.job.now) _ _ (by_inputs (told c.args.job.now) _ _ (told_err _ _ _ c.in_err-passed.ensures))).0

pub returns-in_err-passed-clause-ranged : goal.returns-in_err-passed-clause-ranged
returns-in_err-passed-clause-ranged c =
    (refused_leaves (told c.args.job.now) _ _ (by_inputs (told c.args.job.now) _ _ (told_err _ _ _ c.in_err-passed.ensures))).1

refused_by_rows : (c : Then-short_row) → refused (told c.args.job.now) (came (goal.at.Then-short_row c).Start) ≡ Some ShortRow
refused_by_rows c =
    by_rows (told c.args.job.now) (came (goal.at.Then-short_row c).Start) (inputs_told (goal.at.Then-short_row c).In_ok-passed).0
    (sym (short (goal.at.Then-short_row c).After-short_row) ∙ c.if-short_row.true)

pub returns-then-short_row-clause-leaves : goal.returns-then-short_row-clause-leaves
returns-then-short_row-clause-leaves c = (refused_leaves _ _ _ (refused_by_rows (goal.at.returns-then-short_row-clause-leaves c).Then-short_row)).0

pub returns-then-short_row-clause-ranged : goal.returns-then-short_row-clause-ranged
returns-then-short_row-clause-ranged c = (refused_leaves _ _ _ (refused_by_rows (goal.at.returns-then-short_row-clause-ranged c).Then-short_row)).1

pub check_candidates-requires : goal.check_candidates-requires
check_candidates-requires c = let i = inputs (goal.at.check_candidates-requires c).In_ok-passed in ((i.ends, i.kinds, i.entries), i.few)

pub returns-in_err-check_candidates-clause-leaves : goal.returns-in_err-check_candidates-clause-leaves
returns-in_err-check_candidates-clause-leaves c =
    let r = c.from_residual-in_err-check_candidates in
    let p = err_from_is_err_and r.result r.ensures.1 in
    rw (p.1, p.2)
    (refused_leaves _ _ _ (decides (goal.at.returns-in_err-check_candidates-clause-leaves c).Else-short_row ∙ told_err _ _ _ c.in_err-check_candidates.ensures)).0

pub returns-in_err-check_candidates-clause-ranged : goal.returns-in_err-check_candidates-clause-ranged
returns-in_err-check_candidates-clause-ranged c =
    (refused_leaves _ _ _ (decides (goal.at.returns-in_err-check_candidates-clause-ranged c).Else-short_row ∙ told_err _ _ _ c.in_err-check_candidates.ensures)).1

pub work-requires-clause-sound : goal.work-requires-clause-sound
work-requires-clause-sound c =
    let j = told c.args.job.now in
    let i = inputs (goal.at.work-requires-clause-sound c).In_ok-passed in
    let e = (inputs_told (goal.at.work-requires-clause-sound c).In_ok-passed).1 in
    let none = ap (λ (n : ℕ). candidates_refused n j.start j.end j.kind j.entry j.height j.width) (n_told (goal.at.work-requires-clause-sound c).In_ok-passed)
    ∙ (told_ok _ _ _ c.in_ok-check_candidates.ensures).0 in (
      subst (λ (p : Passed). Sound j.text p.n) e i.sound,
      subst (λ (p : Passed). Accepted p.n (given_in j p.mode)) e (accepted j i (candidates_passed j none)),
      i.kinds,
    )

pub returns-clause-leaves : goal.returns-clause-leaves
returns-clause-leaves c =
    let j = told c.args.job.now in
    let e = (inputs_told (goal.at.returns-clause-leaves c).In_ok-passed).1 in
    c.work.ensures.leaves
    ∙ ap (λ (p : Passed). worked (letters j.text) j.kind (given_in j p.mode) (came (goal.at.returns-clause-leaves c).Start)) (sym e)
    ∙ passed_job j (came (goal.at.returns-clause-leaves c).Start) (none_refused (goal.at.returns-clause-leaves c).In_ok-check_candidates)

pub returns-clause-ranged : goal.returns-clause-ranged
returns-clause-ranged c q =
    let j = told c.args.job.now in
    subst (λ (p : Passed). AllInRange (lattice p.n (given_in j p.mode))) (sym (inputs_told (goal.at.returns-clause-ranged c).In_ok-passed).1)
    c.work.ensures.all_in_range
