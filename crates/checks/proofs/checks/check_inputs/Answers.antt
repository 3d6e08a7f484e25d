-- A test at a time: those before it did not hold. Assumes nothing.
use Rattle.std.proofs.Common.{ℕ, ◌≡◌, ap₂, sym, ◌∙◌, length, arith, Ok, None}
use Rattle.std.proofs.lemmas.Result.{err_from_is_err_and}
use borrow.Author.Tests.{lt-ltb, le-ltb}
use Rattle.ground.specs.Limits.{candidate_limit}
use Rattle.ground.specs.Characters.{text_refused, checked}
use Rattle.ground.specs.declared.charge.Mode.{Mode}
use Rattle.checks.specs.Inner.{mode_refused}
use Rattle.checks.specs.declared.checks.Passed.{Passed}
use Rattle.checks.proofs.CheckLaws.{told_ok, told_err}
use Rattle.checks.proofs.checks.check_inputs.Goals as goal
use Rattle.checks.proofs.checks.check_inputs.Goals.{Else-bad_matrix, Else-job-gt-CANDIDATE_LIMIT, Else-uneven, In_ok-n}

abbrev passed : ℕ → Mode → Passed
passed n mode = record { n = n; mode = mode }

-- the text passed
text_fine : (c : goal.In_ok-n) → (text_refused c.args.job.now.text.now ≡ None)
unfolding checked
text_fine c = (told_ok (text_refused c.args.job.now.text.now) _ _ (sym c.in_ok-n.was ∙ c.check.ensures)).0

pub returns-in_err-n : goal.returns-in_err-n
unfolding checked
returns-in_err-n c =
    let p = err_from_is_err_and c.from_residual.result c.from_residual.ensures.1 in
    let t = told_err (text_refused c.args.job.now.text.now) _ _ (sym c.in_err-n.was ∙ c.check.ensures) in
    rw (p.1, p.2, t)

pub returns-then-uneven : goal.returns-then-uneven
returns-then-uneven c = rw (text_fine (goal.at.returns-then-uneven c).In_ok-n, sym c.uneven.ensures ∙ c.if-uneven.true)

pub returns-then-job-gt-CANDIDATE_LIMIT : goal.returns-then-job-gt-CANDIDATE_LIMIT
returns-then-job-gt-CANDIDATE_LIMIT c =
    rw (
      text_fine (goal.at.returns-then-job-gt-CANDIDATE_LIMIT c).In_ok-n,
      sym c.uneven.ensures ∙ c.if-uneven.false,
      lt-ltb candidate_limit (length c.args.job.now.candidates.start.now) (omega arith),
    )

pub returns-then-bad_matrix : goal.returns-then-bad_matrix
returns-then-bad_matrix c =
    rw (
      text_fine (goal.at.returns-then-bad_matrix c).In_ok-n,
      sym c.uneven.ensures ∙ c.if-uneven.false,
      le-ltb candidate_limit (length c.args.job.now.candidates.start.now) (omega arith),
      sym c.bad_matrix.ensures ∙ c.if-bad_matrix.true,
    )

pub returns-in_err-mode : goal.returns-in_err-mode
returns-in_err-mode c =
    let p = err_from_is_err_and c.from_residual-in_err-mode.result c.from_residual-in_err-mode.ensures.1 in
    let t = told_err (mode_refused c.args.job.now.mode) _ _ c.in_err-mode.ensures in
    rw (
      p.1,
      p.2,
      text_fine (goal.at.returns-in_err-mode c).In_ok-n,
      sym c.uneven.ensures ∙ c.if-uneven.false,
      le-ltb candidate_limit (length c.args.job.now.candidates.start.now) (omega arith),
      sym c.bad_matrix.ensures ∙ c.if-bad_matrix.false,
      t,
    )

pub returns : goal.returns
unfolding checked
returns c =
    let text = told_ok (text_refused c.args.job.now.text.now) _ _ (sym c.in_ok-n.was ∙ c.check.ensures) in
    let mode = told_ok (mode_refused c.args.job.now.mode) _ _ c.in_ok-mode.ensures in
    rw (
      text.0,
      sym c.uneven.ensures ∙ c.if-uneven.false,
      le-ltb candidate_limit (length c.args.job.now.candidates.start.now) (omega arith),
      sym c.bad_matrix.ensures ∙ c.if-bad_matrix.false,
      mode.0,
    )
    (ap₂ (λ (n : ℕ) (mode : Mode). Ok (passed n mode)) (sym text.1) (sym mode.1))
