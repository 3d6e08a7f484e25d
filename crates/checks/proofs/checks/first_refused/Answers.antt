use Rattle.std.proofs.Common.{ℕ, ◌≡◌, ◌-◌, ◌∙◌, ap, sym, length, arith, Err}
use Rattle.std.proofs.lemmas.Result.{err_from_is_err_and}
use Rattle.std.specs.Prelude.{Option}
use Rattle.ground.specs.declared.answer.Refusal.{Refusal}
use Rattle.checks.specs.Checks.{first_refused}
use Rattle.ground.specs.Answer.{unless}
use Rattle.checks.specs.Inner.{candidate_refusal}
use Rattle.checks.proofs.CheckLaws.{first_step, or_none, or_some, told_ok, told_err}
use Rattle.checks.proofs.checks.first_refused.Goals as goal
use Rattle.checks.proofs.checks.first_refused.Goals.{Start}

abbrev test : goal.Start → ℕ → Option Refusal
test s = let a = s.args in candidate_refusal a.n a.candidates.now a.matrix.now

pub returns-in_err-check_candidate : goal.returns-in_err-check_candidate
returns-in_err-check_candidate c =
    let s = (goal.at.returns-in_err-check_candidate c).Start in
    let k = c.loop-k.k in
    let p = err_from_is_err_and c.from_residual.result c.from_residual.ensures.1 in
    let t = told_err (test s k) _ tt c.in_err-check_candidate.ensures in
    p.1 ∙ ap Err p.2 ∙ ap (λ (o : Option Refusal). unless o tt) (sym (or_some _ _ _ t) ∙ sym (first_step (test s) k _ c.loop-k-test.true) ∙ c.loop-k.invariant)

pub loop-k-preserved : goal.loop-k-preserved
loop-k-preserved c =
    let s = (goal.at.loop-k-preserved c).Start in
    let k = c.loop-k.k in
    let t = told_ok (test s k) tt tt c.in_ok-check_candidate.ensures in
    sym (or_none _ _ t.0) ∙ sym (first_step (test s) k _ c.loop-k-test.true) ∙ c.loop-k.invariant

pub returns : goal.returns
unfolding first_refused
returns c =
    let k = c.loop-k.k in
    let s = (goal.at.returns c).Start in
    let none_left : 0 ≡ length c.args.candidates.now.start.now - k = omega arith in
    ap (λ (o : Option Refusal). unless o tt) (ap (λ (many : ℕ). first_refused (test s) k many) none_left ∙ c.loop-k.invariant)
