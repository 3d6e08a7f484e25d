-- The tests in their order, then the two passes. Assumes nothing.
use Rattle.std.proofs.Common.{ℕ, ◌≡◌, ◌+◌, ◌∙◌, ap, sym, List, length, Option, None, Some, pos, arith}
use Rattle.std.proofs.lemmas.Result.{err_from_is_err_and}
use borrow.Author.Tests.{lt-ltb, le-ltb, eq-eqb, ne_eqb}
use Rattle.ground.specs.Limits.{character_limit, candidate_limit}
use Rattle.ground.specs.Rows.{over}
use Rattle.ground.specs.Answer.{work_done}
use Rattle.walk.specs.WalkBack.{walk_back, written, walk_back_alone, outcome}
use Rattle.walk.proofs.WalkLaws.{Found, found_by, broken_found, counted_ok, counted_err}
use Rattle.walk.proofs.walk_back.walk_back.Goals as goal
use Rattle.walk.proofs.walk_back.walk_back.Goals.{After-count, In_ok-count, then-left-start-via-then-left-start, then-left-start-via-else-left-start+then-word-n}

pub returns-then-n-gt-CHARACTER_LIMIT : goal.returns-then-n-gt-CHARACTER_LIMIT
unfolding walk_back_alone
returns-then-n-gt-CHARACTER_LIMIT c = rw (lt-ltb character_limit c.args.n (omega arith))

pub returns-then-start-end : goal.returns-then-start-end
unfolding walk_back_alone
returns-then-start-end c =
    let a = c.args in
    rw (
      le-ltb character_limit a.n (omega arith),
      ne_eqb (length a.start.now) (length a.end.now) (λ e. omega arith),
    )

pub returns-then-start-gt-CANDIDATE_LIMIT : goal.returns-then-start-gt-CANDIDATE_LIMIT
unfolding walk_back_alone
returns-then-start-gt-CANDIDATE_LIMIT c =
    let a = c.args in
    rw (
      le-ltb character_limit a.n (omega arith),
      eq-eqb (length a.start.now) (length a.end.now) (omega arith),
      lt-ltb candidate_limit (length a.start.now) (omega arith),
    )

pub returns-then-left-start : goal.returns-then-left-start
unfolding walk_back_alone
returns-then-left-start c =
    let a = c.args in
    rw (
      le-ltb character_limit a.n (omega arith),
      eq-eqb (length a.start.now) (length a.end.now) (omega arith),
      le-ltb candidate_limit (length a.start.now) (omega arith),
    )
    (elim c.then-left-start.branch [
      | then-left-start-via-then-left-start w ↦ rw (lt-ltb (length a.left.now) (length a.start.now + 2) (omega arith))
      | then-left-start-via-else-left-start+then-word-n w ↦
          rw (
            le-ltb (length a.left.now) (length a.start.now + 2) (omega arith),
            lt-ltb (length a.word.now) a.n (omega arith),
          )
    ])

abbrev walked : After-count → Option (List ℕ)
walked c = let a = c.args in walk_back a.start.now a.end.now a.left.now a.n

-- once the tests are passed, the walk decides
passed : (c : After-count) (o : Option (List ℕ)) → walked c ≡ o
    → written o c.args.word.now ≡ walk_back_alone c.args.start.now c.args.end.now c.args.left.now c.args.n c.args.word.now
unfolding walk_back_alone
passed c o e =
    let a = c.args in
    rw (
      ← e,
      le-ltb character_limit a.n (omega arith),
      eq-eqb (length a.start.now) (length a.end.now) (omega arith),
      le-ltb candidate_limit (length a.start.now) (omega arith),
      le-ltb (length a.left.now) (length a.start.now + 2) (omega arith),
      le-ltb (length a.word.now) a.n (omega arith),
    )

pub returns-in_err-count : goal.returns-in_err-count
returns-in_err-count c =
    let p = err_from_is_err_and c.from_residual.result c.from_residual.ensures.1 in
    let o = counted_err _ _ _ c.in_err-count.ensures.value in
    let s = (goal.at.returns-in_err-count c).After-count in
    rw (p.1, p.2, o.1) (passed s None (broken_found (walked s) (sym c.count.ensures ∙ o.0)))

-- what the walk found, of which the first pass told the count
found : (c : In_ok-count) → Found c.args.start.now c.args.end.now c.args.left.now c.args.n c.in_ok-count.count
found c =
    let a = c.args in
    found_by a.start.now a.end.now a.left.now a.n c.in_ok-count.count (omega arith)
    (sym c.count.ensures ∙ counted_ok _ _ _ c.in_ok-count.ensures.value)

pub write-requires : goal.write-requires
write-requires c = let f = found (goal.at.write-requires c).In_ok-count in (f.sure, omega (arith, f.few))

pub overflow_cast-result : goal.overflow_cast-result
overflow_cast-result c = omega (arith, (found (goal.at.overflow_cast-result c).In_ok-count).few)

pub returns : goal.returns
returns c =
    let a = c.args in
    let f = found (goal.at.returns c).In_ok-count in
    ap (λ (row : List ℕ). outcome (work_done c.in_ok-count.count (pos 0)) row) (c.write.ensures ∙ ap (λ (new : List ℕ). over new a.word.now) f.again)
    ∙ ap (λ (count : ℕ). outcome (work_done count (pos 0)) (over f.words a.word.now)) (sym f.many)
    ∙ passed (goal.at.returns c).After-count (Some f.words) f.walked
