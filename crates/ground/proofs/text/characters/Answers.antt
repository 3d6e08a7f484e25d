-- The tests of the text, then the rows' lengths, then the filling. Assumes nothing.
use Prim.Native.Nat.{ℕ, ◌+◌}
use mathlib.Core.Path.{◌≡◌, refl, ap, ap₂, ◌∙◌, sym}
use mathlib.Core.Bool.{Bool, true, false, ◌||◌}
use borrow.Author.Tests.{lt-ltb, le-ltb}
use native.Mathlib.Omega.{arith}
use lib.ListN.{length}
use lib.IntN.{pos}
use mathlib.Core.List.{List}
use Rattle.ground.specs.Characters
use Rattle.ground.specs.Answer.{work_done, refuse}
use Rattle.ground.specs.Characters.{checked, outcome, short, filled_unless}
use Rattle.ground.specs.Text.{letters}
use Rattle.ground.specs.declared.answer.Refusal.TheVariants.{ShortRow}
use Rattle.std.specs.Prelude.{Ok, Err}
use Rattle.std.proofs.lemmas.Result.{err_from_is_err_and}
use Rattle.ground.proofs.CharacterLaws.{passed, by_tests}
use Rattle.ground.proofs.text.characters.Goals as goal
use Rattle.ground.proofs.text.characters.Goals.{In_ok-n}

-- the tests were passed
tests : (c : goal.In_ok-n) → checked c.args.text.now ≡ Ok (c.in_ok-n.n)
tests c = sym c.check.ensures ∙ c.in_ok-n.was

-- and so the rows' lengths decide
rows : (c : goal.In_ok-n) (a b : Bool) → short (c.in_ok-n.n) c.args.offset.now ≡ a → short (c.in_ok-n.n) c.args.run.now ≡ b
    → filled_unless (refuse (a || b) ShortRow) c.args.text.now c.args.offset.now c.args.run.now
    ≡ Characters.characters c.args.text.now c.args.offset.now c.args.run.now
rows c a b p q =
    let s = c.args in
    ap (λ (t : Bool). filled_unless (refuse t ShortRow) s.text.now s.offset.now s.run.now) (sym (ap₂ ◌||◌ p q))
    ∙ by_tests s.text.now s.offset.now s.run.now (Ok (c.in_ok-n.n)) (tests c)

pub returns-then-offset-n : goal.returns-then-offset-n
returns-then-offset-n c =
    let s = c.args in
    rows (goal.at.returns-then-offset-n c).In_ok-n true (short (c.in_ok-n.n) s.run.now) (lt-ltb (length s.offset.now) (c.in_ok-n.n + 1) (omega arith)) refl

pub returns-then-run-n : goal.returns-then-run-n
returns-then-run-n c =
    let s = c.args in
    rows (goal.at.returns-then-run-n c).In_ok-n false true (le-ltb (length s.offset.now) (c.in_ok-n.n + 1) (omega arith)) (lt-ltb (length s.run.now) (c.in_ok-n.n + 1) (omega arith))

pub fill-requires : goal.fill-requires
fill-requires c =
    record {
      sound = passed c.args.text.now (c.in_ok-n.n) (tests (goal.at.fill-requires c).In_ok-n);
      room = (omega arith, omega arith);
    }

pub overflow_cast-result : goal.overflow_cast-result
overflow_cast-result c =
    omega (arith, (passed c.args.text.now (c.in_ok-n.n) (tests (goal.at.overflow_cast-result c).In_ok-n)).few)

pub returns-in_err-n : goal.returns-in_err-n
returns-in_err-n c =
    let s = c.args in
    let p = err_from_is_err_and c.from_residual.result c.from_residual.ensures.1 in
    rw (p.1, p.2) (by_tests s.text.now s.offset.now s.run.now (Err c.in_err-n.field-0.0) (sym c.check.ensures ∙ c.in_err-n.was))

pub returns : goal.returns
returns c =
    let s = c.args in
    ap (λ (k : ℕ). outcome (work_done k (pos 0)) c.fill.new.offset c.fill.new.run) (passed s.text.now (c.in_ok-n.n) (tests (goal.at.returns c).In_ok-n)).count
    ∙ ap₂ (λ (o r : List ℕ). outcome (work_done (length (letters s.text.now)) (pos 0)) o r) c.fill.ensures.offset_after c.fill.ensures.run_after
    ∙ rows (goal.at.returns c).In_ok-n false false (le-ltb (length s.offset.now) (c.in_ok-n.n + 1) (omega arith)) (le-ltb (length s.run.now) (c.in_ok-n.n + 1) (omega arith))
