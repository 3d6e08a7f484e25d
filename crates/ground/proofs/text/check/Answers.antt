-- Test by test. Assumes nothing.
use Prim.Native.Nat.{ℕ, ◌≤◌}
use mathlib.Core.Path.{◌≡◌, ap}
use mathlib.Core.Bool.{true, false}
use borrow.Author.Tests.{lt-ltb, le-ltb, eq-eqb, ne_eqb}
use native.Mathlib.Omega.{arith}
use lib.ListN.{length}
use lib.Dec.{ltb}
use Rattle.ground.specs.Limits.{text_limit, character_limit}
use Rattle.ground.specs.Text.{letters, sizes, well_formed}
use Rattle.ground.specs.Characters.{checked}
use Rattle.ground.specs.declared.answer.Refusal.TheVariants.{NotUtf8}
use Rattle.std.specs.Prelude.{Ok, Err}
use Rattle.ground.proofs.TextLaws.{sizes_within}
use Rattle.ground.proofs.text.check.Goals as goal
use Rattle.ground.proofs.text.check.Goals.{After-measure-m}

-- the text is not too long
short : (c : goal.After-measure-m) → ltb text_limit (length (c.args.text.now)) ≡ false
short c = le-ltb text_limit (length (c.args.text.now)) c.if-text-gt-TEXT_LIMIT.false

-- its characters take all of it
whole : (c : goal.After-measure-m) → length (c.args.text.now) ≤ c.measure-m.result.bytes → well_formed (c.args.text.now) ≡ true
whole c h =
    eq-eqb (sizes (letters (c.args.text.now))) (length (c.args.text.now))
    (omega (arith, c.measure-m.ensures.1, sizes_within (c.args.text.now)))

pub returns-then-text-gt-TEXT_LIMIT : goal.returns-then-text-gt-TEXT_LIMIT
unfolding checked
returns-then-text-gt-TEXT_LIMIT c = rw (lt-ltb text_limit (length c.args.text.now) c.if-text-gt-TEXT_LIMIT.true)

pub returns-then-m-text : goal.returns-then-m-text
unfolding checked
returns-then-m-text c =
    let broken : well_formed (c.args.text.now) ≡ false = ne_eqb (sizes (letters (c.args.text.now))) (length (c.args.text.now)) (λ e. omega (arith, c.measure-m.ensures.1)) in
    rw (short (goal.at.returns-then-m-text c).After-measure-m, broken) (ap (λ (place : ℕ). Err (NotUtf8 place)) c.measure-m.ensures.1)

pub returns-then-m-gt-CHARACTER_LIMIT : goal.returns-then-m-gt-CHARACTER_LIMIT
unfolding checked
returns-then-m-gt-CHARACTER_LIMIT c =
    let many : ltb character_limit (length (letters (c.args.text.now))) ≡ true = lt-ltb character_limit (length (letters (c.args.text.now))) (omega (arith, c.measure-m.ensures.0)) in
    rw (short (goal.at.returns-then-m-gt-CHARACTER_LIMIT c).After-measure-m, whole (goal.at.returns-then-m-gt-CHARACTER_LIMIT c).After-measure-m c.if-m-text.false, many)

pub returns : goal.returns
unfolding checked
returns c =
    let few : ltb character_limit (length (letters (c.args.text.now))) ≡ false = le-ltb character_limit (length (letters (c.args.text.now))) (omega (arith, c.measure-m.ensures.0)) in
    rw (short (goal.at.returns c).After-measure-m, whole (goal.at.returns c).After-measure-m c.if-m-text.false, few) (ap Ok c.measure-m.ensures.0)
