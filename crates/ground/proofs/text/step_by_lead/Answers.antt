-- The lead byte tells the length, and a length below three that it is no kanji. Assumes nothing.
use Prim.Native.Nat.{◌≤◌, ◌<◌}
use mathlib.Core.Path.{◌≡◌, sym}
use native.Mathlib.Omega.{arith}
use lib.ListN.{get_or}
use Rattle.ground.specs.Filling.{size_by_lead, letter_of_size}
use Rattle.ground.proofs.LetterLaws.{code_one, code_two}
use Rattle.ground.proofs.RangeLaws.{at_least_below, at_least_above, no_kanji_below}
use Rattle.ground.proofs.text.step_by_lead.Goals as goal
use Rattle.ground.proofs.text.step_by_lead.Goals.{Else-lead-lt224, Start, Then-within}

-- the tests' bounds tell the length
one : (s : goal.Start) → (get_or s.args.bytes.now 0 0) < 0x80 → size_by_lead (get_or s.args.bytes.now 0 0) ≡ 1
one s h = omega (arith, at_least_below 0x80 (get_or s.args.bytes.now 0 0) h, at_least_below 0xe0 (get_or s.args.bytes.now 0 0) (omega arith), at_least_below 0xf0 (get_or s.args.bytes.now 0 0) (omega arith))

two : (s : goal.Start) → 0x80 ≤ (get_or s.args.bytes.now 0 0) → (get_or s.args.bytes.now 0 0) < 0xe0 → size_by_lead (get_or s.args.bytes.now 0 0) ≡ 2
two s l h = omega (arith, at_least_above 0x80 (get_or s.args.bytes.now 0 0) l, at_least_below 0xe0 (get_or s.args.bytes.now 0 0) h, at_least_below 0xf0 (get_or s.args.bytes.now 0 0) (omega arith))

pub returns-then-lead-lt128 : goal.returns-then-lead-lt128
returns-then-lead-lt128 c =
    (sym (one (goal.at.returns-then-lead-lt128 c).Start c.if-lead-lt128.true), sym (no_kanji_below ((letter_of_size c.args.bytes.now 1).code) (omega (arith, code_one c.args.bytes.now c.if-lead-lt128.true))))

pub returns-then-lead-lt224 : goal.returns-then-lead-lt224
returns-then-lead-lt224 c =
    let size = two (goal.at.returns-then-lead-lt224 c).Start c.if-lead-lt128.false c.if-lead-lt224.true in
    (sym size, sym (no_kanji_below ((letter_of_size c.args.bytes.now 2).code) (omega (arith, code_two c.args.bytes.now (omega (arith, size))))))
