use Prim.Native.Nat.{ℕ, ◌+◌, ◌≤◌}
use mathlib.Core.Path.{◌∙◌, sym, subst}
use native.Mathlib.Omega.{arith}
use lib.ListN.{length, drop, set}
use Rattle.ground.specs.Text.{letters, offsets}
use Rattle.ground.specs.Filling.{letter_of_size, kanji_bits}
use Rattle.ground.proofs.Filled.{Filled, filled_more, filled_all}
use Rattle.ground.proofs.LetterLaws.{letter_ends}
use Rattle.ground.proofs.TextLaws.{letters_left, sizes_none}
use Rattle.ground.proofs.RowLaws.{sets_over, offsets_length, bits_length}
use Rattle.ground.proofs.text.fill_bits.Goals as goal
use Rattle.ground.proofs.text.fill_bits.Goals.{After-known_step-step}

pub known_step-step-requires : goal.known_step-step-requires
known_step-step-requires c =
    letters_left c.args.text.now c.loop-i.at (omega (arith, c.loop-i.invariant.count, c.requires.sound.count))

ends : (c : goal.After-known_step-step)
    → (1 ≤ c.known_step-step.result.size) × (c.loop-i.at + c.known_step-step.result.size ≤ length (c.args.text.now))
ends c = letter_ends (c.args.text.now) c.loop-i.at (letter_of_size (drop c.loop-i.at (c.args.text.now)) c.known_step-step.result.size) c.known_step-step.ensures.letter c.loop-i.invariant.within

pub overflow_add-at : goal.overflow_add-at
overflow_add-at c = omega (arith, ends (goal.at.overflow_add-at c).After-known_step-step)

pub loop-i-preserved : goal.loop-i-preserved
loop-i-preserved c =
    let a = c.args in
    subst
    (λ (mark : ℕ). Filled (c.args.text.now) a.offset.now a.run.now (set c.loop-i.offset c.loop-i.i c.loop-i.at)
    (set c.loop-i.run c.loop-i.i mark) (c.loop-i.at + c.known_step-step.result.size) (c.loop-i.i + 1))
    (sym c.known_step-step.ensures.bit)
    (filled_more (c.args.text.now) a.offset.now a.run.now c.loop-i.offset c.loop-i.run c.loop-i.at c.loop-i.i (letter_of_size (drop c.loop-i.at (c.args.text.now)) c.known_step-step.result.size) c.known_step-step.ensures.letter c.loop-i.invariant)

pub returns : goal.returns
returns c =
    let a = c.args in
    let ls = letters (c.args.text.now) in
    let l = c.loop-i in
    let done : Filled a.text.now a.offset.now a.run.now l.offset l.run l.at a.n =
    subst (λ (i : ℕ). Filled a.text.now a.offset.now a.run.now l.offset l.run l.at i) (omega arith) l.invariant in
    let none = sizes_none (letters (drop l.at a.text.now)) (omega (arith, done.count, c.requires.sound.count)) in
    let all = filled_all a.text.now a.offset.now a.run.now l.offset l.run l.at a.n (omega (arith, done.bytes, none, c.requires.sound.whole)) done in record {
      offset_after = all.0 ∙ sets_over (offsets ls) a.offset.now (omega (arith, offsets_length 0 ls));
      run_after = all.1 ∙ sets_over (kanji_bits ls) a.run.now (omega (arith, bits_length ls));
    }
