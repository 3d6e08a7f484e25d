use Prim.Native.Nat.{ℕ, ◌≤◌}
use mathlib.Core.Path.{ap, ◌∙◌, sym}
use mathlib.Core.List.{List}
use native.Mathlib.Omega.{arith}
use lib.ListN.{length}
use Rattle.ground.specs.Text.{letters, sizes}
use Rattle.ground.proofs.LetterLaws.{letter_size}
use Rattle.ground.proofs.TextLaws.{letters_whole, letters_ill_formed}
use Rattle.ground.proofs.text.measure.Goals as goal
use Rattle.ground.proofs.text.measure.Goals.{In-Some}

-- the character that was found, within the rest
sized : (c : In-Some) → (1 ≤ c.in-Some.letter.size) × (c.in-Some.letter.size ≤ length c.loop-letter.rest.now)
sized c = letter_size c.loop-letter.rest.now c.in-Some.letter (sym c.letter_at.ensures ∙ c.in-Some.is)

pub split_at-requires : goal.split_at-requires
split_at-requires c = (sized (goal.at.split_at-requires c).In-Some).1

pub loop-letter-smaller : goal.loop-letter-smaller
loop-letter-smaller c = omega (arith, sized (goal.at.loop-letter-smaller c).In-Some, c.split_at.ensures.back_len)

pub loop-letter-preserved : goal.loop-letter-preserved
unfolding sizes
loop-letter-preserved c =
    let l = c.loop-letter.invariant in
    let e = c.split_at.ensures in
    let more = letters_whole c.loop-letter.rest.now c.in-Some.letter (sym c.letter_at.ensures ∙ c.in-Some.is) in
    record {
      counted = omega (arith, l.counted, ap length more, ap (λ (bytes : List ℕ). length (letters bytes)) e.back);
      taken = omega (arith, l.taken, ap sizes more, ap (λ (bytes : List ℕ). sizes (letters bytes)) e.back, e.back_len);
      few = omega (arith, l.few, sized (goal.at.loop-letter-preserved c).In-Some, e.back_len);
    }

pub returns : goal.returns
unfolding sizes
returns c =
    let none = letters_ill_formed c.loop-letter.rest.now (sym c.letter_at.ensures ∙ c.in_default.is) in
    let l = c.loop-letter.invariant in
    (omega (arith, l.counted, ap length none), omega (arith, l.taken, l.few, ap sizes none))
