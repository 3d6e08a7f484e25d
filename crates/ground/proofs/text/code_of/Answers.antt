-- The bits are taken byte by byte. Assumes nothing.
use Prim.Native.Nat.{ℕ, ◌+◌, ◌-◌, ◌*◌, ◌%◌}
use mathlib.Core.Path.{◌≡◌, ap, ◌∙◌, sym}
use native.Mathlib.Omega.{arith}
use lib.ListN.{take, drop, get_or}
use Rattle.ground.proofs.LetterLaws.{code_sized, six_next}
use Rattle.ground.specs.Text.{six_bits, lead_bits}
use Rattle.ground.specs.Filling.{letter_of_size}
use Rattle.ground.proofs.text.code_of.Goals as goal
use Rattle.ground.proofs.text.code_of.Goals.{Start}

-- where there are 1 + k bytes, these are the code point
told : (s : goal.Start) (k : ℕ) → s.args.size - 1 ≡ k → (letter_of_size s.args.bytes.now s.args.size).code ≡ (six_bits (lead_bits k (get_or s.args.bytes.now 0 0)) (take k (drop 1 s.args.bytes.now)))
told s k e = code_sized s.args.bytes.now s.args.size (omega arith) (omega arith) ∙ ap (λ (n : ℕ). (six_bits (lead_bits n (get_or s.args.bytes.now 0 0)) (take n (drop 1 s.args.bytes.now)))) e

pub returns-then-size-eq1 : goal.returns-then-size-eq1
unfolding six_bits
returns-then-size-eq1 c = c.from-lead.ensures ∙ sym (told (goal.at.returns-then-size-eq1 c).Start 0 (omega arith))

pub returns-then-size-eq2 : goal.returns-then-size-eq2
unfolding six_bits
returns-then-size-eq2 c =
    let bytes = c.args.bytes.now in
    let two : (six_bits (lead_bits 1 (get_or c.args.bytes.now 0 0)) (take 1 (drop 1 c.args.bytes.now))) ≡ get_or bytes 0 0 % 32 * 64 + get_or bytes 1 0 % 64 = six_next bytes 0 1 (get_or bytes 0 0 % 32) (omega arith) in
    let read : c.with_six.result ≡ (six_bits (lead_bits 1 (get_or c.args.bytes.now 0 0)) (take 1 (drop 1 c.args.bytes.now))) = cc in
    read ∙ sym (told (goal.at.returns-then-size-eq2 c).Start 1 (omega arith))

pub returns-then-size-eq3 : goal.returns-then-size-eq3
unfolding six_bits
returns-then-size-eq3 c =
    let bytes = c.args.bytes.now in
    let first = get_or bytes 0 0 % 16 in
    let three : (six_bits (lead_bits 2 (get_or c.args.bytes.now 0 0)) (take 2 (drop 1 c.args.bytes.now))) ≡ (first * 64 + get_or bytes 1 0 % 64) * 64 + get_or bytes 2 0 % 64 =
    six_next bytes 1 1 first (omega arith) ∙ six_next bytes 0 2 (first * 64 + get_or bytes 1 0 % 64) (omega arith) in
    let read : c.with_six-then-size-eq3-2.result ≡ (six_bits (lead_bits 2 (get_or c.args.bytes.now 0 0)) (take 2 (drop 1 c.args.bytes.now))) = cc in
    read ∙ sym (told (goal.at.returns-then-size-eq3 c).Start 2 (omega arith))

pub returns : goal.returns
unfolding six_bits
returns c =
    let bytes = c.args.bytes.now in
    let first = get_or bytes 0 0 % 8 in
    let second = first * 64 + get_or bytes 1 0 % 64 in
    let four : (six_bits (lead_bits 3 (get_or c.args.bytes.now 0 0)) (take 3 (drop 1 c.args.bytes.now))) ≡ (second * 64 + get_or bytes 2 0 % 64) * 64 + get_or bytes 3 0 % 64 =
    six_next bytes 2 1 first (omega arith)
    ∙ six_next bytes 1 2 second (omega arith)
    ∙ six_next bytes 0 3 (second * 64 + get_or bytes 2 0 % 64) (omega arith) in
    let read : c.with_six-4.result ≡ (six_bits (lead_bits 3 (get_or c.args.bytes.now 0 0)) (take 3 (drop 1 c.args.bytes.now))) = cc in
    read ∙ sym (told (goal.at.returns c).Start 3 (omega arith))
