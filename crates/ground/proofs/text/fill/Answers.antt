-- The kanji bits, counted, are the runs. Assumes nothing.
use Prim.Native.Nat.{ℕ}
use mathlib.Core.Path.{◌≡◌, ap, ◌∙◌}
use mathlib.Core.List.{List}
use native.Mathlib.Omega.{arith}
use lib.ListN.{length, take, drop, get_or}
use Rattle.ground.specs.Text.{letters}
use Rattle.ground.specs.Rows.{over}
use Rattle.ground.specs.Filling.{kanji_bits, counted}
use Rattle.ground.proofs.RowLaws.{bits_last, counted_over}
use Rattle.ground.proofs.text.fill.Goals as goal
use Rattle.ground.proofs.text.fill.Goals.{After-fill_bits}

-- the run row with a bit for each kanji
bits : (c : goal.After-fill_bits) → c.fill_bits.new.run ≡ over (kanji_bits (letters c.args.text.now)) c.args.run.now
bits c = c.fill_bits.ensures.run_after

pub count_runs-requires : goal.count_runs-requires
count_runs-requires c = (
  omega arith,
  c.requires.sound.few,
  ap (λ (row : List ℕ). get_or row c.args.n 0) (bits (goal.at.count_runs-requires c).After-fill_bits)
      ∙ ap (λ (n : ℕ). get_or (over (kanji_bits (letters c.args.text.now)) c.args.run.now) n 0) c.requires.sound.count
      ∙ bits_last (letters c.args.text.now) (drop (length (kanji_bits (letters c.args.text.now))) c.args.run.now),
)

pub returns : goal.returns
returns c =
    record {
      offset_after = c.fill_bits.ensures.offset_after;
      run_after = c.count_runs.ensures
          ∙ ap (λ (row : List ℕ). counted (take c.args.n row) (drop c.args.n row)) (bits (goal.at.returns c).After-fill_bits)
          ∙ ap (λ (n : ℕ). counted (take n (over (kanji_bits (letters c.args.text.now)) c.args.run.now)) (drop n (over (kanji_bits (letters c.args.text.now)) c.args.run.now))) c.requires.sound.count
          ∙ counted_over (letters c.args.text.now) c.args.run.now;
    }
