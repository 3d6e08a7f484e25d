-- The loop's invariant is `Linking`, and that the candidates found so far are `Placed` in the row. Assumes nothing.
use Prim.Native.Nat.{ℕ}
use mathlib.Core.List.{List}
use Rattle.walk.proofs.Passes.{Linking, Placed}
use Rattle.walk.proofs.walk_back.write.Given as goal

-- the number of a candidate is all that is told of it
abbrev pub Writing : List ℕ → ℕ → ℕ → List ℕ → List ℕ → ℕ → ℕ → Type 0
Writing left mark count word₀ word entry i =
    (found : List ℕ) × Linking left mark count found entry i × Placed (λ (k : ℕ). k) found count i word₀ word

abbrev pub invariant-loop-i : goal.invariant-loop-i
invariant-loop-i l = Writing l.left l.mark l.count l.initial.word l.word l.entry l.i
