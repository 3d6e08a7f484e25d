use Prim.Native.Nat.{ℕ, suc, ◌+◌, ◌-◌, ◌≤◌}
use mathlib.Core.Path.{◌≡◌, refl, ap, ◌∙◌, subst}
use mathlib.Core.List.{◌++◌}
use native.Mathlib.Omega.{arith}
use lib.ListN.{take, get_or, set, length-set}
use lib.Seq.{get_or-set_same}
use Rattle.ground.specs.Filling.{is_set}
use Rattle.ground.proofs.RowLaws.{behind, counted_none, counted_more, run_most}
use Rattle.ground.proofs.text.count_runs.Goals as goal

pub loop-i-init : goal.loop-i-init
loop-i-init c =
    let a = c.args in
    (omega arith, refl, counted_none a.run.now a.n (omega arith), omega arith)

pub loop-i-preserved : goal.loop-i-preserved
loop-i-preserved c =
    let l = c.loop-i in
    let a = c.args in
    let j = l.i - 1 in
    let e : l.i ≡ suc j = omega arith in
    let before : l.run ≡ take (suc j) a.run.now ++ behind a.run.now a.n (suc j) =
    subst (λ (k : ℕ). l.run ≡ take k a.run.now ++ behind a.run.now a.n k) e l.invariant.2 in
    let e1 : j + 1 ≡ l.i = omega arith in
    let small : get_or l.run (j + 1) 0 ≤ a.n - l.i = rw e1 l.invariant.3 in (
      omega arith,
      length-set l.run j c.run_of.result ∙ l.invariant.1,
      ap (λ (x : ℕ). set l.run j x) c.run_of.ensures ∙ counted_more a.run.now a.n (omega arith) l.run j (omega arith) before,
      rw (get_or-set_same l.run j c.run_of.result 0 (omega arith))
          (omega (arith, c.run_of.ensures, run_most (is_set (get_or l.run j 0)) (get_or l.run (j + 1) 0))),
    )
