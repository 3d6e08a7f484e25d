use Prim.Native.Nat.{ℕ, ◌-◌, ◌≤◌, ◌<◌}
use mathlib.Core.Path.{◌∙◌, ap, subst}
use mathlib.Core.List.{List, ◌∷◌, map-id}
use native.Mathlib.Omega.{arith}
use lib.ListN.{length, get_or, set}
use Rattle.ground.specs.Rows.{over}
use Rattle.walk.proofs.Passes.{sure_link, linking_more, linking_all, placed_more, placed_all}
use Rattle.walk.proofs.walk_back.write.Invariants.{Writing}
use Rattle.walk.proofs.walk_back.write.Goals as goal
use Rattle.walk.proofs.walk_back.write.Goals.{In-loop-i}

-- the link that is to be followed
link : (c : goal.In-loop-i)
    → (c.loop-i.entry < length c.args.left.now)
    × (1 ≤ get_or c.args.left.now c.loop-i.entry 0)
link c =
    let l = c.loop-i in
    let s = sure_link c.args.left.now c.args.mark l.i l.entry c.loop-i-test.true l.invariant.1.sure in
    (s.0, s.1)

pub offset_bounds-left-entry : goal.offset_bounds-left-entry
offset_bounds-left-entry c = omega (arith, link (goal.at.offset_bounds-left-entry c).In-loop-i)

pub bounds-left-entry : goal.bounds-left-entry
bounds-left-entry c = (link (goal.at.bounds-left-entry c).In-loop-i).0

pub overflow_sub-word : goal.overflow_sub-word
overflow_sub-word c = omega (arith, link (goal.at.overflow_sub-word c).In-loop-i)

pub loop-i-preserved : goal.loop-i-preserved
loop-i-preserved c =
    let l = c.loop-i in
    let a = c.args in
    let t = c.loop-i-test.true in
    let link = get_or a.left.now l.entry 0 in
    subst
    (λ (entry : ℕ). Writing a.left.now a.mark a.count a.word.now (set l.word (l.i - 1) (link - 1)) entry (l.i - 1))
    (omega arith) (
      (link - 1) ∷ l.invariant.0,
      linking_more a.left.now a.mark a.count l.invariant.0 l.entry l.i l.invariant.1 t,
      placed_more (λ (k : ℕ). k) a.count a.word.now c.requires.1 l.invariant.0 l.word l.i (link - 1) t l.invariant.1.within l.invariant.2,
    )

pub returns : goal.returns
returns c =
    let l = c.loop-i in
    let a = c.args in
    let (found, h, p) = l.invariant in
    placed_all (λ (k : ℕ). k) a.count a.word.now c.requires.1 found l.word l.i (omega arith) h.long p
    ∙ ap (λ (new : List ℕ). over new a.word.now)
    (map-id found ∙ linking_all a.left.now a.mark a.count found l.entry l.i h (omega arith))
