-- What may follow is told byte by byte. Assumes nothing.
use Prim.Native.Nat.{suc, ◌-◌}
use mathlib.Core.Path.{◌≡◌, ◌∙◌, sym}
use mathlib.Core.Bool.{Bool, true, false, ◌&&◌, and-true}
use native.Mathlib.Omega.{arith}
use lib.ListN.{take, drop}
use Rattle.ground.specs.Text.{may_follow, all_later}
use Rattle.ground.proofs.LetterLaws.{follow_second, follow_later}
use Rattle.ground.proofs.text.may_follow.Goals as goal
use Rattle.ground.proofs.text.may_follow.Goals.{After-within, After-within-2}

-- at least two bytes: the second one decides, with those behind it
second : (c : goal.After-within) (t : Bool) → c.within.result ≡ t → (may_follow c.args.row (take ((c.args.row.size) - 1) (drop 1 (c.args.bytes.now)))) ≡ (t && all_later (take ((c.args.row.size) - 2) (drop 2 (c.args.bytes.now))))
second c t e =
    let k : c.args.row.size - 1 ≡ suc (c.args.row.size - 2) = omega arith in
    rw (k, follow_second c.args.row (c.args.bytes.now) (c.args.row.size - 2) (omega arith), sym c.within.ensures ∙ e)

-- at least three, and the second one may follow: the third one decides, with the fourth
third : (c : goal.After-within-2) (t : Bool) → c.within-2.result ≡ t
    → (may_follow c.args.row (take ((c.args.row.size) - 1) (drop 1 ((c.args.bytes.now))))) ≡ (t && all_later (take ((c.args.row.size) - 3) (drop 3 ((c.args.bytes.now)))))
third c t e =
    let k : c.args.row.size - 2 ≡ suc (c.args.row.size - 3) = omega arith in
    second (goal.at.After-within-2 c).After-within true c.if-not-within.false
    ∙ rw (k, follow_later (c.args.bytes.now) (c.args.row.size - 3) 2 (omega arith), sym c.within-2.ensures ∙ e)

pub returns-then-size-eq2 : goal.returns-then-size-eq2
unfolding all_later
returns-then-size-eq2 c =
    let k : (c.args.row.size) - 2 ≡ 0 = omega arith in
    sym (second (goal.at.returns-then-size-eq2 c).After-within true c.if-not-within.false ∙ rw k)

pub returns-then-not-within-2 : goal.returns-then-not-within-2
returns-then-not-within-2 c = sym (third (goal.at.returns-then-not-within-2 c).After-within-2 false c.if-not-within-2.true)

pub returns-then-size-eq3 : goal.returns-then-size-eq3
unfolding all_later
returns-then-size-eq3 c =
    let k : (c.args.row.size) - 3 ≡ 0 = omega arith in
    sym (third (goal.at.returns-then-size-eq3 c).After-within-2 true c.if-not-within-2.false ∙ rw k)

pub returns : goal.returns
unfolding all_later
returns c =
    let k : c.args.row.size - 3 ≡ suc 0 = omega arith in
    c.within-3.ensures
    ∙ sym (third (goal.at.returns c).After-within-2 true c.if-not-within-2.false ∙ rw (k, follow_later (c.args.bytes.now) 0 3 (omega arith), and-true))
