use Rattle.std.proofs.Common.{ℕ, ◌≡◌, ◌+◌, ◌∙◌, ap, sym, subst, get_or, Some, arith}
use Rattle.ground.proofs.RowLaws.{in_row}
use Rattle.ground.specs.Entry.{none_link}
use Rattle.walk.specs.WalkBack.{link_at}
use Rattle.walk.specs.declared.walk_back.Link.{Link}
use Rattle.walk.proofs.Passes.{Counting, counting_none, counting_more, counting_done, counting_broken}
use Rattle.walk.proofs.walk_back.count.Goals as goal
use Rattle.walk.proofs.walk_back.count.Goals.{After-link_at}

pub loop-k-init : goal.loop-k-init
loop-k-init c =
    let a = c.args in
    counting_none a.start.now a.end.now a.left.now a.n

-- what the link says, in the rule's words
link : (c : After-link_at)
    → link_at c.args.start.now c.args.end.now c.loop-k.position (get_or c.args.left.now c.loop-k.entry none_link) ≡ c.link_at.result
link c =
    let a = c.args in
    sym (ap (λ (x : ℕ). link_at a.start.now a.end.now c.loop-k.position x) (in_row a.left.now c.loop-k.entry 0 none_link (omega arith)))
    ∙ sym c.link_at.ensures

pub returns-in_err-k : goal.returns-in_err-k
returns-in_err-k c =
    let l = c.loop-k in
    let a = c.args in
    c.from_residual.ensures
    ∙ counting_broken a.start.now a.end.now a.left.now a.n l.position l.entry l.count l.invariant
    (link (goal.at.returns-in_err-k c).After-link_at ∙ c.in_err-k.was)

pub loop-k-preserved : goal.loop-k-preserved
loop-k-preserved c =
    let l = c.loop-k in
    let a = c.args in
    let k = c.in-ToCandidate.k in
    let leads = link (goal.at.loop-k-preserved c).After-link_at ∙ c.in_ok-k.was ∙ ap (λ (x : Link). Some x) c.in-ToCandidate.is in
    subst (λ (position : ℕ). Counting a.start.now a.end.now a.left.now a.n position (k + 1) (l.count + 1)) (sym c.from-position.ensures)
    (counting_more a.start.now a.end.now a.left.now a.n l.position l.entry l.count l.invariant k leads)

pub returns : goal.returns
returns c =
    let l = c.loop-k in
    let a = c.args in
    counting_done a.start.now a.end.now a.left.now a.n l.position l.entry l.count l.invariant
    (link (goal.at.returns c).After-link_at ∙ c.in_ok-k.was ∙ ap (λ (x : Link). Some x) c.in_default.is)
