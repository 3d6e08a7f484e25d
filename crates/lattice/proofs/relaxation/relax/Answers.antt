-- At 0 the start mark's joint is taken; elsewhere nothing, where the first link is none, or the least from the first to the last. Assumes nothing.
use Prim.Native.Nat.{ℕ}
use mathlib.Core.Path.{sym, ap, ◌∙◌}
use lib.ListN.{get_or}
use Rattle.lattice.specs.Lattice.{mark}
use Rattle.lattice.specs.Inner.{in_row}
use Rattle.lattice.proofs.GoingLaws.{untaken, start_offer_lem}
use Rattle.lattice.proofs.relaxation.relax.Goals as goal

pub returns-then-position-eq0-clause-taken : goal.returns-then-position-eq0-clause-taken
returns-then-position-eq0-clause-taken c =
    let s = c.args in
    let q = c.if-position-eq0.true in
    λ es both. (
      rw (c.from_start.ensures.0, q) (sym (start_offer_lem s.row.now es both.0.begins both.0.away)),
      rw (c.from_start-then-position-eq0.ensures.0, q) (sym (start_offer_lem s.other_row.now es both.1.begins both.1.away)),
    )

pub returns-then-lowest-clause-taken : goal.returns-then-lowest-clause-taken
returns-then-lowest-clause-taken c =
    let s = c.args in
    let none_there = sym c.if-lowest.true ∙ ap (λ (i : ℕ). get_or s.rows.now.first.now i 0) c.from.ensures in
    λ es both. (
      sym (untaken (in_row s.row.now) (mark s.position) es both.0.few (none_there ∙ both.0.head)),
      sym (untaken (in_row s.other_row.now) (mark s.position) es both.1.few (none_there ∙ both.1.head)),
    )
