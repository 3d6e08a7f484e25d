-- Row by row. Assumes nothing.
use Prim.Native.Nat.{ℕ, suc}
use mathlib.Core.Path.{◌≡◌, ap, ◌∙◌, sym}
use mathlib.Core.Bool.{Bool, true, false, cond}
use native.Mathlib.Omega.{arith}
use native.Mathlib.Numerals.{add-one}
use mathlib.Core.List.{List}
use lib.ListN.{drop, get_or, drop_of_length-le}
use Rattle.std.specs.Prelude.{Some}
use Rattle.ground.specs.Text.{lead, leads, lead_row}
use Rattle.ground.specs.declared.text.Lead.{Lead}
use Rattle.ground.proofs.LeadLaws.{row_here}
use Rattle.ground.proofs.text.lead_row.Goals as goal
use Rattle.ground.proofs.text.lead_row.Goals.{After-within}

abbrev none : Lead
none = lead 0 0 0 0 0

-- the row at the index has the byte, or not
here : (c : goal.After-within) (t : Bool) → c.within.result ≡ t
    → cond t (Some (get_or leads c.loop-row.row-index none)) (lead_row (drop (suc c.loop-row.row-index) leads) c.args.byte)
    ≡ lead_row leads c.args.byte
unfolding leads
here c t e =
    sym (row_here leads c.loop-row.row-index none c.args.byte (omega arith) t (sym c.within.ensures ∙ e)) ∙ c.loop-row.invariant

pub returns-then-within : goal.returns-then-within
unfolding leads
returns-then-within c = here (goal.at.returns-then-within c).After-within true c.if-within.true

pub loop-row-preserved : goal.loop-row-preserved
loop-row-preserved c =
    ap (λ (k : ℕ). lead_row (drop k leads) c.args.byte) (add-one c.loop-row.row-index) ∙ here (goal.at.loop-row-preserved c).After-within false c.if-within.false

pub returns : goal.returns
unfolding leads lead_row
returns c = ap (λ (l : List Lead). lead_row l c.args.byte) (sym (drop_of_length-le leads {i = c.loop-row.row-index} (omega arith))) ∙ c.loop-row.invariant
