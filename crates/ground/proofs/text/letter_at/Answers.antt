-- The first byte tells the row, and the row the character. Assumes nothing.
use Prim.Native.Nat.{ℕ, ◌<◌}
use mathlib.Core.Path.{◌≡◌, ap, ◌∙◌, sym}
use lib.ListN.{length, drop, get_or}
use Rattle.std.proofs.Common.{rules}
use Rattle.std.specs.Prelude.{Option, None, Some}
use Rattle.ground.specs.Text.{leads, lead_row, letter_by, letter_at}
use Rattle.ground.specs.declared.text.Lead.{Lead}
use Rattle.ground.proofs.LeadLaws.{row_size, common, common_found}
use Rattle.ground.proofs.LetterLaws.{letter_row, no_letter}
use Rattle.ground.proofs.text.letter_at.Goals as goal
use Rattle.ground.proofs.text.letter_at.Goals.{In_ok-lead}

pub returns-in_err-lead : goal.returns-in_err-lead
returns-in_err-lead c = c.from_residual.ensures ∙ sym (no_letter c.args.bytes.now (search rules))

-- the first byte
first : (c : In_ok-lead) → (0 < length c.args.bytes.now) × (get_or c.args.bytes.now 0 0 ≡ c.in_ok-lead.field-0.now)
first c = let e = c.in_ok-lead.ensures.item in (e.3.0, sym (e.3.1 0))

-- the character by what is found for the first byte
by_lead : (c : In_ok-lead) (found : Option Lead) → lead_row leads c.in_ok-lead.field-0.now ≡ found
    → letter_by found (get_or c.args.bytes.now 0 0) (drop 1 c.args.bytes.now) ≡ letter_at c.args.bytes.now
by_lead c found e = sym (letter_row c.args.bytes.now found (first c).0 (ap (λ (b : ℕ). lead_row leads b) (first c).1 ∙ e))

pub returns-then-within : goal.returns-then-within
returns-then-within c =
    c.letter_by.ensures
    ∙ by_lead (goal.at.returns-then-within c).In_ok-lead (Some common) (common_found c.in_ok-lead.field-0.now (sym c.within.ensures ∙ c.if-within.true))

pub returns-in_err-lead_row : goal.returns-in_err-lead_row
returns-in_err-lead_row c =
    c.from_residual-in_err-lead_row.ensures
    ∙ by_lead (goal.at.returns-in_err-lead_row c).In_ok-lead None (sym c.in_err-lead_row.ensures)

pub letter_by-requires-2 : goal.letter_by-requires-2
letter_by-requires-2 c =
    let w = row_size c.in_ok-lead.field-0.now c.in_ok-lead_row.field-0 (sym c.in_ok-lead_row.ensures) in
    (w.0, w.1, (first (goal.at.letter_by-requires-2 c).In_ok-lead).0)

pub returns : goal.returns
returns c =
    c.letter_by-2.ensures ∙ by_lead (goal.at.returns c).In_ok-lead (Some c.in_ok-lead_row.field-0) (sym c.in_ok-lead_row.ensures)
