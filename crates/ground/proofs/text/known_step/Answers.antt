-- A well-formed character is told by its lead byte. Assumes nothing.
use Prim.Native.Nat.{ℕ, ◌≤◌}
use mathlib.Core.Path.{◌≡◌, ap, ◌∙◌, sym}
use mathlib.Core.List.{List}
use native.Mathlib.Omega.{arith}
use lib.ListN.{length, drop, get_or, length-drop}
use Rattle.ground.specs.Text.{letter_at}
use Rattle.ground.specs.Filling.{size_by_lead, letter_of_size, kanji_bit}
use Rattle.std.specs.Prelude.{Some}
use Rattle.ground.proofs.LeadLaws.{lead_size}
use Rattle.ground.proofs.LetterLaws.{letter_parts, well_formed_lem, part_rest}
use Rattle.ground.proofs.text.known_step.Goals as goal
use Rattle.ground.proofs.text.known_step.Goals.{Start}

-- the character that stands there is told by its lead byte
told : (s : goal.Start) → (letter_at (drop s.args.at s.args.text.now) ≡ Some (letter_of_size (drop s.args.at s.args.text.now) (size_by_lead (get_or (drop s.args.at s.args.text.now) 0 0)))) × (size_by_lead (get_or (drop s.args.at s.args.text.now) 0 0) ≤ length (drop s.args.at s.args.text.now))
told s =
    let found = well_formed_lem (drop s.args.at s.args.text.now) s.requires.1 in
    let p = letter_parts (drop s.args.at s.args.text.now) found.0 found.1 in
    let size : found.0.size ≡ size_by_lead (get_or (drop s.args.at s.args.text.now) 0 0) = p.size ∙ sym (lead_size (get_or (drop s.args.at s.args.text.now) 0 0) p.row p.lead) in (
      found.1
          ∙ ap (λ (code : ℕ). Some (record { size = found.0.size; code = code })) p.code
          ∙ ap (λ (n : ℕ). Some (letter_of_size (drop s.args.at s.args.text.now) n)) size,
      omega (arith, p.enough),
    )

pub step_by_lead-requires : goal.step_by_lead-requires
step_by_lead-requires c =
    rw (part_rest c.args.text.now c.args.at) (omega (arith, length-drop c.args.at c.args.text.now), (told (goal.at.step_by_lead-requires c).Start).1)

pub returns : goal.returns
returns c =
    let step = c.step_by_lead.result in
    let rest = part_rest c.args.text.now c.args.at in
    let size : step.size ≡ size_by_lead (get_or (drop c.args.at c.args.text.now) 0 0) = c.step_by_lead.ensures.0 ∙ ap (λ (l : List ℕ). size_by_lead (get_or l 0 0)) rest in record {
      letter = (told (goal.at.returns c).Start).0 ∙ ap (λ (n : ℕ). Some (letter_of_size (drop c.args.at c.args.text.now) n)) (sym size);
      bit = c.step_by_lead.ensures.1 ∙ ap (λ (l : List ℕ). kanji_bit (letter_of_size l step.size).code) rest;
    }
