-- The tests of a text and the character table's effect: what each outcome of the tests means. Assumes nothing.
use Prim.Native.Nat.{ℕ, ◌+◌}
use mathlib.Core.Path.{◌≡◌, refl, ap, ◌∙◌, sym}
use mathlib.Core.Bool.{Bool, true, false, ◌||◌}
use mathlib.Core.List.{List, [], ◌∷◌, map}
use Rattle.std.specs.Prelude.{Option, None, Some, Result, Ok, Err}
use Rattle.std.specs.Option.{option_or}
use native.Mathlib.Omega.{arith}
use lib.ListN.{length}
use lib.IntN.{pos}
use lib.Dec.{ltb}
use borrow.Author.Tests.{ltb-false, eqb-true}
use Rattle.ground.specs.Limits.{text_limit, character_limit}
use Rattle.ground.specs.Text.{leads, lead_row, all_later, six_bits, letter_at, letters_in, letters, sizes, well_formed, offsets_from, offsets, runs}
use Rattle.ground.specs.Answer.{work_done, refuse, unless}
use Rattle.ground.specs.Characters.{text_refused, checked, Sound, Outcome, outcome, short, filled_unless, characters}
use Rattle.ground.specs.declared.answer.Refusal.{Refusal}
use Rattle.ground.specs.declared.answer.Refusal.TheVariants.{NotUtf8, ShortRow}
use Rattle.ground.proofs.RowLaws.{over_length, offsets_length, runs_length}

-- what it means that the tests were passed
pub passed : (text : List ℕ) (n : ℕ) → checked text ≡ Ok n → Sound text n
unfolding checked
passed text n e = go (ltb text_limit (length text)) refl (well_formed text) refl (ltb character_limit (length (letters text))) refl
  where
    no : (a : Refusal) → Err a ≡ Ok n → ⊥
    no a e = let z : ◌≡◌ {A = ℕ} 0 1 = cc in omega arith

    go : (long : Bool) → ltb text_limit (length text) ≡ long → (whole : Bool) → well_formed text ≡ whole
        → (many : Bool) → ltb character_limit (length (letters text)) ≡ many → Sound text n
    go true l whole w many m = absurd (no _ (simp (l, w, m) at e))
    go false l false w true m = absurd (no _ (simp (l, w, m) at e))
    go false l false w false m = absurd (no _ (simp (l, w, m) at e))
    go false l true w true m = absurd (no _ (simp (l, w, m) at e))
    go false l true w false m =
        let p : Ok (length (letters text)) ≡ Ok n = simp (l, w, m) at e in
        let q : length (letters text) ≡ n = cc in
        record {
          bytes = ltb-false text_limit (length text) l;
          whole = eqb-true (sizes (letters text)) (length text) w;
          count = sym q;
          few = omega (arith, ltb-false character_limit (length (letters text)) m);
        }

-- the table's effect by the outcome of the tests: the answer and unchanged rows, or the test of the rows and then the filling
abbrev pub effect : Result ℕ Refusal → List ℕ → List ℕ → List ℕ → Outcome
effect (Err why) text offset run = filled_unless (Some why) text offset run
effect (Ok n) text offset run = filled_unless (refuse (short n offset || short n run) ShortRow) text offset run

pub by_tests : (text offset run : List ℕ) (outcome : Result ℕ Refusal) → checked text ≡ outcome → effect outcome text offset run ≡ characters text offset run
unfolding checked characters
by_tests text offset run outcome e =
    ap (λ (c : Result ℕ Refusal). effect c text offset run) (sym e) ∙ go (text_refused text)
  where
    go : (refused : Option Refusal) → effect (unless refused (length (letters text))) text offset run
        ≡ filled_unless (option_or refused (refuse (short (length (letters text)) offset || short (length (letters text)) run) ShortRow)) text offset run
    go None = refl
    go (Some why) = refl

-- ---- what a caller may lean on

-- both rows are as long as they came
abbrev pub Kept : Outcome → List ℕ → List ℕ → Type 0
Kept left offset run = (length left.offset ≡ length offset) × (length left.run ≡ length run)

pub lengths : (text offset run : List ℕ) → Kept (characters text offset run) offset run
lengths text offset run = go (checked text) refl
  where
    filled : (a b : Bool) → short (length (letters text)) offset ≡ a → short (length (letters text)) run ≡ b
        → Kept (filled_unless (refuse (a || b) ShortRow) text offset run) offset run
    filled true b p q = (refl, refl)
    filled false true p q = (refl, refl)
    filled false false p q =
        let ls = letters text in (
          over_length (offsets ls) offset (omega (arith, offsets_length 0 ls, ltb-false (length offset) (length ls + 1) p)),
          over_length (runs ls) run (omega (arith, runs_length ls, ltb-false (length run) (length ls + 1) q)),
        )

    go : (outcome : Result ℕ Refusal) → checked text ≡ outcome → Kept (characters text offset run) offset run
    go (Err why) e = rw (← by_tests text offset run (Err why) e) (refl, refl)
    go (Ok k) e =
        rw (← by_tests text offset run (Ok k) e, (passed text k e).count)
        (filled (short (length (letters text)) offset) (short (length (letters text)) run) refl refl)

-- Document 01's example L (a surrogate, an overlong form, the last code point) and B's text (three kanji); then no text, a run that is
-- broken, and a text with one character too many for the rows. These have five places, which hold 7 before.
examples : List (List ℕ)
examples =
    (0xed ∷ 0xa0 ∷ 0x80 ∷ [])
    ∷ (0x41 ∷ 0xc0 ∷ 0x80 ∷ [])
    ∷ (0xf4 ∷ 0x8f ∷ 0xbf ∷ 0xbf ∷ [])
    ∷ (0xe6 ∷ 0x9d ∷ 0xb1 ∷ 0xe4 ∷ 0xba ∷ 0xac ∷ 0xe9 ∷ 0x83 ∷ 0xbd ∷ [])
    ∷ []
    ∷ (0xe6 ∷ 0x9d ∷ 0xb1 ∷ 0x61 ∷ 0xe4 ∷ 0xba ∷ 0xac ∷ [])
    ∷ (0x61 ∷ 0x61 ∷ 0x61 ∷ 0x61 ∷ 0x61 ∷ [])
    ∷ []

sevens : List ℕ
sevens = 7 ∷ 7 ∷ 7 ∷ 7 ∷ 7 ∷ []

example_l :
    map (λ (text : List ℕ). characters text sevens sevens) examples
    ≡ outcome (Err (NotUtf8 0)) sevens sevens
    ∷ outcome (Err (NotUtf8 1)) sevens sevens
    ∷ outcome (work_done 1 (pos 0)) (0 ∷ 4 ∷ 7 ∷ 7 ∷ 7 ∷ []) (0 ∷ 0 ∷ 7 ∷ 7 ∷ 7 ∷ [])
    ∷ outcome (work_done 3 (pos 0)) (0 ∷ 3 ∷ 6 ∷ 9 ∷ 7 ∷ []) (3 ∷ 2 ∷ 1 ∷ 0 ∷ 7 ∷ [])
    ∷ outcome (work_done 0 (pos 0)) (0 ∷ 7 ∷ 7 ∷ 7 ∷ 7 ∷ []) (0 ∷ 7 ∷ 7 ∷ 7 ∷ 7 ∷ [])
    ∷ outcome (work_done 3 (pos 0)) (0 ∷ 3 ∷ 4 ∷ 7 ∷ 7 ∷ []) (1 ∷ 0 ∷ 1 ∷ 0 ∷ 7 ∷ [])
    ∷ outcome (Err ShortRow) sevens sevens
    ∷ []
unfolding examples sevens characters letters letters_in letter_at leads lead_row all_later six_bits sizes offsets_from runs
example_l = refl
