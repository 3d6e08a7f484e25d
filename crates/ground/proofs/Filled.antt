-- The pass that fills the offset row and the kanji bits: what both rows hold on the way. Assumes nothing.
use Prim.Native.Nat.{ℕ, ◌+◌, ◌≤◌}
use mathlib.Core.Path.{◌≡◌, ap, ◌∙◌, sym}
use mathlib.Core.List.{List}
use native.Mathlib.Omega.{arith}
use native.Mathlib.Numerals.{add-one}
use lib.ListN.{length, drop, set, length-set}
use lib.Seq.{sets}
use Rattle.ground.specs.Text.{letter_at, letters, sizes, offsets_from, offsets}
use Rattle.ground.specs.Filling.{kanji_bit, kanji_bits}
use Rattle.ground.specs.declared.text.Letter.{Letter}
use Rattle.std.specs.Prelude.{Some}
use Rattle.ground.proofs.LetterLaws.{letter_ends}
use Rattle.ground.proofs.TextLaws.{letters_next, letters_end}

-- i characters are done, up to the byte `at`: with what the characters left write, each row is what all of them write
pub record Filled (text offset₀ run₀ offset run : List ℕ) (at i : ℕ) : Type 0 where
  pub within : at ≤ length text
  pub offset_long : length offset ≡ length offset₀
  pub run_long : length run ≡ length run₀
  pub count : i + length (letters (drop at text)) ≡ length (letters text)
  pub bytes : at + sizes (letters (drop at text)) ≡ sizes (letters text)
  pub offset_left : sets offset i (offsets_from at (letters (drop at text))) ≡ sets offset₀ 0 (offsets (letters text))
  pub run_left : sets run i (kanji_bits (letters (drop at text))) ≡ sets run₀ 0 (kanji_bits (letters text))

module _ (text offset₀ run₀ : List ℕ) where
  -- one character more
  pub filled_more : (offset run : List ℕ) (at i : ℕ) (letter : Letter) → letter_at (drop at text) ≡ Some letter
      → Filled text offset₀ run₀ offset run at i
      → Filled text offset₀ run₀ (set offset i at) (set run i (kanji_bit letter.code)) (at + letter.size) (i + 1)
  unfolding sizes offsets_from kanji_bits
  filled_more offset run at i letter e f =
      let next = letters_next text at letter e in
      let w = letter_ends text at letter e f.within in
      record {
        within = omega arith;
        offset_long = length-set offset i at ∙ f.offset_long;
        run_long = length-set run i (kanji_bit letter.code) ∙ f.run_long;
        count = omega (arith, f.count, ap length next);
        bytes = omega (arith, f.bytes, ap sizes next);
        offset_left =
            ap (λ (k : ℕ). sets (set offset i at) k (offsets_from (at + letter.size) (letters (drop (at + letter.size) text)))) (add-one i)
            ∙ sym (ap (λ (ls : List Letter). sets offset i (offsets_from at ls)) next)
            ∙ f.offset_left;
        run_left =
            ap (λ (k : ℕ). sets (set run i (kanji_bit letter.code)) k (kanji_bits (letters (drop (at + letter.size) text)))) (add-one i)
            ∙ sym (ap (λ (ls : List Letter). sets run i (kanji_bits ls)) next)
            ∙ f.run_left;
      }

  -- the last places
  pub filled_all : (offset run : List ℕ) (at i : ℕ) → length text ≤ at → Filled text offset₀ run₀ offset run at i
      → (set offset i at ≡ sets offset₀ 0 (offsets (letters text))) × (set run i 0 ≡ sets run₀ 0 (kanji_bits (letters text)))
  unfolding offsets_from kanji_bits
  filled_all offset run at i h f =
      let none = letters_end text at h in (
        sym (ap (λ (ls : List Letter). sets offset i (offsets_from at ls)) none) ∙ f.offset_left,
        sym (ap (λ (ls : List Letter). sets run i (kanji_bits ls)) none) ∙ f.run_left,
      )
