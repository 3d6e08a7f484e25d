-- Document 01, "Answer numbers, in order of test": the tests of a job, one after the other as the table has them.
use Rattle.std.specs.Prelude.{ℕ, zero, suc, ◌+◌, ◌*◌, Bool, true, false, not, ◌||◌, List, length, get_or, ltb, leb, eqb}
use Rattle.std.specs.Prelude.{Option, None}
use Rattle.std.specs.Option.{option_or}
use Rattle.ground.specs.Limits.{candidate_limit, size_limit, price_limit, threshold_limit, kind_limit}
use Rattle.ground.specs.Entry.{entry_bytes, entry_at}
use Rattle.ground.specs.Answer.{refuse}
use Rattle.ground.specs.Characters.{text_refused}
use Rattle.ground.specs.declared.answer.Refusal.{Refusal}
use Rattle.ground.specs.declared.answer.Refusal.TheVariants.{Uneven, TooMany, BadMatrix, BadMode, ShortRow, BadKind, OutOfOrder, BadSpan, BadId}
use Rattle.ground.specs.declared.charge.Mode.{Mode}
use Rattle.ground.specs.declared.charge.Mode.TheVariants.{Normal, Decompose}
use Rattle.checks.specs.Job.{Job, JobRows, character_count, candidate_count}

-- ---- the tests

-- 3: candidate rows of unequal length, or entry bytes not 10 × c. (c is the number of starts; the others are how many ends, kinds, extras and
-- entry bytes there are.)
abbrev pub uneven : ℕ → ℕ → ℕ → ℕ → ℕ → Bool
uneven c ends kinds extras bytes =
    not (eqb ends c) || not (eqb kinds c) || not (eqb extras c) || not (eqb bytes (entry_bytes * c))

-- 4: c over 16,384.
abbrev pub too_many : ℕ → Bool
too_many c = ltb candidate_limit c

-- A height or a width that no matrix has: 0 or over 65,535.
abbrev pub bad_size : ℕ → Bool
bad_size size = eqb size 0 || ltb size_limit size

-- 5: height or width such a one, or value count not height × width.
abbrev pub bad_matrix : ℕ → ℕ → ℕ → Bool
bad_matrix height width values = bad_size height || bad_size width || not (eqb values (height * width))

-- 6: mode number other than 0 and 1, or Decompose with a price or a threshold over its limit; in Normal the four numbers are not looked at.
abbrev pub bad_mode : ℕ → ℕ → ℕ → ℕ → ℕ → Bool
bad_mode zero kanji_threshold kanji_price other_threshold other_price = false
bad_mode (suc zero) kanji_threshold kanji_price other_threshold other_price =
    ltb threshold_limit kanji_threshold || ltb price_limit kanji_price || ltb threshold_limit other_threshold || ltb price_limit other_price
bad_mode (suc (suc more)) kanji_threshold kanji_price other_threshold other_price = true

-- The mode of a number that passes: 0 Normal, 1 Decompose.
abbrev pub mode_of : ℕ → ℕ → ℕ → ℕ → ℕ → Mode
mode_of zero kanji_threshold kanji_price other_threshold other_price = Normal
mode_of (suc more) kanji_threshold kanji_price other_threshold other_price =
    Decompose
    (record {
      kanji_threshold = kanji_threshold;
      kanji_price = kanji_price;
      other_threshold = other_threshold;
      other_price = other_price;
    })

-- 7: a row to be written has fewer places than named: n + 1, c + 2, and n of the word rows. First by how many places each of the ten has.
abbrev pub too_short : ℕ → ℕ → ℕ → ℕ → ℕ → ℕ → ℕ → ℕ → ℕ → ℕ → ℕ → ℕ → Bool
too_short n c offsets runs firsts lasts lefts costs nexts word_offsets word_ids word_kinds =
    ltb offsets (n + 1)
    || ltb runs (n + 1)
    || ltb firsts (n + 1)
    || ltb lasts (n + 1)
    || ltb lefts (c + 2)
    || ltb costs (c + 2)
    || ltb nexts (c + 2)
    || ltb word_offsets n
    || ltb word_ids n
    || ltb word_kinds n

abbrev pub short_row : ℕ → ℕ → JobRows → Bool
short_row n c r =
    too_short n c
    (length r.offset)
    (length r.run)
    (length r.first)
    (length r.last)
    (length r.left)
    (length r.cost)
    (length r.next)
    (length r.word_offset)
    (length r.word_id)
    (length r.word_kind)

-- 8: kind over 2.
abbrev pub bad_kind : ℕ → Bool
bad_kind number = ltb kind_limit number

-- 9: start below the previous candidate's start.
abbrev pub below_previous : List ℕ → ℕ → Bool
below_previous start zero = false
below_previous start (suc k) = ltb (get_or start (suc k) 0) (get_or start k 0)

-- 10: end not above start, or end above n.
abbrev pub bad_span : ℕ → ℕ → ℕ → Bool
bad_span n start end = leb end start || ltb n end

-- 11: left id not below height, or right id not below width.
abbrev pub bad_id : ℕ → ℕ → List ℕ → ℕ → Bool
bad_id height width entry k =
    leb height (entry_at entry k).left_id || leb width (entry_at entry k).right_id

-- ---- in their order

-- 2, 1, 2, 3, 4, 5, 6: the tests that look at no row to be written and at no single candidate.
abbrev pub input_refused : Job → Option Refusal
input_refused j =
    option_or (text_refused j.text)
    (option_or (refuse (uneven (candidate_count j) (length j.end) (length j.kind) (length j.extra) (length j.entry)) Uneven)
    (option_or (refuse (too_many (candidate_count j)) TooMany)
    (option_or (refuse (bad_matrix j.height j.width (length j.matrix)) BadMatrix)
    (refuse (bad_mode j.mode j.kanji_threshold j.kanji_price j.other_threshold j.other_price) BadMode))))

-- 8, 9, 10, 11 of candidate k, whose number is the place.
abbrev pub candidate_refused : ℕ → List ℕ → List ℕ → List ℕ → List ℕ → ℕ → ℕ → ℕ → Option Refusal
candidate_refused n start end kind entry height width k =
    option_or (refuse (bad_kind (get_or kind k 0)) (BadKind k))
    (option_or (refuse (below_previous start k) (OutOfOrder k))
    (option_or (refuse (bad_span n (get_or start k 0) (get_or end k 0)) (BadSpan k))
    (refuse (bad_id height width entry k) (BadId k))))

-- The first refusal of `many` candidates from number k on, by a test of one.
unfoldable pub first_refused : (ℕ → Option Refusal) → ℕ → ℕ → Option Refusal
first_refused test k zero = None
first_refused test k (suc many) = option_or (test k) (first_refused test (suc k) many)

-- 8 to 11 are tested candidate by candidate from number 0.
abbrev pub candidates_refused : ℕ → List ℕ → List ℕ → List ℕ → List ℕ → ℕ → ℕ → Option Refusal
candidates_refused n start end kind entry height width =
    first_refused (candidate_refused n start end kind entry height width) 0 (length start)

-- All tests of a job: the first that holds decides.
unfoldable pub refused : Job → JobRows → Option Refusal
unfolding first_refused
refused j r =
    option_or (input_refused j)
    (option_or (refuse (short_row (character_count j) (candidate_count j) r) ShortRow)
    (candidates_refused (character_count j) j.start j.end j.kind j.entry j.height j.width))
