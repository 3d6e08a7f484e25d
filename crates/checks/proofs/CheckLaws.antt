-- The tests of a job: what it means that they are passed. Assumes nothing.
use Prim.Native.Nat.{ℕ, zero, suc, ◌+◌, ◌-◌, ◌*◌, ◌≤◌, ◌<◌}
use mathlib.Core.Path.{◌≡◌, refl, ap, ◌∙◌, sym, subst}
use mathlib.Core.Bool.{Bool, true, false, not, ◌||◌, true≢false}
use mathlib.Core.List.{List, [], ◌∷◌}
use Rattle.std.specs.Prelude.{Option, None, Some, Ok, Err}
use Rattle.std.specs.Option.{option_or}
use native.Mathlib.Omega.{arith}
use native.Mathlib.Numerals.{add-one}
use lib.ListN.{length, get_or}
use lib.Dec.{ltb, leb, eqb}
use borrow.Author.Tests.{ltb-true, ltb-false, leb-false, eqb-true, eqb-false, not-false}
use Rattle.ground.specs.Limits.{text_limit, character_limit, candidate_limit, size_limit, price_limit, threshold_limit, kind_limit}
use Rattle.ground.specs.Entry.{entry_bytes, entry_at}
use Rattle.ground.specs.Answer.{refuse, unless, numbers_of}
use Rattle.ground.specs.Charge.{PricesFit}
use Rattle.ground.specs.Text.{letters, sizes, well_formed}
use Rattle.ground.specs.Characters.{checked, Sound}
use Rattle.ground.specs.declared.answer.Refusal.{Refusal}
use Rattle.ground.specs.declared.answer.Refusal.TheVariants.{NotUtf8, TooLong, Uneven, TooMany, BadMatrix, BadMode, ShortRow}
use Rattle.ground.specs.declared.answer.Refusal.TheVariants.{BadKind, OutOfOrder, BadSpan, BadId}
use Rattle.ground.proofs.TextLaws.{sizes_within}
use Rattle.ground.proofs.CharacterLaws.{passed as text-passed}
use Rattle.checks.specs.Job.{Job, JobRows, character_count, candidate_count}
use Rattle.checks.specs.Checks.{uneven, bad_size, bad_matrix, bad_mode, mode_of, too_many, too_short, short_row, bad_kind, below_previous, bad_span, bad_id}
use Rattle.checks.specs.Checks.{input_refused, first_refused, candidates_refused, refused}

-- ---- tests that are joined

-- Tests joined by `||`, one after the other.
unfoldable any : Bool → List Bool → Bool
any t [] = t
any t (u ∷ us) = any (t || u) us

-- Of two joined tests that do not hold, neither does.
neither : (t u : Bool) → (t || u) ≡ false → (t ≡ false) × (u ≡ false)
neither true u e = absurd (true≢false e)
neither false u e = (refl, e)

-- Nor does any of more.
none_of : (t : Bool) (us : List Bool) → any t us ≡ false → (i : ℕ) → get_or (t ∷ us) i false ≡ false
unfolding any
none_of t [] e zero = e
none_of t [] e (suc i) = refl
none_of t (u ∷ us) e zero = (neither t u (none_of (t || u) us e 0)).0
none_of t (u ∷ us) e (suc zero) = (neither t u (none_of (t || u) us e 0)).1
none_of t (u ∷ us) e (suc (suc i)) = none_of (t || u) us e (suc i)

-- ---- what a test that does not hold tells

-- Two numbers that a test finds equal are.
same : (a b : ℕ) → not (eqb a b) ≡ false → a ≡ b
same a b e = eqb-true a b (not-false (eqb a b) e)

-- Lengths that go with c starts.
abbrev pub Even : ℕ → ℕ → ℕ → ℕ → ℕ → Type 0
Even c ends kinds extras bytes = (ends ≡ c) × (kinds ≡ c) × (extras ≡ c) × (bytes ≡ entry_bytes * c)

-- 3: the candidate rows have such.
pub even : (c ends kinds extras bytes : ℕ) → uneven c ends kinds extras bytes ≡ false → Even c ends kinds extras bytes
unfolding any
even c ends kinds extras bytes e =
    let no = none_of (not (eqb ends c)) (not (eqb kinds c) ∷ not (eqb extras c) ∷ not (eqb bytes (entry_bytes * c)) ∷ []) e in
    (same _ _ (no 0), same _ _ (no 1), same _ _ (no 2), same _ _ (no 3))

-- 5: a height or a width is within its limits.
pub sized : (size : ℕ) → bad_size size ≡ false → (0 < size) × (size ≤ size_limit)
sized size e =
    let no = neither (eqb size 0) (ltb size_limit size) e in
    (omega (arith, eqb-false size 0 no.0), ltb-false _ _ no.1)

-- 5: so are both, and there are as many values as they make.
pub fitting : (height width values : ℕ) → bad_matrix height width values ≡ false
    → (bad_size height ≡ false) × (bad_size width ≡ false) × (values ≡ height * width)
unfolding any
fitting height width values e =
    let no = none_of (bad_size height) (bad_size width ∷ not (eqb values (height * width)) ∷ []) e in
    (no 0, no 1, same _ _ (no 2))

-- Four numbers that are within their limits.
abbrev pub Limited : ℕ → ℕ → ℕ → ℕ → Type 0
Limited kanji_threshold kanji_price other_threshold other_price =
    (kanji_threshold ≤ threshold_limit) × (kanji_price ≤ price_limit) × (other_threshold ≤ threshold_limit) × (other_price ≤ price_limit)

-- 6: those of Decompose are.
pub limited : (kanji_threshold kanji_price other_threshold other_price : ℕ) → bad_mode 1 kanji_threshold kanji_price other_threshold other_price ≡ false
    → Limited kanji_threshold kanji_price other_threshold other_price
unfolding any
limited kt kp ot op e =
    let no = none_of (ltb threshold_limit kt) (ltb price_limit kp ∷ ltb threshold_limit ot ∷ ltb price_limit op ∷ []) e in
    (ltb-false _ _ (no 0), ltb-false _ _ (no 1), ltb-false _ _ (no 2), ltb-false _ _ (no 3))

-- 6: so the prices of the mode fit.
prices : (mode kanji_threshold kanji_price other_threshold other_price : ℕ) → bad_mode mode kanji_threshold kanji_price other_threshold other_price ≡ false
    → PricesFit (mode_of mode kanji_threshold kanji_price other_threshold other_price)
prices zero kt kp ot op e = tt
prices (suc zero) kt kp ot op e = let h = limited kt kp ot op e in (h.1, h.3)
prices (suc (suc more)) kt kp ot op e = absurd (true≢false e)

-- A row of n + 1 places has more than n.
past : (n places : ℕ) → ltb places (n + 1) ≡ false → n < places
past n places e = omega (arith, ltb-false places (n + 1) e)

-- Ten lengths that are long enough.
abbrev pub Long : ℕ → ℕ → ℕ → ℕ → ℕ → ℕ → ℕ → ℕ → ℕ → ℕ → ℕ → ℕ → Type 0
Long n c offset run first last left cost next word_offset word_id word_kind =
    (n < offset) × (n < run) × (n < first) × (n < last) × (c + 2 ≤ left) × (c + 2 ≤ cost) × (c + 2 ≤ next) × (n ≤ word_offset) × (n ≤ word_id) × (n ≤ word_kind)

-- 7: the ten rows are.
pub long : (n c offset run first last left cost next word_offset word_id word_kind : ℕ)
    → too_short n c offset run first last left cost next word_offset word_id word_kind ≡ false
    → Long n c offset run first last left cost next word_offset word_id word_kind
unfolding any
long n c offset run first last left cost next word_offset word_id word_kind e =
    let no =
    none_of (ltb offset (n + 1))
    (ltb run (n + 1)
    ∷ ltb first (n + 1)
    ∷ ltb last (n + 1)
    ∷ ltb left (c + 2)
    ∷ ltb cost (c + 2)
    ∷ ltb next (c + 2)
    ∷ ltb word_offset n
    ∷ ltb word_id n
    ∷ ltb word_kind n
    ∷ [])
    e in (
      past _ _ (no 0),
      past _ _ (no 1),
      past _ _ (no 2),
      past _ _ (no 3),
      ltb-false _ _ (no 4),
      ltb-false _ _ (no 5),
      ltb-false _ _ (no 6),
      ltb-false _ _ (no 7),
      ltb-false _ _ (no 8),
      ltb-false _ _ (no 9),
    )

-- 10: the end is above the start, and not above n.
pub spanned : (n start end : ℕ) → bad_span n start end ≡ false → (start < end) × (end ≤ n)
spanned n start end e =
    let no = neither (leb end start) (ltb n end) e in
    (leb-false _ _ no.0, ltb-false _ _ no.1)

-- 11: both ids are within the matrix.
pub placed : (height width : ℕ) (entry : List ℕ) (k : ℕ) → bad_id height width entry k ≡ false
    → ((entry_at entry k).left_id < height) × ((entry_at entry k).right_id < width)
placed height width entry k e =
    let no = neither (leb height (entry_at entry k).left_id) (leb width (entry_at entry k).right_id) e in
    (leb-false _ _ no.0, leb-false _ _ no.1)

-- ---- refusals in their order

-- A refusal is not none.
no_some : (why : Refusal) → Some why ≡ None → ⊥
no_some why e = let z : ◌≡◌ {A = ℕ} 0 1 = cc in omega arith

-- Of two refusals that are none, each is.
nor : (o p : Option Refusal) → option_or o p ≡ None → (o ≡ None) × (p ≡ None)
nor None p e = (refl, e)
nor (Some why) p e = absurd (no_some why e)

-- Where the first is none, the second decides.
pub or_none : (o p : Option Refusal) → o ≡ None → option_or o p ≡ p
or_none o p e = rw e

-- Where the first is a refusal, it decides.
pub or_some : (o p : Option Refusal) (why : Refusal) → o ≡ Some why → option_or o p ≡ Some why
or_some o p why e = rw e

-- A test that refuses nothing does not hold.
unrefused : (t : Bool) (why : Refusal) → refuse t why ≡ None → t ≡ false
unrefused true why e = absurd (no_some why e)
unrefused false why e = refl

-- ---- the inputs

-- What the tests of the inputs leave.
pub record InputsPassed (j : Job) : Type 0 where
  pub sound : Sound j.text (character_count j)  -- 2, 1, 2
  pub ends : length j.end ≡ candidate_count j  -- 3
  pub kinds : length j.kind ≡ candidate_count j
  pub extras : length j.extra ≡ candidate_count j
  pub entries : length j.entry ≡ entry_bytes * candidate_count j
  pub few : candidate_count j ≤ candidate_limit  -- 4
  pub high : 0 < j.height  -- 5
  pub wide : 0 < j.width
  pub highest : j.height ≤ size_limit
  pub widest : j.width ≤ size_limit
  pub values : length j.matrix ≡ j.height * j.width
  pub priced : PricesFit (mode_of j.mode j.kanji_threshold j.kanji_price j.other_threshold j.other_price)  -- 6

-- Inputs that are not refused passed them.
pub inputs_passed : (j : Job) → input_refused j ≡ None → InputsPassed j
unfolding checked
inputs_passed j e =
    let a = nor _ _ e in
    let b = nor _ _ a.1 in
    let d = nor _ _ b.1 in
    let f = nor _ _ d.1 in
    let rows = even (candidate_count j) (length j.end) (length j.kind) (length j.extra) (length j.entry) (unrefused _ _ b.0) in
    let matrix = fitting j.height j.width (length j.matrix) (unrefused _ _ f.0) in
    let high = sized j.height matrix.0 in
    let wide = sized j.width matrix.1 in
    record {
      sound = text-passed j.text (character_count j) (ap (λ (o : Option Refusal). unless o (character_count j)) a.0);
      ends = rows.0;
      kinds = rows.1;
      extras = rows.2;
      entries = rows.3;
      few = ltb-false _ _ (unrefused _ _ d.0);
      high = high.0;
      wide = wide.0;
      highest = high.1;
      widest = wide.1;
      values = matrix.2;
      priced = prices j.mode j.kanji_threshold j.kanji_price j.other_threshold j.other_price (unrefused _ _ f.1);
    }

-- ---- the rows

-- What the test of the rows leaves.
pub record RowsPassed (n c : ℕ) (r : JobRows) : Type 0 where
  pub offset : n < length r.offset
  pub run : n < length r.run
  pub first : n < length r.first
  pub last : n < length r.last
  pub left : c + 2 ≤ length r.left
  pub cost : c + 2 ≤ length r.cost
  pub next : c + 2 ≤ length r.next
  pub word_offset : n ≤ length r.word_offset
  pub word_id : n ≤ length r.word_id
  pub word_kind : n ≤ length r.word_kind

-- Rows that are not too short passed it.
pub rows_passed : (n c : ℕ) (r : JobRows) → short_row n c r ≡ false → RowsPassed n c r
rows_passed n c r e =
    let l =
    long n c (length r.offset) (length r.run) (length r.first) (length r.last) (length r.left) (length r.cost) (length r.next)
    (length r.word_offset) (length r.word_id) (length r.word_kind) e in
    omega arith

-- ---- the candidates

-- Where there is no first refusal, no candidate of those is refused.
pub first_none : (f : ℕ → Option Refusal) (from many : ℕ) → first_refused f from many ≡ None → (k : ℕ) → from ≤ k → k < from + many → f k ≡ None
unfolding first_refused
first_none f from zero e k low high = absurd (omega arith)
first_none f from (suc many) e k low high =
    let no = nor (f from) (first_refused f (suc from) many) e in
    go (eqb from k) refl no.0 (λ h. first_none f (suc from) many no.1 k h (omega arith))
  where
    go : (t : Bool) → eqb from k ≡ t → f from ≡ None → (from < k → f k ≡ None) → f k ≡ None
    go true q here later = ap f (sym (eqb-true from k q)) ∙ here
    go false q here later = let other = eqb-false from k q in later (omega arith)

-- Where none of those is refused, there is none.
pub none_first : (f : ℕ → Option Refusal) (from many : ℕ) → ((k : ℕ) → from ≤ k → k < from + many → f k ≡ None) → first_refused f from many ≡ None
unfolding first_refused
none_first f from zero each = refl
none_first f from (suc many) each =
    or_none _ _ (each from (omega arith) (omega arith)) ∙ none_first f (suc from) many (λ k low high. each k (omega arith) (omega arith))

-- The first refusal from k on is candidate k's, or else the first from the next on.
pub first_step : (f : ℕ → Option Refusal) (k c : ℕ) → k < c → first_refused f k (c - k) ≡ option_or (f k) (first_refused f (k + 1) (c - (k + 1)))
unfolding first_refused
first_step f k c h = let e : c - k ≡ suc (c - (k + 1)) = omega arith in rw (e, add-one)

-- Starts of which none is below the one before it are in order.
in_order : (start : List ℕ) (c : ℕ) → ((k : ℕ) → k < c → below_previous start k ≡ false) → (i k : ℕ) → i ≤ k → k < c → get_or start i 0 ≤ get_or start k 0
in_order start c next i zero low high = let e : i ≡ 0 = omega arith in omega (arith, ap (λ (x : ℕ). get_or start x 0) e)
in_order start c next i (suc k) low high = go (ltb k i) refl (λ h. in_order start c next i k h (omega arith))
  where
    go : (t : Bool) → ltb k i ≡ t → (i ≤ k → get_or start i 0 ≤ get_or start k 0) → get_or start i 0 ≤ get_or start (suc k) 0
    go true q before = let e : i ≡ suc k = omega (arith, ltb-true k i q) in omega (arith, ap (λ (x : ℕ). get_or start x 0) e)
    go false q before = omega (arith, before (ltb-false k i q), ltb-false (get_or start (suc k) 0) (get_or start k 0) (next (suc k) high))

-- What the tests of the candidates leave.
pub record CandidatesPassed (j : Job) : Type 0 where
  pub kinds : (k : ℕ) → k < candidate_count j → get_or j.kind k 0 ≤ kind_limit  -- 8
  pub sorted : (i k : ℕ) → i ≤ k → k < candidate_count j → get_or j.start i 0 ≤ get_or j.start k 0  -- 9
  pub forward : (k : ℕ) → k < candidate_count j → get_or j.start k 0 < get_or j.end k 0  -- 10
  pub inside : (k : ℕ) → k < candidate_count j → get_or j.end k 0 ≤ character_count j
  pub left_ids : (k : ℕ) → k < candidate_count j → (entry_at j.entry k).left_id < j.height  -- 11
  pub right_ids : (k : ℕ) → k < candidate_count j → (entry_at j.entry k).right_id < j.width

-- Candidates that are not refused passed them.
pub candidates_passed : (j : Job)
    → candidates_refused (character_count j) j.start j.end j.kind j.entry j.height j.width ≡ None → CandidatesPassed j
candidates_passed j e =
    record {
      kinds = λ k h. ltb-false _ _ (one k h).0;
      sorted = in_order j.start (candidate_count j) (λ k h. (one k h).1);
      forward = λ k h. (spanned _ _ _ (one k h).2).0;
      inside = λ k h. (spanned _ _ _ (one k h).2).1;
      left_ids = λ k h. (placed j.height j.width j.entry k (one k h).3).0;
      right_ids = λ k h. (placed j.height j.width j.entry k (one k h).3).1;
    }
  where
    one : (k : ℕ) → k < candidate_count j
        → (ltb kind_limit (get_or j.kind k 0) ≡ false)
        × (below_previous j.start k ≡ false)
        × (bad_span (character_count j) (get_or j.start k 0) (get_or j.end k 0) ≡ false)
        × (bad_id j.height j.width j.entry k ≡ false)
    one k h =
        let a = nor _ _ (first_none _ 0 (candidate_count j) e k (omega arith) (omega arith)) in
        let b = nor _ _ a.1 in
        let d = nor _ _ b.1 in
        (unrefused _ _ a.0, unrefused _ _ b.0, unrefused _ _ d.0, unrefused _ _ d.1)

-- ---- the stages

-- A refusal of the inputs decides.
pub by_inputs : (j : Job) (r : JobRows) (why : Refusal) → input_refused j ≡ Some why → refused j r ≡ Some why
unfolding refused
by_inputs j r why e = or_some _ _ why e

-- Then the rows do.
pub by_rows : (j : Job) (r : JobRows) → input_refused j ≡ None → short_row (character_count j) (candidate_count j) r ≡ true → refused j r ≡ Some ShortRow
unfolding refused
by_rows j r e s = or_none _ _ e ∙ or_some _ _ ShortRow (ap (λ (t : Bool). refuse t ShortRow) s)

-- Then the candidates.
pub by_candidates : (j : Job) (r : JobRows) → input_refused j ≡ None → short_row (character_count j) (candidate_count j) r ≡ false
    → refused j r ≡ candidates_refused (character_count j) j.start j.end j.kind j.entry j.height j.width
unfolding refused
by_candidates j r e s = or_none _ _ e ∙ or_none _ _ (ap (λ (t : Bool). refuse t ShortRow) s)

-- What all tests leave.
pub record Passed (j : Job) (r : JobRows) : Type 0 where
  pub inputs : InputsPassed j
  pub rows : RowsPassed (character_count j) (candidate_count j) r
  pub candidates : CandidatesPassed j

-- A job that is not refused passed them.
pub passed : (j : Job) (r : JobRows) → refused j r ≡ None → Passed j r
unfolding refused
passed j r e =
    let a = nor _ _ e in
    let b = nor _ _ a.1 in
    record {
      inputs = inputs_passed j a.0;
      rows = rows_passed (character_count j) (candidate_count j) r (unrefused _ _ b.0);
      candidates = candidates_passed j b.1;
    }

-- ---- what the functions tell, taken back to the tests

-- Something that is told: no test refuses, and it is the one.
pub told_ok : {A : Type 0} (o : Option Refusal) (x y : A) → Ok x ≡ unless o y → (o ≡ None) × (y ≡ x)
told_ok None x y e = (refl, cc)
told_ok (Some why) x y e = absurd (let z : ◌≡◌ {A = ℕ} 0 1 = cc in omega arith)

-- A refusal that is told: it is the tests'.
pub told_err : {A : Type 0} (o : Option Refusal) (why : Refusal) (y : A) → Err why ≡ unless o y → o ≡ Some why
told_err None why y e = absurd (let z : ◌≡◌ {A = ℕ} 0 1 = cc in omega arith)
told_err (Some other) why y e = let same : other ≡ why = cc in ap Some same

-- ---- the answers

-- What is told of an answer that the tests give, with a text of so many bytes and c candidates: its number, and what its place can be.
pub record Tested (bytes c : ℕ) (why : Refusal) : Type 0 where
  pub low : 1 ≤ (numbers_of (Err why)).number
  pub high : (numbers_of (Err why)).number ≤ 11
  pub within : (numbers_of (Err why)).number ≡ 1 → (numbers_of (Err why)).place ≤ bytes
  pub listed : 8 ≤ (numbers_of (Err why)).number → (numbers_of (Err why)).place < c

module _ (bytes c : ℕ) where
  -- None, or such a refusal.
  unfoldable Early : Option Refusal → Type 0
  Early None = Unit {0}
  Early (Some why) = Tested bytes c why

  -- The answers 2 to 7 are such.
  plain : (why : Refusal) → 2 ≤ (numbers_of (Err why)).number → (numbers_of (Err why)).number ≤ 7 → Tested bytes c why
  plain why low high = record { low = omega arith; high = omega arith; within = λ e. absurd (omega arith); listed = λ h. absurd (omega arith) }

  -- So are 8 to 11, of a candidate that is listed.
  placed_at : (why : Refusal) (k : ℕ) → k < c → 8 ≤ (numbers_of (Err why)).number → (numbers_of (Err why)).number ≤ 11 → (numbers_of (Err why)).place ≡ k → Tested bytes c why
  placed_at why k h low high e = record { low = omega arith; high = high; within = λ q. absurd (omega arith); listed = λ q. omega arith }

  -- Of two such, the first that is a refusal is such.
  early_or : (o p : Option Refusal) → Early o → Early p → Early (option_or o p)
  unfolding Early
  early_or None p a b = b
  early_or (Some why) p a b = a

  -- So is a test's.
  early : (t : Bool) (why : Refusal) → Tested bytes c why → Early (refuse t why)
  unfolding Early
  early true why h = h
  early false why h = tt

  -- So is the first of a test's and what comes behind it.
  early_test : (t : Bool) (why : Refusal) (rest : Option Refusal) → Tested bytes c why → Early rest → Early (option_or (refuse t why) rest)
  early_test t why rest h = early_or (refuse t why) rest (early t why h)

  -- So is the first of many.
  early_first : (f : ℕ → Option Refusal) (from many : ℕ) → ((k : ℕ) → k < from + many → Early (f k)) → Early (first_refused f from many)
  unfolding first_refused Early
  early_first f from zero h = tt
  early_first f from (suc many) h =
      early_or (f from) (first_refused f (suc from) many) (h from (omega arith)) (early_first f (suc from) many (λ k l. h k (omega arith)))

-- So is the first of all tests.
all_early : (j : Job) (r : JobRows) → Early (length j.text) (candidate_count j) (refused j r)
unfolding refused
all_early j r =
    let n = character_count j in
    let c = candidate_count j in
    let b = length j.text in
    early_or b c _ _
    (early_or b c _ _
    (early_test b c (ltb text_limit b) TooLong _ (plain b c TooLong (omega arith) (omega arith))
    (early_test b c (not (well_formed j.text)) (NotUtf8 (sizes (letters j.text))) _
    (record { low = omega arith; high = omega arith; within = λ q. sizes_within j.text; listed = λ q. absurd (omega arith) })
    (early b c (ltb character_limit n) TooLong (plain b c TooLong (omega arith) (omega arith)))))
    (early_test b c (uneven c (length j.end) (length j.kind) (length j.extra) (length j.entry)) Uneven _ (plain b c Uneven (omega arith) (omega arith))
    (early_test b c (too_many c) TooMany _ (plain b c TooMany (omega arith) (omega arith))
    (early_test b c (bad_matrix j.height j.width (length j.matrix)) BadMatrix _ (plain b c BadMatrix (omega arith) (omega arith))
    (early b c (bad_mode j.mode j.kanji_threshold j.kanji_price j.other_threshold j.other_price) BadMode
    (plain b c BadMode (omega arith) (omega arith)))))))
    (early_test b c (short_row n c r) ShortRow _ (plain b c ShortRow (omega arith) (omega arith))
    (early_first b c _ 0 c
    (λ k h.
    let l : k < c = omega arith in
    early_test b c (bad_kind (get_or j.kind k 0)) (BadKind k) _ (placed_at b c (BadKind k) k l (omega arith) (omega arith) refl)
    (early_test b c (below_previous j.start k) (OutOfOrder k) _ (placed_at b c (OutOfOrder k) k l (omega arith) (omega arith) refl)
    (early_test b c (bad_span n (get_or j.start k 0) (get_or j.end k 0)) (BadSpan k) _ (placed_at b c (BadSpan k) k l (omega arith) (omega arith) refl)
    (early b c (bad_id j.height j.width j.entry k) (BadId k) (placed_at b c (BadId k) k l (omega arith) (omega arith) refl)))))))

-- So every refusal of the tests is such.
pub tested : (j : Job) (r : JobRows) (why : Refusal) → refused j r ≡ Some why → Tested (length j.text) (candidate_count j) why
unfolding Early
tested j r why e = subst (Early (length j.text) (candidate_count j)) e (all_early j r)
