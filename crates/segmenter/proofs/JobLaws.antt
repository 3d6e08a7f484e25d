-- The whole job: what passed tests mean for the lattice, and what each answer means for the rows. Assumes nothing.
use Prim.Native.Nat.{ℕ, suc, ◌≤◌}
use mathlib.Core.Path.{◌≡◌, refl, ap, ◌∙◌, sym, subst}
use mathlib.Core.Bool.{Bool, true, false, true≢false}
use mathlib.Core.List.{List, map}
use Rattle.std.specs.Prelude.{Option, None, Some, Err}
use native.Mathlib.Omega.{arith}
use lib.ListN.{length, get_or, length-map}
use lib.IntN.{ℤ}
use Rattle.ground.specs.Rows.{over}
use Rattle.ground.specs.Entry.{entry_at, none_link}
use Rattle.ground.specs.Answer.{Answer, work_done, numbers_of}
use Rattle.ground.specs.Text.{letters, offsets, runs}
use Rattle.ground.specs.declared.text.Letter.{Letter}
use Rattle.ground.specs.declared.answer.Refusal.{Refusal}
use Rattle.ground.specs.declared.answer.Refusal.TheVariants.{NoPath}
use Rattle.ground.proofs.MatrixLaws.{row_fits}
use Rattle.ground.proofs.RowLaws.{over_length, runs_length, offsets_length}
use Rattle.lattice.specs.Words.{Given, count}
use Rattle.lattice.specs.Lattice.{entry_numbered, lattice}
use Rattle.lattice.specs.Rows.{firsts, lasts, lefts, costs, nexts, Filled}
use Rattle.lattice.proofs.RuleLaws.{rules}
use Rattle.lattice.proofs.RowRules.{row_rules_lem}
use Rattle.lattice.proofs.OverLaws.{over_at}
use Rattle.lattice.specs.Accepted.{Accepted}
use Rattle.lattice.proofs.LatticeLaws.{lattice_length}
use Rattle.lattice.proofs.FillLaws.{firsts_length, lasts_length, lefts_length, costs_length, nexts_length}
use Rattle.walk.specs.WalkBack.{walk_back}
use Rattle.walk.proofs.WalkLaws.{words_fit, same_walk_back}
use Rattle.chains.proofs.ChainLaws.{whole_walk}
use Rattle.checks.specs.Job.{Job, JobRows, character_count, candidate_count}
use Rattle.checks.specs.Checks.{refused}
use Rattle.checks.proofs.CheckLaws.{InputsPassed, RowsPassed, CandidatesPassed, passed, tested}
use Rattle.walk.specs.WordRows.{words_by}
use Rattle.segmenter.specs.Segment.{Outcome, outcome, given_of, worked, segment}
use Rattle.segmenter.specs.Answers.{lattice_of, end_mark, Ranged, SameLengths, SameWords, lattice_rows, Written, Answers}

-- the lattice accepts a job that passed its tests
pub accepted : (j : Job) → InputsPassed j → CandidatesPassed j → Accepted (character_count j) (given_of j)
accepted j i c =
    record {
      characters = i.sound.few;
      ends = i.ends;
      extras = i.extras;
      entries = i.entries;
      few = i.few;
      wide = i.wide;
      high = omega (arith, row_fits j.matrix j.height j.width 0 i.values i.high);
      priced = i.priced;
      runs = omega (arith, runs_length (letters j.text));
      sorted = c.sorted;
      forward = c.forward;
      inside = c.inside;
      left_ids = λ k h. row_fits j.matrix j.height j.width _ i.values (c.left_ids k h);
      right_ids = c.right_ids;
    }

-- ---- the job, by its tests

-- a refusal is none
some_none : (why : Refusal) → ◌≡◌ {A = Option Refusal} (Some why) None → ⊥
some_none why e = let z : ◌≡◌ {A = ℕ} 0 1 = cc in omega arith

-- a refusal, and nothing changes
pub refused_job : (j : Job) (r : JobRows) (why : Refusal) → refused j r ≡ Some why → outcome (Err why) r ≡ segment j r
unfolding segment
refused_job j r why e = rw e

-- and of such a job nothing more is promised
pub refused_leaves : (j : Job) (r : JobRows) (why : Refusal) → refused j r ≡ Some why
    → (outcome (Err why) r ≡ segment j r) × Ranged j r
refused_leaves j r why e = (refused_job j r why e, λ q. absurd (some_none why (sym e ∙ q)))

-- otherwise the work
pub passed_job : (j : Job) (r : JobRows) → refused j r ≡ None → worked (letters j.text) j.kind (given_of j) r ≡ segment j r
unfolding segment
passed_job j r e = rw e

-- ---- the work, by the end mark

-- no more words are returned than the text has characters
words_few : (n : ℕ) (g : Given) (left : List ℕ) (t : Bool) → length (words_by t (walk_back g.start g.end left n)) ≤ n
words_few n g left t = go t (walk_back g.start g.end left n) refl
  where
    go : (t : Bool) (walked : Option (List ℕ)) → walk_back g.start g.end left n ≡ walked → length (words_by t walked) ≤ n
    go false walked e = omega arith
    go true None e = omega arith
    go true (Some words) e = words_fit g.start g.end left n words e

module _ (ls : List Letter) (kind : List ℕ) (g : Given) (r : JobRows) where
  -- a row that is told of the words keeps its length
  told_length : (tell : ℕ → ℕ) (row : List ℕ) (t : Bool) → length ls ≤ length row
      → length (over (map tell (words_by t (walk_back g.start g.end (lefts (lattice (length ls) g)) (length ls)))) row) ≡ length row
  told_length tell row t h =
      let words = words_by t (walk_back g.start g.end (lefts (lattice (length ls) g)) (length ls)) in
      over_length (map tell words) row
      (omega (arith, length-map words tell, words_few (length ls) g (lefts (lattice (length ls) g)) t))

  -- so do all
  worked_lengths : RowsPassed (length ls) (count g) r → SameLengths r (worked ls kind g r).rows
  unfolding worked
  worked_lengths h =
      let n = length ls in
      let es = lattice n g in
      let t = (entry_numbered es (suc (count g))).reached in
      let many = lattice_length g n in
      record {
        offset = over_length (offsets ls) r.offset (omega (arith, offsets_length 0 ls, h.offset));
        run = over_length (runs ls) r.run (omega (arith, runs_length ls, h.run));
        first = over_length (firsts n es) r.first (omega (arith, firsts_length n es, h.first));
        last = over_length (lasts n es) r.last (omega (arith, lasts_length n es, h.last));
        left = over_length (lefts es) r.left (omega (arith, lefts_length es, many, h.left));
        cost = over_length (costs es) r.cost (omega (arith, costs_length es, many, h.cost));
        next = over_length (nexts es) r.next (omega (arith, nexts_length 0 es, many, h.next));
        word_offset = told_length (λ (k : ℕ). get_or (offsets ls) (get_or g.start k 0) 0) r.word_offset t h.word_offset;
        word_id = told_length (λ (k : ℕ). (entry_at g.entry k).id) r.word_id t h.word_id;
        word_kind = told_length (λ (k : ℕ). get_or kind k 0) r.word_kind t h.word_kind;
      }

-- ---- what each answer means

-- the character and lattice rows of a job that passed its tests
record Filling (j : Job) (r : JobRows) (o : Outcome) : Type 0 where
  offset : o.rows.offset ≡ over (offsets (letters j.text)) r.offset
  run : o.rows.run ≡ over (runs (letters j.text)) r.run
  filled : Filled (character_count j) (lattice_of j) (lattice_rows r) (lattice_rows o.rows)
  lengths : SameLengths r o.rows

-- and how it ends
data Ends (j : Job) (r : JobRows) (o : Outcome) : Type 0 where
  no_path_lem : (end_mark j).reached ≡ false → o.answer ≡ Err NoPath → SameWords r o.rows → Ends j r o
  path : (found : List ℕ) → (end_mark j).reached ≡ true
      → walk_back j.start j.end (lefts (lattice_of j)) (character_count j) ≡ Some found
      → o.answer ≡ work_done (length found) (end_mark j).cost → Written j found r o.rows → Ends j r o

filling : (j : Job) (r : JobRows) → RowsPassed (character_count j) (candidate_count j) r → Filling j r (worked (letters j.text) j.kind (given_of j) r)
unfolding worked
filling j r h =
    record {
      offset = refl;
      run = refl;
      filled = record { first = refl; last = refl; left = refl; cost = refl; next = refl };
      lengths = worked_lengths (letters j.text) j.kind (given_of j) r h;
    }

-- a word row where the end mark is not reached, and where it is
none_told : (tell : ℕ → ℕ) (row : List ℕ) (t : Bool) (walked : Option (List ℕ)) → t ≡ false → over (map tell (words_by t walked)) row ≡ row
none_told tell row t walked e = rw e

found_told : (tell : ℕ → ℕ) (row : List ℕ) (t : Bool) (walked : Option (List ℕ)) (found : List ℕ) → t ≡ true → walked ≡ Some found
    → over (map tell (words_by t walked)) row ≡ over (map tell found) row
found_told tell row t walked found e f = rw (e, f)

ends : (j : Job) (r : JobRows) → Accepted (character_count j) (given_of j) → Ends j r (worked (letters j.text) j.kind (given_of j) r)
unfolding worked
ends j r ok = go (end_mark j).reached refl
  where
    walked : Option (List ℕ)
    walked = walk_back j.start j.end (lefts (lattice_of j)) (character_count j)

    by_offset : ℕ → ℕ
    by_offset k = get_or (offsets (letters j.text)) (get_or j.start k 0) 0

    go : (t : Bool) → (end_mark j).reached ≡ t → Ends j r (worked (letters j.text) j.kind (given_of j) r)
    go false e =
        no_path_lem e (rw e)
        (record {
          offset = none_told by_offset r.word_offset (end_mark j).reached walked e;
          id = none_told (λ (k : ℕ). (entry_at j.entry k).id) r.word_id (end_mark j).reached walked e;
          kind = none_told (λ (k : ℕ). get_or j.kind k 0) r.word_kind (end_mark j).reached walked e;
        })
    go true e =
        let (found, f) = whole_walk (character_count j) (given_of j) ok e in
        path found e f (rw (e, f))
        (record {
          offset = found_told by_offset r.word_offset (end_mark j).reached walked found e f;
          id = found_told (λ (k : ℕ). (entry_at j.entry k).id) r.word_id (end_mark j).reached walked found e f;
          kind = found_told (λ (k : ℕ). get_or j.kind k 0) r.word_kind (end_mark j).reached walked found e f;
        })

-- the walk back over the left row that the job leaves is that over the links of its lattice: places beyond are not looked at
over_left : (j : Job) (left old : List ℕ) → left ≡ over (lefts (lattice_of j)) old
    → walk_back j.start j.end left (character_count j) ≡ walk_back j.start j.end (lefts (lattice_of j)) (character_count j)
over_left j left old e =
    ap (λ (row : List ℕ). walk_back j.start j.end row (character_count j)) e
    ∙ sym
    (same_walk_back j.start j.end (lefts (lattice_of j)) (over (lefts (lattice_of j)) old)
    (λ i h. sym (over_at (lefts (lattice_of j)) old i none_link (omega (arith, lefts_length (lattice_of j), lattice_length (given_of j) (character_count j)))))
    (character_count j))

-- any job: refused with nothing changed, or worked to one of these ends
data Comes (j : Job) (r : JobRows) : Type 0 where
  early : (why : Refusal) → refused j r ≡ Some why → segment j r ≡ outcome (Err why) r → Comes j r
  late : refused j r ≡ None → Accepted (character_count j) (given_of j) → Filling j r (segment j r) → Ends j r (segment j r) → Comes j r

comes : (j : Job) (r : JobRows) → Comes j r
comes j r = go (refused j r) refl
  where
    go : (o : Option Refusal) → refused j r ≡ o → Comes j r
    go (Some why) e = early why e (sym (refused_job j r why e))
    go None e =
        let p = passed j r e in
        let ok = accepted j p.inputs p.candidates in
        let same = passed_job j r e in
        late e ok (subst (λ (o : Outcome). Filling j r o) same (filling j r p.rows)) (subst (λ (o : Outcome). Ends j r o) same (ends j r ok))

-- The statements of specs/Answers, by how the job comes out.
pub answers : (j : Job) (r : JobRows) → Answers j r
answers j r = go (comes j r)
  where
    passes : (why : Refusal) → refused j r ≡ None → refused j r ≡ Some why → ⊥
    passes why e f = some_none why (sym f ∙ e)

    number : {answer : Answer} → (segment j r).answer ≡ answer → (numbers_of (segment j r).answer).number ≡ (numbers_of answer).number
    number e = ap (λ (answer : Answer). (numbers_of answer).number) e

    go : Comes j r → Answers j r
    go (early why e same) =
        let here : (segment j r).answer ≡ Err why = ap (λ (o : Outcome). o.answer) same in
        let t = tested j r why e in
        let place : (numbers_of (segment j r).answer).place ≡ (numbers_of (Err why)).place = ap (λ (answer : Answer). (numbers_of answer).place) here in
        let no_path_lem : (segment j r).answer ≡ Err NoPath → ⊥ = λ q. omega (arith, number here, number q, t.high) in
        let no_words : (count : ℕ) (cost : ℤ) → (segment j r).answer ≡ work_done count cost → ⊥ = λ count cost q. omega (arith, number here, number q, t.low) in
        record {
          first_test = λ other f. same ∙ ap (λ (a : Refusal). outcome (Err a) r) (let q : why ≡ other = cc in q);
          unchanged = λ low high. ap (λ (o : Outcome). o.rows) same;
          offset_place = λ q. omega (arith, place, t.within (sym (number here) ∙ q));
          candidate_place = λ low high. omega (arith, place, t.listed (omega (arith, number here)));
          rules = λ f. absurd (passes why f e);
          row_rules = row_rules_lem (character_count j) (lattice_of j);
          offset = λ f. absurd (passes why f e);
          run = λ f. absurd (passes why f e);
          filled = λ f. absurd (passes why f e);
          no_path = (λ q. absurd (no_path_lem q), λ h. absurd (passes why h.0 e));
          no_words = λ q. absurd (no_path_lem q);
          done = (λ d. absurd (no_words d.0 d.1 d.2), λ h. absurd (passes why h.0 e));
          cost = λ count cost q. absurd (no_words count cost q);
          words = λ count cost q. absurd (no_words count cost q);
          never_broken = λ q. omega (arith, number here, number q, t.high);
          lengths =
              subst (λ (o : Outcome). SameLengths r o.rows) (sym same)
              (record { offset = refl; run = refl; first = refl; last = refl; left = refl; cost = refl; next = refl; word_offset = refl; word_id = refl; word_kind = refl });
        }
    go (late e ok f (no_path_lem t a w)) =
        record {
          first_test = λ why q. absurd (passes why e q);
          unchanged = λ low high. absurd (omega (arith, number a));
          offset_place = λ q. absurd (omega (arith, number a));
          candidate_place = λ low high. absurd (omega (arith, number a));
          rules = λ q. rules (character_count j) (given_of j) ok;
          row_rules = row_rules_lem (character_count j) (lattice_of j);
          offset = λ q. f.offset;
          run = λ q. f.run;
          filled = λ q. f.filled;
          no_path = (λ q. (e, t), λ h. a);
          no_words = λ q. w;
          done = (λ d. absurd (omega (arith, number a, number d.2)), λ h. absurd (true≢false (sym h.1 ∙ t)));
          cost = λ count cost q. absurd (omega (arith, number a, number q));
          words = λ count cost q. absurd (omega (arith, number a, number q));
          never_broken = λ q. omega (arith, number a, number q);
          lengths = f.lengths;
        }
    go (late e ok f (path found t walked a w)) =
        record {
          first_test = λ why q. absurd (passes why e q);
          unchanged = λ low high. absurd (omega (arith, number a));
          offset_place = λ q. absurd (omega (arith, number a));
          candidate_place = λ low high. absurd (omega (arith, number a));
          rules = λ q. rules (character_count j) (given_of j) ok;
          row_rules = row_rules_lem (character_count j) (lattice_of j);
          offset = λ q. f.offset;
          run = λ q. f.run;
          filled = λ q. f.filled;
          no_path = (λ q. absurd (omega (arith, number a, number q)), λ h. absurd (true≢false (sym t ∙ h.1)));
          no_words = λ q. absurd (omega (arith, number a, number q));
          done = (λ d. (e, t), λ h. (length found, (end_mark j).cost, a));
          cost = λ count cost q. ap (λ (answer : Answer). (numbers_of answer).cost) (sym q ∙ a);
          words = λ count cost q.
              let same : count ≡ length found = ap (λ (answer : Answer). (numbers_of answer).count) (sym q ∙ a) in
              (found, over_left j (segment j r).rows.left r.left f.filled.left ∙ walked, same, w);
          never_broken = λ q. omega (arith, number a, number q);
          lengths = f.lengths;
        }
