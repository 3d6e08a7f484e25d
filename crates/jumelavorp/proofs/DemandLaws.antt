-- Demand 3: what meets the job's promise has it. Assumes of the job that the tests are passed, and nothing else.
use Prim.Native.Nat.{ℕ, suc, ◌+◌, ◌≤◌, ◌<◌}
use mathlib.Core.Path.{◌≡◌, refl, sym, ap, ◌∙◌, subst}
use mathlib.Core.Logic.{◌↔◌, ◌⊎◌, ⊎_elim}
use mathlib.Core.Bool.{Bool, true, false, true≢false}
use mathlib.Core.List.{List, [], ◌∷◌, map, flat_map}
use Rattle.std.specs.Prelude.{Option, None, Some, Err}
use native.Mathlib.Omega.{arith}
use lib.ListN.{length, get_or, length-map}
use lib.IntN.{ℤ, pos, neg_ℤ}
use borrow.Author.Tests.{le-ltb}
use Rattle.ground.specs.Entry.{entry_at, none_link}
use Rattle.ground.specs.Rows.{over}
use Rattle.ground.specs.Text.{letters, offsets}
use Rattle.ground.specs.Answer.{Answer, work_done, numbers_of}
use Rattle.ground.specs.declared.answer.Refusal.{Refusal}
use Rattle.ground.specs.declared.answer.Refusal.TheVariants.{NoPath}
use Rattle.ground.specs.declared.answer.Numbers.{Numbers}
use Rattle.ground.proofs.RowLaws.{offsets_first, offsets_end, offsets_rise}
use Rattle.lattice.specs.Words.{candidate}
use Rattle.lattice.specs.Lattice.{entry_numbered, mark}
use Rattle.lattice.specs.Accepted.{Accepted}
use Rattle.lattice.specs.Size.{least_cost, most_cost, InRange}
use Rattle.lattice.proofs.LatticeLaws.{lattice_length, map_at}
use Rattle.lattice.proofs.OverLaws.{over_at}
use Rattle.checks.specs.Job.{Job, JobRows, character_count, candidate_count}
use Rattle.checks.specs.Checks.{short_row, refused}
use Rattle.checks.proofs.CheckLaws.{passed, tested}
use Rattle.chains.specs.Chain.{last_of, StartsAfter, last_word, Path}
use Rattle.chains.specs.Least.{Reached, LinkedTo}
use Rattle.chains.proofs.TurnLaws.{turn_snoc}
use Rattle.chains.proofs.ChainLaws.{held_left, held_cost, reached_left, chain_exactly, chain_least, left_chain, path_exactly, path_walked}
use Rattle.chains.proofs.CoverLaws.{path_bytes}
use Rattle.segmenter.specs.Segment.{Outcome, given_of, segment}
use Rattle.segmenter.specs.Answers.{lattice_of, end_mark, Ranged, Written, Answers}
use Rattle.segmenter.proofs.JobLaws.{accepted, answers}
use Rattle.jumelavorp.specs.Promise.{Segment}
use Rattle.jumelavorp.specs.Demand3.{byte_at, bytes_of, Tells, Returned, Demand3}

module _ (j : Job) (r : JobRows) (e : refused j r ≡ None) (ranged : Ranged j r) where
  -- The answer and the rows that the definition gives.
  abbrev answer : Answer
  answer = (segment j r).answer

  abbrev after : JobRows
  after = (segment j r).rows

  abbrev n : ℕ
  n = character_count j

  abbrev c : ℕ
  c = candidate_count j

  told : Answers j r
  told = answers j r

  ok : Accepted n (given_of j)
  ok = let p = passed j r e in accepted j p.inputs p.candidates

  -- the left and the cost row hold the lattice's
  left_held : (i : ℕ) → i ≤ suc c → get_or after.left i none_link ≡ (entry_numbered (lattice_of j) i).left
  left_held i h = ap (λ (row : List ℕ). get_or row i none_link) (told.filled e).left ∙ held_left n (given_of j) ok r.left i h

  cost_held : (i : ℕ) → i ≤ suc c → get_or after.cost i (pos 0) ≡ (entry_numbered (lattice_of j) i).cost
  cost_held i h = ap (λ (row : List ℤ). get_or row i (pos 0)) (told.filled e).cost ∙ held_cost n (given_of j) ok r.cost i h

  -- ---- 0 or 12
  data Ending : Type 0 where
    path : (count : ℕ) (cost : ℤ) → answer ≡ work_done count cost → Reached after.left (suc c) → Ending
    no_path_lem : answer ≡ Err NoPath → (Reached after.left (suc c) → ⊥) → Ending

  ending : Ending
  ending = go (end_mark j).reached refl
    where
      same : Reached after.left (suc c) ↔ ((end_mark j).reached ≡ true)
      same = reached_left n (given_of j) ok after.left left_held (suc c) (omega arith) (omega arith)

      go : (t : Bool) → (end_mark j).reached ≡ t → Ending
      go true t = let (count, cost, q) = told.done.1 (e, t) in path count cost q (same.1 t)
      go false t = no_path_lem (told.no_path.1 (e, t)) (λ reached. true≢false (sym (same.0 reached) ∙ t))

  number : {a : Answer} → answer ≡ a → (numbers_of answer).number ≡ (numbers_of a).number
  number q = ap (λ (a : Answer). (numbers_of a).number) q

  path_there : Reached after.left (suc c) ↔ ((ks : List ℕ) × Path n (given_of j) ks)
  path_there = path_exactly n (given_of j) ok after.left left_held

  done_exactly : ((numbers_of answer).number ≡ 0) ↔ ((ks : List ℕ) × Path n (given_of j) ks)
  done_exactly = go ending
    where
      go : Ending → ((numbers_of answer).number ≡ 0) ↔ ((ks : List ℕ) × Path n (given_of j) ks)
      go (path count cost q reached) = (λ z. path_there.0 reached, λ p. number q)
      go (no_path_lem q unreached) = (λ z. absurd (omega (arith, number q)), λ p. absurd (unreached (path_there.1 p)))

  no_path_exactly : ((numbers_of answer).number ≡ 12) ↔ ((ks : List ℕ) → Path n (given_of j) ks → ⊥)
  no_path_exactly = go ending
    where
      go : Ending → ((numbers_of answer).number ≡ 12) ↔ ((ks : List ℕ) → Path n (given_of j) ks → ⊥)
      go (path count cost q reached) = (
        λ z. absurd (omega (arith, number q)),
        λ none-there. let (ks, p) = path_there.0 reached in absurd (none-there ks p),
      )
      go (no_path_lem q unreached) = (λ z ks p. unreached (path_there.1 (ks, p)), λ none-there. number q)

  -- ---- the words

  -- one place of a row that is told of the words
  word_at_lem : (tell : ℕ → ℕ) (words row old : List ℕ) (i : ℕ) → row ≡ over (map tell words) old → i < length words → get_or row i 0 ≡ tell (get_or words i 0)
  word_at_lem tell words row old i q h =
      ap (λ (row : List ℕ). get_or row i 0) q
      ∙ over_at (map tell words) old i 0 (rw length-map h)
      ∙ map_at tell words i 0 0 h

  -- the words of the word rows
  told_words : (words : List ℕ) → Written j words r after → (i : ℕ) → i < length words → Tells j after i (get_or words i 0)
  told_words words w i h =
      record {
        offset = word_at_lem (λ (k : ℕ). byte_at j (get_or j.start k 0)) words after.word_offset r.word_offset i w.offset h;
        id = word_at_lem (λ (k : ℕ). (entry_at j.entry k).id) words after.word_id r.word_id i w.id h;
        kind = word_at_lem (λ (k : ℕ). get_or j.kind k 0) words after.word_kind r.word_kind i w.kind h;
      }

  -- the bytes of a path's words are the text: offsets rise from 0 to its length
  path_text : (words : List ℕ) → Path n (given_of j) words → flat_map (bytes_of j) words ≡ j.text
  path_text words p =
      let ls = letters j.text in
      path_bytes n (given_of j) ok (offsets ls) j.text (offsets_rise 0 ls) (offsets_first 0 ls) words p
      (offsets_end 0 ls ∙ omega (arith, (passed j r e).inputs.sound.whole))

  returned : (numbers_of answer).number ≡ 0 → (words : List ℕ) × Returned j (numbers_of answer) after words
  returned z = go ending
    where
      go : Ending → (words : List ℕ) × Returned j (numbers_of answer) after words
      go (no_path_lem q unreached) = absurd (omega (arith, number q))
      go (path count cost q reached) =
          let (words, w) = path_walked n (given_of j) ok after.left left_held reached in
          let (found, walked, many, written) = told.words count cost q in
          let same : found ≡ words = (let e : Some found ≡ Some words = sym walked ∙ w.walk in cc) in (
            words,
            record {
              best = w.best;
              cost = ap (λ (a : Answer). (numbers_of a).cost) q ∙ told.cost count cost q ∙ w.stored;
              count = ap (λ (a : Answer). (numbers_of a).count) q ∙ many ∙ ap length same;
              stored = cost_held (suc c) (omega arith) ∙ w.stored;
              few = w.few;
              end_link = w.last;
              links = w.links;
              told = told_words words (subst (λ (found : List ℕ). Written j found r after) same written);
              bytes = path_text words w.best.among;
            },
          )

  -- ---- room

  -- the rows are as long as they were, and they passed test 7
  room : short_row n c after ≡ false
  room =
      let l = told.lengths in
      let p = (passed j r e).rows in
      rw (
        le-ltb (length after.offset) (n + 1) (omega (arith, l.offset, p.offset)),
        le-ltb (length after.run) (n + 1) (omega (arith, l.run, p.run)),
        le-ltb (length after.first) (n + 1) (omega (arith, l.first, p.first)),
        le-ltb (length after.last) (n + 1) (omega (arith, l.last, p.last)),
        le-ltb (length after.left) (c + 2) (omega (arith, l.left, p.left)),
        le-ltb (length after.cost) (c + 2) (omega (arith, l.cost, p.cost)),
        le-ltb (length after.next) (c + 2) (omega (arith, l.next, p.next)),
        le-ltb (length after.word_offset) n (omega (arith, l.word_offset, p.word_offset)),
        le-ltb (length after.word_id) n (omega (arith, l.word_id, p.word_id)),
        le-ltb (length after.word_kind) n (omega (arith, l.word_kind, p.word_kind)),
      )

  -- ---- all of it
  of_definition : Demand3 j (numbers_of answer) after
  of_definition =
      record {
        chain = λ k h. left_chain n (given_of j) ok after.left left_held k h after.cost (cost_held (suc k) (omega arith));
        least = λ k h. chain_least n (given_of j) ok after.left left_held k h after.cost (cost_held (suc k) (omega arith));
        reached = chain_exactly n (given_of j) ok after.left left_held;
        end_reached = path_there;
        done = done_exactly;
        words = returned;
        no_path = no_path_exactly;
        range = λ i h. subst InRange (sym (cost_held i (omega arith))) (ranged e i (omega (arith, lattice_length (given_of j) n)));
        room = room;
      }

-- What meets the promise, of a job that passes the tests, has demand 3.
pub demand3 : (j : Job) (r : JobRows) (numbers : Numbers) (after : JobRows) → Segment j r numbers after → refused j r ≡ None → Demand3 j numbers after
demand3 j r numbers after p e =
    subst (λ (numbers : Numbers). Demand3 j numbers after) (sym p.answers)
    (subst (λ (after : JobRows). Demand3 j (numbers_of (segment j r).answer) after) (sym p.rows) (of_definition j r e p.ranged))

-- A caller sees by the number that the tests are passed: 0 and 12 come after them.
pub demand3_answered : (j : Job) (r : JobRows) (numbers : Numbers) (after : JobRows) → Segment j r numbers after
    → (numbers.number ≡ 0) ⊎ (numbers.number ≡ 12) → Demand3 j numbers after
demand3_answered j r numbers after p answered = demand3 j r numbers after p (go (refused j r) refl)
  where
    go : (o : Option Refusal) → refused j r ≡ o → o ≡ None
    go None e = refl
    go (Some why) e =
        let t = tested j r why e in
        let number : numbers.number ≡ (numbers_of (Err why)).number =
        ap (λ (x : Numbers). x.number) p.answers ∙ ap (λ (o : Outcome). (numbers_of o.answer).number) ((answers j r).first_test why e) in
        absurd (⊎_elim (λ q. omega (arith, t.low)) (λ q. omega (arith, t.high)) answered)

-- ---- what it rules out

-- Links that lead to the start mark at once have no word on the way.
at_start : (ks : List ℕ) → last_of suc 0 ks ≡ 0 → ks ≡ []
unfolding last_of
at_start [] e = refl
at_start (k ∷ ks) e = absurd (omega (arith, above ks (suc k) (omega arith)))
  where
    above : (ks : List ℕ) (i : ℕ) → 0 < i → 0 < last_of suc i ks
    above [] i h = h
    above (k ∷ ks) i h = above ks (suc k) (omega arith)

-- A word that begins later does not link to the start mark: a lattice with all links to entry 0 does not meet the demand.
pub not_to_start : (j : Job) (numbers : Numbers) (after : JobRows) → Demand3 j numbers after
    → (k : ℕ) → k < candidate_count j → 0 < get_or j.start k 0 → get_or after.left (suc k) none_link ≡ 0 → ⊥
unfolding last_of
not_to_start j numbers after d k h begins e =
    let (ks, t) = d.chain k h (λ q. omega arith) in
    let here : ks ≡ [] = at_start ks (sym ((turn_snoc (LinkedTo after.left) suc 0 ks k).0 t.links).1 ∙ e) in
    let starts : get_or j.start k 0 ≡ (last_word (given_of j) ks).end =
    ((turn_snoc (StartsAfter (given_of j)) (candidate (given_of j)) (mark 0) ks k).0 t.best.among.1).1.1 in
    omega (arith, starts ∙ ap (λ (ks : List ℕ). (last_word (given_of j) ks).end) here)

-- The range in numbers.
pub range_numbers : (least_cost ≡ neg_ℤ (pos 402685952)) × (most_cost ≡ pos 536887295)
range_numbers = (refl, refl)
