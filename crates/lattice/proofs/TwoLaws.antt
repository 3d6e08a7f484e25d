-- Two words that go in together: what is read of each, what holds where the second is the first once more, and what the rows hold behind both.
-- Assumes nothing.
use Prim.Native.Nat.{ℕ, zero, suc, ◌+◌, ◌*◌, ◌≤◌, ◌<◌}
use mathlib.Core.Path.{◌≡◌, refl, sym, ap, ◌∙◌, subst}
use mathlib.Core.Bool.{Bool, true, false, cond, ◌&&◌}
use mathlib.Core.List.{List, [], ◌∷◌, append-nil}
use Rattle.std.proofs.Common.{Option, None, Some}
use native.Mathlib.Omega.{arith}
use native.Mathlib.Decide.{dec_lt}
use borrow.Author.Tests.{lt-ltb, le-ltb, ltb-true, eqb-true, eqb-false, eq-eqb, ne_eqb}
use lib.ListN.{length, get_or, set, length-set}
use lib.Seq.{set-set, set_comm, get_or-set_same}
use lib.IntN.{ℤ, pos, ◌+ℤ◌}
use lib.Dec.{eqb, ltb}
use Rattle.ground.specs.Entry.{entry_at, mark_id, none_link}
use Rattle.lattice.specs.Words.{Word, Given, count, candidate}
use Rattle.lattice.specs.Lattice.{LatticeEntry, mark, entry_numbered, ends_at, offers, least, cheaper, taken, entry_by, joints_of, entries_to}
use Rattle.lattice.specs.Rows.{LatticeRows, Filled, Room}
use Rattle.lattice.specs.Accepted.{Accepted}
use Rattle.lattice.specs.Inner.{NearTaken, Linkable, before_of, entered, incoming_of, word_at, beside_of, entries_before, AllSized, SizedBefore}
use Rattle.lattice.specs.declared.forward.Incoming.{Incoming}
use Rattle.lattice.specs.declared.relaxation.Offer.{Offer}
use Rattle.lattice.proofs.LatticeLaws.{entries_suc, entries_length, entry_by_word, lattice_length}
use Rattle.lattice.proofs.OfferLaws.{ends_not, offers_append, silent}
use Rattle.lattice.proofs.FillLaws.{SameLengths, rows_equal, fill_fill, fill_held, fill_lengths, room_kept}
use Rattle.lattice.proofs.SizeLaws.{SmallOwn}
use Rattle.lattice.proofs.StepLaws.{linkable, stepped_candidate, stepped_end, sized_next, ranged}

-- one entry that does not end at a position, as a list
silent_alone : (position : ℕ) (e : LatticeEntry) → ends_at position e ≡ false → (j : ℕ) → ends_at position (entry_numbered (e ∷ []) j) ≡ false
silent_alone position e h zero = h
silent_alone position e h (suc j) = refl

-- ---- the same entry once more

-- To enter an entry a second time changes nothing.
pub entered_again : (x position : ℕ) (t : Option Offer) (own_cost : ℤ) (r : LatticeRows) → (x ≡ none_link → ⊥) → position < length r.last
    → entered x position t own_cost (entered x position t own_cost r) ≡ entered x position t own_cost r
entered_again x position None own_cost r Some-number inside =
    rows_equal refl refl (set-set r.left x none_link none_link) (set-set r.cost x (pos 0) (pos 0)) (set-set r.next x none_link none_link)
entered_again x position (Some o) own_cost r Some-number inside =
    rows_equal
    (rw (own, ne_eqb x none_link Some-number))
    (set-set r.last position x x)
    (set-set r.left x o.from o.from)
    (set-set r.cost x (o.cost +ℤ own_cost) (o.cost +ℤ own_cost))
    (rw (own, ne_eqb x none_link Some-number, eq-eqb x x refl) (unchanged (eqb before x) refl))
  where
    -- it is the last one there
    own : get_or (set r.last position x) position 0 ≡ x
    own = get_or-set_same r.last position x 0 inside

    before : ℕ
    before = before_of x (get_or r.last position 0)

    -- and has no next
    unchanged : (t : Bool) → eqb before x ≡ t
        → set (cond t (set r.next x none_link) (set (set r.next x none_link) before x)) x none_link
        ≡ cond t (set r.next x none_link) (set (set r.next x none_link) before x)
    unchanged true q = set-set r.next x none_link none_link
    unchanged false q =
        set_comm (set r.next x none_link) before x x none_link (eqb-false before x q)
        ∙ ap (λ (l : List ℕ). set l before x) (set-set r.next x none_link none_link)

-- and it can be linked again
pub linkable_again : (x position : ℕ) (t : Option Offer) (own_cost : ℤ) (r : LatticeRows) → Linkable x position r → Linkable x position (entered x position t own_cost r)
linkable_again x position None own_cost r h =
    record {
      in_first = h.in_first;
      in_last = h.in_last;
      in_next = rw length-set h.in_next;
      known = λ ne. rw length-set (h.known ne);
    }
linkable_again x position (Some o) own_cost r h =
    record {
      in_first = rw (first_length (eqb (get_or r.last position 0) none_link)) h.in_first;
      in_last = rw length-set h.in_last;
      in_next = rw (next_length (eqb before x)) h.in_next;
      known = λ _. rw (get_or-set_same r.last position x 0 h.in_last, next_length (eqb before x)) h.in_next;
    }
  where
    before : ℕ
    before = before_of x (get_or r.last position 0)

    first_length : (t : Bool) → length (cond t (set r.first position x) r.first) ≡ length r.first
    first_length true = length-set r.first position x
    first_length false = refl

    next_length : (t : Bool) → length (cond t (set r.next x none_link) (set (set r.next x none_link) before x)) ≡ length r.next
    next_length true = length-set r.next x none_link
    next_length false = length-set (set r.next x none_link) before x ∙ length-set r.next x none_link

-- ---- what is read of a word

-- What the code holds of a word.
pub record Read (i : Incoming) (w : Word) : Type 0 where
  pub start : i.start ≡ w.start
  pub end : i.end ≡ w.end
  pub left_id : i.left_id ≡ w.left_id
  pub own_cost : i.own_cost ≡ w.own_cost

module _ (n : ℕ) (g : Given) where
  pub read_word : (k : ℕ) → Read (incoming_of n g k) (word_at n g k)
  read_word k = go (ltb k (count g))
    where
      listed : Incoming
      listed =
          record {
            start = get_or g.start k 0;
            end = get_or g.end k 0;
            left_id = (entry_at g.entry k).left_id;
            own_cost = get_or g.extra k (pos 0) +ℤ (entry_at g.entry k).cost;
          }

      end_mark : Incoming
      end_mark = record { start = n; end = n; left_id = mark_id; own_cost = pos 0 }

      go : (t : Bool) → Read (cond t listed end_mark) (cond t (candidate g k) (mark n))
      go true = record { start = refl; end = refl; left_id = refl; own_cost = refl }
      go false = record { start = refl; end = refl; left_id = refl; own_cost = refl }

  -- word k is candidate k, or behind the candidates the end mark
  pub word_cases : (P : Word → Type 0) (k : ℕ) → k ≤ count g → (k < count g → P (candidate g k)) → (k ≡ count g → P (mark n)) → P (word_at n g k)
  word_cases P k h one other = go (dec_lt k (count g))
    where
      go : Dec (k < count g) → P (word_at n g k)
      go (yes m) = rw (lt-ltb k (count g) m) (one m)
      go (no m) = rw (le-ltb k (count g) (omega arith)) (other (omega arith))

  -- the word beside word k is word k itself, or the next candidate, which starts where it does
  pub beside_cases : (P : ℕ → Type 0) (k : ℕ) → P k → (suc k < count g → (candidate g k).start ≡ (candidate g (suc k)).start → P (suc k)) → P (beside_of g k)
  beside_cases P k same next = go (ltb (suc k) (count g)) refl (eqb (get_or g.start k 0) (get_or g.start (suc k) 0)) refl
    where
      go : (t : Bool) → ltb (suc k) (count g) ≡ t → (u : Bool) → eqb (get_or g.start k 0) (get_or g.start (suc k) 0) ≡ u → P (cond (t && u) (suc k) k)
      go true q true r = next (ltb-true (suc k) (count g) q) (eqb-true _ _ r)
      go true q false r = same
      go false q u r = same

  module _ (ok : Accepted n g) where
    -- What a word asks of the text and of the matrix.
    pub record Inside (w : Word) : Type 0 where
      pub start : w.start ≤ n
      pub end : w.end ≤ n
      pub row : w.left_id * g.width + g.width ≤ length g.matrix

    pub inside : (k : ℕ) → k ≤ count g → Inside (word_at n g k)
    inside k h =
        word_cases Inside k h
        (λ m. record { start = omega (arith, ok.forward k m, ok.inside k m); end = ok.inside k m; row = ok.left_ids k m })
        (λ _. record { start = omega arith; end = omega arith; row = omega (arith, ok.high) })

    -- the word beside word k is a word too, and starts where it does
    pub beside_listed : (k : ℕ) → k ≤ count g → beside_of g k ≤ count g
    beside_listed k h = beside_cases (λ (j : ℕ). j ≤ count g) k h (λ m _. omega arith)

    pub beside_low : (k : ℕ) → k ≤ beside_of g k
    beside_low k = beside_cases (λ (j : ℕ). k ≤ j) k (omega arith) (λ _ _. omega arith)

    pub beside_start : (k : ℕ) → k ≤ count g → (word_at n g (beside_of g k)).start ≡ (word_at n g k).start
    beside_start k h =
        beside_cases (λ (j : ℕ). (word_at n g j).start ≡ (word_at n g k).start) k refl
        (λ m q. rw (lt-ltb (suc k) (count g) m, lt-ltb k (count g) (omega (arith, m))) (sym q))

    -- the entry of candidate k offers nothing to a word that starts where it does
    pub taken_past : (k : ℕ) → suc k < count g → (candidate g k).start ≡ (candidate g (suc k)).start
        → taken (joints_of g) (entries_to g (suc k)) (candidate g (suc k)) ≡ taken (joints_of g) (entries_to g k) (candidate g (suc k))
    taken_past k m q =
        let w = candidate g (suc k) in
        let o = taken (joints_of g) (entries_to g k) (candidate g k) in
        let e = entry_by (candidate g k) o in
        let apart : ends_at w.start e ≡ false =
        ends_not w.start e (λ z. omega (arith, ok.forward k (omega (arith, m)), q, sym (ap (λ (w : Word). w.end) (entry_by_word (candidate g k) o)) ∙ z)) in
        rw (entries_suc g k)
        (ap (least cheaper)
        (offers_append (joints_of g) w 0 (entries_to g k) (e ∷ [])
        ∙ rw (silent (joints_of g) w (0 + length (entries_to g k)) (e ∷ []) (silent_alone w.start e apart)) (append-nil (offers (joints_of g) w 0 (entries_to g k)))))

-- ---- how many entries there are before a word goes in
pub record Many (n : ℕ) (g : Given) (k : ℕ) : Type 0 where
  pub least : suc k ≤ length (entries_before n g k)
  pub most : length (entries_before n g k) ≤ count g + 2

pub before_length : (n : ℕ) (g : Given) (k : ℕ) → k ≤ suc (count g) → Many n g k
before_length n g k h = go (dec_lt (count g) k)
  where
    go : Dec (count g < k) → Many n g k
    go (yes m) =
        let q = lt-ltb (count g) k m in
        let l = lattice_length g n in
        record { least = rw q (omega (arith, l)); most = rw q (omega (arith, l)) }
    go (no m) =
        let q = le-ltb (count g) k (omega arith) in
        let l = entries_length g k in
        record { least = rw q (omega (arith, l)); most = rw q (omega (arith, l)) }

-- ---- one word goes in
module _ (n : ℕ) (g : Given) (ok : Accepted n g) (k : ℕ) (most : k ≤ count g) (t : LatticeRows) (room : Room n (count g + 2) t) (f : Filled n (entries_to g k) t t) (sized : AllSized (entries_to g k)) where
  abbrev word : Word
  word = word_at n g k

  abbrev takes : Option Offer
  takes = taken (joints_of g) (entries_to g k) word

  -- the rows behind it
  abbrev with_word : LatticeRows
  with_word = entered (suc k) word.end takes word.own_cost t

  -- hold one entry more
  pub one_in : Filled n (entries_before n g (suc k)) t with_word
  one_in =
      word_cases n g
      (λ (w : Word). Filled n (entries_before n g (suc k)) t (entered (suc k) w.end (taken (joints_of g) (entries_to g k) w) w.own_cost t)) k most
      (λ m. rw (le-ltb (count g) (suc k) m) (stepped_candidate n g ok k most t room f sized m))
      (λ q. rw (lt-ltb (count g) (suc k) (omega (arith, q))) (stepped_end n g ok k most t room f sized q))

  -- and its size is known
  pub sized_in : NearTaken word.start takes → SmallOwn word.own_cost → SizedBefore n g (suc k)
  sized_in =
      word_cases n g
      (λ (w : Word). NearTaken w.start (taken (joints_of g) (entries_to g k) w) → SmallOwn w.own_cost → SizedBefore n g (suc k)) k most
      (λ m near small. record { some = λ _. sized_next n g ok k m sized near small; all = λ z. absurd (omega (arith, m, z)) })
      (λ q near small.
      record {
        some = λ z. absurd (omega (arith, q, z));
        all = λ _. ranged n g ok (subst (λ (k : ℕ). AllSized (entries_to g k)) q sized)
            (subst (λ (k : ℕ). NearTaken n (taken (joints_of g) (entries_to g k) (mark n))) q near);
      })

  -- the rows keep their lengths
  pub same_lengths : SameLengths t with_word
  same_lengths = fill_lengths n (count g + 2) (entries_before n g (suc k)) t with_word room (before_length n g (suc k) (omega (arith, most))).most one_in

-- ---- and the word beside it
module _ (n : ℕ) (g : Given) (ok : Accepted n g) (k : ℕ) (most : k ≤ count g) (t : LatticeRows) (room : Room n (count g + 2) t) (f : Filled n (entries_to g k) t t) (sized : AllSized (entries_to g k))
    (near : NearTaken (word_at n g k).start (takes n g ok k most t room f sized)) (small : SmallOwn (word_at n g k).own_cost) where
  -- the rows with the first word
  abbrev one : LatticeRows
  one = with_word n g ok k most t room f sized

  -- What the word of number j takes: what the entries before word k offer.
  abbrev Takes : ℕ → Option Offer → Type 0
  Takes j o = o ≡ taken (joints_of g) (entries_to g k) (word_at n g j)

  -- where the next candidate goes in too, the rows hold what it asks
  module _ (m : suc k < count g) where
    next_filled : Filled n (entries_to g (suc k)) t one
    next_filled = rw (le-ltb (count g) (suc k) (omega (arith, m))) at (one_in n g ok k most t room f sized)

    next_held : Filled n (entries_to g (suc k)) one one
    next_held = fill_held n (entries_to g (suc k)) t one next_filled

    next_room : Room n (count g + 2) one
    next_room = room_kept n (count g + 2) t one room (same_lengths n g ok k most t room f sized)

    next_sized : AllSized (entries_to g (suc k))
    next_sized = (sized_in n g ok k most t room f sized near small).some (omega (arith, m))

    -- and it takes what it is offered by all entries before it
    next_takes : (candidate g k).start ≡ (candidate g (suc k)).start → (o : Option Offer) → Takes (suc k) o
        → taken (joints_of g) (entries_to g (suc k)) (word_at n g (suc k)) ≡ o
    next_takes q o e =
        let past : taken (joints_of g) (entries_to g (suc k)) (word_at n g (suc k)) ≡ taken (joints_of g) (entries_to g k) (word_at n g (suc k)) =
        rw (lt-ltb (suc k) (count g) m) (taken_past n g ok k m q) in
        past ∙ sym e

  -- the second word can be linked
  pub linkable_beside : let j = beside_of g k in Linkable (suc j) (word_at n g j).end one
  linkable_beside =
      beside_cases n g (λ (j : ℕ). Linkable (suc j) (word_at n g j).end one) k
      (linkable_again (suc k) (word_at n g k).end (takes n g ok k most t room f sized) (word_at n g k).own_cost t
      (linkable n g ok k most t room f sized (word_at n g k).end (inside n g ok k most).end))
      (λ m q.
      linkable n g ok (suc k) (omega (arith, m)) one (next_room m) (next_held m) (next_sized m) (word_at n g (suc k)).end
      (inside n g ok (suc k) (omega (arith, m))).end)

  -- What the rows hold behind both.
  abbrev Behind : ℕ → Option Offer → Type 0
  Behind j o =
      Filled n (entries_before n g (suc j)) t (entered (suc j) (word_at n g j).end o (word_at n g j).own_cost one) × SizedBefore n g (suc j)

  pub both_in : let j = beside_of g k in (o : Option Offer) → Takes j o → NearTaken (word_at n g j).start o → SmallOwn (word_at n g j).own_cost → Behind j o
  both_in =
      beside_cases n g (λ (j : ℕ). (o : Option Offer) → Takes j o → NearTaken (word_at n g j).start o → SmallOwn (word_at n g j).own_cost → Behind j o) k same next
    where
      -- the first word once more
      same : (o : Option Offer) → Takes k o → NearTaken (word_at n g k).start o → SmallOwn (word_at n g k).own_cost → Behind k o
      same o e _ _ =
          let again : entered (suc k) (word_at n g k).end o (word_at n g k).own_cost one ≡ one =
          rw e
          (entered_again (suc k) (word_at n g k).end (takes n g ok k most t room f sized) (word_at n g k).own_cost t (λ z. omega (arith, most, ok.few, z))
          (omega (arith, (inside n g ok k most).end, room.last))) in (
            subst (Filled n (entries_before n g (suc k)) t) (sym again) (one_in n g ok k most t room f sized),
            sized_in n g ok k most t room f sized near small,
          )

      -- the next candidate
      next : suc k < count g → (candidate g k).start ≡ (candidate g (suc k)).start
          → (o : Option Offer) → Takes (suc k) o → NearTaken (word_at n g (suc k)).start o → SmallOwn (word_at n g (suc k)).own_cost → Behind (suc k) o
      next m q o e Near-next small-next =
          let w = word_at n g (suc k) in
          let le : suc k ≤ count g = omega (arith, m) in
          let is = next_takes m q o e in
          let two = entered (suc (suc k)) w.end o w.own_cost one in
          let filled : Filled n (entries_before n g (suc (suc k))) one two =
          subst (λ (o : Option Offer). Filled n (entries_before n g (suc (suc k))) one (entered (suc (suc k)) w.end o w.own_cost one)) is
          (one_in n g ok (suc k) le one (next_room m) (next_held m) (next_sized m)) in
          let longer : length (entries_to g (suc k)) ≤ length (entries_before n g (suc (suc k))) =
          rw (le-ltb (count g) (suc (suc k)) m) (omega (arith, entries_length g (suc k), entries_length g (suc (suc k)))) in (
            fill_fill n (entries_to g (suc k)) (entries_before n g (suc (suc k))) t one two (next_filled m) filled longer,
            sized_in n g ok (suc k) le one (next_room m) (next_held m) (next_sized m) (subst (NearTaken w.start) (sym is) Near-next) small-next,
          )
