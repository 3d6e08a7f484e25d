-- One more entry: what the relaxation may read in rows that hold the entries so far, and how far the new entry's cost lies from zero. Assumes nothing.
use Prim.Native.Nat.{ℕ, zero, suc, ◌+◌, ◌-◌, ◌*◌, ◌≤◌, ◌<◌}
use Rattle.std.proofs.Common.{Option, None, Some}
use mathlib.Core.Path.{◌≡◌, refl, sym, ap, ◌∙◌, subst}
use mathlib.Core.List.{List, [], ◌∷◌, ◌++◌}
use native.Mathlib.Omega.{arith}
use native.Mathlib.Decide.{dec_lt}
use lib.ListN.{length, get_or, length-append, get_or-append}
use lib.Seq.{get_or-append_seam}
use lib.IntN.{ℤ, pos, ◌+ℤ◌}
use Rattle.ground.specs.Entry.{none_link}
use Rattle.ground.specs.Matrix.{matrix_row}
use Rattle.ground.proofs.EntryLaws.{entry_fits}
use Rattle.ground.proofs.MatrixLaws.{joint_row, row_length}
use Rattle.ground.proofs.ChargeLaws.{charge_most}
use Rattle.lattice.specs.Words.{Word, Given, count, candidate, candidates_to, up_from}
use Rattle.lattice.specs.Lattice.{LatticeEntry, entry_numbered, unreached, mark, offers, taken, entry_by, one_more, grow, joints_of, entries_to, lattice}
use Rattle.lattice.specs.Rows.{LatticeRows, Filled, link_of, last_at, firsts, lasts, costs, nexts, Room}
use Rattle.lattice.specs.Accepted.{Accepted}
use Rattle.lattice.specs.Size.{InRange, AllInRange}
use Rattle.lattice.specs.Inner.{in_row, charge_to, NearTaken, Offering, Held, Sized, AllSized, Linkable, entered}
use Rattle.lattice.specs.declared.relaxation.Offer.{Offer}
use Rattle.lattice.proofs.LatticeLaws.{entries_suc, entries_length, entries_start, word_numbered, entry_word, lattice_end}
use Rattle.lattice.proofs.RowRules.{firsts_at, lasts_at, costs_at}
use Rattle.lattice.proofs.OverLaws.{held_room, held_at}
use Rattle.lattice.proofs.FillLaws.{firsts_length, lasts_length, costs_length, nexts_length, fill_entered}
use Rattle.lattice.proofs.LinkLaws.{last_listed}
use Rattle.lattice.proofs.SizeLaws.{sum_up, sum_down, in_range, SmallOwn, sized_entry}

-- ---- a row of the matrix offers what the matrix does

-- A row is a word's row of the matrix.
abbrev pub RowOf : Given → Word → List ℤ → Type 0
RowOf g w row = row ≡ matrix_row g.matrix g.width w.left_id

module _ (g : Given) (w : Word) (row : List ℤ) (is : RowOf g w row) where
  row_offers : (i : ℕ) (es : List LatticeEntry) → offers (in_row row) (mark w.start) i es ≡ offers (joints_of g) w i es
  unfolding offers
  row_offers i [] = refl
  row_offers i (e ∷ es) = rw (row_offers (suc i) es, is, joint_row g.matrix g.width w.left_id e.word.right_id)

  -- so what is taken by the row is what the word takes
  pub row_taken : (es : List LatticeEntry) → taken (in_row row) es (mark w.start) ≡ taken (joints_of g) es w
  row_taken es = rw (row_offers 0 es)

-- ---- the rows hold the entries so far
module _ (n : ℕ) (g : Given) (ok : Accepted n g) (k : ℕ) (most : k ≤ count g) (t : LatticeRows) (room : Room n (count g + 2) t) (f : Filled n (entries_to g k) t t) (sized : AllSized (entries_to g k)) where
  abbrev es : List LatticeEntry
  es = entries_to g k

  -- entry j + 1 is candidate j
  listed : (j : ℕ) → suc j < length es → j < count g
  listed j h = omega (arith, rw (entries_length g k) at h)

  word_is : (j : ℕ) → suc j < length es → (entry_numbered es (suc j)).word ≡ candidate g j
  word_is j h = entry_word g (suc j) k (rw (entries_length g k) at h)

  cost_is : (i : ℕ) → i < length es → (entry_numbered es i).cost ≡ get_or t.cost i (pos 0)
  cost_is i h = sym (held_at (costs es) t.cost i (pos 0) f.cost (omega (arith, costs_length es)) ∙ costs_at es i h)

  last_is : (position : ℕ) → position ≤ n → get_or t.last position 0 ≡ link_of (last_at position 0 es)
  last_is position inside = held_at (lasts n es) t.last position 0 f.last (omega (arith, lasts_length n es)) ∙ lasts_at n es position inside

  -- ---- and so the relaxation of a word by its row can read them
  module _ (w : Word) (inside : w.start ≤ n) (row : List ℤ) (is : RowOf g w row) (fits : w.left_id * g.width + g.width ≤ length g.matrix) where
    abbrev position : ℕ
    position = w.start

    row_wide : length row ≡ g.width
    row_wide = ap length is ∙ row_length g.matrix g.width w.left_id fits

    charge_is : (j : ℕ) → (candidate g j).end ≡ position → (candidate g j).charged ≡ charge_to g position j
    charge_is j e = rw e

    -- what candidate j offers, if it ends at the position, can be read
    offering : (j : ℕ) → suc j < length es → (candidate g j).end ≡ position → Offering row g t position j
    offering j h e =
        let i = listed j h in
        let forward = ok.forward j i in
        let s = sized (suc j) h in
        record {
          charged =
              record {
                priced = ok.priced;
                listed = i;
                forward = omega (arith, forward);
                in_run = omega (arith, forward, ok.runs);
              };
          bytes = entry_fits g.entry (count g) j ok.entries i;
          joined = rw row_wide (ok.right_ids j i);
          costed = omega (arith, held_room (costs es) t.cost f.cost, costs_length es);
          within = omega (arith, ok.characters);
          most = rw (← cost_is (suc j) h, ← charge_is j e, ← e) (rw (word_is j h) at s.most);
          least = rw (← cost_is (suc j) h, ← e) (rw (word_is j h) at s.least);
        }

    pub held : Held position es row g t
    held =
        record {
          few = omega (arith, entries_length g k, ok.few);
          marked = rw row_wide ok.wide;
          begins = entries_start g k;
          away = λ j h. rw (word_is j h) (omega (arith, ok.forward j (listed j h)));
          in_first = omega (arith, room.first);
          head = held_at (firsts n es) t.first position 0 f.first (omega (arith, firsts_length n es)) ∙ firsts_at n es position inside;
          in_last = omega (arith, room.last);
          tail = last_is position inside;
          in_next = omega (arith, held_room (nexts es) t.next f.next, nexts_length 0 es);
          follows = λ i h. held_at (nexts es) t.next i 0 f.next (omega (arith, nexts_length 0 es));
          right = λ j h. rw (word_is j h);
          charge = λ j h e. rw (word_is j h) (charge_is j (rw (word_is j h) at e));
          costs = cost_is;
          offering = λ j h e. offering j h (rw (word_is j h) at e);
        }

  -- ---- a word that ends inside the text can be entered
  pub linkable : (position : ℕ) → position ≤ n → Linkable (suc k) position t
  linkable position inside =
      record {
        in_first = omega (arith, room.first);
        in_last = omega (arith, room.last);
        in_next = omega (arith, room.next);
        known = known (last_at position 0 es) refl;
      }
    where
      known : (m : Option ℕ) → last_at position 0 es ≡ m → (get_or t.last position 0 ≡ none_link → ⊥) → get_or t.last position 0 < length t.next
      known None q ne = absurd (ne (last_is position inside ∙ ap link_of q))
      known (Some i) q ne =
          let z : get_or t.last position 0 ≡ i = last_is position inside ∙ ap link_of q in
          omega (arith, (last_listed position 0 es i q).high, entries_length g k, room.next)

  -- and the rows then hold one entry more
  stepped : (w : Word) → w.end ≤ n → Filled n (one_more (joints_of g) es w) t (entered (suc k) w.end (taken (joints_of g) es w) w.own_cost t)
  stepped w inside =
      let l = entries_length g k in
      subst (λ (x : ℕ). Filled n (one_more (joints_of g) es w) t (entered x w.end (taken (joints_of g) es w) w.own_cost t)) l
      (fill_entered n es w (taken (joints_of g) es w) t t f
      (record {
        first = room.first;
        last = room.last;
        left = omega (arith, l, room.left);
        cost = omega (arith, l, room.cost);
        next = omega (arith, l, room.next);
      })
      (omega (arith, l, ok.few))
      inside)

  -- for candidate k
  pub stepped_candidate : k < count g → let w = candidate g k in
      Filled n (entries_to g (suc k)) t (entered (suc k) w.end (taken (joints_of g) es w) w.own_cost t)
  stepped_candidate h = rw (entries_suc g k) (stepped (candidate g k) (ok.inside k h))

  -- for the end mark, after all candidates
  pub stepped_end : k ≡ count g → Filled n (lattice n g) t (entered (suc k) n (taken (joints_of g) es (mark n)) (pos 0) t)
  stepped_end q = rw (lattice_end g n, ← q) (stepped (mark n) (omega arith))

-- ---- what holds of each entry, and of one more
each_snoc : (P : LatticeEntry → Type 0) (es : List LatticeEntry) (e : LatticeEntry) → ((i : ℕ) → i < length es → P (entry_numbered es i)) → P e
    → (i : ℕ) → i < length (es ++ (e ∷ [])) → P (entry_numbered (es ++ (e ∷ [])) i)
each_snoc P es e h p i l = go (dec_lt i (length es))
  where
    go : Dec (i < length es) → P (entry_numbered (es ++ (e ∷ [])) i)
    go (yes m) = rw (get_or-append es (e ∷ []) (unreached (mark 0)) i m) (h i m)
    go (no m) =
        let q : i ≡ length es = omega (arith, rw length-append at l) in
        rw (q, get_or-append_seam es e [] (unreached (mark 0))) p

module _ (n : ℕ) (g : Given) (ok : Accepted n g) where
  -- the entry of candidate k lies near, if its offer does
  pub sized_next : (k : ℕ) → k < count g → AllSized (entries_to g k)
      → NearTaken (candidate g k).start (taken (joints_of g) (entries_to g k) (candidate g k)) → SmallOwn (candidate g k).own_cost
      → AllSized (entries_to g (suc k))
  sized_next k h sized near small =
      let w = candidate g k in
      rw (entries_suc g k)
      (each_snoc Sized (entries_to g k) (entry_by w (taken (joints_of g) (entries_to g k) w)) sized
      (sized_entry w (taken (joints_of g) (entries_to g k) w) near small (ok.forward k h)
      (charge_most g.mode (get_or g.run w.start 0) (w.end - w.start) ok.priced)))

  -- the start mark does
  pub sized_start : AllSized (entries_to g 0)
  unfolding candidates_to up_from grow
  sized_start zero h = record { most = omega arith; least = omega arith }
  sized_start (suc i) h = absurd (omega arith)

  -- all costs lie in document 01's range
  pub ranged : AllSized (entries_to g (count g)) → NearTaken n (taken (joints_of g) (entries_to g (count g)) (mark n)) → AllInRange (lattice n g)
  ranged sized near =
      rw (lattice_end g n)
      (each_snoc (λ (e : LatticeEntry). InRange e.cost) (entries_to g (count g)) (entry_by (mark n) m) small (end_small m near))
    where
      m : Option Offer
      m = taken (joints_of g) (entries_to g (count g)) (mark n)

      end_in : (i : ℕ) → i < suc (count g) → (word_numbered g i).end ≤ n
      end_in zero h = omega arith
      end_in (suc i) h = ok.inside i (omega arith)

      small : (i : ℕ) → i < length (entries_to g (count g)) → InRange (entry_numbered (entries_to g (count g)) i).cost
      small i h =
          let s = sized i h in
          let l : i < suc (count g) = rw (entries_length g (count g)) at h in
          let e : (entry_numbered (entries_to g (count g)) i).word.end ≤ n = rw (entry_word g i (count g) l) (end_in i l) in
          in_range (entry_numbered (entries_to g (count g)) i).cost (omega (arith, s.most, ok.characters)) (omega (arith, s.least, ok.characters))

      end_small : (m : Option Offer) → NearTaken n m → InRange (entry_by (mark n) m).cost
      end_small None near = in_range (pos 0) (omega arith) (omega arith)
      end_small (Some o) near =
          in_range (o.cost +ℤ pos 0)
          (omega (arith, sum_up o.cost (pos 0), near.most, ok.characters))
          (omega (arith, sum_down o.cost (pos 0), near.least, ok.characters))
