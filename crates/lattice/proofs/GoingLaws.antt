-- The relaxation, over any list of entries: what its loop holds, how it begins, what a turn does and what it ends with; what the rows tell of the
-- entry of a turn; and what is taken at the start. Assumes nothing.
use Prim.Native.Nat.{ℕ, zero, suc, ◌+◌, ◌-◌, ◌≤◌, ◌<◌}
use Rattle.std.proofs.Common.{Option, None, Some}
use Rattle.std.specs.Option.{option_or}
use mathlib.Core.Path.{◌≡◌, refl, sym, ap, ◌∙◌, subst}
use mathlib.Core.Bool.{Bool, true, false, cond, true≢false}
use mathlib.Core.List.{List, [], ◌∷◌}
use native.Mathlib.Omega.{arith}
use native.Mathlib.Nat.{zero-add}
use lib.ListN.{length, get_or, drop, length-drop}
use lib.Seq.{get_or-drop, drop-drop}
use lib.IntN.{ℤ, +ℤ_idl, +ℤ_idr}
use Rattle.ground.specs.Entry.{mark_id, none_link}
use Rattle.ground.specs.Matrix.{value_in}
use Rattle.lattice.specs.Words.{Word, Given}
use Rattle.lattice.specs.Lattice.{LatticeEntry, mark, unreached, entry_numbered, start_mark, ends_at, offer, offers, against, least, cheaper, taken}
use Rattle.lattice.specs.Rows.{LatticeRows, link_of, first_at, last_at, nexts}
use Rattle.lattice.specs.Inner.{in_row, offer_of, Offering, Near, Held}
use Rattle.lattice.specs.declared.relaxation.Offer.{Offer}
use Rattle.lattice.proofs.LeastLaws.{against_against, cheaper_fair}
use Rattle.lattice.proofs.OfferLaws.{Meets, ends_read, meets_listed, silent}
use Rattle.lattice.proofs.LinkLaws.{last_at_lem, last_listed, present}
use Rattle.lattice.proofs.SeekLaws.{Hit, Sought, seek, hit, dry, link_low, link_high, next_at}

-- ---- the loop

-- All offers from before number k were made, and the least of them is held; the next one is of the first entry from there on that makes one.
pub record Going (joints : ℕ → ℕ → ℤ) (w : Word) (es : List LatticeEntry) (held : Offer) (following : ℕ) : Type 0 where
  pub k : ℕ
  pub within : k ≤ length es
  pub next : following ≡ link_of (first_at w.start k (drop k es))
  pub all : Some (against cheaper held (least cheaper (offers joints w k (drop k es)))) ≡ taken joints es w

-- So it is behind entry f, which made one.
pub record Visited (joints : ℕ → ℕ → ℤ) (w : Word) (es : List LatticeEntry) (held : Offer) (f : ℕ) : Type 0 where
  pub inside : f < length es
  pub meets : Meets w es f
  pub higher : f < get_or (nexts es) f 0
  pub going : Going joints w es held (get_or (nexts es) f 0)

module _ (joints : ℕ → ℕ → ℤ) (w : Word) (es : List LatticeEntry) where
  -- What is known in a turn: entry f is there and makes the first offer from number k on, and its next is a higher entry that does, or none.
  pub record Turn (k f : ℕ) : Type 0 where
    pub inside : f < length es
    pub meets : Meets w es f
    pub next : get_or (nexts es) f 0 ≡ link_of (first_at w.start (suc f) (drop (suc f) es))
    pub higher : f < get_or (nexts es) f 0
    pub most : get_or (nexts es) f 0 ≤ none_link
    pub more : offers joints w k (drop k es) ≡ offer joints w f (entry_numbered es f) ∷ offers joints w (suc f) (drop (suc f) es)

  -- The first offer is held when the loop begins.
  pub begin : (f : ℕ) → Turn 0 f → Visited joints w es (offer joints w f (entry_numbered es f)) f
  unfolding least
  begin f t =
      record {
        inside = t.inside;
        meets = t.meets;
        higher = t.higher;
        going = record { k = suc f; within = t.inside; next = t.next; all = ap (least cheaper) (sym t.more) };
      }

  -- A turn takes one more offer.
  pub again : (held : Offer) (f : ℕ) (g : Going joints w es held f) → Turn g.k f
      → Visited joints w es (against cheaper held (Some (offer joints w f (entry_numbered es f)))) f
  unfolding least
  again held f g t =
      let o = offer joints w f (entry_numbered es f) in
      let others = least cheaper (offers joints w (suc f) (drop (suc f) es)) in
      record {
        inside = t.inside;
        meets = t.meets;
        higher = t.higher;
        going =
            record {
              k = suc f;
              within = t.inside;
              next = t.next;
              all = ap Some (sym (against_against cheaper cheaper_fair held o others)) ∙ (rw t.more at g.all);
            };
      }

  module _ (few : length es ≤ none_link) where
    -- the entries from number k on, and those before them, are no more than there are numbers
    rest : (k : ℕ) → k ≤ length es → k + length (drop k es) ≤ none_link
    rest k h = simp length-drop (omega arith)

    -- Where the first link is none, no offer is taken.
    pub untaken : none_link ≡ link_of (first_at w.start 0 es) → taken joints es w ≡ None
    unfolding least
    untaken q = rw (dry joints w 0 es (omega arith) q)

    -- A link that is not none leads to a turn.
    pub turn : (k f : ℕ) → k ≤ length es → f ≡ link_of (first_at w.start k (drop k es)) → (f ≡ none_link → ⊥) → Turn k f
    turn k f l q some-there =
        record {
          inside = inside;
          meets = meets;
          next = next;
          higher = rw next (link_low joints w (suc f) (drop (suc f) es) (rest (suc f) inside));
          most = rw next (link_high joints w (suc f) (drop (suc f) es) (rest (suc f) inside));
          more = rw (← there, ← beyond) h.more;
        }
      where
        -- the first entry from k on that ends there
        h : Hit joints w k (drop k es) f
        h = hit joints w k (drop k es) f q some-there

        -- its place and what lies behind it, in the whole list
        there : entry_numbered (drop k es) h.place ≡ entry_numbered es f
        there = get_or-drop k es h.place (unreached (mark 0)) ∙ ap (entry_numbered es) (sym h.number)

        beyond : drop (suc h.place) (drop k es) ≡ drop (suc f) es
        beyond =
            let n : k + suc h.place ≡ suc f = omega (arith, h.number) in
            drop-drop (suc h.place) k es ∙ ap (λ (i : ℕ). drop i es) n

        -- so what is known of it holds of entry f
        inside : f < length es
        inside = omega (arith, h.number, rw length-drop at h.inside)

        meets : Meets w es f
        meets = rw there at h.meets

        next : get_or (nexts es) f 0 ≡ link_of (first_at w.start (suc f) (drop (suc f) es))
        next =
            next_at w.start 0 es f inside meets ∙ ap (λ (n : ℕ). link_of (first_at w.start (suc n) (drop (suc f) es))) (zero-add f)

    -- The last entry that ends there has no next, and each other one has.
    pub record Ends (f : ℕ) : Type 0 where
      pub last : f ≡ link_of (last_at w.start 0 es) → get_or (nexts es) f 0 ≡ none_link
      pub more : (f ≡ link_of (last_at w.start 0 es) → ⊥) → get_or (nexts es) f 0 ≡ none_link → ⊥

    pub ends : (f : ℕ) → f < length es → Meets w es f → Ends f
    ends f inside meets = go (last_at w.start (suc f) behind) refl
      where
        behind : List LatticeEntry
        behind = drop (suc f) es

        -- its next is the first one behind it, and the last of all is the last one behind it, or itself
        next : get_or (nexts es) f 0 ≡ link_of (first_at w.start (suc f) behind)
        next = next_at w.start 0 es f inside meets ∙ ap (λ (n : ℕ). link_of (first_at w.start (suc n) behind)) (zero-add f)

        last : (m : Option ℕ) → last_at w.start (suc f) behind ≡ m → last_at w.start 0 es ≡ option_or m (Some f)
        last m q =
            last_at_lem w.start 0 es f inside meets
            ∙ ap (λ (n : ℕ). option_or (last_at w.start (suc n) behind) (Some n)) (zero-add f)
            ∙ ap (λ (m : Option ℕ). option_or m (Some f)) q

        -- the first one behind it is in the list
        below : (x : ℕ) → first_at w.start (suc f) behind ≡ Some x → x < none_link
        below x r =
            let h : Hit joints w (suc f) behind x = subst (Sought joints w (suc f) behind) r (seek joints w (suc f) behind) in
            omega (arith, h.inside, h.number, rest (suc f) inside)

        go : (m : Option ℕ) → last_at w.start (suc f) behind ≡ m → Ends f
        go None q =
            record {
              last = λ _. next ∙ ap link_of ((present w.start (suc f) behind).neither q);
              more = λ other _. other (sym (ap link_of (last None q)));
            }
        go (Some m) q =
            let (x, there) = (present w.start (suc f) behind).either m q in
            let far : suc f ≤ m = (last_listed w.start (suc f) behind m q).low in
            record {
              last = λ e. absurd (omega (arith, e ∙ ap link_of (last (Some m) q)));
              more = λ _ e. omega (arith, below x there, sym (next ∙ ap link_of there) ∙ e);
            }

    -- From an entry whose offer was made, and that is not the last, its next leads to a turn.
    pub onward : (held : Offer) (f : ℕ) (v : Visited joints w es held f) → (f ≡ link_of (last_at w.start 0 es) → ⊥)
        → Turn v.going.k (get_or (nexts es) f 0)
    onward held f v other =
        turn v.going.k (get_or (nexts es) f 0) v.going.within v.going.next ((ends f v.inside v.meets).more other)

    -- At the last one the least of all offers is held.
    pub done : (held : Offer) (f : ℕ) → Visited joints w es held f → f ≡ link_of (last_at w.start 0 es) → Some held ≡ taken joints es w
    unfolding least
    done held f v e =
        let g = v.going in
        let q : none_link ≡ link_of (first_at w.start g.k (drop g.k es)) = sym ((ends f v.inside v.meets).last e) ∙ g.next in
        rw (dry joints w g.k (drop g.k es) (rest g.k g.within) q) at g.all

-- ---- the rows

-- What the rows tell of entry f: its number is above the start mark's, its candidate's offer can be read, and is its offer.
pub record Told (position : ℕ) (es : List LatticeEntry) (row : List ℤ) (g : Given) (r : LatticeRows) (f : ℕ) : Type 0 where
  pub above : 0 < f
  pub fits : suc (f - 1) < none_link
  pub offering : Offering row g r position (f - 1)
  pub is : offer_of row g r position (f - 1) ≡ offer (in_row row) (mark position) f (entry_numbered es f)

-- So it is with each that ends at the position, unless that is 0.
pub told : {position : ℕ} {es : List LatticeEntry} {row : List ℤ} {g : Given} {r : LatticeRows} → Held position es row g r
    → (position ≡ 0 → ⊥) → (f : ℕ) → f < length es → Meets (mark position) es f → Told position es row g r f
told {position} {es} held away zero h m =
    absurd (away (sym (ends_read position (entry_numbered es 0) m).1 ∙ ap (λ (e : LatticeEntry). e.word.end) held.begins))
told {position} {es} held away (suc k) h m =
    let end = (ends_read position (entry_numbered es (suc k)) m).1 in
    let q : suc k - 1 ≡ k = omega arith in
    record {
      above = omega arith;
      fits = omega (arith, held.few);
      offering = rw q (held.offering k h end);
      is = rw (q, held.costs (suc k) h, held.right k h, held.charge k h end);
    }

-- What rows hold for the relaxation, they hold with another left row too: it does not read that one.
pub any_left : {position : ℕ} {es : List LatticeEntry} {row : List ℤ} {g : Given} {r : LatticeRows} (left : List ℕ) → Held position es row g r
    → Held position es row g (record r { left = left })
any_left left h =
    record {
      few = h.few;
      marked = h.marked;
      begins = h.begins;
      away = h.away;
      in_first = h.in_first;
      head = h.head;
      in_last = h.in_last;
      tail = h.tail;
      in_next = h.in_next;
      follows = h.follows;
      right = h.right;
      charge = h.charge;
      costs = h.costs;
      offering =
          λ k i e.
          let o = h.offering k i e in
          record {
            charged = o.charged;
            bytes = o.bytes;
            joined = o.joined;
            costed = o.costed;
            within = o.within;
            most = o.most;
            least = o.least;
          };
    }

-- Of two offers that lie near, the cheaper one does.
pub near_against : (position : ℕ) (held rival : Offer) → Near position held.cost → Near position rival.cost
    → Near position (against cheaper held (Some rival)).cost
near_against position held rival h r = go (cheaper rival held)
  where
    go : (t : Bool) → Near position (cond t rival held).cost
    go true = r
    go false = h

-- ---- the start

-- No entry but the start mark ends at 0.
alone : (e : LatticeEntry) (es : List LatticeEntry) → ((k : ℕ) → suc k < length (e ∷ es) → 0 < (entry_numbered (e ∷ es) (suc k)).word.end)
    → (j : ℕ) → ends_at 0 (entry_numbered es j) ≡ false
alone e es away j = go (ends_at 0 (entry_numbered es j)) refl
  where
    go : (t : Bool) → ends_at 0 (entry_numbered es j) ≡ t → t ≡ false
    go true q =
        let h = meets_listed (mark 0) es j q in
        absurd (omega (arith, away j (omega arith), (ends_read 0 (entry_numbered es j) q).1))
    go false q = refl

-- So at 0 its offer is taken: the joint alone.
pub start_offer_lem : (row : List ℤ) (es : List LatticeEntry) → entry_numbered es 0 ≡ start_mark
    → ((k : ℕ) → suc k < length es → 0 < (entry_numbered es (suc k)).word.end)
    → taken (in_row row) es (mark 0) ≡ Some (record { from = 0; cost = value_in row mark_id })
unfolding offers least
start_offer_lem row [] begins away = absurd (true≢false (sym (ap (λ (e : LatticeEntry). e.reached) begins)))
start_offer_lem row (e ∷ es) begins away =
    rw (begins, silent (in_row row) (mark 0) 1 es (alone e es away), +ℤ_idl, +ℤ_idr)
