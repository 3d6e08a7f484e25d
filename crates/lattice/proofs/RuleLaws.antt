-- The lattice keeps document 01's rules of the entries (specs/Rules.antt), over all entries and not only the earlier ones. Assumes nothing.
use Prim.Native.Nat.{ℕ, zero, suc, ◌≤◌, ◌<◌}
use mathlib.Core.Path.{◌≡◌, refl, sym, ap, ◌∙◌}
use mathlib.Core.Logic.Iff
use mathlib.Core.Logic.{◌↔◌}
use mathlib.Core.Bool.{Bool, true, false, true≢false}
use mathlib.Core.List.{List, [], ◌∷◌, ◌++◌}
use Rattle.std.proofs.Common.{Option, None, Some}
use native.Mathlib.Omega.{arith}
use native.Mathlib.Decide.{dec_lt}
use lib.ListN.{length, get_or, length-append, get_or-append, get_or-eq_default}
use lib.Seq.{get_or_at, append_snoc}
use lib.IntN.{ℤ, pos}
use lib.Signed.{◌≤ℤ◌, ◌<ℤ◌}
use Rattle.ground.specs.Entry.{none_link}
use Rattle.lattice.specs.Words.{Word, Given, count, candidate}
use Rattle.lattice.specs.Lattice.{LatticeEntry, entry_numbered, mark, unreached, ends_at, offers, cheaper, taken, entry_by, joints_of, entries_to, lattice}
use Rattle.lattice.specs.Rows.{nexts, nexts_from}
use Rattle.lattice.specs.Accepted.{Accepted}
use Rattle.lattice.specs.Rules.{Joins, Ruled, Rules, cost_from}
use Rattle.lattice.specs.declared.relaxation.Offer.{Offer}
use Rattle.lattice.proofs.OrderLaws.{ints}
use Rattle.lattice.proofs.LeastLaws.{Chosen, chosen, cheaper_fair}
use Rattle.lattice.proofs.LatticeLaws.{Begins, entry_by_word, entry_for, entries_suc, entries_length, entries_start}
use Rattle.lattice.proofs.LatticeLaws.{lattice_end, lattice_length, lattice_more, lattice_kept, lattice_word, lattice_end_word}
use Rattle.lattice.proofs.OfferLaws.{Meets, meets_listed, ends_read, ends_show, ends_not, silent_after, Settled, settled, reachable}

-- ---- an unreached entry

-- it has no left and costs nothing
unreached_entry : (w : Word) (m : Option Offer) → (entry_by w m).reached ≡ false → ((entry_by w m).left ≡ none_link) × ((entry_by w m).cost ≡ pos 0)
unreached_entry w None r = (refl, refl)
unreached_entry w (Some o) r = absurd (true≢false r)

-- and it has no next
pub unreached_next : (from : ℕ) (es : List LatticeEntry) (i : ℕ) → i < length es → (entry_numbered es i).reached ≡ false
    → get_or (nexts_from from es) i 0 ≡ none_link
unfolding nexts_from
unreached_next from [] i h r = absurd (omega arith)
unreached_next from (e ∷ es) zero h r = rw r
unreached_next from (e ∷ es) (suc i) h r = unreached_next (suc from) es i (omega arith) r

-- ---- the rules of one entry: of a word appended to some entries, with others behind it that do not end where the word starts

module _ (joints : ℕ → ℕ → ℤ) (w : Word) (es rest : List LatticeEntry) where
  -- the word's entry, all entries, and its place among them
  abbrev entry : LatticeEntry
  entry = entry_by w (taken joints es w)

  abbrev all : List LatticeEntry
  all = es ++ (entry ∷ rest)

  abbrev at : ℕ
  at = length es

  -- it stands there, and those before it at theirs
  here : entry_numbered all at ≡ entry
  here = get_or_at es entry rest (unreached (mark 0)) at refl

  below : (j : ℕ) → j < at → entry_numbered all j ≡ entry_numbered es j
  below j h = get_or-append es (entry ∷ rest) (unreached (mark 0)) j h

  same : (j : ℕ) → Meets w es j → entry_numbered all j ≡ entry_numbered es j
  same j m = below j (meets_listed w es j m)

  -- the offer taken is the first of the least
  choice : Chosen cheaper (offers joints w 0 es) (taken joints es w)
  choice = chosen cheaper cheaper_fair (offers joints w 0 es)

  -- an entry before it that ends where the word starts can stand before it
  to_joins : (j : ℕ) → Meets w es j → Joins all w at j
  to_joins j m =
      let h = meets_listed w es j m in
      let (r, s) = ends_read w.start (entry_numbered es j) m in
      record {
        listed = simp length-append (omega arith);
        other = λ q. omega arith;
        reached = rw (below j h) r;
        meets = rw (below j h) s;
      }

  module _ (quiet : (j : ℕ) → at < j → ends_at w.start (entry_numbered all j) ≡ false) where
    -- and no other can
    from_joins : (j : ℕ) → Joins all w at j → Meets w es j
    from_joins j h = go (dec_lt j at)
      where
        passes : ends_at w.start (entry_numbered all j) ≡ true
        passes = ends_show w.start (entry_numbered all j) h.reached h.meets

        go : Dec (j < at) → Meets w es j
        go (yes l) = rw (below j l) at passes
        go (no l) = absurd (true≢false (sym passes ∙ quiet j (beyond l h.other)))
          where
            beyond : (j < at → ⊥) → (j ≡ at → ⊥) → at < j
            beyond l o = omega arith

    -- what its left and its cost say of the entries before it
    over_earlier : entry.reached ≡ true → Settled joints w es entry
    over_earlier r = settled joints w es (taken joints es w) choice r

    -- it is reached if an entry can stand before it
    reached_by : (j : ℕ) → Joins all w at j → entry.reached ≡ true
    reached_by j h = reachable joints w es (taken joints es w) choice j (from_joins j h)

    -- its left can stand before it
    joins_left : entry.reached ≡ true → Joins all w at entry.left
    joins_left r = to_joins entry.left (over_earlier r).meets

    -- its cost is that from its left
    cost_left : entry.reached ≡ true → entry.cost ≡ cost_from joints all w entry.left
    cost_left r = rw (same entry.left (over_earlier r).meets) (over_earlier r).cost

    -- no other costs less
    cost_least : (j : ℕ) → Joins all w at j → entry.cost ≤ℤ cost_from joints all w j
    cost_least j h = let m = from_joins j h in rw (same j m) ((over_earlier (reached_by j h)).low j m)

    -- and none below its left costs as little
    left_lowest : (j : ℕ) → Joins all w at j → entry.cost ≡ cost_from joints all w j → entry.left ≤ j
    left_lowest j h e = go (dec_lt j entry.left)
      where
        m : Meets w es j
        m = from_joins j h

        dearer : j < entry.left → entry.cost <ℤ cost_from joints all w j
        dearer l = rw (same j m) ((over_earlier (reached_by j h)).first j l m)

        go : Dec (j < entry.left) → entry.left ≤ j
        go (yes l) = let d = dearer l in absurd (omega ints)
        go (no l) = omega arith

    -- unreached, it has no links and costs nothing
    no_links : entry.reached ≡ false
        → ((entry_numbered all at).left ≡ none_link) × ((entry_numbered all at).cost ≡ pos 0) × (get_or (nexts all) at 0 ≡ none_link)
    no_links r =
        let (l, c) = unreached_entry w (taken joints es w) r in
        (rw here l, rw here c, unreached_next 0 all at (simp length-append (omega arith)) (rw here r))

    -- so it keeps the rules
    ruled : Ruled joints all w at
    ruled =
        record {
          word = rw here (entry_by_word w (taken joints es w));
          reached = (λ r. (entry.left, joins_left (rw here at r)), λ (j, h). rw here (reached_by j h));
          left = rw here joins_left;
          cost = rw here cost_left;
          least = rw here cost_least;
          lowest = rw here left_lowest;
          unreached = λ r. no_links (rw here at r);
        }

-- the same of a whole list of entries that was made so
placed : (joints : ℕ → ℕ → ℤ) (w : Word) (whole es rest : List LatticeEntry) (i : ℕ)
    → whole ≡ es ++ (entry_by w (taken joints es w) ∷ rest) → length es ≡ i
    → ((j : ℕ) → i < j → ends_at w.start (entry_numbered whole j) ≡ false) → Ruled joints whole w i
placed joints w whole es rest i shape number quiet =
    rw (shape, ← number) (ruled joints w es rest (rw (shape, ← number) at quiet))

-- ---- what the rules say of an entry without a left

-- a test that is not true is false
not_true : (b : Bool) → (b ≡ true → ⊥) → b ≡ false
not_true true no_way = absurd (no_way refl)
not_true false no_way = refl

module _ (joints : ℕ → ℕ → ℤ) (es : List LatticeEntry) (w : Word) (i : ℕ) (keeps : Ruled joints es w i) where
  -- it is unreached exactly if nothing can stand before it
  unreached_by : ((entry_numbered es i).reached ≡ false) ↔ (((j : ℕ) × Joins es w i j) → ⊥)
  unreached_by =
      (λ r j. true≢false (sym (keeps.reached.1 j) ∙ r), λ alone. not_true (entry_numbered es i).reached (λ r. alone (keeps.reached.0 r)))

  -- and exactly if its left is none, where none is no entry's number
  left_by : length es ≤ none_link → ((entry_numbered es i).left ≡ none_link) ↔ ((entry_numbered es i).reached ≡ false)
  left_by few =
      (λ e. not_true (entry_numbered es i).reached (λ r. omega (arith, (keeps.left r).listed)), λ r. (keeps.unreached r).0)

-- ---- the lattice

module _ (n : ℕ) (g : Given) where
  -- the number of candidates, and all entries
  abbrev c : ℕ
  c = count g

  abbrev L : List LatticeEntry
  L = lattice n g

  -- beyond the lattice there is nothing reached
  quiet_end : (position j : ℕ) → suc c < j → ends_at position (entry_numbered L j) ≡ false
  quiet_end position j h =
      let l : length L ≤ j = rw lattice_length (omega arith) in
      rw (get_or-eq_default L (unreached (mark 0)) l)

  module _ (passed : Accepted n g) where
    -- no candidate from k on, nor the end mark, ends where candidate k starts
    quiet : (k j : ℕ) → k < c → k < j → ends_at (candidate g k).start (entry_numbered L j) ≡ false
    quiet k zero h l = absurd (omega arith)
    quiet k (suc j) h l = go (dec_lt j c) (dec_lt c j)
      where
        go : Dec (j < c) → Dec (c < j) → ends_at (candidate g k).start (entry_numbered L (suc j)) ≡ false
        go (yes m) _ =
            ends_not (candidate g k).start (entry_numbered L (suc j))
            (rw (lattice_word g n (suc j) (omega arith)) (λ e. omega (arith, passed.sorted k j (omega arith) m, passed.forward j m)))
        go (no m) (yes m') = quiet_end (candidate g k).start (suc j) (omega arith)
        go (no m) (no m') =
            let q : j ≡ c = omega arith in
            ends_not (candidate g k).start (entry_numbered L (suc j))
            (rw (q, lattice_end_word) (λ e. omega (arith, passed.forward k h, passed.inside k h)))

    -- what the entries before a candidate offer it is what all entries do
    pub over_all : (k : ℕ) → k < count g
        → offers (joints_of g) (candidate g k) 0 (entries_to g k) ≡ offers (joints_of g) (candidate g k) 0 (lattice n g)
    over_all k h = go (lattice_more g n k (omega arith))
      where
        go : Begins L (entries_to g k) → offers (joints_of g) (candidate g k) 0 (entries_to g k) ≡ offers (joints_of g) (candidate g k) 0 L
        go (rest, e) =
            let es = entries_to g k in
            let none-behind : (j : ℕ) → length es ≤ j → ends_at (candidate g k).start (entry_numbered (es ++ rest) j) ≡ false =
            λ j l. rw e at (quiet k j h (omega (arith, entries_length g k))) in
            rw e (sym (silent_after (joints_of g) (candidate g k) 0 es rest none-behind))

    -- candidate k's rules, with the entries behind it
    each : (k : ℕ) → k < c → Begins L (entries_to g (suc k)) → Ruled (joints_of g) L (candidate g k) (suc k)
    each k h (rest, e) =
        let es = entries_to g k in
        let shape : L ≡ es ++ (entry_for g k ∷ rest) =
        e ∙ ap (λ (l : List LatticeEntry). l ++ rest) (entries_suc g k) ∙ append_snoc es (entry_for g k) rest in
        placed (joints_of g) (candidate g k) L es rest (suc k) shape (entries_length g k) (λ j l. quiet k j h (omega arith))

    -- the lattice keeps the rules
    pub rules : Rules n g
    rules =
        record {
          many = lattice_length g n;
          start = lattice_kept g n 0 0 (omega arith) (omega arith) ∙ entries_start g 0;
          each = λ k h. each k h (lattice_more g n (suc k) h);
          end = placed (joints_of g) (mark n) L (entries_to g c) [] (suc c) (lattice_end g n) (entries_length g c) (quiet_end n);
        }

    -- none is no entry's number: there are c + 2 entries, at most 16,386
    few_entries : length L ≤ none_link
    few_entries = rw lattice_length (omega (arith, passed.few))

    -- an entry other than the start mark has left none exactly if it is unreached: the left of a reached one is an entry's number
    pub left_none : (i : ℕ) → i < length (lattice n g) → 0 < i
        → (((entry_numbered (lattice n g) i).left ≡ none_link) ↔ ((entry_numbered (lattice n g) i).reached ≡ false))
    left_none zero h l = absurd (omega arith)
    left_none (suc k) h l = go (dec_lt k c)
      where
        go : Dec (k < c) → ((entry_numbered L (suc k)).left ≡ none_link) ↔ ((entry_numbered L (suc k)).reached ≡ false)
        go (yes m) = left_by (joints_of g) L (candidate g k) (suc k) (rules.each k m) few_entries
        go (no m) = let q : k ≡ c = omega (arith, lattice_length g n) in rw q (left_by (joints_of g) L (mark n) (suc c) rules.end few_entries)

    -- the end mark has left none exactly if nothing reached ends at n
    pub end_reached_lem : ((entry_numbered (lattice n g) (suc (count g))).left ≡ none_link)
        ↔ (((j : ℕ) × Joins (lattice n g) (mark n) (suc (count g)) j) → ⊥)
    end_reached_lem =
        Iff.trans (left_none (suc c) (omega (arith, lattice_length g n)) (omega arith)) (unreached_by (joints_of g) L (mark n) (suc c) rules.end)
