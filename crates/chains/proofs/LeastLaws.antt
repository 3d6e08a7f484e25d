-- Over document 01's rules of the lattice: each entry's cost is the least of the chains that end in its word, the left links lead along such a
-- chain, and of several it is the one of the tie rule. The end mark is one more word, and the chains that end in it are the paths. Assumes that
-- the lattice accepts what is given.
use Prim.Native.Nat.{ℕ, zero, suc, ◌≤◌, ◌<◌}
use mathlib.Core.Path.{◌≡◌, refl, sym, ap, ◌∙◌, subst}
use mathlib.Core.Logic.{◌⊎◌, inl, inr}
use mathlib.Core.Bool.{true}
use mathlib.Core.List.{List, [], ◌∷◌}
use native.Mathlib.Omega.{arith}
use native.Mathlib.Decide.{dec_lt}
use lib.ListN.{get_or}
use lib.IntN.{ℤ, pos, ◌+ℤ◌, +ℤ_idl, +ℤ_idr}
use lib.Signed.{◌≤ℤ◌}
use Rattle.ground.specs.Entry.{mark_id, none_link}
use Rattle.lattice.specs.Words.{Word, Given, count, candidate}
use Rattle.lattice.specs.Lattice.{LatticeEntry, entry_numbered, mark, joints_of, lattice}
use Rattle.lattice.specs.Accepted.{Accepted}
use Rattle.lattice.specs.Rules.{Joins, Ruled, cost_from}
use Rattle.lattice.proofs.OrderLaws.{≤ℤ-trans, ≤ℤ-antisym}
use Rattle.lattice.proofs.LatticeLaws.{lattice_length}
use Rattle.lattice.proofs.RuleLaws.{rules}
use Rattle.chains.specs.Least.{Lower}
use Rattle.chains.proofs.BackLaws.{Before, first, after, onward, cost_by, onward_mono, onward_same}

-- The left links lead from an entry to the start mark, through these candidates.
pub data Trail (left : List ℕ) : ℕ → List ℕ → Type 0 where
  home : {i : ℕ} → get_or left i none_link ≡ 0 → Trail left i []
  on : {i k : ℕ} {js : List ℕ} → get_or left i none_link ≡ suc k → Trail left (suc k) js → Trail left i (k ∷ js)

module _ (n : ℕ) (g : Given) (ok : Accepted n g) where
  -- The entry of a number.
  abbrev entry : ℕ → LatticeEntry
  entry i = entry_numbered (lattice n g) i

  -- The places of the words: of a candidate, and of the end mark.
  pub data Place : Word → ℕ → Type 0 where
    word : {k : ℕ} → k < count g → Place (candidate g k) (suc k)
    end : Place (mark n) (suc (count g))

  -- they lie behind the start mark's, up to the end mark's
  pub place_at : {w : Word} {i : ℕ} → Place w i → (0 < i) × (i ≤ suc (count g))
  place_at (word h) = (omega arith, omega arith)
  place_at end = (omega arith, omega arith)

  -- the rules are kept there
  ruled : {w : Word} {i : ℕ} → Place w i → Ruled (joints_of g) (lattice n g) w i
  ruled (word {k} h) = (rules n g ok).each k h
  ruled end = (rules n g ok).end

  -- ---- what can stand before a word

  -- the start mark, if the word starts at 0
  joins_start : {w : Word} {i : ℕ} → Place w i → w.start ≡ 0 → Joins (lattice n g) w i 0
  joins_start p s =
      let mark = (rules n g ok).start in
      record {
        listed = omega (arith, lattice_length g n);
        other = λ e. omega (arith, (place_at p).0);
        reached = ap (λ (e : LatticeEntry). e.reached) mark;
        meets = ap (λ (e : LatticeEntry). e.word.end) mark ∙ sym s;
      }

  -- a reached candidate that ends where the word starts
  joins_word : {w : Word} {i : ℕ} → Place w i → (k : ℕ) → k < count g → (candidate g k).end ≡ w.start → (entry (suc k)).reached ≡ true
      → Joins (lattice n g) w i (suc k)
  joins_word p k h e r =
      record {
        listed = omega (arith, lattice_length g n);
        other = another p e;
        reached = r;
        meets = ap (λ (w : Word). w.end) ((rules n g ok).each k h).word ∙ e;
      }
    where
      another : {w : Word} {i : ℕ} → Place w i → (candidate g k).end ≡ w.start → suc k ≡ i → ⊥
      another (word {k = j} l) e q =
          let same : k ≡ j = omega arith in
          omega (arith, ok.forward k h, ap (λ (j : ℕ). (candidate g j).start) same)
      another end e q = omega arith

  -- These are all.
  data From (w : Word) : ℕ → Type 0 where
    start : w.start ≡ 0 → From w 0
    word : {k : ℕ} → k < count g → (candidate g k).end ≡ w.start → (entry (suc k)).reached ≡ true → From w (suc k)

  joins_from : (w : Word) (i : ℕ) → Place w i → (j : ℕ) → Joins (lattice n g) w i j → From w j
  joins_from w i p zero h = start (sym h.meets ∙ ap (λ (e : LatticeEntry). e.word.end) (rules n g ok).start)
  joins_from w i p (suc k) h = go (dec_lt k (count g))
    where
      -- the end mark stands before nothing: a candidate starts below n
      not_end : {w : Word} {i : ℕ} → Place w i → (suc (count g) ≡ i → ⊥) → (entry (suc (count g))).word.end ≡ w.start → ⊥
      not_end (word {k = j} l) other e =
          let at : n ≡ (candidate g j).start = sym (ap (λ (w : Word). w.end) (rules n g ok).end.word) ∙ e in
          omega (arith, ok.forward j l, ok.inside j l)
      not_end end other e = other refl

      go : Dec (k < count g) → From w (suc k)
      go (yes l) = word l (sym (ap (λ (w : Word). w.end) ((rules n g ok).each k l).word) ∙ h.meets) h.reached
      go (no l) =
          let last : k ≡ count g = omega (arith, h.listed, lattice_length g n) in
          absurd
          (not_end p (subst (λ (k : ℕ). suc k ≡ i → ⊥) last h.other) (subst (λ (k : ℕ). (entry (suc k)).word.end ≡ w.start) last h.meets))

  -- ---- what it costs to come from there

  cost_start : (w : Word) → cost_from (joints_of g) (lattice n g) w 0 ≡ cost_by g w []
  unfolding cost_by
  cost_start w =
      let joint = joints_of g w.left_id mark_id in
      let alone : pos 0 +ℤ joint +ℤ pos 0 ≡ joint = +ℤ_idr (pos 0 +ℤ joint) ∙ +ℤ_idl joint in
      rw ((rules n g ok).start, alone)

  cost_word : (w : Word) (k : ℕ) → k < count g → cost_from (joints_of g) (lattice n g) w (suc k) ≡ onward g w k (entry (suc k)).cost
  cost_word w k h = rw ((rules n g ok).each k h).word

  -- ---- no chain costs less
  pub lowest : {w : Word} {i : ℕ} {js : List ℕ} → Place w i → Before g w js → ((entry i).reached ≡ true) × ((entry i).cost ≤ℤ cost_by g w js)
  unfolding cost_by
  lowest {w} {i} p (first s) =
      let j = joins_start p s in
      ((ruled p).reached.1 (0, j), subst (λ (x : ℤ). (entry i).cost ≤ℤ x) (cost_start w) ((ruled p).least 0 j))
  lowest {w} {i} p (after {k = k} h e d) =
      let (r, l) = lowest (word h) d in
      let j = joins_word p k h e r in (
        (ruled p).reached.1 (suc k, j),
        ≤ℤ-trans (subst (λ (x : ℤ). (entry i).cost ≤ℤ x) (cost_word w k h) ((ruled p).least (suc k) j)) (onward_mono g w k l),
      )

  -- ---- ties

  -- an entry that costs what some words before it give takes its cost from the last of them
  cost_from_lem : (w : Word) (i k : ℕ) (js : List ℕ) → k < count g → (entry (suc k)).cost ≤ℤ cost_by g (candidate g k) js
      → (entry i).cost ≤ℤ cost_from (joints_of g) (lattice n g) w (suc k) → (entry i).cost ≡ cost_by g w (k ∷ js)
      → (entry i).cost ≡ cost_from (joints_of g) (lattice n g) w (suc k)
  unfolding cost_by
  cost_from_lem w i k js h low least e =
      ≤ℤ-antisym least (rw (cost_word w k h, e) (onward_mono g w k low))

  -- so the last of the words before is the lowest-numbered of those that give the cost; and where it is the same, those before it decide
  ties : (w : Word) (i k : ℕ) (js : List ℕ) → Place w i → (entry i).left ≡ suc k → k < count g → (candidate g k).end ≡ w.start
      → (entry i).cost ≡ cost_by g w (k ∷ js)
      → ((others : List ℕ) → Before g (candidate g k) others → cost_by g (candidate g k) others ≡ cost_by g (candidate g k) js → Lower js others)
      → (others : List ℕ) → Before g w others → cost_by g w others ≡ cost_by g w (k ∷ js) → Lower (k ∷ js) others
  unfolding Lower cost_by
  ties w i k js p at h e cost again others (first s) same = absurd (omega (arith, ok.forward k h))
  ties w i k js p at h e cost again others (after {k = j} {js = before} l f d) same =
      let (r, low) = lowest (word l) d in
      let join = joins_word p j l f r in
      let equal = cost_from_lem w i j before l low ((ruled p).least (suc j) join) (cost ∙ sym same) in
      go j (dec_lt k j) (omega (arith, (ruled p).lowest (suc j) join equal)) d same
    where
      go : (j : ℕ) → Dec (k < j) → k ≤ j → Before g (candidate g j) before → cost_by g w (j ∷ before) ≡ cost_by g w (k ∷ js)
          → (k < j) ⊎ ((k ≡ j) × Lower js before)
      go j (yes m) below d same = inl m
      go j (no m) below d same =
          let q : j ≡ k = omega arith in
          let there = subst (λ (j : ℕ). Before g (candidate g j) before) q d in
          let costs = subst (λ (j : ℕ). cost_by g w (j ∷ before) ≡ cost_by g w (k ∷ js)) q same in
          inr (sym q, again before there (onward_same g w k (cost_by g (candidate g k) before) (cost_by g (candidate g k) js) costs))

  -- ---- the chain along the left links

  module _ (left : List ℕ) (held : (i : ℕ) → i ≤ suc (count g) → get_or left i none_link ≡ (entry i).left) where
    -- The candidates along the left links are the words before the entry's word, at the stored cost; and the tie rule's among those of that cost.
    pub record Attained (w : Word) (i : ℕ) (js : List ℕ) : Type 0 where
      pub trail : Trail left i js
      pub before : Before g w js
      pub cost : (entry i).cost ≡ cost_by g w js
      pub tie : (others : List ℕ) → Before g w others → cost_by g w others ≡ cost_by g w js → Lower js others

    -- every reached entry has such a trail, by induction on where its word starts
    attained_below : (most : ℕ) (w : Word) (i : ℕ) → w.start < most → Place w i → (entry i).reached ≡ true → (js : List ℕ) × Attained w i js
    unfolding Lower cost_by
    attained_below zero w i l p r = absurd (omega arith)
    attained_below (suc most) w i l p r =
        go (entry i).left refl (joins_from w i p (entry i).left ((ruled p).left r)) (λ k. attained_below most (candidate g k) (suc k))
      where
        link : get_or left i none_link ≡ (entry i).left
        link = held i (place_at p).1

        go : (j : ℕ) → (entry i).left ≡ j → From w j
            → ((k : ℕ) → (candidate g k).start < most → Place (candidate g k) (suc k) → (entry (suc k)).reached ≡ true → (js : List ℕ) × Attained (candidate g k) (suc k) js)
            → (js : List ℕ) × Attained w i js
        go j at (start s) again = (
          [],
          record {
            trail = home (link ∙ at);
            before = first s;
            cost = (ruled p).cost r ∙ ap (cost_from (joints_of g) (lattice n g) w) at ∙ cost_start w;
            tie = λ others d same. tt;
          },
        )
        go j at (word {k = k} h e t) again =
            let (js, a) = again k (omega (arith, ok.forward k h)) (word h) t in
            let cost : (entry i).cost ≡ cost_by g w (k ∷ js) =
            (ruled p).cost r
            ∙ ap (cost_from (joints_of g) (lattice n g) w) at
            ∙ cost_word w k h
            ∙ ap (onward g w k) a.cost in (
              k ∷ js,
              record {
                trail = on (link ∙ at) a.trail;
                before = after h e a.before;
                cost = cost;
                tie = ties w i k js p at h e cost a.tie;
              },
            )

    pub attained : (w : Word) (i : ℕ) → Place w i → (entry i).reached ≡ true → (js : List ℕ) × Attained w i js
    attained w i p r = attained_below (suc w.start) w i (omega arith) p r
