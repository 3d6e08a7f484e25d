-- What the left and the cost row say of chains and paths (specs/Least), in the paper's form. Assumes that the lattice accepts what is given, and
-- that the rows hold its links and costs.
use Prim.Native.Nat.{ℕ, zero, suc, ◌≤◌, ◌<◌}
use mathlib.Core.Path.{◌≡◌, refl, sym, ap, ◌∙◌}
use mathlib.Core.Logic.{◌↔◌, inl, inr}
use mathlib.Core.Bool.{Bool, true, false, true≢false}
use mathlib.Core.List.{List, [], ◌∷◌, reverse, reverse_aux, reverse-cons, reverse-reverse}
use Rattle.std.specs.Prelude.{Some}
use native.Mathlib.Omega.{arith}
use lib.ListN.{length, get_or, length-append, length-reverse}
use lib.IntN.{ℤ, pos}
use lib.Signed.{◌≤ℤ◌}
use borrow.Author.Tests.{lt-ltb, eq-eqb}
use Rattle.ground.specs.Entry.{none_link}
use Rattle.ground.specs.Rows.{over}
use Rattle.ground.proofs.RowLaws.{in_row}
use Rattle.lattice.specs.Words.{Word, Given, count, candidate}
use Rattle.lattice.specs.Lattice.{LatticeEntry, entry_numbered, mark, lattice}
use Rattle.lattice.specs.Rows.{lefts, costs}
use Rattle.lattice.specs.Accepted.{Accepted}
use Rattle.lattice.proofs.OrderLaws.{≤ℤ-antisym}
use Rattle.lattice.proofs.LatticeLaws.{lattice_length}
use Rattle.lattice.proofs.RuleLaws.{left_none}
use Rattle.lattice.proofs.RowRules.{lefts_at, costs_at}
use Rattle.lattice.proofs.FillLaws.{lefts_length, costs_length}
use Rattle.lattice.proofs.OverLaws.{over_at}
use Rattle.walk.specs.WalkBack.{walk_from, walk_back}
use Rattle.walk.specs.declared.walk_back.Link.TheVariants.{ToStart, ToCandidate}
use Rattle.walk.proofs.WalkLaws.{by_tests, step}
use Rattle.chains.specs.Chain.{InTurn, last_of, Path, path_cost}
use Rattle.chains.specs.Least.{Lower, Best, Reached, LinkedTo, Linked, ChainTo, cost_to, LeftChain}
use Rattle.chains.proofs.TurnLaws.{turn_snoc, last_snoc}
use Rattle.chains.proofs.BackLaws.{Before, first, after, cost_by, chain_back, path_back, chain_cost_back, path_cost_back}
use Rattle.chains.proofs.LeastLaws.{Trail, home, on, Place, word, end, place_at, lowest, attained}

-- ---- the tie rule leaves one

lower_both : (ks others : List ℕ) → Lower ks others → Lower others ks → ks ≡ others
unfolding Lower
lower_both [] [] h l = refl
lower_both [] (j ∷ others) h l = absurd l
lower_both (k ∷ ks) [] h l = absurd h
lower_both (k ∷ ks) (j ∷ others) (inl h) (inl l) = absurd (omega arith)
lower_both (k ∷ ks) (j ∷ others) (inl h) (inr (e, l)) = absurd (omega arith)
lower_both (k ∷ ks) (j ∷ others) (inr (e, h)) (inl l) = absurd (omega arith)
lower_both (k ∷ ks) (j ∷ others) (inr (e, h)) (inr (f, l)) = rw (e, lower_both ks others h l)

pub best_unique : (Among : List ℕ → Type 0) (cost_of : List ℕ → ℤ) (ks others : List ℕ) → Best Among cost_of ks → Best Among cost_of others → ks ≡ others
best_unique Among cost_of ks others b o =
    let same : cost_of ks ≡ cost_of others = ≤ℤ-antisym (b.least others o.among) (o.least ks b.among) in
    sym (reverse-reverse ks)
    ∙ ap reverse (lower_both (reverse ks) (reverse others) (b.tie others o.among (sym same)) (o.tie ks b.among same))
    ∙ reverse-reverse others

-- ---- along the left links

-- the entries through which a trail leads are linked, and its first link is to the last of them
trail_linked : {left : List ℕ} {i : ℕ} {js : List ℕ} → Trail left i js → Linked left (reverse js) × (get_or left i none_link ≡ last_of suc 0 (reverse js))
unfolding InTurn last_of
trail_linked (home e) = (tt, e)
trail_linked {left} (on {k = k} {js} e t) =
    let (l, f) = trail_linked t in
    rw reverse-cons ((turn_snoc (LinkedTo left) suc 0 (reverse js) k).1 (l, f), e ∙ sym (last_snoc suc 0 (reverse js) k))

module _ (n : ℕ) (g : Given) (ok : Accepted n g) where
  -- The entry of a number.
  abbrev entry : ℕ → LatticeEntry
  entry i = entry_numbered (lattice n g) i

  -- there are no more words before a word than characters
  before_few : {w : Word} {js : List ℕ} → Before g w js → length js ≤ w.start
  before_few (first s) = omega arith
  before_few (after {k = k} h e d) = omega (arith, before_few d, ok.forward k h)

  -- the walk back goes along a trail
  trail_walk : (left : List ℕ) (most : ℕ) {w : Word} {i : ℕ} {js : List ℕ} (found : List ℕ) → length js < most → Trail left i js → Before g w js
      → walk_from g.start g.end left most w.start i found ≡ Some (reverse_aux js found)
  trail_walk left zero found l t d = absurd (omega arith)
  trail_walk left (suc most) {w} {i} found l (home e) (first s) =
      step g.start g.end left most w.start i found (Some ToStart) (rw (e, eq-eqb w.start 0 s))
  trail_walk left (suc most) {w} {i} found l (on {k = k} e t) (after h f d) =
      step g.start g.end left most w.start i found (Some (ToCandidate k))
      (sym (by_tests g.start g.end w.start (get_or left i none_link) k true true true e
      (lt-ltb k (count g) h)
      (lt-ltb (get_or g.start k 0) (get_or g.end k 0) (ok.forward k h))
      (eq-eqb (get_or g.end k 0) w.start f)))
      ∙ trail_walk left most (k ∷ found) (omega arith) t d

  module _ (left : List ℕ) (held : (i : ℕ) → i ≤ suc (count g) → get_or left i none_link ≡ (entry i).left) where
    -- an entry is reached exactly if its left is not none
    pub reached_left : (i : ℕ) → 0 < i → i ≤ suc (count g) → Reached left i ↔ ((entry i).reached ≡ true)
    reached_left i p h =
        let same = left_none n g ok i (omega (arith, lattice_length g n)) p in (
          λ r. is_true (entry i).reached (λ f. r (held i h ∙ same.1 f)),
          λ t e. true≢false (sym t ∙ same.0 (sym (held i h) ∙ e)),
        )
      where
        is_true : (b : Bool) → (b ≡ false → ⊥) → b ≡ true
        is_true true no_way = refl
        is_true false no_way = absurd (no_way refl)

    -- ---- a word, a candidate's or the end mark, and the lists that are the words before it, at their cost: chains that end in it, or paths
    module _ (w : Word) (i : ℕ) (place : Place n g ok w i) (Among : List ℕ → Type 0) (cost_of : List ℕ → ℤ) (same : (ks : List ℕ) → Among ks ↔ Before g w (reverse ks)) (costs : (ks : List ℕ) → cost_of ks ≡ cost_by g w (reverse ks)) where
      -- What a trail from the word leads along: the list that is taken among these, at the stored cost.
      record Along (js : List ℕ) : Type 0 where
        trail : Trail left i js
        before : Before g w js
        stored : (entry i).cost ≡ cost_of (reverse js)
        best : Best Among cost_of (reverse js)

      -- none costs less than is stored
      none_less : (ks : List ℕ) → Among ks → (entry i).cost ≤ℤ cost_of ks
      none_less ks s = rw (costs ks) (lowest n g ok place ((same ks).0 s)).1

      -- the word is reached exactly if there is one
      exactly : Reached left i ↔ ((ks : List ℕ) × Among ks)
      exactly =
          let reached = reached_left i (place_at n g ok place).0 (place_at n g ok place).1 in (
            λ r. let (js, a) = attained n g ok left held w i place (reached.0 r) in
                (reverse js, (same (reverse js)).1 (rw reverse-reverse a.before)),
            λ (ks, s). reached.1 (lowest n g ok place ((same ks).0 s)).0,
          )

      along : Reached left i → (js : List ℕ) × Along js
      along r =
          let (js, a) = attained n g ok left held w i place ((reached_left i (place_at n g ok place).0 (place_at n g ok place).1).0 r) in
          let own : cost_of (reverse js) ≡ cost_by g w js = rw reverse-reverse at (costs (reverse js)) in
          let stored : (entry i).cost ≡ cost_of (reverse js) = a.cost ∙ sym own in (
            js,
            record {
              trail = a.trail;
              before = a.before;
              stored = stored;
              best = record {
                among = (same (reverse js)).1 (rw reverse-reverse a.before);
                least = λ others s. rw (← stored) (none_less others s);
                tie = λ others s e. rw reverse-reverse (a.tie (reverse others) ((same others).0 s) (sym (costs others) ∙ e ∙ own));
              };
            },
          )

    -- ---- candidates and chains
    module _ (k : ℕ) (h : k < count g) where
      chain_same : (ks : List ℕ) → ChainTo g k ks ↔ Before g (candidate g k) (reverse ks)
      chain_same ks = (λ c. ((chain_back g ks k).0 c).1, λ d. (chain_back g ks k).1 (h, d))

      -- a candidate is reached exactly if some chain ends in it
      pub chain_exactly : Reached left (suc k) ↔ ((ks : List ℕ) × ChainTo g k ks)
      chain_exactly = exactly (candidate g k) (suc k) (word h) (ChainTo g k) (cost_to g k) chain_same (λ ks. chain_cost_back g ks k)

      module _ (cost : List ℤ) (stored : get_or cost (suc k) (pos 0) ≡ (entry (suc k)).cost) where
        -- no chain that ends in it costs less than is stored
        pub chain_least : (ks : List ℕ) → ChainTo g k ks → get_or cost (suc k) (pos 0) ≤ℤ cost_to g k ks
        chain_least ks c =
            rw stored (none_less (candidate g k) (suc k) (word h) (ChainTo g k) (cost_to g k) chain_same (λ ks. chain_cost_back g ks k) ks c)

        -- and what the rows tell of it, where it is reached
        pub left_chain : Reached left (suc k) → (ks : List ℕ) × LeftChain g left cost k ks
        left_chain r =
            let (js, a) = along (candidate g k) (suc k) (word h) (ChainTo g k) (cost_to g k) chain_same (λ ks. chain_cost_back g ks k) r in (
              reverse js,
              record {
                links = (turn_snoc (LinkedTo left) suc 0 (reverse js) k).1 (trail_linked a.trail);
                few = simp (length-append, length-reverse) (omega (arith, before_few a.before, ok.forward k h));
                stored = stored ∙ a.stored;
                best = a.best;
              },
            )

    -- ---- the end mark and paths

    -- it is reached exactly if there is a path
    pub path_exactly : Reached left (suc (count g)) ↔ ((ks : List ℕ) × Path n g ks)
    path_exactly = exactly (mark n) (suc (count g)) end (Path n g) (path_cost g) (path_back g n) (path_cost_back g n)

    -- Where it is reached, the walk back finds the path that is taken, at the stored cost, in at most n words.
    pub record Walked (ks : List ℕ) : Type 0 where
      pub walk : walk_back g.start g.end left n ≡ Some ks
      pub stored : (entry (suc (count g))).cost ≡ path_cost g ks
      pub best : Best (Path n g) (path_cost g) ks
      pub few : length ks ≤ n
      pub links : Linked left ks
      pub last : get_or left (suc (count g)) none_link ≡ last_of suc 0 ks

    pub path_walked : Reached left (suc (count g)) → (ks : List ℕ) × Walked ks
    unfolding walk_back
    path_walked r =
        let (js, a) = along (mark n) (suc (count g)) end (Path n g) (path_cost g) (path_back g n) (path_cost_back g n) r in
        let few = before_few a.before in
        let (links, last) = trail_linked a.trail in (
          reverse js,
          record {
            walk = trail_walk left (suc n) [] (omega arith) a.trail a.before;
            stored = a.stored;
            best = a.best;
            few = rw length-reverse few;
            links = links;
            last = last;
          },
        )

  -- ---- the rows that hold the lattice's links and costs

  left_at : (i : ℕ) → i ≤ suc (count g) → get_or (lefts (lattice n g)) i none_link ≡ (entry i).left
  left_at i h =
      let l : i < length (lattice n g) = omega (arith, lattice_length g n) in
      in_row (lefts (lattice n g)) i none_link 0 (omega (arith, lefts_length (lattice n g))) ∙ lefts_at (lattice n g) i l

  -- those after a call that fills them
  pub held_left : (old : List ℕ) (i : ℕ) → i ≤ suc (count g) → get_or (over (lefts (lattice n g)) old) i none_link ≡ (entry i).left
  held_left old i h = over_at (lefts (lattice n g)) old i none_link (omega (arith, lefts_length (lattice n g), lattice_length g n)) ∙ left_at i h

  pub held_cost : (old : List ℤ) (i : ℕ) → i ≤ suc (count g) → get_or (over (costs (lattice n g)) old) i (pos 0) ≡ (entry i).cost
  held_cost old i h =
      let l : i < length (lattice n g) = omega (arith, lattice_length g n) in
      over_at (costs (lattice n g)) old i (pos 0) (omega (arith, costs_length (lattice n g))) ∙ costs_at (lattice n g) i l

  -- from a reached end mark every link is right
  pub whole_walk : (entry (suc (count g))).reached ≡ true → (words : List ℕ) × (walk_back g.start g.end (lefts (lattice n g)) n ≡ Some words)
  whole_walk r =
      let reached = (reached_left (lefts (lattice n g)) left_at (suc (count g)) (omega arith) (omega arith)).1 r in
      let (words, w) = path_walked (lefts (lattice n g)) left_at reached in
      (words, w.walk)
