-- The invariants of the two passes, and what one turn of each does. Assumes nothing.
use Prim.Native.Nat.{ℕ, zero, suc, ◌+◌, ◌-◌, ◌≤◌, ◌<◌}
use mathlib.Core.Path.{◌≡◌, refl, ap, ◌∙◌, sym, subst}
use mathlib.Core.List.{List, [], ◌∷◌, ◌++◌, map}
use native.Mathlib.Omega.{arith}
use lib.ListN.{length, take, drop, get_or, set, length-set, length-map}
use lib.Seq.{take-suc, append_snoc, set_at, length-take-le}
use Rattle.ground.specs.Entry.{none_link}
use Rattle.ground.specs.Rows.{over}
use Rattle.walk.specs.WalkBack.{link_at, walk_from, walk_back}
use Rattle.walk.specs.Inner.{linked, Sure}
use Rattle.walk.specs.declared.walk_back.Link.TheVariants.{ToStart, ToCandidate}
use Rattle.std.specs.Prelude.{Some, None}
use Rattle.std.specs.Option.{option_map}
use Rattle.walk.proofs.WalkLaws.{step, next, right}

-- ---- the first pass

-- The walk from here, in front of as many candidates as are counted, is the whole walk.
pub record Counting (start end left : List ℕ) (n position entry count : ℕ) : Type 0 where
  pub there : entry ≤ length start + 1
  pub few : count + position ≤ n
  pub found : List ℕ
  pub long : length found ≡ count
  pub same : walk_from start end left (suc position) position entry found ≡ walk_back start end left n

module _ (start end left : List ℕ) (n : ℕ) where
  pub counting_none : Counting start end left n n (length start + 1) 0
  unfolding walk_back
  counting_none =
      let mark : length start + 1 ≡ suc (length start) = omega arith in
      record { there = omega arith; few = omega arith; found = []; long = refl; same = rw mark }

  module _ (position entry count : ℕ) (h : Counting start end left n position entry count) where
    pub counting_more : (k : ℕ) → link_at start end position (get_or left entry none_link) ≡ Some (ToCandidate k)
        → Counting start end left n (get_or start k 0) (k + 1) (count + 1)
    counting_more k e =
        let r = right start end position (get_or left entry none_link) k e in
        let mark : k + 1 ≡ suc k = omega arith in
        record {
          there = omega arith;
          few = omega arith;
          found = k ∷ h.found;
          long = omega (arith, h.long);
          same = rw mark (next start end left position entry k h.found e ∙ h.same);
        }

    pub counting_done : link_at start end position (get_or left entry none_link) ≡ Some ToStart → Some count ≡ option_map length (walk_back start end left n)
    counting_done e =
        rw (← h.same, step start end left position position entry h.found (Some ToStart) e) (ap Some (sym h.long))

    pub counting_broken : link_at start end position (get_or left entry none_link) ≡ None → None ≡ option_map length (walk_back start end left n)
    counting_broken e = rw (← h.same, step start end left position position entry h.found None e)

-- ---- the second pass

-- The links from here lead to the candidates that stand before those found so far.
pub record Linking (left : List ℕ) (mark count : ℕ) (found : List ℕ) (entry i : ℕ) : Type 0 where
  pub within : i ≤ count
  pub sure : Sure left mark i entry
  pub long : i + length found ≡ count
  pub same : linked left i entry found ≡ linked left count mark []

-- What is told of those found so far stands in a row behind its first i places.
pub record Placed (tell : ℕ → ℕ) (found : List ℕ) (count i : ℕ) (row₀ row : List ℕ) : Type 0 where
  pub kept : length row ≡ length row₀
  pub holds : row ≡ take i row₀ ++ (map tell found ++ drop count row₀)

-- a link that is still to be followed stands in the row and leads to a candidate
pub sure_link : (left : List ℕ) (mark i entry : ℕ) → 0 < i → Sure left mark i entry
    → (entry < length left) × (1 ≤ get_or left entry 0) × (get_or left entry 0 < mark) × Sure left mark (i - 1) (get_or left entry 0)
unfolding Sure
sure_link left mark zero entry h s = absurd (omega arith)
sure_link left mark (suc i) entry h s =
    let e : i ≡ suc i - 1 = omega arith in
    (s.0, s.1, s.2, subst (λ (j : ℕ). Sure left mark j (get_or left entry 0)) e s.3)

linked_more : (left : List ℕ) (i entry : ℕ) (found : List ℕ) → 0 < i
    → linked left (i - 1) (get_or left entry 0) ((get_or left entry 0 - 1) ∷ found) ≡ linked left i entry found
unfolding linked
linked_more left zero entry found h = absurd (omega arith)
linked_more left (suc i) entry found h =
    let e : suc i - 1 ≡ i = omega arith in
    ap (λ (j : ℕ). linked left j (get_or left entry 0) ((get_or left entry 0 - 1) ∷ found)) e

module _ (left : List ℕ) (mark count : ℕ) where
  module _ (found : List ℕ) (entry i : ℕ) (h : Linking left mark count found entry i) where
    -- one link further: its candidate stands in front of those found
    pub linking_more : 0 < i → Linking left mark count ((get_or left entry 0 - 1) ∷ found) (get_or left entry 0) (i - 1)
    linking_more l =
        record {
          within = omega arith;
          sure = (sure_link left mark i entry l h.sure).3;
          long = omega (arith, h.long);
          same = linked_more left i entry found l ∙ h.same;
        }

    pub linking_all : i ≤ 0 → found ≡ linked left count mark []
    unfolding linked
    linking_all l =
        let none : i ≡ 0 = omega arith in
        subst (λ (k : ℕ). linked left k entry found ≡ linked left count mark []) none h.same

module _ (tell : ℕ → ℕ) (count : ℕ) (row₀ : List ℕ) (room : count ≤ length row₀) where
  -- one place further to the left
  pub placed_more : (found row : List ℕ) (i k : ℕ) → 0 < i → i ≤ count → Placed tell found count i row₀ row
      → Placed tell (k ∷ found) count (i - 1) row₀ (set row (i - 1) (tell k))
  placed_more found row i k l w h =
      let j = i - 1 in
      let last : i ≡ suc j = omega arith in
      let x = get_or row₀ j 0 in
      let rest = map tell found ++ drop count row₀ in
      let shown : row ≡ take j row₀ ++ x ∷ rest =
      h.holds
      ∙ ap (λ (k : ℕ). take k row₀ ++ rest) last
      ∙ ap (λ (front : List ℕ). front ++ rest) (take-suc row₀ j 0 (omega arith))
      ∙ append_snoc (take j row₀) x rest in
      record {
        kept = length-set row j (tell k) ∙ h.kept;
        holds = ap (λ (row : List ℕ). set row j (tell k)) shown ∙ set_at (take j row₀) x rest (tell k) j (length-take-le j row₀ (omega arith));
      }

  -- at the first place the row is written
  pub placed_all : (found row : List ℕ) (i : ℕ) → i ≤ 0 → i + length found ≡ count → Placed tell found count i row₀ row
      → row ≡ over (map tell found) row₀
  placed_all found row i l long h =
      let none : i ≡ 0 = omega arith in
      let many : count ≡ length (map tell found) = omega (arith, length-map found tell) in
      h.holds
      ∙ ap (λ (k : ℕ). take k row₀ ++ (map tell found ++ drop count row₀)) none
      ∙ ap (λ (k : ℕ). map tell found ++ drop k row₀) many
