-- Chains and paths in the form that the proofs use: the words before a word, the last one first, as the left links give them. They are the paper's
-- (specs/Chain): `chain_back`, `path_back`, and their costs `chain_cost_back`, `path_cost_back`. Assumes nothing.
use Prim.Native.Nat.{ℕ, ◌<◌}
use mathlib.Core.Path.{◌≡◌, sym, ap, ◌∙◌}
use mathlib.Core.Logic.{◌↔◌}
use mathlib.Core.List.{List, [], ◌∷◌, ◌++◌, map, reverse, reverse-cons, reverse-reverse, sum, sum-append, map-append}
use native.Mathlib.Omega.{arith}
use lib.ListN.{length, length-append}
use lib.Signed.{◌≤ℤ◌}
use lib.IntN.{ℤ, pos, ◌+ℤ◌, +ℤ_idl, +ℤ_idr, +ℤ_assoc}
use Rattle.ground.specs.Entry.{mark_id}
use Rattle.lattice.specs.Words.{Word, Given, count, candidate}
use Rattle.lattice.specs.Lattice.{mark, joints_of}
use Rattle.lattice.proofs.OrderLaws.{ints, sum as sumℤ, +ℤ-mono}
use Rattle.chains.specs.Chain.{InTurn, last_of, StartsAfter, last_word, Chain, Path, chain_to_end, no_words, joints_along, charge_of, own_cost_of, total, chain_cost, path_cost}
use Rattle.chains.proofs.TurnLaws.{turn_snoc, last_snoc, all_but_last, joints_snoc}

module _ (g : Given) where
  -- The words before a word: each ends where the next one starts, back to the sentence start.
  pub data Before : Word → List ℕ → Type 0 where
    first : {w : Word} → w.start ≡ 0 → Before w []
    after : {w : Word} {k : ℕ} {js : List ℕ} → k < count g → (candidate g k).end ≡ w.start → Before (candidate g k) js → Before w (k ∷ js)

  -- What a word costs after candidate k, which costs so much.
  abbrev pub onward : Word → ℕ → ℤ → ℤ
  onward w k cost = cost +ℤ joints_of g w.left_id (candidate g k).right_id +ℤ charge_of g k +ℤ w.own_cost

  -- What it costs by the words before it.
  unfoldable pub cost_by : Word → List ℕ → ℤ
  cost_by w [] = joints_of g w.left_id mark_id +ℤ w.own_cost
  cost_by w (k ∷ js) = onward w k (cost_by (candidate g k) js)

  -- the less the candidate costs, the less does the word; and from the word's cost one knows the candidate's
  pub onward_mono : (w : Word) (k : ℕ) {x y : ℤ} → x ≤ℤ y → onward w k x ≤ℤ onward w k y
  onward_mono w k h = +ℤ-mono _ (+ℤ-mono _ (+ℤ-mono _ h))

  pub onward_same : (w : Word) (k : ℕ) (x y : ℤ) → onward w k x ≡ onward w k y → x ≡ y
  onward_same w k x y e = cancel (joints_of g w.left_id (candidate g k).right_id) (charge_of g k) w.own_cost e
    where
      cancel : (a b c : ℤ) → x +ℤ a +ℤ b +ℤ c ≡ y +ℤ a +ℤ b +ℤ c → x ≡ y
      cancel a b c e =
          omega (ints, sumℤ x a, sumℤ (x +ℤ a) b, sumℤ (x +ℤ a +ℤ b) c, sumℤ y a, sumℤ (y +ℤ a) b, sumℤ (y +ℤ a +ℤ b) c)

  -- ---- the same lists

  -- These candidates are joined from the sentence start on.
  abbrev Joined : List ℕ → Type 0
  Joined ks = InTurn (StartsAfter g) (candidate g) (mark 0) ks

  -- A word can come after these, in sentence order: they are joined from the sentence start on, and the last ends where the word starts.
  abbrev pub ComesAfter : Word → List ℕ → Type 0
  ComesAfter w ks = Joined ks × (w.start ≡ (last_word g ks).end)

  -- one more word between
  after_snoc : (w : Word) (ks : List ℕ) (k : ℕ)
      → ComesAfter w (ks ++ (k ∷ [])) ↔ ((k < count g) × ((candidate g k).end ≡ w.start) × ComesAfter (candidate g k) ks)
  after_snoc w ks k =
      let more = turn_snoc (StartsAfter g) (candidate g) (mark 0) ks k in
      let last = last_snoc (candidate g) (mark 0) ks k in (
        λ (t, e). let (u, (h, s)) = more.0 t in (h, sym (rw last at e), (u, s)),
        λ (h, e, (u, s)). (more.1 (u, (h, s)), rw last (sym e)),
      )

  -- it can come after these exactly if they are the words before it
  pub before_after : (w : Word) (js : List ℕ) → Before w js ↔ ComesAfter w (reverse js)
  unfolding InTurn last_of
  before_after w [] = (λ d. (tt, at_start d), λ (t, e). first e)
    where
      at_start : Before w [] → w.start ≡ 0
      at_start (first e) = e
  before_after w (k ∷ js) = rw reverse-cons (λ d. to d (before_after (candidate g k) js).0, λ t. from t (before_after (candidate g k) js).1)
    where
      to : Before w (k ∷ js) → (Before (candidate g k) js → ComesAfter (candidate g k) (reverse js)) → ComesAfter w (reverse js ++ (k ∷ []))
      to (after h e d) again = (after_snoc w (reverse js) k).1 (h, e, again d)

      from : ComesAfter w (reverse js ++ (k ∷ [])) → (ComesAfter (candidate g k) (reverse js) → Before (candidate g k) js) → Before w (k ∷ js)
      from t again = let (h, e, u) = (after_snoc w (reverse js) k).0 t in after h e (again u)

  -- a path's words are the words before the end mark
  pub path_back : (n : ℕ) (ks : List ℕ) → Path n g ks ↔ Before (mark n) (reverse ks)
  unfolding InTurn last_of
  path_back n ks =
      let same = before_after (mark n) (reverse ks) in
      (λ p. same.1 (rw reverse-reverse (to ks p)), λ d. from ks (rw reverse-reverse at (same.0 d)))
    where
      to : (ks : List ℕ) → Path n g ks → ComesAfter (mark n) ks
      to ks (chain_to_end c e) = (c.1, sym e)
      to ks (no_words e) = (tt, e)

      from : (ks : List ℕ) → ComesAfter (mark n) ks → Path n g ks
      from [] (t, e) = no_words e
      from (k ∷ ks) (t, e) = let some : 0 < length (k ∷ ks) = omega arith in chain_to_end (some, t) (sym e)

  -- a chain's words are its last word and the words before it
  pub chain_back : (ks : List ℕ) (k : ℕ) → Chain g (ks ++ (k ∷ [])) ↔ ((k < count g) × Before (candidate g k) (reverse ks))
  chain_back ks k =
      let same = before_after (candidate g k) (reverse ks) in
      let more = turn_snoc (StartsAfter g) (candidate g) (mark 0) ks k in (
        λ (s, t). let (u, (h, e)) = more.0 t in (h, same.1 (rw reverse-reverse (u, e))),
        λ (h, d). let (u, e) = rw reverse-reverse at (same.0 d) in (simp length-append (omega arith), more.1 (u, (h, e))),
      )

  -- ---- the same costs
  total_snoc : (xs : List ℤ) (x : ℤ) → total (xs ++ (x ∷ [])) ≡ total xs +ℤ x
  unfolding sum
  total_snoc xs x = sum-append ◌+ℤ◌ (pos 0) +ℤ_idl +ℤ_assoc xs (x ∷ []) ∙ ap (λ (y : ℤ). total xs +ℤ y) (+ℤ_idr x)

  total_map : (f : ℕ → ℤ) (ks : List ℕ) (k : ℕ) → total (map f (ks ++ (k ∷ []))) ≡ total (map f ks) +ℤ f k
  total_map f ks k = ap total (map-append f ks (k ∷ [])) ∙ total_snoc (map f ks) (f k)

  total_joints : (ks : List ℕ) (k : ℕ)
      → total (joints_along g (mark 0) (ks ++ (k ∷ [])))
      ≡ total (joints_along g (mark 0) ks) +ℤ joints_of g (candidate g k).left_id (last_word g ks).right_id
  total_joints ks k = ap total (joints_snoc g (mark 0) ks k) ∙ total_snoc (joints_along g (mark 0) ks) _

  -- What one more word adds to three sums, in another order.
  regroup : (joints charges owns joint own next charge last : ℤ)
      → joints +ℤ charges +ℤ owns +ℤ joint +ℤ own +ℤ next +ℤ charge +ℤ last
      ≡ (joints +ℤ joint) +ℤ (charges +ℤ charge) +ℤ (owns +ℤ own) +ℤ next +ℤ last
  regroup a b c d e f h i =
      omega (
        ints,
        sumℤ a b,
        sumℤ (a +ℤ b) c,
        sumℤ (a +ℤ b +ℤ c) d,
        sumℤ (a +ℤ b +ℤ c +ℤ d) e,
        sumℤ (a +ℤ b +ℤ c +ℤ d +ℤ e) f,
        sumℤ (a +ℤ b +ℤ c +ℤ d +ℤ e +ℤ f) h,
        sumℤ (a +ℤ b +ℤ c +ℤ d +ℤ e +ℤ f +ℤ h) i,
        sumℤ a d,
        sumℤ b h,
        sumℤ c e,
        sumℤ (a +ℤ d) (b +ℤ h),
        sumℤ ((a +ℤ d) +ℤ (b +ℤ h)) (c +ℤ e),
        sumℤ ((a +ℤ d) +ℤ (b +ℤ h) +ℤ (c +ℤ e)) f,
        sumℤ ((a +ℤ d) +ℤ (b +ℤ h) +ℤ (c +ℤ e) +ℤ f) i,
      )

  -- What a word costs after these, in sentence order, as sums: their joints, all their charges, what they cost themselves, and the word's joint
  -- and own cost.
  unfoldable cost_after : Word → List ℕ → ℤ
  unfolding joints_along sum last_of
  cost_after w ks =
      total (joints_along g (mark 0) ks)
      +ℤ total (map (charge_of g) ks)
      +ℤ total (map (own_cost_of g) ks)
      +ℤ joints_of g w.left_id (last_word g ks).right_id
      +ℤ w.own_cost

  -- one more word between
  cost_snoc : (w : Word) (ks : List ℕ) (k : ℕ)
      → cost_after w (ks ++ (k ∷ [])) ≡ onward w k (cost_after (candidate g k) ks)
  unfolding cost_after
  cost_snoc w ks k =
      rw (total_joints ks k, total_map (charge_of g) ks k, total_map (own_cost_of g) ks k, last_snoc (candidate g) (mark 0) ks k)
      (sym (regroup (total (joints_along g (mark 0) ks)) (total (map (charge_of g) ks)) (total (map (own_cost_of g) ks))
      (joints_of g (candidate g k).left_id (last_word g ks).right_id) (candidate g k).own_cost (joints_of g w.left_id (candidate g k).right_id)
      (charge_of g k) w.own_cost))

  cost_after_lem : (w : Word) (js : List ℕ) → cost_by w js ≡ cost_after w (reverse js)
  unfolding cost_by cost_after joints_along sum last_of
  cost_after_lem w [] = ap (λ (x : ℤ). x +ℤ w.own_cost) (sym (+ℤ_idl (joints_of g w.left_id mark_id)))
  cost_after_lem w (k ∷ js) =
      ap (onward w k) (cost_after_lem (candidate g k) js)
      ∙ sym (rw reverse-cons (cost_snoc w (reverse js) k))

  -- a chain costs what it costs to come to its last word
  pub chain_cost_back : (ks : List ℕ) (k : ℕ) → chain_cost g (ks ++ (k ∷ [])) ≡ cost_by (candidate g k) (reverse ks)
  unfolding chain_cost cost_after
  chain_cost_back ks k =
      each (total_joints ks k) (ap (λ (others : List ℕ). total (map (charge_of g) others)) (all_but_last ks k)) (total_map (own_cost_of g) ks k)
      ∙ order (total (joints_along g (mark 0) ks)) (total (map (charge_of g) ks)) (total (map (own_cost_of g) ks))
      (joints_of g (candidate g k).left_id (last_word g ks).right_id) (candidate g k).own_cost
      ∙ sym (cost_after_lem (candidate g k) (reverse ks) ∙ ap (cost_after (candidate g k)) (reverse-reverse ks))
    where
      each : {joints joints' charges charges' owns owns' : ℤ} → joints ≡ joints' → charges ≡ charges' → owns ≡ owns'
          → joints +ℤ charges +ℤ owns ≡ joints' +ℤ charges' +ℤ owns'
      each p q r = rw (p, q, r)

      order : (joints charges owns joint own : ℤ)
          → (joints +ℤ joint) +ℤ charges +ℤ (owns +ℤ own) ≡ joints +ℤ charges +ℤ owns +ℤ joint +ℤ own
      order a b c d e =
          omega (
            ints,
            sumℤ a d,
            sumℤ (a +ℤ d) b,
            sumℤ c e,
            sumℤ (a +ℤ d +ℤ b) (c +ℤ e),
            sumℤ a b,
            sumℤ (a +ℤ b) c,
            sumℤ (a +ℤ b +ℤ c) d,
            sumℤ (a +ℤ b +ℤ c +ℤ d) e,
          )

  -- a path costs what it costs to come to the end mark
  path_cost_by : (n : ℕ) (js : List ℕ) → path_cost g (reverse js) ≡ cost_by (mark n) js
  unfolding path_cost chain_cost cost_by joints_along sum last_of
  path_cost_by n [] = +ℤ_idl (joints_of g mark_id mark_id) ∙ sym (+ℤ_idr (joints_of g mark_id mark_id))
  path_cost_by n (k ∷ js) =
      let last = last_snoc (candidate g) (mark 0) (reverse js) k in
      let chain : chain_cost g (reverse js ++ (k ∷ [])) ≡ cost_by (candidate g k) js =
      chain_cost_back (reverse js) k ∙ ap (cost_by (candidate g k)) (reverse-reverse js) in
      rw (reverse-cons, last) (ap (λ (x : ℤ). x +ℤ charge_of g k +ℤ joints_of g mark_id (candidate g k).right_id) chain
      ∙ order (cost_by (candidate g k) js) (charge_of g k) (joints_of g mark_id (candidate g k).right_id))
    where
      order : (cost charge joint : ℤ) → cost +ℤ charge +ℤ joint ≡ cost +ℤ joint +ℤ charge +ℤ pos 0
      order a b c = omega (ints, sumℤ a b, sumℤ (a +ℤ b) c, sumℤ a c, sumℤ (a +ℤ c) b, sumℤ (a +ℤ c +ℤ b) (pos 0))

  pub path_cost_back : (n : ℕ) (ks : List ℕ) → path_cost g ks ≡ cost_by (mark n) (reverse ks)
  path_cost_back n ks = ap (path_cost g) (sym (reverse-reverse ks)) ∙ path_cost_by n (reverse ks)
