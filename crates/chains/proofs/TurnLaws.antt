-- Lists of numbers, one more at their end. Assumes nothing.
use Prim.Native.Nat.{ℕ}
use mathlib.Core.Path.{◌≡◌, refl, ap}
use mathlib.Core.Logic.{◌↔◌}
use mathlib.Core.List.{List, [], ◌∷◌, ◌++◌, drop_last}
use lib.IntN.{ℤ}
use Rattle.lattice.specs.Words.{Word, Given, candidate}
use Rattle.lattice.specs.Lattice.{joints_of}
use Rattle.chains.specs.Chain.{InTurn, last_of, joints_along}

module _ {A : Type 0} (Stands : A → ℕ → Type 0) (leaves : ℕ → A) where
  -- they stand in turn exactly if those before it do, and it stands so to what the last of them leaves
  pub turn_snoc : (before : A) (ks : List ℕ) (k : ℕ)
      → InTurn Stands leaves before (ks ++ (k ∷ [])) ↔ (InTurn Stands leaves before ks × Stands (last_of leaves before ks) k)
  unfolding InTurn last_of
  turn_snoc before [] k = (λ (s, t). (tt, s), λ (t, s). (s, tt))
  turn_snoc before (j ∷ ks) k =
      let more = turn_snoc (leaves j) ks k in
      (λ (s, t). ((s, (more.0 t).0), (more.0 t).1), λ ((s, t), u). (s, more.1 (t, u)))

-- it is the last
pub last_snoc : {A : Type 0} (leaves : ℕ → A) (before : A) (ks : List ℕ) (k : ℕ) → last_of leaves before (ks ++ (k ∷ [])) ≡ leaves k
unfolding last_of
last_snoc leaves before [] k = refl
last_snoc leaves before (j ∷ ks) k = last_snoc leaves (leaves j) ks k

-- and the others are all but the last
pub all_but_last : {A : Type 0} (xs : List A) (x : A) → drop_last (xs ++ (x ∷ [])) ≡ xs
all_but_last [] x = refl
all_but_last (y ∷ []) x = refl
all_but_last {A} (y ∷ z ∷ xs) x = ap (λ (ys : List A). y ∷ ys) (all_but_last (z ∷ xs) x)

-- its joint is one more
pub joints_snoc : (g : Given) (before : Word) (ks : List ℕ) (k : ℕ)
    → joints_along g before (ks ++ (k ∷ []))
    ≡ joints_along g before ks ++ (joints_of g (candidate g k).left_id (last_of (candidate g) before ks).right_id ∷ [])
unfolding joints_along last_of
joints_snoc g before [] k = refl
joints_snoc g before (j ∷ ks) k =
    ap (λ (xs : List ℤ). joints_of g (candidate g j).left_id before.right_id ∷ xs) (joints_snoc g (candidate g j) ks k)
