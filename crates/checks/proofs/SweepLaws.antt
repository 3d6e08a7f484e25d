-- The sweep over the candidates: that none is refused where it finds nothing. Assumes nothing.
use Prim.Native.Nat.{ℕ, zero, suc, ◌+◌, ◌-◌, ◌≤◌, ◌<◌}
use mathlib.Core.Path.{◌≡◌, refl, subst}
use mathlib.Core.Bool.{Bool, true, false}
use mathlib.Core.List.{List}
use Rattle.std.specs.Prelude.{None}
use borrow.Author.Tests.{le-ltb, lt-leb}
use native.Mathlib.Omega.{arith}
use lib.ListN.{length, get_or}
use lib.Dec.{ltb, leb}
use Rattle.std.specs.Int.{from_bool}
use Rattle.ground.specs.Entry.{entry_at}
use Rattle.checks.specs.Checks.{bad_kind, below_previous, candidate_refused, candidates_refused}
use Rattle.checks.proofs.CheckLaws.{none_first}

-- A test whose number is not above 0 does not hold.
pub down : (test : Bool) → from_bool test ≤ 0 → test ≡ false
down true h = absurd (omega arith)
down false h = refl

-- No start is below the one before it, where none from the second on is: the first has none before it.
pub from_second : (start : List ℕ) → ((k : ℕ) → k < length start - 1 → ltb (get_or start (k + 1) 0) (get_or start k 0) ≡ false)
    → (k : ℕ) → k < length start → below_previous start k ≡ false
from_second start each zero h = refl
from_second start each (suc k) h =
    let next : k + 1 ≡ suc k = omega arith in
    subst (λ (i : ℕ). ltb (get_or start i 0) (get_or start k 0) ≡ false) next (each k (omega arith))

-- What the sweep leaves where it finds nothing.
pub record Swept (n : ℕ) (start end kind entry : List ℕ) (height width : ℕ) : Type 0 where
  pub kinds : (k : ℕ) → k < length start → bad_kind (get_or kind k 0) ≡ false  -- 8
  pub order : (k : ℕ) → k < length start - 1 → ltb (get_or start (k + 1) 0) (get_or start k 0) ≡ false  -- 9
  pub forward : (k : ℕ) → k < length start → leb (get_or end k 0) (get_or start k 0) ≡ false  -- 10
  pub inside : (k : ℕ) → k < length start → get_or end k 0 ≤ n
  pub left_ids : (k : ℕ) → k < length start → (entry_at entry k).left_id < height  -- 11
  pub right_ids : (k : ℕ) → k < length start → (entry_at entry k).right_id < width

-- Then no candidate is refused.
pub none_refused : (n : ℕ) (start end kind entry : List ℕ) (height width : ℕ) → Swept n start end kind entry height width
    → candidates_refused n start end kind entry height width ≡ None
none_refused n start end kind entry height width swept =
    none_first (candidate_refused n start end kind entry height width) 0 (length start) (λ k low high. one k (omega arith))
  where
    one : (k : ℕ) → k < length start → candidate_refused n start end kind entry height width k ≡ None
    one k h =
        rw (
          swept.kinds k h,
          from_second start swept.order k h,
          swept.forward k h,
          le-ltb n (get_or end k 0) (swept.inside k h),
          lt-leb height (entry_at entry k).left_id (swept.left_ids k h),
          lt-leb width (entry_at entry k).right_id (swept.right_ids k h),
        )
