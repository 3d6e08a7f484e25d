-- What the lattice may lean on about the matrix: where a joint stands in it, and that a row lies within it. Assumes nothing.
use Prim.Native.Nat.{ℕ, ◌+◌, ◌*◌, ◌≤◌, ◌<◌}
use mathlib.Core.Path.{◌≡◌, refl}
use mathlib.Core.List.{List}
use lib.ListN.{length, get_or}
use lib.IntN.{ℤ, pos}
use Rattle.ground.specs.Matrix.{matrix_row, value_in, joint}
use Rattle.ground.proofs.RowLaws.{part_at, part_length, part_fits}

-- A joint is the value at l × width + r.
pub joint_at : (matrix : List ℤ) (width l r : ℕ) → r < width → joint matrix width l r ≡ get_or matrix (l * width + r) (pos 0)
unfolding joint
joint_at matrix width l r h = part_at width l r matrix (pos 0) h

-- It is what `row` and then `joint` read.
pub joint_row : (matrix : List ℤ) (width l r : ℕ) → value_in (matrix_row matrix width l) r ≡ joint matrix width l r
unfolding joint
joint_row matrix width l r = refl

-- A row that lies within the matrix is as long as the matrix is wide.
pub row_length : (matrix : List ℤ) (width l : ℕ) → l * width + width ≤ length matrix → length (matrix_row matrix width l) ≡ width
row_length matrix width l h = part_length width l matrix h

-- The row of a left id below the height does.
pub row_fits : (matrix : List ℤ) (height width l : ℕ) → length matrix ≡ height * width → l < height → l * width + width ≤ length matrix
row_fits matrix height width l e h = part_fits width l height matrix e h
