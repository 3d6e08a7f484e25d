-- The table of lead bytes: its rule is one test that antt computes over all nine rows, and laws that turn it into what holds of the row
-- that is found. Assumes nothing.
use Prim.Native.Nat.{ℕ, suc, ◌≤◌, ◌<◌}
use mathlib.Core.Path.{◌≡◌, refl, ap, ◌∙◌, sym}
use mathlib.Core.Bool.{Bool, true, false, cond, ◌&&◌}
use mathlib.Core.List.Memᴰ
use mathlib.Core.List.{List, [], ◌∷◌, Memᴰ}
use mathlib.Core.Logic.{⊎_elim}
use native.Mathlib.Omega.{arith}
use lib.Dec.{leb, ltb, eqb}
use lib.ListN.{length, drop, get_or}
use lib.Seq.{drop-cons}
use borrow.Author.Tests.{leb-true, ltb-true, eqb-true}
use Rattle.ground.specs.Text.{lead, leads, lead_row, is_lead, within}
use Rattle.ground.specs.Filling.{size_by_lead}
use Rattle.ground.specs.declared.text.Lead.{Lead}
use Rattle.std.specs.Prelude.{Some}
use Rattle.ground.proofs.RangeLaws.{at_least_mono}

-- a test passes at every row
abbrev every : (Lead → Bool) → List Lead → Bool
every test [] = true
every test (row ∷ rows) = test row && every test rows

both : (a b : Bool) → (a && b) ≡ true → (a ≡ true) × (b ≡ true)
both true b e = (refl, e)
both false b e = absurd (mathlib.Core.Bool.false≢true e)

-- what a test says of every row it says of a row of the table
every_member : (test : Lead → Bool) (rows : List Lead) → every test rows ≡ true → (row : Lead) → Memᴰ row rows → test row ≡ true
every_member test [] e row m = absurd (Memᴰ.not-nil m)
every_member test (first ∷ rows) e row m =
    let b = both (test first) (every test rows) e in
    ⊎_elim (λ (q : row ≡ first). rw q b.0) (λ (n : Memᴰ row rows). every_member test rows b.1 row n) (Memᴰ.cases_cons m)

-- the row that is found is a row of the table, and has the byte
found : (rows : List Lead) (byte : ℕ) (row : Lead) → lead_row rows byte ≡ Some row → Memᴰ row rows × (is_lead row byte ≡ true)
unfolding lead_row
found [] byte row f = let z : ◌≡◌ {A = ℕ} 0 1 = cc in absurd (omega arith)
found (first ∷ rows) byte row f = go (is_lead first byte) refl f (found rows byte row)
  where
    go : (t : Bool) → is_lead first byte ≡ t → cond t (Some first) (lead_row rows byte) ≡ Some row
        → (lead_row rows byte ≡ Some row → Memᴰ row rows × (is_lead row byte ≡ true)) → Memᴰ row (first ∷ rows) × (is_lead row byte ≡ true)
    go true e f more = let q : first ≡ row = cc in (Memᴰ.head (sym q), rw (← q) e)
    go false e f more = let m = more f in (Memᴰ.tail m.0, m.1)

-- the rows from i on find the i-th where it has the byte, and otherwise what those behind it find
pub row_here : (rows : List Lead) (i : ℕ) (none : Lead) (byte : ℕ) → i < length rows → (t : Bool) → is_lead (get_or rows i none) byte ≡ t
    → lead_row (drop i rows) byte ≡ cond t (Some (get_or rows i none)) (lead_row (drop (suc i) rows) byte)
unfolding lead_row
row_here rows i none byte h t e =
    ap (λ (l : List Lead). lead_row l byte) (drop-cons rows i none h)
    ∙ ap (λ (b : Bool). cond b (Some (get_or rows i none)) (lead_row (drop (suc i) rows) byte)) e

-- No row's lead bytes reach up to those of a row behind it.
abbrev apart : List Lead → Bool
apart [] = true
apart (row ∷ rows) = every (λ (later : Lead). ltb row.high later.low) rows && apart rows

-- So, in rows that rise, the row that has a byte is the one that is found.
only : (rows : List Lead) → apart rows ≡ true → (byte : ℕ) (row : Lead) → Memᴰ row rows → is_lead row byte ≡ true → lead_row rows byte ≡ Some row
unfolding lead_row
only [] a byte row m e = absurd (Memᴰ.not-nil m)
only (first ∷ rows) a byte row m e =
    ⊎_elim
    (λ (q : row ≡ first). rw (← q, e))
    (λ (n : Memᴰ row rows).
    go (is_lead first byte) refl (only rows b.1 byte row n e)
    (ltb-true first.high row.low (every_member (λ (later : Lead). ltb first.high later.low) rows b.0 row n)))
    (Memᴰ.cases_cons m)
  where
    b : (every (λ (later : Lead). ltb first.high later.low) rows ≡ true) × (apart rows ≡ true)
    b = both (every (λ (later : Lead). ltb first.high later.low) rows) (apart rows) a

    go : (t : Bool) → is_lead first byte ≡ t → lead_row rows byte ≡ Some row → first.high < row.low → cond t (Some first) (lead_row rows byte) ≡ Some row
    go false q found above = found
    go true q found above =
        let lower = both (leb first.low byte) (leb byte first.high) q in
        let higher = both (leb row.low byte) (leb byte row.high) e in
        absurd (omega (arith, leb-true byte first.high lower.1, leb-true row.low byte higher.0))

pub row_exact : (byte : ℕ) (row : Lead) → Memᴰ row leads → is_lead row byte ≡ true → lead_row leads byte ≡ Some row
unfolding leads
row_exact byte row m e = only leads refl byte row m e

-- so the row E1 to EC is found at once
abbrev pub common : Lead
common = lead 0xe1 0xec 0x80 0xbf 3

pub common_found : (byte : ℕ) → is_lead common byte ≡ true → lead_row leads byte ≡ Some common
unfolding leads
common_found byte e =
    row_exact byte common (Memᴰ.tail (Memᴰ.tail (Memᴰ.tail (Memᴰ.head refl)))) e

-- The table's rule: a row's length is from 1 to 4, and its first and its last lead byte tell it.
rule : Lead → Bool
rule row = within 1 4 row.size && (eqb (size_by_lead row.low) row.size && eqb (size_by_lead row.high) row.size)

holds : (byte : ℕ) (row : Lead) → lead_row leads byte ≡ Some row → rule row ≡ true
unfolding leads rule
holds byte row f = every_member rule leads refl row (found leads byte row f).0

pub row_size : (byte : ℕ) (row : Lead) → lead_row leads byte ≡ Some row → (1 ≤ row.size) × (row.size ≤ 4)
unfolding rule
row_size byte row f =
    let r = both (within 1 4 row.size) (eqb (size_by_lead row.low) row.size && eqb (size_by_lead row.high) row.size) (holds byte row f) in
    let w = both (leb 1 row.size) (leb row.size 4) r.0 in
    (leb-true 1 row.size w.0, leb-true row.size 4 w.1)

-- a higher lead byte tells no shorter length
size_mono : (a b : ℕ) → a ≤ b → size_by_lead a ≤ size_by_lead b
size_mono a b h = omega (arith, at_least_mono 0x80 a b h, at_least_mono 0xe0 a b h, at_least_mono 0xf0 a b h)

-- so each lead byte of a row tells the row's length
pub lead_size : (byte : ℕ) (row : Lead) → lead_row leads byte ≡ Some row → size_by_lead byte ≡ row.size
unfolding rule
lead_size byte row f =
    let r = both (within 1 4 row.size) (eqb (size_by_lead row.low) row.size && eqb (size_by_lead row.high) row.size) (holds byte row f) in
    let ends = both (eqb (size_by_lead row.low) row.size) (eqb (size_by_lead row.high) row.size) r.1 in
    let w = both (leb row.low byte) (leb byte row.high) (found leads byte row f).1 in
    omega (
      arith,
      eqb-true (size_by_lead row.low) row.size ends.0,
      eqb-true (size_by_lead row.high) row.size ends.1,
      size_mono row.low byte (leb-true row.low byte w.0),
      size_mono byte row.high (leb-true byte row.high w.1),
    )
