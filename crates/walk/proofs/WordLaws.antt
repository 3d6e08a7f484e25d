-- The pass that writes the words: its invariant, and what one turn does; and what the last step leaves. Assumes nothing.
use Prim.Native.Nat.{ℕ, ◌+◌, ◌-◌, ◌*◌, ◌≤◌, ◌<◌}
use mathlib.Core.Path.{◌≡◌, ap, ◌∙◌}
use mathlib.Core.Bool.{Bool}
use mathlib.Core.List.{List, [], ◌∷◌, map}
use Rattle.std.specs.Prelude.{Option}
use native.Mathlib.Omega.{arith}
use lib.ListN.{length, get_or, set}
use lib.IntN.{ℤ}
use Rattle.ground.specs.Rows.{over}
use Rattle.ground.specs.Answer.{Answer}
use Rattle.ground.specs.Entry.{entry_at, entry_bytes}
use Rattle.ground.proofs.EntryLaws.{entry_fits}
use Rattle.walk.specs.WalkBack.{walk_back}
use Rattle.walk.specs.WordRows.{word_offsets, word_ids, word_kinds, answer_by, words_by}
use Rattle.walk.specs.Inner.{linked, Listed, Roomy, end_reached, Ended}
use Rattle.walk.proofs.Passes.{Linking, Placed, sure_link, linking_more, linking_all, placed_more, placed_all}

-- What is told of candidate k in each of the three rows.
abbrev pub offset_told : List ℕ → List ℕ → ℕ → ℕ
offset_told offset start k = get_or offset (get_or start k 0) 0

abbrev pub id_told : List ℕ → ℕ → ℕ
id_told entry k = (entry_at entry k).id

abbrev pub kind_told : List ℕ → ℕ → ℕ
kind_told kind k = get_or kind k 0

-- The candidates found so far, and what is told of them in its places.
pub record Writing (start kind entry offset left : List ℕ) (count : ℕ) (offset₀ id₀ kind₀ word_offset word_id word_kind : List ℕ) (at i : ℕ) : Type 0 where
  pub found : List ℕ
  pub linking : Linking left (length start + 1) count found at i
  pub offsets : Placed (offset_told offset start) found count i offset₀ word_offset
  pub ids : Placed (id_told entry) found count i id₀ word_id
  pub kinds : Placed (kind_told kind) found count i kind₀ word_kind

-- The link that is to be followed can be read, and so can all of its candidate.
pub record Told (start kind entry offset left : List ℕ) (at : ℕ) : Type 0 where
  pub there : at < length left
  pub above : 1 ≤ get_or left at 0
  pub listed : get_or left at 0 - 1 < length start
  pub position : get_or start (get_or left at 0 - 1) 0 < length offset
  pub kinded : get_or left at 0 - 1 < length kind
  pub bytes : (get_or left at 0 - 1) * entry_bytes + entry_bytes ≤ length entry

module _ (start kind entry offset left : List ℕ) (count : ℕ) (offset₀ id₀ kind₀ : List ℕ) (lists : Listed start kind entry offset) (room : Roomy count offset₀ id₀ kind₀) where
  module _ (word_offset word_id word_kind : List ℕ) (at i : ℕ) (h : Writing start kind entry offset left count offset₀ id₀ kind₀ word_offset word_id word_kind at i) where
    pub told : 0 < i → Told start kind entry offset left at
    told l =
        let s = sure_link left (length start + 1) i at l h.linking.sure in
        let k = get_or left at 0 - 1 in
        let listed : k < length start = omega (arith, s.1, s.2) in
        record {
          there = s.0;
          above = s.1;
          listed = listed;
          position = lists.positions k listed;
          kinded = omega (arith, lists.kinds);
          bytes = entry_fits entry (length start) k lists.entries listed;
        }

    -- the places still to be written are there
    pub places : Roomy i word_offset word_id word_kind
    places =
        record {
          offsets = omega (arith, h.linking.within, room.offsets, h.offsets.kept);
          ids = omega (arith, h.linking.within, room.ids, h.ids.kept);
          kinds = omega (arith, h.linking.within, room.kinds, h.kinds.kept);
        }

    -- one turn: the link, its candidate's position and its id, as they are read
    pub writing_more : (link position id : ℕ) → link ≡ get_or left at 0 → position ≡ get_or start (link - 1) 0 → id ≡ (entry_at entry (link - 1)).id → 0 < i
        → Writing start kind entry offset left count offset₀ id₀ kind₀
        (set word_offset (i - 1) (get_or offset position 0))
        (set word_id (i - 1) id)
        (set word_kind (i - 1) (kind_told kind (link - 1)))
        link
        (i - 1)
    writing_more link position id p q r l =
        let k = get_or left at 0 - 1 in
        let w = h.linking.within in
        rw (q, r, p) (record {
          found = k ∷ h.found;
          linking = linking_more left (length start + 1) count h.found at i h.linking l;
          offsets = placed_more (offset_told offset start) count offset₀ room.offsets h.found word_offset i k l w h.offsets;
          ids = placed_more (id_told entry) count id₀ room.ids h.found word_id i k l w h.ids;
          kinds = placed_more (kind_told kind) count kind₀ room.kinds h.found word_kind i k l w h.kinds;
        })

    -- a row at the end, by what is told in it
    all : (tell : ℕ → ℕ) (row₀ row : List ℕ) → count ≤ length row₀ → i ≤ 0 → Placed tell h.found count i row₀ row
        → row ≡ over (map tell (linked left count (length start + 1) [])) row₀
    all tell row₀ row r l p =
        placed_all tell count row₀ r h.found row i l h.linking.long p
        ∙ ap (λ (found : List ℕ). over (map tell found) row₀) (linking_all left (length start + 1) count h.found at i h.linking l)

    pub writing_all : i ≤ 0
        → (word_offset ≡ over (map (offset_told offset start) (linked left count (length start + 1) [])) offset₀)
        × (word_id ≡ over (map (id_told entry) (linked left count (length start + 1) [])) id₀)
        × (word_kind ≡ over (map (kind_told kind) (linked left count (length start + 1) [])) kind₀)
    writing_all l = (
      all (offset_told offset start) offset₀ word_offset room.offsets l h.offsets,
      all (id_told entry) id₀ word_id room.ids l h.ids,
      all (kind_told kind) kind₀ word_kind room.kinds l h.kinds,
    )

-- what the last step leaves, by whether the end mark is reached and by what the walk found
pub ended_by : (n : ℕ) (start end kind entry offset left : List ℕ) (cost : ℤ) (offset₀ id₀ kind₀ : List ℕ) (answer : Answer) (word_offset word_id word_kind : List ℕ)
    (reached : Bool) (walked : Option (List ℕ)) → end_reached start left ≡ reached → walk_back start end left n ≡ walked
    → answer ≡ answer_by reached walked cost
    → word_offset ≡ over (word_offsets offset start (words_by reached walked)) offset₀
    → word_id ≡ over (word_ids entry (words_by reached walked)) id₀
    → word_kind ≡ over (word_kinds kind (words_by reached walked)) kind₀
    → Ended n start end kind entry offset left cost offset₀ id₀ kind₀ answer word_offset word_id word_kind
ended_by n start end kind entry offset left cost offset₀ id₀ kind₀ answer word_offset word_id word_kind reached walked e f a o i k =
    record { answers = rw (e, f) a; offsets = rw (e, f) o; ids = rw (e, f) i; kinds = rw (e, f) k }
