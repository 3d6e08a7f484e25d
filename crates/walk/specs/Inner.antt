-- Inner, no part of document 01: what the passes of the walk back and of the words leave on the way, and what they ask.
use Rattle.std.specs.Prelude.{ℕ, zero, suc, ◌+◌, ◌-◌, ◌*◌, ◌≤◌, ◌<◌, ◌≡◌, Bool, not, List, ◌∷◌, length, get_or, eqb, ℤ}
use Rattle.ground.specs.Rows.{over}
use Rattle.ground.specs.Answer.{Answer}
use Rattle.ground.specs.Entry.{entry_bytes, none_link}
use Rattle.walk.specs.WalkBack.{walk_back}
use Rattle.walk.specs.declared.words.WordRows.{WordRows}
use Rattle.walk.specs.WordRows.{word_offsets, word_ids, word_kinds, answer_by, words_by}

-- The candidates that so many links name, followed from an entry and not tested, in front of those found so far.
unfoldable pub linked : List ℕ → ℕ → ℕ → List ℕ → List ℕ
linked left zero entry found = found
linked left (suc count) entry found =
    linked left count (get_or left entry 0) ((get_or left entry 0 - 1) ∷ found)

-- That so many links, followed from an entry, stand in the row and lead to a candidate: to an entry below the end mark's number.
unfoldable pub Sure : List ℕ → ℕ → ℕ → ℕ → Type 0
Sure left mark zero entry = Unit
Sure left mark (suc count) entry =
    (entry < length left) × (1 ≤ get_or left entry 0) × (get_or left entry 0 < mark) × Sure left mark count (get_or left entry 0)

-- ---- the words

-- The candidate rows are even, and each start is a position of the offset row.
pub record Listed (start kind entry offset : List ℕ) : Type 0 where
  pub kinds : length kind ≡ length start
  pub entries : length entry ≡ entry_bytes * length start
  pub positions : (k : ℕ) → k < length start → get_or start k 0 < length offset

-- So many places in each of the three word rows.
pub record Roomy (count : ℕ) (word_offset word_id word_kind : List ℕ) : Type 0 where
  pub offsets : count ≤ length word_offset
  pub ids : count ≤ length word_id
  pub kinds : count ≤ length word_kind

-- The three references are those that were lent.
pub record SameRows (old new : WordRows) : Type 0 where
  pub offset : new.offset.ghost_name ≡ old.offset.ghost_name
  pub id : new.id.ghost_name ≡ old.id.ghost_name
  pub kind : new.kind.ghost_name ≡ old.kind.ghost_name

-- The end mark is reached: it has a left.
abbrev pub end_reached : List ℕ → List ℕ → Bool
end_reached start left = not (eqb (get_or left (length start + 1) 0) none_link)

-- What the last step leaves: the answer, and the three word rows over what they held.
pub record Ended (n : ℕ) (start end kind entry offset left : List ℕ) (cost : ℤ) (word_offset word_id word_kind : List ℕ) (answer : Answer) (offset_after id_after kind_after : List ℕ) : Type 0 where
  pub answers : answer ≡ answer_by (end_reached start left) (walk_back start end left n) cost
  pub offsets : offset_after ≡ over (word_offsets offset start (words_by (end_reached start left) (walk_back start end left n))) word_offset
  pub ids : id_after ≡ over (word_ids entry (words_by (end_reached start left) (walk_back start end left n))) word_id
  pub kinds : kind_after ≡ over (word_kinds kind (words_by (end_reached start left) (walk_back start end left n))) word_kind
