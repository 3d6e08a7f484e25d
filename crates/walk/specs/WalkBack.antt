-- Document 01, "The lattice", last paragraph, and the public operation "walk back alone": its tests in document 01's order, and its whole effect.
use Rattle.std.specs.Prelude.{ℕ, zero, suc, ◌+◌, ◌≡◌, Bool, cond, not, ◌&&◌, ◌||◌, List, [], ◌∷◌, length, get_or, pos, ltb, eqb}
use Rattle.std.specs.Prelude.{Option, None, Some, Err}
use Rattle.std.specs.Option.{option_or}
use Rattle.ground.specs.Limits.{character_limit, candidate_limit}
use Rattle.ground.specs.Rows.{over}
use Rattle.ground.specs.Entry.{none_link}
use Rattle.ground.specs.Answer.{Answer, work_done, refuse}
use Rattle.ground.specs.declared.answer.Refusal.{Refusal}
use Rattle.ground.specs.declared.answer.Refusal.TheVariants.{TooLong, Uneven, TooMany, ShortRow, BrokenLink}
use Rattle.walk.specs.declared.walk_back.Link.{Link}
use Rattle.walk.specs.declared.walk_back.Link.TheVariants.{ToStart, ToCandidate}

-- ---- one link

-- Whether candidate k can stand before a position: there is one, it has start below end, and it ends there.
abbrev pub ends_there : List ℕ → List ℕ → ℕ → ℕ → Bool
ends_there start end position k =
    ltb k (length start) && ltb (get_or start k 0) (get_or end k 0) && eqb (get_or end k 0) position

-- What a link says at a position, or that it is broken. To entry 0 it is right exactly at position 0; to entry k + 1 exactly if candidate k can
-- stand before it.
abbrev pub link_at : List ℕ → List ℕ → ℕ → ℕ → Option Link
link_at start end position zero = cond (eqb position 0) (Some ToStart) None
link_at start end position (suc k) = cond (ends_there start end position k) (Some (ToCandidate k)) None

-- ---- the walk

-- The candidates found, once the walk is at the start mark; one more step at a candidate; nothing at a broken link.
abbrev pub follow : Option Link → List ℕ → (ℕ → Option (List ℕ)) → Option (List ℕ)
follow (Some ToStart) found step = Some found
follow (Some (ToCandidate k)) found step = step k
follow None found step = None

-- The walk from an entry, by its number, at a position, in front of the candidates found so far, in at most `most` links.
unfoldable pub walk_from : List ℕ → List ℕ → List ℕ → ℕ → ℕ → ℕ → List ℕ → Option (List ℕ)
walk_from start end left zero position number found = None
walk_from start end left (suc most) position number found =
    follow (link_at start end position (get_or left number none_link)) found
    (λ (k : ℕ). walk_from start end left most (get_or start k 0) (suc k) (k ∷ found))

-- The walk back from entry c + 1 at position n: the candidates in sentence order, or none where a followed link is broken. (Each right link
-- to a candidate leads to a lower position, so n + 1 links are enough: `enough` and `broken_exactly` in WalkLaws.)
unfoldable pub walk_back : List ℕ → List ℕ → List ℕ → ℕ → Option (List ℕ)
unfolding walk_from
walk_back start end left n = walk_from start end left (suc n) n (suc (length start)) []

-- ---- the public operation

-- What a call leaves: the answer, and the output row after it.
pub record Outcome : Type 0 where
  pub answer : Answer
  pub word : List ℕ

-- An answer and a row, put together.
abbrev pub outcome : Answer → List ℕ → Outcome
outcome answer word = record { answer = answer; word = word }

-- The tests 2, 3, 4 and 7: the first that holds decides. c is the length of the start row.
abbrev pub walk_refused : List ℕ → List ℕ → List ℕ → ℕ → List ℕ → Option Refusal
walk_refused start end left n word =
    option_or (refuse (ltb character_limit n) TooLong)
    (option_or (refuse (not (eqb (length start) (length end))) Uneven)
    (option_or (refuse (ltb candidate_limit (length start)) TooMany)
    (refuse (ltb (length left) (length start + 2) || ltb (length word) n) ShortRow)))

-- 13, and nothing changes, where a followed link is broken; otherwise the candidates' numbers in sentence order, and the places beyond keep their contents.
abbrev pub written : Option (List ℕ) → List ℕ → Outcome
written None word = outcome (Err BrokenLink) word
written (Some found) word = outcome (work_done (length found) (pos 0)) (over found word)

-- A refusal changes nothing.
abbrev pub written_unless : Option Refusal → Option (List ℕ) → List ℕ → Outcome
written_unless (Some why) walked word = outcome (Err why) word
written_unless None walked word = written walked word

-- The walk back alone: the tests, then the walk.
unfoldable pub walk_back_alone : List ℕ → List ℕ → List ℕ → ℕ → List ℕ → Outcome
unfolding walk_back
walk_back_alone start end left n word =
    written_unless (walk_refused start end left n word) (walk_back start end left n) word

-- ---- what a walk follows

-- The walk back comes, by right links to candidates alone, to the entry of a number at a position: by these two lines and no others.
pub data Follows (start end left : List ℕ) (n : ℕ) : ℕ → ℕ → Type 0 where
  -- it starts at entry c + 1 with position n
  starts : Follows start end left n n (suc (length start))
  -- a right link to candidate k leads to that candidate, whose start is the next position
  goes_on : {position number k : ℕ} → Follows start end left n position number
      → link_at start end position (get_or left number none_link) ≡ Some (ToCandidate k)
      → Follows start end left n (get_or start k 0) (suc k)

-- A followed link is such: that of an entry which the walk comes to, at the position there.
abbrev pub FollowedLink : List ℕ → List ℕ → List ℕ → ℕ → Option Link → Type 0
FollowedLink start end left n link =
    (position : ℕ) × (number : ℕ) × Follows start end left n position number × (link_at start end position (get_or left number none_link) ≡ link)
