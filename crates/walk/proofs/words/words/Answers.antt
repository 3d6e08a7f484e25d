-- 12 by the end mark's left; otherwise the walk back's two passes. Assumes nothing.
use Rattle.std.proofs.Common.{ℕ, ◌+◌, ◌∙◌, ap, ap₂, sym, true, not, List, length, get_or, Some, arith}
use borrow.Author.Tests.{ne_eqb}
use mir.Syntax.{w32}
use mir.Val.{to_z, of_z}
use mir.Facts.{to_z-of_z}
use Rattle.ground.specs.Rows.{over}
use Rattle.ground.specs.Entry.{none_link}
use Rattle.ground.specs.Answer.{work_done}
use Rattle.walk.specs.WordRows.{word_offsets, word_ids, word_kinds}
use Rattle.walk.proofs.WalkLaws.{Found, found_by, counted_ok}
use Rattle.walk.proofs.WordLaws.{ended_by}
use Rattle.walk.proofs.words.words.Goals as goal
use Rattle.walk.proofs.words.words.Goals.{In_ok-count}

-- what the walk found, of which the first pass told the count
found : (c : In_ok-count)
    → Found c.args.candidates.now.start.now c.args.candidates.now.end.now c.args.left.now c.args.n c.in_ok-count.count
found c =
    let a = c.args in
    found_by a.candidates.now.start.now a.candidates.now.end.now a.left.now a.n c.in_ok-count.count c.requires.room.0
    (sym c.count.ensures ∙ counted_ok _ _ _ c.in_ok-count.ensures.value)

pub write-requires-clause-listed : goal.write-requires-clause-listed
write-requires-clause-listed c = (c.requires.listed.0, (found (goal.at.write-requires-clause-listed c).In_ok-count).sure)

pub write-requires-clause-room : goal.write-requires-clause-room
write-requires-clause-room c =
    let few = (found (goal.at.write-requires-clause-room c).In_ok-count).few in
    let room = c.requires.room.1 in (
      record { offsets = omega (arith, few, room); ids = omega (arith, few, room); kinds = omega (arith, few, room) },
      omega arith,
    )

pub overflow_cast-result : goal.overflow_cast-result
overflow_cast-result c = omega (arith, (found (goal.at.overflow_cast-result c).In_ok-count).few)

pub returns-clause-ended : goal.returns-clause-ended
returns-clause-ended c =
    let a = c.args in
    let s = a.candidates.now in
    let w = a.rows.now in
    let new = c.write.new.rows in
    let f = found (goal.at.returns-clause-ended c).In_ok-count in
    let reached = ap not (ne_eqb (get_or a.left.now (length s.start.now + 1) 0) none_link c.if-left-mark.false) in
    ended_by a.n s.start.now s.end.now s.kind.now s.entry.now a.offset.now a.left.now a.cost
    w.offset.now w.id.now w.kind.now (work_done c.in_ok-count.count (to_z w32 (of_z w32 a.cost)))
    new.offset.now new.id.now new.kind.now true (Some f.words) reached f.walked
    (ap₂ work_done (sym f.many) (to_z-of_z c.ranges.cost))
    (c.write.ensures.word_offset_after ∙ ap (λ (words : List ℕ). over (word_offsets a.offset.now s.start.now words) w.offset.now) f.again)
    (c.write.ensures.word_id_after ∙ ap (λ (words : List ℕ). over (word_ids s.entry.now words) w.id.now) f.again)
    (c.write.ensures.word_kind_after ∙ ap (λ (words : List ℕ). over (word_kinds s.kind.now words) w.kind.now) f.again)
