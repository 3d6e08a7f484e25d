use Rattle.std.proofs.Common.{ℕ, ◌≡◌, ◌+◌, ◌-◌, ◌*◌, ◌≤◌, ap, sym, subst, [], length, get_or, arith}
use Rattle.ground.specs.Entry.{entry_bytes}
use Rattle.ground.specs.Rows.{over}
use Rattle.walk.specs.WordRows.{word_offsets, word_ids, word_kinds}
use Rattle.walk.specs.Inner.{linked}
use Rattle.ground.specs.declared.entry.Entry.{Entry}
use Rattle.walk.proofs.WordLaws.{Told, told, writing_more, writing_all}
use Rattle.walk.proofs.words.write.Goals as goal
use Rattle.walk.proofs.words.write.Goals.{After-loop-i, In-loop-i}

-- the link that is to be followed, and its candidate
link : (c : In-loop-i)
    → Told c.args.candidates.now.start.now c.args.candidates.now.kind.now c.args.candidates.now.entry.now c.args.offset.now c.args.left.now c.loop-i.at
link c =
    let l = c.loop-i in
    let a = c.args in
    let s = a.candidates.now in
    let w = a.rows.now in
    told s.start.now s.kind.now s.entry.now a.offset.now a.left.now a.count
    w.offset.now w.id.now w.kind.now c.requires.listed.0 c.requires.room.0
    l.rows.offset.now l.rows.id.now l.rows.kind.now l.at l.i l.invariant.0 c.loop-i-test.true

pub offset_bounds-left-at : goal.offset_bounds-left-at
offset_bounds-left-at c = omega (arith, (link (goal.at.offset_bounds-left-at c).In-loop-i).there)

pub bounds-left-at : goal.bounds-left-at
bounds-left-at c = (link (goal.at.bounds-left-at c).In-loop-i).there

pub overflow_sub-k : goal.overflow_sub-k
overflow_sub-k c = omega (arith, c.from-link.ensures, (link (goal.at.overflow_sub-k c).In-loop-i).above)

pub bounds-candidates-k : goal.bounds-candidates-k
bounds-candidates-k c = omega (arith, c.from-link.ensures, (link (goal.at.bounds-candidates-k c).In-loop-i).listed)

pub bounds-offset-from : goal.bounds-offset-from
bounds-offset-from c =
    let e = ap (λ (x : ℕ). get_or c.args.candidates.now.start.now (x - 1) 0) c.from-link.ensures in
    omega (arith, c.from.ensures, e, (link (goal.at.bounds-offset-from c).In-loop-i).position)

pub read-requires : goal.read-requires
read-requires c =
    subst (λ (x : ℕ). (x - 1) * entry_bytes + entry_bytes ≤ length c.args.candidates.now.entry.now) (sym c.from-link.ensures)
    (link (goal.at.read-requires c).In-loop-i).bytes

pub bounds-candidates-k-in-loop-i : goal.bounds-candidates-k-in-loop-i
bounds-candidates-k-in-loop-i c = omega (arith, c.from-link.ensures, (link (goal.at.bounds-candidates-k-in-loop-i c).In-loop-i).kinded)

pub loop-i-preserved : goal.loop-i-preserved
loop-i-preserved c =
    let l = c.loop-i in
    let a = c.args in
    let s = a.candidates.now in
    let w = a.rows.now in
    let same = l.invariant.1 in (
      writing_more s.start.now s.kind.now s.entry.now a.offset.now a.left.now a.count
          w.offset.now w.id.now w.kind.now c.requires.listed.0 c.requires.room.0
          l.rows.offset.now l.rows.id.now l.rows.kind.now l.at l.i l.invariant.0
          c.from-link.result c.from.result c.read.result.id
          c.from-link.ensures c.from.ensures (ap (λ (e : Entry). e.id) c.read.ensures) c.loop-i-test.true,
      record { offset = same.offset; id = same.id; kind = same.kind },
    )

-- what the three rows hold at the end
after : (c : After-loop-i)
    → (c.loop-i.i ≤ 0)
    → let a = c.args in
    let s = a.candidates.now in
    let words = linked a.left.now a.count (length s.start.now + 1) [] in
    (c.loop-i.rows.offset.now ≡ over (word_offsets a.offset.now s.start.now words) a.rows.now.offset.now)
    × (c.loop-i.rows.id.now ≡ over (word_ids s.entry.now words) a.rows.now.id.now)
    × (c.loop-i.rows.kind.now ≡ over (word_kinds s.kind.now words) a.rows.now.kind.now)
after c none_left =
    let l = c.loop-i in
    let a = c.args in
    let s = a.candidates.now in
    let w = a.rows.now in
    writing_all s.start.now s.kind.now s.entry.now a.offset.now a.left.now a.count
    w.offset.now w.id.now w.kind.now c.requires.listed.0 c.requires.room.0
    l.rows.offset.now l.rows.id.now l.rows.kind.now l.at l.i l.invariant.0 none_left

pub returns-clause-word_offset_after : goal.returns-clause-word_offset_after
returns-clause-word_offset_after c = (after (goal.at.returns-clause-word_offset_after c).After-loop-i c.loop-i-test.false).0

pub returns-clause-word_id_after : goal.returns-clause-word_id_after
returns-clause-word_id_after c = (after (goal.at.returns-clause-word_id_after c).After-loop-i c.loop-i-test.false).1

pub returns-clause-word_kind_after : goal.returns-clause-word_kind_after
returns-clause-word_kind_after c = (after (goal.at.returns-clause-word_kind_after c).After-loop-i c.loop-i-test.false).2
