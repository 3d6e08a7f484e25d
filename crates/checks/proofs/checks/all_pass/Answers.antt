-- Row by row: what the highest number passes, all pass; and where the highest flag is down, no test holds. Assumes nothing.
use Rattle.std.proofs.Common.{◌≡◌, ◌+◌, arith, rules, get_or}
use lib.Dec.{ltb, leb}
use borrow.Author.Tests.{ltb-true, le-ltb}
use Rattle.std.specs.Int.{from_bool}
use Rattle.ground.specs.Limits.{kind_limit}
use Rattle.ground.specs.Entry.{entry_at}
use Rattle.checks.proofs.SweepLaws.{down, none_refused}
use Rattle.checks.proofs.checks.all_pass.Goals as goal

pub returns : goal.returns
returns c passes =
    let a = c.args in
    let s = a.candidates.now in
    none_refused a.n s.start.now s.end.now s.kind.now s.entry.now a.matrix.now.height a.matrix.now.width
    (record {
      kinds = λ k h. let (r, p, l) = c.highest.ensures k h in let e : r ≡ get_or s.kind.now k 0 = search rules in le-ltb kind_limit _ (omega arith);
      order = λ k h. let (r, p, l) = c.highest-2.ensures k (omega arith) in let e : r ≡ from_bool (ltb (get_or s.start.now (k + 1) 0) (get_or s.start.now k 0)) = search rules in down _ (omega arith);
      forward = λ k h. let (r, p, l) = c.highest-3.ensures k h in let e : r ≡ from_bool (leb (get_or s.end.now k 0) (get_or s.start.now k 0)) = search rules in down _ (omega arith);
      inside = λ k h. let (r, p, l) = c.highest-4.ensures k h in let e : r ≡ get_or s.end.now k 0 = search rules in omega arith;
      left_ids = λ k h. let (r, p, l) = c.highest-5.ensures k h in let e : r ≡ (entry_at s.entry.now k).left_id = search rules in omega arith;
      right_ids = λ k h. let (r, p, l) = c.highest-6.ensures k h in let e : r ≡ (entry_at s.entry.now k).right_id = search rules in omega (arith, ltb-true _ _ passes);
    })
