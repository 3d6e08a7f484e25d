-- What one read gave stands behind what came before.
use Rattle.std.proofs.Common.{◌≡◌, ℕ, ◌+◌, ◌≤◌, List, ◌++◌, rules, length, take, drop, sym, ap, ◌∙◌, subst, drop_at, length-take-le}
use Rattle.std.specs.Io.KnownBytes.{Consumes}
use Rattle.std.proofs.KnownBytes.{Consumes-trans}
use lib.Seq.{take-add, take_at, take-append-le}
use Rattle.replay.proofs.list.read_full.Goals as goal

take_two : (a n : ℕ) (xs ys after : List ℕ) → a ≤ length xs → n ≤ length ys → take (a + n) (take a xs ++ (ys ++ after)) ≡ take a xs ++ take n ys
take_two a n xs ys after within fits =
    let front = take a xs in
    let here = length-take-le a xs within in
    take-add a n (front ++ (ys ++ after))
    ∙ ap (λ l. l ++ take n (drop a (front ++ (ys ++ after)))) (take_at front (ys ++ after) a here)
    ∙ ap (λ l. front ++ take n l) (drop_at front (ys ++ after) a here)
    ∙ ap (λ l. front ++ l) (take-append-le n ys after fits)

pub loop-done-preserved : goal.loop-done-preserved
loop-done-preserved g c =
    let so_far = c.loop-done in
    record {
      within = search rules;
      read = subst (Consumes _ _) (sym (take_two so_far.done c.in-Ok.n so_far.bytes c.read.new.buf _ so_far.invariant.within c.in-Ok.ensures.bound.0))
          (Consumes-trans _ _ _ _ _ so_far.invariant.read c.in-Ok.ensures.bytes.0);
    }
