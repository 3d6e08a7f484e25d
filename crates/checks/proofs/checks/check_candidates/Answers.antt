use Rattle.std.proofs.Common.{ap, sym}
use Rattle.std.specs.Prelude.{Option}
use Rattle.ground.specs.declared.answer.Refusal.{Refusal}
use Rattle.ground.specs.Answer.{unless}
use Rattle.checks.proofs.checks.check_candidates.Goals as goal

pub returns-then-all_pass : goal.returns-then-all_pass
returns-then-all_pass c = ap (λ (o : Option Refusal). unless o tt) (sym (c.all_pass.ensures c.if-all_pass.true))
