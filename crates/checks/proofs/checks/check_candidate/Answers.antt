use Rattle.std.proofs.Common.{sym, ◌∙◌}
use Rattle.checks.proofs.checks.check_candidate.Goals as goal

pub returns-then-bad_kind : goal.returns-then-bad_kind
returns-then-bad_kind c = rw (sym c.bad_kind.ensures ∙ c.if-bad_kind.true)

pub returns-then-below_previous : goal.returns-then-below_previous
returns-then-below_previous c =
    rw (sym c.bad_kind.ensures ∙ c.if-bad_kind.false, sym c.below_previous.ensures ∙ c.if-below_previous.true)

pub returns-then-bad_span : goal.returns-then-bad_span
returns-then-bad_span c =
    rw (
      sym c.bad_kind.ensures ∙ c.if-bad_kind.false,
      sym c.below_previous.ensures ∙ c.if-below_previous.false,
      sym c.bad_span.ensures ∙ c.if-bad_span.true,
    )

pub returns-then-bad_id : goal.returns-then-bad_id
returns-then-bad_id c =
    rw (
      sym c.bad_kind.ensures ∙ c.if-bad_kind.false,
      sym c.below_previous.ensures ∙ c.if-below_previous.false,
      sym c.bad_span.ensures ∙ c.if-bad_span.false,
      sym c.bad_id.ensures ∙ c.if-bad_id.true,
    )

pub returns : goal.returns
returns c =
    rw (
      sym c.bad_kind.ensures ∙ c.if-bad_kind.false,
      sym c.below_previous.ensures ∙ c.if-below_previous.false,
      sym c.bad_span.ensures ∙ c.if-bad_span.false,
      sym c.bad_id.ensures ∙ c.if-bad_id.false,
    )
