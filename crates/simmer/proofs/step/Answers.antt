use Rattle.std.proofs.Common.{rules, ap}
use Rattle.simmer.proofs.StepLaws.{step_answered}
use Rattle.simmer.proofs.step.Goals as goal

-- By hand, so that a window that stays behind an answered pair is refused for what it says.
pub returns-in-Answered-clause-stepped : goal.returns-in-Answered-clause-stepped
returns-in-Answered-clause-stepped g c =
    step_answered c.in-Answered.used c.in-Answered.bytes c.if-input-2.false c.if-input.false (cc (c.in-Answered.ensures, c.unread.ensures)) (search rules) (search rules) (search rules) (search rules)
