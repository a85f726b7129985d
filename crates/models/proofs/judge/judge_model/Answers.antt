use Rattle.models.proofs.Judgements.{judged_broken, judged_row, judged_condition, judged_fact, judged_all}
use Rattle.models.proofs.judge.judge_model.Goals as goal

pub returns-then-not-is_regular : goal.returns-then-not-is_regular
returns-then-not-is_regular g c within = judged_broken _ _ _ _ _ c.is_regular.result c.is_regular.ensures c.if-not-is_regular.true

pub returns-in-Some : goal.returns-in-Some
returns-in-Some g c within = judged_row _ _ _ _ _ c.is_regular.result c.is_regular.ensures c.in-Some.atom c.if-not-is_regular.false c.in-Some.ensures

pub returns-in-Some-failing_condition : goal.returns-in-Some-failing_condition
returns-in-Some-failing_condition g c within =
    judged_condition _ _ _ _ _ c.is_regular.result c.is_regular.ensures c.in-Some-failing_condition.place c.if-not-is_regular.false c.in_default.ensures c.in-Some-failing_condition.ensures

pub returns-in-Some-failing_fact : goal.returns-in-Some-failing_fact
returns-in-Some-failing_fact g c within =
    judged_fact _ _ _ _ _ c.is_regular.result c.is_regular.ensures c.in-Some-failing_fact.position c.if-not-is_regular.false c.in_default.ensures c.in_default-failing_condition.ensures
    (c.in-Some-failing_fact.ensures within)

pub returns : goal.returns
returns g c within =
    judged_all _ _ _ _ _ c.is_regular.result c.is_regular.ensures c.if-not-is_regular.false c.in_default.ensures c.in_default-failing_condition.ensures
    (c.in_default-failing_fact.ensures within) (λ x _. within x)
