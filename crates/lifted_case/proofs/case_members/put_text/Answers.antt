use Rattle.lifted_case.proofs.case_members.put_text.Goals as goal

pub returns : goal.returns
returns c = c.in_ok-put.ensures _ c.in_ok-value.ensures
