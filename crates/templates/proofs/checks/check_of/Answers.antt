use Rattle.std.proofs.Common.{◌≡◌, ◌∙◌, sym, ap, None}
use Rattle.std.specs.Prelude.{codes, option_map, option_and_then}
use Rattle.meaning.specs.TemplateTexts as texts
use Rattle.cond_text.specs.View.{expression}
use Rattle.doc_tree.specs.View.{document}
use Rattle.templates.specs.CheckReads.{never_in, without_expression}
use Rattle.templates.specs.QueryReads.{parsed}
use Rattle.templates.proofs.CheckLaws.{never_in_check, query_in_check, check_without}
use Rattle.templates.proofs.checks.check_of.Goals as goal

pub returns-in-None-never : goal.returns-in-None-never
returns-in-None-never c =
    let m = c.args.model.now in
    let scope = c.args.scope.now in
    let d = document c.args.node.now in
    let v = document c.in-Some.check.now in
    let there = sym c.in-Some.ensures in
    let no_never : None ≡ never_in m.labels v = ap (option_map expression) (sym c.in-None-never.is) ∙ (c.requires.never ∙ never_in_check m.labels d v there) in
    c.check_without_expression.ensures
    ∙ (check_without m scope v (option_map parsed c.args.queries.absent) (option_map parsed c.args.queries.demanded) no_never
    (c.requires.absent ∙ query_in_check m scope (codes "none") d v there) (c.requires.demanded ∙ query_in_check m scope (codes "some") d v there)
    ∙ ap (option_and_then (texts.check_of m scope)) c.in-Some.ensures)
