use Rattle.std.proofs.Common.{◌∙◌, ap, false}
use Rattle.std.specs.Prelude.{◌&&◌, ◌||◌, not, codes, slice_index_or}
use Rattle.meaning.specs.Documents.{truth_at}
use Rattle.meaning.specs.TemplateRules.{kind_in, is_goal_or_strategy}
use Rattle.doc_tree.specs.View.{document, documents}
use Rattle.templates.proofs.SupportLaws.{undeveloped_is}
use Rattle.templates.proofs.reader.Reader.is_developed.Goals as goal

pub returns : goal.returns
returns c =
    let r = c.args.self.now in
    let d = document c.args.node.now in
    c.is_developed_enough.ensures
    ∙ (ap (λ b. not (truth_at (codes "undeveloped") d) || (is_goal_or_strategy (kind_in d) && not b)) c.is_supported.ensures
    ∙ undeveloped_is r.counted (documents r.nodes.now) c.args.number d r.support.now.formed (slice_index_or r.support.now.marks.items c.args.number false)
    c.requires.fits.formed (λ e. c.requires.fits.marks e c.args.number) c.requires.formed)
