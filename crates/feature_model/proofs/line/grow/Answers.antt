use Rattle.std.proofs.Common.{◌∙◌, ap₂}
use Rattle.feature_model.specs.Children.{members_of, with_child}
use Rattle.feature_model.proofs.line.grow.Goals as goal

pub join-requires : goal.join-requires
join-requires c = rw (c.or_parent.ensures) c.requires.ors

pub join-requires-2 : goal.join-requires-2
join-requires-2 c = rw (c.alternative_parent.ensures) c.requires.alternatives

pub returns-clause-ors : goal.returns-clause-ors
returns-clause-ors c =
    c.in_ok-join.ensures ∙ ap₂ (λ parent child. with_child (members_of c.args.ors.now.items) parent child) c.or_parent.ensures c.in_ok-child.ensures.added.0

pub returns-clause-alternatives : goal.returns-clause-alternatives
returns-clause-alternatives c =
    c.in_ok-join-2.ensures ∙ ap₂ (λ parent child. with_child (members_of c.args.alternatives.now.items) parent child) c.alternative_parent.ensures c.in_ok-child.ensures.added.0
