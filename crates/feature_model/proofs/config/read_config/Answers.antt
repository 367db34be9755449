use Rattle.std.proofs.Common.{◌∙◌, ap, replicate, false}
use Rattle.feature_model.proofs.NamedWorlds.{no_names}
use Rattle.feature_model.proofs.config.read_config.Goals as goal

pub mark_all-requires-clause-none : goal.mark_all-requires-clause-none
mark_all-requires-clause-none c =
    c.deref_mut.ensures.value ∙ (c.in_ok-world.ensures.items_if_clones_equal (λ y e. e) ∙ (ap (λ n. replicate n false) (c.from.ensures ∙ c.count.ensures.count) ∙ no_names c.args.features.now))
