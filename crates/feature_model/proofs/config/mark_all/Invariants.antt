use Rattle.std.proofs.Common.{◌≡◌, take, drop, Some}
use Rattle.meaning.specs.Documents.{texts_in}
use Rattle.meaning.specs.Configurations.{world_of, first_bad, or_world, of_names}
use Rattle.doc_tree.specs.View.{documents}
use Rattle.feature_model.proofs.config.mark_all.Given as goal

abbrev pub invariant-items : goal.invariant-items
invariant-items l =
    (l.world ≡ world_of l.features (texts_in (documents (take l.at l.items))))
    × (or_world l.features (texts_in (documents l.items)) (first_bad l.features (texts_in (documents (take l.at l.items))) l.at (texts_in (documents (drop l.at l.items))))
    ≡ of_names l.features (Some (texts_in (documents l.items))))
