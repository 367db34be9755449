-- How a feature stands under its parent, as the definitions have it.
use Rattle.meaning.specs.Features as meaning
use Rattle.feature_model.specs.declared.line.Group.{Group}
use Rattle.feature_model.specs.declared.line.Group.TheVariants as group

abbrev pub group_view : Group → meaning.Group
group_view group.Mandatory = meaning.Mandatory
group_view group.Optional = meaning.Optional
group_view group.Or = meaning.Or
group_view group.Alternative = meaning.Alternative
