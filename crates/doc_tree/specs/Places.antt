-- What a `Part` and a `BundleFault` mean: the part and the fault of the definitions.
use Rattle.meaning.specs.BundlePlaces as meaning
use Rattle.doc_tree.specs.declared.fault.Part.{Part}
use Rattle.doc_tree.specs.declared.fault.Part.TheVariants as part
use Rattle.doc_tree.specs.declared.fault.BundleFault.{BundleFault}

abbrev pub part_of : Part → meaning.Part
part_of part.Document = meaning.Document'
part_of part.Bundle = meaning.Bundle
part_of part.Features = meaning.Features
part_of part.Rules = meaning.Rules
part_of part.Types = meaning.Types
part_of part.Kinds = meaning.Kinds
part_of part.Labels = meaning.Labels
part_of part.Elements = meaning.Elements
part_of part.Links = meaning.Links
part_of part.Systems = meaning.Systems
part_of part.States = meaning.States
part_of part.Transitions = meaning.Transitions
part_of part.Owners = meaning.Owners
part_of part.Templates = meaning.Templates
part_of part.Params = meaning.Params
part_of part.Nodes = meaning.Nodes
part_of part.Line = meaning.Line'
part_of part.Valid = meaning.Valid
part_of part.Table = meaning.Table
part_of part.Relations = meaning.Relations

abbrev pub fault_of : BundleFault → meaning.BundleFault
fault_of f = record { rule = f.rule; part = part_of f.part; item = f.item; sub = f.sub; at = f.at }
