-- What the data of this crate mean: the records of the definitions.
use Rattle.std.specs.Prelude.{map}
use Rattle.meaning.specs.Models as meaning
use Rattle.cond_text.specs.View.{expression}
use Rattle.annotated_model.specs.declared.data.TypeDef.{TypeDef}
use Rattle.annotated_model.specs.declared.data.LinkKind.{LinkKind}
use Rattle.annotated_model.specs.declared.data.Element.{Element}
use Rattle.annotated_model.specs.declared.data.Link.{Link}
use Rattle.annotated_model.specs.declared.data.State.{State}
use Rattle.annotated_model.specs.declared.data.Transition.{Transition}
use Rattle.annotated_model.specs.declared.data.System.{System}

abbrev pub type_view : TypeDef → meaning.TypeDef
type_view t = record { name = t.name; parent = t.parent; attributes = t.attributes; has_system = t.system }

abbrev pub kind_view : LinkKind → meaning.LinkKind
kind_view k = record { name = k.name; source = k.from; target = k.to }

-- an element; its system is told by the systems
abbrev pub element_view : Element → meaning.Element
element_view e = record { name = e.name; of_type = e.of_type; presence = expression e.when; attributes = e.attributes }

abbrev pub link_view : Link → meaning.Link
link_view l = record { kind = l.kind; source = l.from; target = l.to; presence = expression l.when }

abbrev pub state_view : State → meaning.State
state_view s = record { name = s.name; initial = s.initial; labels = s.labels }

abbrev pub transition_view : Transition → meaning.Transition
transition_view t = record { source = t.from; target = t.to; action = t.action; presence = expression t.when }

abbrev pub system_view : System → meaning.System
system_view s = record { element = s.element; states = map state_view s.states; transitions = map transition_view s.transitions }
