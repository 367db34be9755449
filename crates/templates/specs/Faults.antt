-- Which fault a stop tells.
use Rattle.std.specs.Prelude.{◌≡◌, ⊤, List, Some}
use Rattle.meaning.specs.Texts.{first_of_list}
use Rattle.meaning.specs.BundlePlaces.{BundleFault, Broken, faults_at}
use Rattle.doc_tree.specs.Places.{part_of, fault_of}
use Rattle.templates.specs.declared.fault.TemplateStop.{TemplateStop}
use Rattle.templates.specs.declared.fault.TemplateStop.TheVariants.{Fault, NoMemory}
use Rattle.templates.specs.declared.fault.Place.{Place}

-- the stop is the first of the faults; want of memory tells nothing of them
abbrev pub IsFirst : List BundleFault → TemplateStop → Type 0
IsFirst faults (Fault f) = first_of_list faults ≡ Some (fault_of f)
IsFirst faults NoMemory = ⊤

-- what is broken at a place
abbrev pub faults_here : Place → List Broken → List BundleFault
faults_here p broken = faults_at (part_of p.part) p.item p.sub broken
