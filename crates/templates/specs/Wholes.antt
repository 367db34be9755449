-- For private clauses: the templates of a bundle from what is read of each.
use Rattle.std.specs.Prelude.{ℕ, List, [], ◌∷◌, map, codes}
use Rattle.meaning.specs.Documents.{Document, list_at}
use Rattle.meaning.specs.Models.{Model}
use Rattle.meaning.specs.QueryTexts.{Scope}
use Rattle.meaning.specs.Templates.{TemplateNode, Template}
use Rattle.meaning.specs.BundlePlaces.{name_in}
use Rattle.meaning.specs.TemplateRules.{id_in}
use Rattle.templates.specs.ListRules.{parameters_in}
use Rattle.templates.specs.NodeRules.{nodes_told}

-- the nodes of a template
abbrev pub nodes_in : Model → List (List ℕ) → Document → List TemplateNode
nodes_in m templates d =
    nodes_told m templates (parameters_in m d) (map id_in (list_at (codes "nodes") d)) [] (list_at (codes "nodes") d)

-- templates with these names, parameters and nodes
abbrev pub joined_views : List Document → List Scope → List (List TemplateNode) → List Template
joined_views (d ∷ ds) (ps ∷ pss) (ns ∷ nss) = record { name = name_in d; parameters = ps; nodes = ns } ∷ joined_views ds pss nss
joined_views _ _ _ = []
