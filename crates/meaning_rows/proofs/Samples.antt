-- The documents that the worked examples start from, and how they are varied.
-- In them a single quote stands for a double one, and a backquote for a single one.
use Rattle.std.specs.Prelude.{ℕ, zero, suc, List, [], ◌∷◌, ◌++◌, map, length, drop, Bool, true, false, ◌&&◌, ◌==◌, if◌then◌else◌, Option, Some, None, option_map, unwrap_or, codes, ⊤}
use Rattle.std.specs.Str.{is_utf8, chars}
use Rattle.std.specs.Fmt.{digits}
use Rattle.serde_json.proofs.OnLiterals.{serde_json_on_literals}
use Rattle.meaning.specs.Documents.{Json, document_of}
use Rattle.meaning.specs.Expressions.{expression_of}
use Rattle.meaning.specs.ExpressionFaults.{expression_fault}
use Rattle.meaning.specs.Features.{is_valid, line_of}
use Rattle.meaning.specs.Models.{model_at, model_of}
use Rattle.meaning.specs.Queries.{answers}
use Rattle.meaning.specs.QueryTexts.{query_of}
use Rattle.meaning.specs.QueryFaults.{query_fault}
use Rattle.meaning.specs.HoleFaults.{text_hole_fault}
use Rattle.meaning.specs.Cases.{statuses, text_of_case}
use Rattle.meaning.specs.Templates.{instance}
use Rattle.meaning.specs.TemplateTexts.{templates_of, parts_of}
use Rattle.meaning.specs.CaseFiles.{holds, cut}
use Rattle.meaning.specs.CaseReading.{case_document_of, read_case}
use Rattle.meaning.specs.Configurations.{configuration_of}
use Rattle.meaning.specs.Derivation.{bundle_of, case_at, direct, derived}
use Rattle.meaning.specs.BundlePlaces.{Part, BundleFault}
use Rattle.meaning.specs.LineRules.{line_faults, feature_rules, line_rule_rules}
use Rattle.meaning.specs.ModelRules.{model_faults, type_rules, kind_rules, label_rules, element_rules, link_rules, system_rules, state_rules, transition_rules}
use Rattle.meaning.specs.TemplateRules.{template_faults, template_rules, parameter_rules, node_rules}
use Rattle.meaning.specs.BundleRules.{top_faults, bundle_faults, first_fault, first_fault_of_bytes}

-- ---- texts

abbrev pub quote_of : ℕ → ℕ
quote_of c = if c == 39 then 34 else (if c == 96 then 39 else c)

abbrev pub json : List ℕ → List ℕ
json s = map quote_of s

-- n copies of a text
abbrev pub repeated : ℕ → List ℕ → List ℕ
repeated zero s = []
repeated (suc n) s = s ++ repeated n s

abbrev pub begins_with : List ℕ → List ℕ → Bool
begins_with [] s = true
begins_with (c ∷ cs) [] = false
begins_with (c ∷ cs) (d ∷ ds) = (c == d) && begins_with cs ds

-- the text with another piece in the first place where this one stands, if it stands there
abbrev pub replaced : (old new : List ℕ) → List ℕ → Option (List ℕ)
replaced old new [] = None
replaced old new (c ∷ cs) =
    if begins_with old (c ∷ cs) then Some (new ++ drop (length old) (c ∷ cs)) else option_map (λ s. c ∷ s) (replaced old new cs)

-- a document with one piece replaced, and the empty text where the piece isn't in it
abbrev pub edited : List ℕ → (old new : List ℕ) → List ℕ
edited document old new = unwrap_or (replaced (json old) (json new) document) []

-- ---- the smallest bundle

unfoldable pub smallest_bundle : List ℕ
smallest_bundle = json (
    codes "{'bundle':1,'title':'T','line':{'features':[{'name':'R'}]},'templates':[{'name':'Top',"
    ++ codes "'nodes':[{'id':'g','kind':'goal','text':'Safe'}]}]}")

-- the same in TOML, where the double quotes are plain
unfoldable pub smallest_toml : List ℕ
smallest_toml = codes "bundle = 1\ntitle = \"T\"\n[line]\nfeatures = [{name = \"R\"}]\n[[templates]]\nname = \"Top\"\nnodes = [{id = \"g\", kind = \"goal\", text = \"Safe\"}]\n"

unfoldable pub smallest_case : List ℕ
smallest_case = json (
    codes "{'case':1,'features':['R'],'nodes':[{'key':'0','kind':'goal','text':['Safe'],'when':2}],'relations':[],"
    ++ codes "'systems':[],'table':[[0,0,1]],'title':'T','valid':2}" ++ codes "\n")

-- ---- bundles of features, a model and the nodes of one template

abbrev pub framed : (features model nodes : List ℕ) → List ℕ
framed features model nodes =
    json (codes "{'bundle':1,'title':'Row','line':{'features':") ++ features ++ json (codes "},'model':") ++ model
    ++ json (codes ",'templates':[{'name':'Top','nodes':") ++ nodes ++ json (codes "}]}")

-- a root and two features under it
abbrev pub three_features : List ℕ
three_features = json (codes "[{'name':'R'},{'name':'A','parent':'R'},{'name':'B','parent':'R'}]")

-- of which exactly one is chosen
abbrev pub two_alternatives : List ℕ
two_alternatives = json (
    codes "[{'name':'R'},{'name':'A','parent':'R','kind':'alternative'},{'name':'B','parent':'R',"
    ++ codes "'kind':'alternative'}]")

-- one element for each feature
abbrev pub two_elements : List ℕ
two_elements = json (
    codes "{'types':[{'name':'N'}],'kinds':[{'name':'k','from':'N','to':'N'}],'elements':[{'name':'x','type':'N',"
    ++ codes "'when':'A'},{'name':'y','type':'N','when':'B'}]}")

-- and a link from the first to the second
abbrev pub linked_elements : List ℕ
linked_elements = json (
    codes "{'types':[{'name':'N'}],'kinds':[{'name':'k','from':'N','to':'N'}],'elements':[{'name':'x','type':'N',"
    ++ codes "'when':'A'},{'name':'y','type':'N','when':'B'}],'links':[{'kind':'k','from':'x','to':'y'}]}")

-- three elements in a chain, the second under a condition
abbrev pub chained_elements : List ℕ
chained_elements = json (
    codes "{'types':[{'name':'N'}],'kinds':[{'name':'k','from':'N','to':'N'}],'elements':[{'name':'a','type':'N'},"
    ++ codes "{'name':'b','type':'N','when':'A'},{'name':'c','type':'N'}],'links':[{'kind':'k','from':'a','to':'b'},"
    ++ codes "{'kind':'k','from':'b','to':'c'}]}")

-- an element with a system that slips into a bad state
abbrev pub checked_element : List ℕ
checked_element = json (
    codes "{'types':[{'name':'N','system':true}],'labels':['bad'],'elements':[{'name':'c','type':'N'}],"
    ++ codes "'systems':[{'element':'c','states':[{'name':'s0','initial':true},{'name':'s1'},{'name':'s2'},"
    ++ codes "{'name':'bad','labels':['bad']}],'transitions':[{'from':'s0','to':'s1','action':'go'},{'from':'s1',"
    ++ codes "'to':'s2','action':'go'},{'from':'s1','to':'bad','action':'slip','when':'!A'}]}]}")

-- a goal for each element
abbrev pub one_enumeration : List ℕ
one_enumeration = json (
    codes "[{'id':'g','kind':'goal','text':'All'},{'id':'s','kind':'strategy','under':'g','text':'Over {#}',"
    ++ codes "'each':'n: N'},{'id':'c','kind':'goal','under':'s','text':'Handle {n.name}'}]")

-- a goal for each pair that a chain of links joins
abbrev pub pairs_enumeration : List ℕ
pairs_enumeration = json (
    codes "[{'id':'g','kind':'goal','text':'All'},{'id':'s','kind':'strategy','under':'g','text':'Over {#} pairs',"
    ++ codes "'each':'p: N, q: N with p [k+] q'},{'id':'c','kind':'goal','under':'s','text':'{p.name} to {q.name}'}]")

-- a goal for each element, and for each that it links to
abbrev pub nested_enumeration : List ℕ
nested_enumeration = json (
    codes "[{'id':'g','kind':'goal','text':'All'},{'id':'s','kind':'strategy','under':'g','text':'Over {#}',"
    ++ codes "'each':'n: N'},{'id':'c','kind':'goal','under':'s','text':'Handle {n.name}'},{'id':'t',"
    ++ codes "'kind':'strategy','under':'c','text':'Over {#}','each':'m: N with n [k] m'},{'id':'d','kind':'goal',"
    ++ codes "'under':'t','text':'{n.name} to {m.name}'}]")

-- a goal for each element, with a check of its system
abbrev pub checked_enumeration : List ℕ
checked_enumeration = json (
    codes "[{'id':'g','kind':'goal','text':'All'},{'id':'s','kind':'strategy','under':'g','text':'Over {#}',"
    ++ codes "'each':'n: N'},{'id':'c','kind':'goal','under':'s','text':'{n.name} is safe'},{'id':'e',"
    ++ codes "'kind':'solution','under':'c','text':'Check','check':{'never':'bad','of':'n'}}]")

unfoldable pub one_enumeration_bundle : List ℕ
one_enumeration_bundle = framed three_features two_elements one_enumeration

unfoldable pub alternatives_bundle : List ℕ
alternatives_bundle = framed two_alternatives two_elements one_enumeration

unfoldable pub pairs_bundle : List ℕ
pairs_bundle = framed three_features chained_elements pairs_enumeration

unfoldable pub nested_bundle : List ℕ
nested_bundle = framed two_alternatives linked_elements nested_enumeration

unfoldable pub system_bundle : List ℕ
system_bundle = framed three_features checked_element checked_enumeration

-- a template with a parameter, and one that uses it
unfoldable pub library_bundle : List ℕ
unfolding one_enumeration_bundle
library_bundle = edited
    (edited one_enumeration_bundle (codes "'templates':[")
    (codes "'templates':[{'name':'Lib','params':[{'name':'p','type':'N'}],'nodes':[{'id':'g','kind':'goal','text':'{p.name}'}]},"))
    (codes "'text':'Handle {n.name}'}")
    (codes "'text':'Handle {n.name}'},{'id':'u','kind':'use','under':'s','template':'Lib','args':['n']}")

-- ---- built cases

unfoldable pub one_enumeration_case : List ℕ
one_enumeration_case = json (
    codes "{'case':1,'features':['R','A','B'],'nodes':[{'key':'0','kind':'goal','text':['All'],'when':2},"
    ++ codes "{'branches':[4,6],'key':'0/1','kind':'strategy','text':['Over ',0],'when':2},{'key':'0/1/0:2',"
    ++ codes "'kind':'goal','text':['Handle x'],'when':4},{'key':'0/1/1:2','kind':'goal','text':['Handle y'],"
    ++ codes "'when':6}],'relations':[{'from':0,'kind':'supported','to':1,'when':2},{'from':1,'kind':'supported',"
    ++ codes "'to':2,'when':4},{'from':1,'kind':'supported','to':3,'when':6}],'systems':[],'table':[[0,0,1],[1,0,1],"
    ++ codes "[0,0,3],[2,0,1],[0,0,5]],'title':'Row','valid':2}"
    ++ codes "\n")

unfoldable pub system_case : List ℕ
system_case = json (
    codes "{'case':1,'features':['R','A','B'],'nodes':[{'key':'0','kind':'goal','text':['All'],'when':2},"
    ++ codes "{'branches':[2],'key':'0/1','kind':'strategy','text':['Over ',0],'when':2},{'key':'0/1/0:2',"
    ++ codes "'kind':'goal','text':['c is safe'],'when':2},{'finding':{'check':'never','expr':'bad','refuted':4,"
    ++ codes "'system':0,'targets':[[3,4]]},'key':'0/1/0:2/3','kind':'solution','text':['Check'],'when':2}],"
    ++ codes "'relations':[{'from':0,'kind':'supported','to':1,'when':2},{'from':1,'kind':'supported','to':2,"
    ++ codes "'when':2},{'from':2,'kind':'supported','to':3,'when':2}],'systems':[{'element':'c','parents':[2,2,4],"
    ++ codes "'reached':[2,2,2,4],'states':['s0','s1','s2','bad'],'transitions':[[0,1,'go'],[1,2,'go'],[1,3,"
    ++ codes "'slip']]}],'table':[[0,0,1],[1,1,0],[0,0,3]],'title':'Row','valid':2}"
    ++ codes "\n")

-- ---- what an answer opens to compute a whole example, and the first fault of a bundle

unfoldable pub meaning_on_literals : ⊤
unfolding serde_json_on_literals is_utf8 chars digits document_of expression_of is_valid line_of model_at model_of answers query_of statuses text_of_case instance templates_of parts_of holds cut case_document_of read_case configuration_of bundle_of case_at direct derived smallest_bundle smallest_toml smallest_case one_enumeration_bundle alternatives_bundle pairs_bundle nested_bundle system_bundle library_bundle one_enumeration_case system_case
meaning_on_literals = tt

unfoldable pub rules_on_literals : ⊤
unfolding meaning_on_literals expression_fault query_fault text_hole_fault top_faults line_faults model_faults template_faults bundle_faults first_fault first_fault_of_bytes feature_rules line_rule_rules type_rules kind_rules label_rules element_rules link_rules system_rules state_rules transition_rules template_rules parameter_rules node_rules
rules_on_literals = tt

-- ---- faults

abbrev pub fault : (rule : ℕ) → Part → (item sub at : ℕ) → BundleFault
fault rule part item sub at = record { rule = rule; part = part; item = item; sub = sub; at = at }

-- the first fault of a bundle in JSON
abbrev pub fault_of : List ℕ → Option BundleFault
fault_of bundle = first_fault_of_bytes Json bundle
