-- Reports, broken rules and generated bundles, computed by the check.
use Rattle.std.specs.Prelude.{◌≡◌, ℕ, List, [], ◌∷◌, ◌++◌, length, Bool, false, ◌&&◌, ◌==◌, if◌then◌else◌, Some, refl, codes, option_map, bytes_eq, filter}
use Rattle.std.specs.List.{list_any}
use Rattle.meaning.specs.Texts.{flat}
use Rattle.meaning.specs.Documents.{Json, Document, document_of}
use Rattle.meaning.specs.Features.{is_valid, feature_names}
use Rattle.meaning.specs.CaseReading.{Broken, Is, read_case}
use Rattle.meaning.specs.Rules.{broken}
use Rattle.meaning.specs.Derivation.{Bundle, bundle_of}
use Rattle.meaning.specs.Worlds.{worlds}
use Rattle.meaning.specs.Reports.{report_text, presences_over}
use Rattle.meaning.specs.RuleViolations.{violations_among, violation_lines}
use Rattle.meaning.specs.Statuses.{status_line, RulesBroken}
use Rattle.meaning.specs.Generator.{bundle_of_seed, summary}
use Rattle.meaning.specs.Entries.{Entry, of_node, of_branch, of_target, of_witness, entries_at, keys_at, solutions_at, refuted_at}
use Rattle.meaning_rows.proofs.Samples.{json, edited, smallest_case, system_case, meaning_on_literals}

-- ---- reports

reported : ℕ → List ℕ → List ℕ
reported features case = elim (read_case case) as (λ _. List ℕ) [ Broken f ↦ [] | Is k ↦ report_text k (presences_over (worlds features) k) ]

report_of_system_text : List ℕ
report_of_system_text =
    codes "report Row\n0 goal always\n0/1 strategy always\n0/1/0:2 goal always\n0/1/0:2/3 solution always\n  refuted sometimes with R\n"

report_of_system : reported 3 system_case ≡ report_of_system_text
unfolding meaning_on_literals reported report_text system_case report_of_system_text
report_of_system = refl

unfoldable nested_case : List ℕ
nested_case = json (
    codes "{'case':1,'features':['R','A','B'],'nodes':[{'key':'0','kind':'goal','text':['All'],'when':5},"
    ++ codes "{'branches':[7,9],'key':'0/1','kind':'strategy','text':['Over ',0],'when':5},{'key':'0/1/0:2',"
    ++ codes "'kind':'goal','text':['Handle x'],'when':7},{'branches':[7],'key':'0/1/0:2/3','kind':'strategy',"
    ++ codes "'text':['Over ',0],'when':7},{'key':'0/1/0:2/3/0:4','kind':'goal','text':['x to x'],'when':7},"
    ++ codes "{'key':'0/1/1:2','kind':'goal','text':['Handle y'],'when':9},{'branches':[9],'key':'0/1/1:2/3',"
    ++ codes "'kind':'strategy','text':['Over ',0],'when':9},{'key':'0/1/1:2/3/1:4','kind':'goal','text':['y to y'],"
    ++ codes "'when':9}],'relations':[{'from':0,'kind':'supported','to':1,'when':5},{'from':1,'kind':'supported',"
    ++ codes "'to':2,'when':7},{'from':2,'kind':'supported','to':3,'when':7},{'from':3,'kind':'supported','to':4,"
    ++ codes "'when':7},{'from':1,'kind':'supported','to':5,'when':9},{'from':5,'kind':'supported','to':6,'when':9},"
    ++ codes "{'from':6,'kind':'supported','to':7,'when':9}],'systems':[],'table':[[2,0,1],[2,1,0],[1,2,3],[0,0,4],[1,"
    ++ codes "0,3],[0,0,6],[1,2,0],[0,0,8]],'title':'Row','valid':5}" ++ codes "\n")

report_of_nested_text : List ℕ
report_of_nested_text =
    codes "report Row\n0 goal always\n0/1 strategy always\n0/1/0:2 goal sometimes with R A\n0/1/0:2/3 strategy sometimes with R A\n0/1/0:2/3/0:4 goal sometimes with R A\n0/1/1:2 goal sometimes with R B\n0/1/1:2/3 strategy sometimes with R B\n0/1/1:2/3/1:4 goal sometimes with R B\n"

report_of_nested : reported 3 nested_case ≡ report_of_nested_text
unfolding meaning_on_literals reported report_text nested_case report_of_nested_text
report_of_nested = refl

unfoldable no_world_case : List ℕ
no_world_case = edited system_case (codes "'valid':2") (codes "'valid':0")

report_of_no_world_text : List ℕ
report_of_no_world_text =
    codes "report Row\n0 goal never\n0/1 strategy never\n0/1/0:2 goal never\n0/1/0:2/3 solution never\n  refuted never\n"

report_of_no_world : reported 3 no_world_case ≡ report_of_no_world_text
unfolding meaning_on_literals reported report_text no_world_case report_of_no_world_text
report_of_no_world = refl

-- ---- rules

told_rules : ℕ → List ℕ → List ℕ
told_rules features case = elim (read_case case) as (λ _. List ℕ) [
  | Broken f ↦ []
  | Is k ↦ let vs = violations_among (worlds features) k in status_line (RulesBroken (length vs)) ++ violation_lines k.features vs
]

unfoldable two_roots_case : List ℕ
two_roots_case = edited smallest_case (codes "'Safe'") (codes "'Safe'],'when':2},{'key':'1','kind':'goal','text':['Lost'")

two_roots_text : List ℕ
two_roots_text =
    codes "plcase: 1 rules broken\nGR3 0 with R\n"

two_roots : told_rules 1 two_roots_case ≡ two_roots_text
unfolding meaning_on_literals told_rules broken status_line two_roots_case two_roots_text
two_roots = refl

kept_in_system_text : List ℕ
kept_in_system_text =
    codes "plcase: 0 rules broken\n"

kept_in_system : told_rules 3 system_case ≡ kept_in_system_text
unfolding meaning_on_literals told_rules broken status_line system_case kept_in_system_text
kept_in_system = refl

unfoldable many_broken_case : List ℕ
many_broken_case = edited (edited (edited system_case (codes "'key':'0/1'") (codes "'key':'0'")) (codes "2,'kind':'supported','to':") (
    codes "2,'kind':'supported','to':0,'when':2},{'from':3,'kind':'context','to':2,'when':4},{'from':1,"
    ++ codes "'kind':'supported','to':")) (codes "3,'when':2") (codes "3,'when':4")

many_broken_text : List ℕ
many_broken_text =
    codes "plcase: 10 rules broken\nGR1 4 with R\nGR2 3 with R\nGR3 0 with R\nGR4 3 with R A\nGR5 0 with R\nGR5 1 with R\nGR5 2 with R\nGR5 3 with R\nGR6 1 with R\nGR7 3 with R\n"

many_broken : told_rules 3 many_broken_case ≡ many_broken_text
unfolding meaning_on_literals told_rules broken status_line many_broken_case many_broken_text
many_broken = refl

-- ---- the generator

unfoldable generated : List ℕ
generated = json (
    codes "{'bundle':1,'line':{'features':[{'name':'R'},{'name':'F0','parent':'R'},{'name':'F1','parent':'R'},"
    ++ codes "{'name':'F2','parent':'R'}]},'model':{'elements':[{'name':'H0','type':'Hazard','when':'F0'},"
    ++ codes "{'name':'H1','type':'Hazard','when':'F1'},{'name':'H2','type':'Hazard','when':'F2'},{'name':'C0',"
    ++ codes "'type':'Component','when':'F0'},{'name':'C1','type':'Component','when':'F1'},{'name':'C2',"
    ++ codes "'type':'Component','when':'F2'}],'kinds':[{'from':'Hazard','name':'handles','to':'Component'}],"
    ++ codes "'labels':['bad'],'links':[{'from':'H0','kind':'handles','to':'C0'},{'from':'H0','kind':'handles',"
    ++ codes "'to':'C1'},{'from':'H0','kind':'handles','to':'C2'},{'from':'H1','kind':'handles','to':'C1'},"
    ++ codes "{'from':'H1','kind':'handles','to':'C2'},{'from':'H1','kind':'handles','to':'C0'},{'from':'H2',"
    ++ codes "'kind':'handles','to':'C2'},{'from':'H2','kind':'handles','to':'C0'},{'from':'H2','kind':'handles',"
    ++ codes "'to':'C1'}],'systems':[{'element':'C0','states':[{'initial':true,'name':'Idle'},{'name':'Busy'},"
    ++ codes "{'labels':['bad'],'name':'Bad'}],'transitions':[{'action':'go','from':'Idle','to':'Busy'},"
    ++ codes "{'action':'slip','from':'Busy','to':'Bad','when':'F1'},{'action':'done','from':'Busy','to':'Idle'}]},"
    ++ codes "{'element':'C1','states':[{'initial':true,'name':'Idle'},{'name':'Busy'},{'labels':['bad'],"
    ++ codes "'name':'Bad'}],'transitions':[{'action':'go','from':'Idle','to':'Busy'},{'action':'slip','from':'Busy',"
    ++ codes "'to':'Bad','when':'!F1'},{'action':'done','from':'Busy','to':'Idle'}]},{'element':'C2',"
    ++ codes "'states':[{'initial':true,'name':'Idle'},{'name':'Busy'},{'labels':['bad'],'name':'Bad'}],"
    ++ codes "'transitions':[{'action':'go','from':'Idle','to':'Busy'},{'action':'slip','from':'Busy','to':'Bad',"
    ++ codes "'when':'F0'},{'action':'done','from':'Busy','to':'Idle'}]}],'types':[{'name':'Hazard'},"
    ++ codes "{'name':'Component','system':true}]},'templates':[{'name':'Top','nodes':[{'id':'g','kind':'goal',"
    ++ codes "'text':'All hazards are handled'},{'each':'h: Hazard','id':'s','kind':'strategy',"
    ++ codes "'text':'Over {#} hazards','under':'g'},{'id':'c','kind':'goal','text':'Hazard {h.name}','under':'s'},"
    ++ codes "{'each':'d: Component with h [handles] d','id':'t','kind':'strategy','text':'Over {#} components',"
    ++ codes "'under':'c'},{'id':'e','kind':'goal','text':'Component {d.name}','under':'t'},{'check':{'never':'bad',"
    ++ codes "'of':'d'},'id':'f','kind':'solution','text':'Check of {d.name}','under':'e'}]}],'title':'Workload 3 3'}" ++ codes "\n")

generates : bundle_of_seed 3 3 ≡ generated
unfolding meaning_on_literals bundle_of_seed generated
generates = refl

unfoldable generated_of_much : List ℕ
generated_of_much = json (
    codes "{'bundle':1,'line':{'features':[{'name':'R'},{'name':'F0','parent':'R'},{'name':'F1','parent':'R'},"
    ++ codes "{'name':'F2','parent':'R'},{'name':'F3','parent':'R'}]},'model':{'elements':[{'name':'H0',"
    ++ codes "'type':'Hazard','when':'F0'},{'name':'H1','type':'Hazard','when':'F1'},{'name':'H2','type':'Hazard',"
    ++ codes "'when':'F2'},{'name':'H3','type':'Hazard','when':'F3'},{'name':'C0','type':'Component','when':'F0'},"
    ++ codes "{'name':'C1','type':'Component','when':'F1'},{'name':'C2','type':'Component','when':'F2'},{'name':'C3',"
    ++ codes "'type':'Component','when':'F3'}],'kinds':[{'from':'Hazard','name':'handles','to':'Component'}],"
    ++ codes "'labels':['bad'],'links':[{'from':'H0','kind':'handles','to':'C0'},{'from':'H0','kind':'handles',"
    ++ codes "'to':'C1'},{'from':'H0','kind':'handles','to':'C2'},{'from':'H1','kind':'handles','to':'C3'},"
    ++ codes "{'from':'H1','kind':'handles','to':'C0'},{'from':'H1','kind':'handles','to':'C1'},{'from':'H2',"
    ++ codes "'kind':'handles','to':'C2'},{'from':'H2','kind':'handles','to':'C3'},{'from':'H2','kind':'handles',"
    ++ codes "'to':'C0'},{'from':'H3','kind':'handles','to':'C1'},{'from':'H3','kind':'handles','to':'C2'},"
    ++ codes "{'from':'H3','kind':'handles','to':'C3'}],'systems':[{'element':'C0','states':[{'initial':true,"
    ++ codes "'name':'Idle'},{'name':'Busy'},{'labels':['bad'],'name':'Bad'}],'transitions':[{'action':'go',"
    ++ codes "'from':'Idle','to':'Busy'},{'action':'slip','from':'Busy','to':'Bad','when':'F1'},{'action':'done',"
    ++ codes "'from':'Busy','to':'Idle'}]},{'element':'C1','states':[{'initial':true,'name':'Idle'},{'name':'Busy'},"
    ++ codes "{'labels':['bad'],'name':'Bad'}],'transitions':[{'action':'go','from':'Idle','to':'Busy'},"
    ++ codes "{'action':'slip','from':'Busy','to':'Bad','when':'!F1'},{'action':'done','from':'Busy','to':'Idle'}]},"
    ++ codes "{'element':'C2','states':[{'initial':true,'name':'Idle'},{'name':'Busy'},{'labels':['bad'],"
    ++ codes "'name':'Bad'}],'transitions':[{'action':'go','from':'Idle','to':'Busy'},{'action':'slip','from':'Busy',"
    ++ codes "'to':'Bad','when':'F3'},{'action':'done','from':'Busy','to':'Idle'}]},{'element':'C3',"
    ++ codes "'states':[{'initial':true,'name':'Idle'},{'name':'Busy'},{'labels':['bad'],'name':'Bad'}],"
    ++ codes "'transitions':[{'action':'go','from':'Idle','to':'Busy'},{'action':'slip','from':'Busy','to':'Bad',"
    ++ codes "'when':'!F3'},{'action':'done','from':'Busy','to':'Idle'}]}],'types':[{'name':'Hazard'},"
    ++ codes "{'name':'Component','system':true}]},'templates':[{'name':'Top','nodes':[{'id':'g','kind':'goal',"
    ++ codes "'text':'All hazards are handled'},{'each':'h: Hazard','id':'s','kind':'strategy',"
    ++ codes "'text':'Over {#} hazards','under':'g'},{'id':'c','kind':'goal','text':'Hazard {h.name}','under':'s'},"
    ++ codes "{'each':'d: Component with h [handles] d','id':'t','kind':'strategy','text':'Over {#} components',"
    ++ codes "'under':'c'},{'id':'e','kind':'goal','text':'Component {d.name}','under':'t'},{'check':{'never':'bad',"
    ++ codes "'of':'d'},'id':'f','kind':'solution','text':'Check of {d.name}','under':'e'}]}],"
    ++ codes "'title':'Workload 4294967295 4'}" ++ codes "\n")

generates_of_much : bundle_of_seed 4294967295 4 ≡ generated_of_much
unfolding meaning_on_literals bundle_of_seed generated_of_much
generates_of_much = refl

-- entries, each once
same_entry : Entry → Entry → Bool
same_entry (of_node k) (of_node l) = bytes_eq k l
same_entry (of_branch k s) (of_branch l t) = bytes_eq k l && bytes_eq s t
same_entry (of_target k s) (of_target l t) = bytes_eq k l && (s == t)
same_entry (of_witness k s) (of_witness l t) = bytes_eq k l && bytes_eq s t
same_entry _ _ = false

once_after : {A : Type 0} → (A → A → Bool) → List A → List A → List A
once_after same before [] = before
once_after same before (x ∷ xs) = once_after same (if list_any (same x) before then before else x ∷ before) xs

valid_worlds : ℕ → Bundle → List (List Bool)
valid_worlds n b = filter (λ w. is_valid b.line w) (worlds n)

how_many : {A : Type 0} → (A → A → Bool) → (List Bool → List A) → List (List Bool) → ℕ
how_many same occurs ws = length (once_after same [] (flat occurs ws))

summarized : ℕ → ℕ → Document → List ℕ
summarized number size d =
    let b = bundle_of d in
    let ws = valid_worlds (length (feature_names b.line)) b in
    summary number size (record {
      nodes = how_many bytes_eq (keys_at b) ws;
      entries = how_many same_entry (entries_at b) ws;
      solutions = how_many bytes_eq (solutions_at b) ws;
      refuted = how_many bytes_eq (refuted_at b) ws;
    })

summary_text : List ℕ
summary_text =
    codes "workload 3 3\nnodes 26\nentries 44\nsolutions 9\nrefuted 6\n"

summarizes : option_map (summarized 3 3) (document_of Json (bundle_of_seed 3 3)) ≡ Some summary_text
unfolding meaning_on_literals bundle_of_seed summary summarized same_entry once_after valid_worlds how_many summary_text
summarizes = refl
