-- The doors of a tram: a bundle of twelve features, with three systems, two templates and five queries, computed by the check.
use Rattle.std.specs.Prelude.{◌≡◌, List, [], ◌∷◌, ℕ, Bool, true, false, option_and_then, ◌++◌, Some, None, refl, codes, option_map}
use Rattle.meaning.specs.Documents.{Json, document_of}
use Rattle.std.specs.List.{slice_get}
use Rattle.meaning.specs.Models.{model_at, system_of}
use Rattle.meaning.specs.Systems.{run_to}
use Rattle.meaning.specs.Derivation.{bundle_of, case_at, direct, Text}
use Rattle.meaning_rows.proofs.Samples.{json, meaning_on_literals, rules_on_literals, fault_of}

unfoldable pub tram_bundle : List ℕ
tram_bundle = json (
    codes "{'bundle':1,'title':'Tram door line','line':{'features':[{'name':'Tram'},{'name':'Doors',"
    ++ codes "'parent':'Tram','kind':'mandatory'},{'name':'Sliding','parent':'Doors','kind':'alternative'},"
    ++ codes "{'name':'Folding','parent':'Doors','kind':'alternative'},{'name':'Sensors','parent':'Tram'},"
    ++ codes "{'name':'EdgeSensor','parent':'Sensors','kind':'or'},{'name':'LightCurtain','parent':'Sensors',"
    ++ codes "'kind':'or'},{'name':'Ramp','parent':'Tram'},{'name':'Interlock','parent':'Tram'},{'name':'DriverPanel',"
    ++ codes "'parent':'Tram','kind':'mandatory'},{'name':'Remote','parent':'DriverPanel'},{'name':'Night',"
    ++ codes "'parent':'Tram'}],'rules':[{'requires':['Ramp','Interlock']},{'excludes':['Folding','LightCurtain']},"
    ++ codes "{'holds':'Remote => Sensors'}]},'model':{'types':[{'name':'Thing','attributes':['title']},"
    ++ codes "{'name':'Hazard','parent':'Thing'},{'name':'Measure','parent':'Thing','attributes':['level']},"
    ++ codes "{'name':'Part'},{'name':'Controller','parent':'Part','system':true}],'kinds':[{'name':'handledBy',"
    ++ codes "'from':'Hazard','to':'Measure'},{'name':'uses','from':'Measure','to':'Part'},{'name':'dependsOn',"
    ++ codes "'from':'Part','to':'Part'}],'labels':['moving','unlocked'],'elements':[{'name':'hTrap','type':'Hazard',"
    ++ codes "'attributes':{'title':'a passenger is trapped'}},{'name':'hFall','type':'Hazard',"
    ++ codes "'attributes':{'title':'a passenger falls out'}},{'name':'hRamp','type':'Hazard','when':'Ramp',"
    ++ codes "'attributes':{'title':'the ramp is out'}},{'name':'mEdge','type':'Measure','when':'EdgeSensor',"
    ++ codes "'attributes':{'title':'edge sensor','level':'high'}},{'name':'mCurtain','type':'Measure',"
    ++ codes "'when':'LightCurtain','attributes':{'title':'light curtain','level':'high'}},{'name':'mForce',"
    ++ codes "'type':'Measure','attributes':{'title':'limited closing force','level':'low'}},{'name':'mLock',"
    ++ codes "'type':'Measure','when':'Interlock','attributes':{'title':'locked while moving','level':'high'}},"
    ++ codes "{'name':'mWatch','type':'Measure','attributes':{'title':'the driver watches','level':'low'}},"
    ++ codes "{'name':'cDoor','type':'Controller'},{'name':'cRamp','type':'Controller','when':'Ramp'},"
    ++ codes "{'name':'cPanel','type':'Controller','when':'DriverPanel'},{'name':'pMotor','type':'Part'},"
    ++ codes "{'name':'pSensor','type':'Part','when':'Sensors'},{'name':'pFold','type':'Part','when':'Folding'},"
    ++ codes "{'name':'pSlide','type':'Part','when':'Sliding'},{'name':'pRemote','type':'Part','when':'Remote'}],"
    ++ codes "'links':[{'kind':'handledBy','from':'hTrap','to':'mEdge'},{'kind':'handledBy','from':'hTrap',"
    ++ codes "'to':'mCurtain'},{'kind':'handledBy','from':'hTrap','to':'mForce'},{'kind':'handledBy','from':'hFall',"
    ++ codes "'to':'mLock'},{'kind':'handledBy','from':'hFall','to':'mWatch'},{'kind':'handledBy','from':'hRamp',"
    ++ codes "'to':'mLock'},{'kind':'uses','from':'mEdge','to':'pSensor'},{'kind':'uses','from':'mCurtain',"
    ++ codes "'to':'pSensor'},{'kind':'uses','from':'mForce','to':'pMotor'},{'kind':'uses','from':'mForce',"
    ++ codes "'to':'cDoor'},{'kind':'uses','from':'mLock','to':'cDoor'},{'kind':'uses','from':'mLock','to':'cRamp'},"
    ++ codes "{'kind':'uses','from':'mWatch','to':'cPanel'},{'kind':'dependsOn','from':'cDoor','to':'pMotor'},"
    ++ codes "{'kind':'dependsOn','from':'pMotor','to':'pFold'},{'kind':'dependsOn','from':'pMotor','to':'pSlide'},"
    ++ codes "{'kind':'dependsOn','from':'cPanel','to':'pRemote'}],'systems':[{'element':'cDoor',"
    ++ codes "'states':[{'name':'Closed','initial':true},{'name':'Open','labels':['unlocked']},{'name':'Run',"
    ++ codes "'labels':['moving']},{'name':'RunOpen','labels':['moving','unlocked']}],'transitions':[{'from':'Closed',"
    ++ codes "'to':'Open','action':'open'},{'from':'Open','to':'Closed','action':'close'},{'from':'Closed','to':'Run',"
    ++ codes "'action':'start'},{'from':'Run','to':'Closed','action':'stop'},{'from':'Run','to':'RunOpen',"
    ++ codes "'action':'open','when':'!Interlock'}]},{'element':'cRamp','states':[{'name':'Home','initial':true},"
    ++ codes "{'name':'Out','labels':['unlocked']},{'name':'RunOut','labels':['moving','unlocked']}],"
    ++ codes "'transitions':[{'from':'Home','to':'Out','action':'extend'},{'from':'Out','to':'RunOut',"
    ++ codes "'action':'start','when':'!Interlock'}]},{'element':'cPanel','states':[{'name':'Idle','initial':true},"
    ++ codes "{'name':'Drive','labels':['moving']},{'name':'DriveOpen','labels':['moving','unlocked']}],"
    ++ codes "'transitions':[{'from':'Idle','to':'Drive','action':'start'},{'from':'Drive','to':'DriveOpen',"
    ++ codes "'action':'release','when':'Remote & !Interlock'}]}]},'templates':[{'name':'MeasureCase',"
    ++ codes "'params':[{'name':'m','type':'Measure'}],'nodes':[{'id':'g','kind':'goal',"
    ++ codes "'text':'Measure {m.name} is in place: {m.title}'},{'id':'l','kind':'context','under':'g',"
    ++ codes "'text':'Level {m.level}'},{'id':'s','kind':'strategy','under':'g','text':'Argue over {#} controllers',"
    ++ codes "'guard':'c: Controller with m [uses] c','each':'c: Controller with m [uses] c'},{'id':'h','kind':'goal',"
    ++ codes "'under':'s','text':'Controller {c.name} never moves unlocked'},{'id':'e','kind':'solution','under':'h',"
    ++ codes "'text':'Model check of {c.name}','check':{'never':'moving & unlocked','of':'c'}},{'id':'p',"
    ++ codes "'kind':'solution','under':'g','text':'Parts of {m.name}','check':{'some':'p: Part with m [uses] p'}}]},"
    ++ codes "{'name':'Top','nodes':[{'id':'g','kind':'goal','text':'The tram doors are safe'},{'id':'a',"
    ++ codes "'kind':'assumption','under':'g','text':'The crew is trained'},{'id':'s','kind':'strategy','under':'g',"
    ++ codes "'text':'Argue over {#} hazards','each':'h: Hazard'},{'id':'c','kind':'goal','under':'s',"
    ++ codes "'text':'Hazard {h.name} is handled: {h.title}'},{'id':'t','kind':'strategy','under':'c',"
    ++ codes "'text':'Argue over {#} measures','each':'m: Measure with h [handledBy] m'},{'id':'u','kind':'use',"
    ++ codes "'under':'t','template':'MeasureCase','args':['m']},{'id':'n','kind':'solution','under':'g',"
    ++ codes "'text':'No part depends on itself','check':{'none':'p: Part with p [dependsOn+] p'}}]}]}")

tram_breaks_no_rule : fault_of tram_bundle ≡ None
unfolding rules_on_literals tram_bundle
tram_breaks_no_rule = refl

unfoldable night_configuration : List ℕ
night_configuration = json (codes "{'features':['Tram','Doors','Sliding','Sensors','EdgeSensor','DriverPanel','Night']}")

unfoldable night_text : List ℕ
night_text =
    codes "case Tram door line\n"
    ++ codes "with Tram Doors Sliding Sensors EdgeSensor DriverPanel Night\n"
    ++ codes "G1 goal refuted\n"
    ++ codes "  The tram doors are safe\n"
    ++ codes "  in context of A1\n"
    ++ codes "  supported by S1 Sn6\n"
    ++ codes "A1 assumption\n"
    ++ codes "  The crew is trained\n"
    ++ codes "S1 strategy refuted\n"
    ++ codes "  Argue over 2 hazards\n"
    ++ codes "  supported by G2 G6\n"
    ++ codes "G2 goal refuted\n"
    ++ codes "  Hazard hTrap is handled: a passenger is trapped\n"
    ++ codes "  supported by S2\n"
    ++ codes "S2 strategy refuted\n"
    ++ codes "  Argue over 2 measures\n"
    ++ codes "  supported by G3 G4\n"
    ++ codes "G3 goal supported\n"
    ++ codes "  Measure mEdge is in place: edge sensor\n"
    ++ codes "  in context of C1\n"
    ++ codes "  supported by Sn1\n"
    ++ codes "C1 context\n"
    ++ codes "  Level high\n"
    ++ codes "Sn1 solution supported\n"
    ++ codes "  Parts of mEdge\n"
    ++ codes "G4 goal refuted\n"
    ++ codes "  Measure mForce is in place: limited closing force\n"
    ++ codes "  in context of C2\n"
    ++ codes "  supported by S3 Sn3\n"
    ++ codes "C2 context\n"
    ++ codes "  Level low\n"
    ++ codes "S3 strategy refuted\n"
    ++ codes "  Argue over 1 controllers\n"
    ++ codes "  supported by G5\n"
    ++ codes "G5 goal refuted\n"
    ++ codes "  Controller cDoor never moves unlocked\n"
    ++ codes "  supported by Sn2\n"
    ++ codes "Sn2 solution refuted\n"
    ++ codes "  Model check of cDoor\n"
    ++ codes "Sn3 solution supported\n"
    ++ codes "  Parts of mForce\n"
    ++ codes "G6 goal supported\n"
    ++ codes "  Hazard hFall is handled: a passenger falls out\n"
    ++ codes "  supported by S4\n"
    ++ codes "S4 strategy supported\n"
    ++ codes "  Argue over 1 measures\n"
    ++ codes "  supported by G7\n"
    ++ codes "G7 goal supported\n"
    ++ codes "  Measure mWatch is in place: the driver watches\n"
    ++ codes "  in context of C3\n"
    ++ codes "  supported by S5 Sn5\n"
    ++ codes "C3 context\n"
    ++ codes "  Level low\n"
    ++ codes "S5 strategy supported\n"
    ++ codes "  Argue over 1 controllers\n"
    ++ codes "  supported by G8\n"
    ++ codes "G8 goal supported\n"
    ++ codes "  Controller cPanel never moves unlocked\n"
    ++ codes "  supported by Sn4\n"
    ++ codes "Sn4 solution supported\n"
    ++ codes "  Model check of cPanel\n"
    ++ codes "Sn5 solution supported\n"
    ++ codes "  Parts of mWatch\n"
    ++ codes "Sn6 solution supported\n"
    ++ codes "  No part depends on itself\n"

-- a tram at night without an interlock opens its doors on the run
tram_at_night : option_map (λ d. direct (bundle_of d) Json night_configuration) (document_of Json tram_bundle) ≡ Some (Text night_text)
unfolding meaning_on_literals tram_bundle night_configuration night_text
tram_at_night = refl

night : List Bool
night = true ∷ true ∷ true ∷ false ∷ true ∷ true ∷ false ∷ false ∷ false ∷ true ∷ false ∷ true ∷ []

-- the key of the solution that is refuted: below two enumerations and the use of a template
key_of_the_refuted_check : option_and_then (λ d. option_map (λ n. n.key) (slice_get (case_at (bundle_of d) night).nodes 12)) (document_of Json tram_bundle)
    ≡ Some (codes "0/2/0:3/4/5:5/2/8:3/4")
unfolding meaning_on_literals tram_bundle night
key_of_the_refuted_check = refl

-- the run of that check: start, then open
run_of_the_refuted_check : option_and_then (λ d. option_map (λ s. run_to s 3) (system_of (model_at (bundle_of d).model night) 8)) (document_of Json tram_bundle)
    ≡ Some (0, 2 ∷ 4 ∷ [])
unfolding meaning_on_literals tram_bundle night
run_of_the_refuted_check = refl
