-- An infusion pump that runs on when its bag is empty, unless the line has an air sensor, computed by the check.
use Rattle.std.specs.Prelude.{◌≡◌, List, ℕ, ◌++◌, Some, None, refl, codes, option_map}
use Rattle.meaning.specs.Documents.{Json, document_of}
use Rattle.meaning.specs.Derivation.{bundle_of, direct, Text}
use Rattle.meaning_rows.proofs.Samples.{json, meaning_on_literals, rules_on_literals, fault_of}

unfoldable pub pump_bundle : List ℕ
pump_bundle = json (
    codes "{'bundle':1,'title':'Infusion pump line','line':{'features':[{'name':'Pump'},{'name':'AirSensor',"
    ++ codes "'parent':'Pump'}]},'model':{'types':[{'name':'Part','attributes':['title']},{'name':'Drive',"
    ++ codes "'parent':'Part','system':true}],'kinds':[{'name':'feeds','from':'Part','to':'Part'}],'labels':['air',"
    ++ codes "'running'],'elements':[{'name':'bag','type':'Part','attributes':{'title':'the bag'}},{'name':'pump',"
    ++ codes "'type':'Drive','attributes':{'title':'the pump'}}],'links':[{'kind':'feeds','from':'bag','to':'pump'}],"
    ++ codes "'systems':[{'element':'pump','states':[{'name':'Off','initial':true},{'name':'On','labels':['running']},"
    ++ codes "{'name':'Dry','labels':['running','air']}],'transitions':[{'from':'Off','to':'On','action':'start'},"
    ++ codes "{'from':'On','to':'Dry','action':'empty','when':'!AirSensor'}]}]},'templates':[{'name':'Top',"
    ++ codes "'nodes':[{'id':'g','kind':'goal','text':'The pump infuses no air'},{'id':'s','kind':'strategy',"
    ++ codes "'under':'g','text':'Over {#} drives','each':'d: Drive'},{'id':'c','kind':'goal','under':'s',"
    ++ codes "'text':'Drive {d.name} never runs on air: {d.title}'},{'id':'e','kind':'solution','under':'c',"
    ++ codes "'text':'Model check of {d.name}','check':{'never':'running & air','of':'d'}},{'id':'f',"
    ++ codes "'kind':'solution','under':'c','text':'Source of {d.name}',"
    ++ codes "'check':{'some':'p: Part with p [feeds] d'}}]}]}")

pump_bundle_breaks_no_rule : fault_of pump_bundle ≡ None
unfolding rules_on_literals pump_bundle
pump_bundle_breaks_no_rule = refl

unfoldable pump_without_sensor_text : List ℕ
pump_without_sensor_text =
    codes "case Infusion pump line\n"
    ++ codes "with Pump\n"
    ++ codes "G1 goal refuted\n"
    ++ codes "  The pump infuses no air\n"
    ++ codes "  supported by S1\n"
    ++ codes "S1 strategy refuted\n"
    ++ codes "  Over 1 drives\n"
    ++ codes "  supported by G2\n"
    ++ codes "G2 goal refuted\n"
    ++ codes "  Drive pump never runs on air: the pump\n"
    ++ codes "  supported by Sn1 Sn2\n"
    ++ codes "Sn1 solution refuted\n"
    ++ codes "  Model check of pump\n"
    ++ codes "Sn2 solution supported\n"
    ++ codes "  Source of pump\n"

pump_without_sensor : option_map (λ d. direct (bundle_of d) Json (json (codes "{'features':['Pump']}"))) (document_of Json pump_bundle) ≡ Some (Text pump_without_sensor_text)
unfolding meaning_on_literals pump_bundle pump_without_sensor_text
pump_without_sensor = refl

unfoldable pump_with_sensor_text : List ℕ
pump_with_sensor_text =
    codes "case Infusion pump line\n"
    ++ codes "with Pump AirSensor\n"
    ++ codes "G1 goal supported\n"
    ++ codes "  The pump infuses no air\n"
    ++ codes "  supported by S1\n"
    ++ codes "S1 strategy supported\n"
    ++ codes "  Over 1 drives\n"
    ++ codes "  supported by G2\n"
    ++ codes "G2 goal supported\n"
    ++ codes "  Drive pump never runs on air: the pump\n"
    ++ codes "  supported by Sn1 Sn2\n"
    ++ codes "Sn1 solution supported\n"
    ++ codes "  Model check of pump\n"
    ++ codes "Sn2 solution supported\n"
    ++ codes "  Source of pump\n"

pump_with_sensor : option_map (λ d. direct (bundle_of d) Json (json (codes "{'features':['Pump','AirSensor']}"))) (document_of Json pump_bundle) ≡ Some (Text pump_with_sensor_text)
unfolding meaning_on_literals pump_bundle pump_with_sensor_text
pump_with_sensor = refl
