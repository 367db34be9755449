-- The brakes of a vehicle and its trailer, which skid without a system against locking, computed by the check.
use Rattle.std.specs.Prelude.{◌≡◌, List, ℕ, ◌++◌, Some, None, refl, codes, option_map}
use Rattle.meaning.specs.Documents.{Json, document_of}
use Rattle.meaning.specs.Derivation.{bundle_of, direct, Text}
use Rattle.meaning_rows.proofs.Samples.{json, meaning_on_literals, rules_on_literals, fault_of}

unfoldable pub vehicle_bundle : List ℕ
vehicle_bundle = json (
    codes "{'bundle':1,'title':'Vehicle brakes','line':{'features':[{'name':'Vehicle'},{'name':'Abs',"
    ++ codes "'parent':'Vehicle'},{'name':'Trailer','parent':'Vehicle'}]},'model':{'types':[{'name':'Brake',"
    ++ codes "'system':true}],'labels':['braked','rolling'],'elements':[{'name':'front','type':'Brake'},"
    ++ codes "{'name':'trailer','type':'Brake','when':'Trailer'}],'systems':[{'element':'front',"
    ++ codes "'states':[{'name':'Free','initial':true},{'name':'Held','labels':['braked']},{'name':'Skid',"
    ++ codes "'labels':['braked','rolling']}],'transitions':[{'from':'Free','to':'Held','action':'brake'},"
    ++ codes "{'from':'Held','to':'Free','action':'release'},{'from':'Held','to':'Skid','action':'lock',"
    ++ codes "'when':'!Abs'}]},{'element':'trailer','states':[{'name':'Free','initial':true},{'name':'Held',"
    ++ codes "'labels':['braked']},{'name':'Skid','labels':['braked','rolling']}],'transitions':[{'from':'Free',"
    ++ codes "'to':'Held','action':'brake'},{'from':'Held','to':'Free','action':'release'},{'from':'Held','to':'Skid',"
    ++ codes "'action':'lock','when':'!Abs'}]}]},'templates':[{'name':'Top','nodes':[{'id':'g','kind':'goal',"
    ++ codes "'text':'The vehicle stops'},{'id':'a','kind':'assumption','under':'g','text':'The road is dry'},"
    ++ codes "{'id':'s','kind':'strategy','under':'g','text':'Over {#} brakes','each':'b: Brake'},{'id':'c',"
    ++ codes "'kind':'goal','under':'s','text':'Brake {b.name} holds'},{'id':'e','kind':'solution','under':'c',"
    ++ codes "'text':'Model check of {b.name}','check':{'never':'rolling & braked','of':'b'}}]}]}")

vehicle_bundle_breaks_no_rule : fault_of vehicle_bundle ≡ None
unfolding rules_on_literals vehicle_bundle
vehicle_bundle_breaks_no_rule = refl

unfoldable vehicle_that_skids_text : List ℕ
vehicle_that_skids_text =
    codes "case Vehicle brakes\n"
    ++ codes "with Vehicle\n"
    ++ codes "G1 goal refuted\n"
    ++ codes "  The vehicle stops\n"
    ++ codes "  in context of A1\n"
    ++ codes "  supported by S1\n"
    ++ codes "A1 assumption\n"
    ++ codes "  The road is dry\n"
    ++ codes "S1 strategy refuted\n"
    ++ codes "  Over 1 brakes\n"
    ++ codes "  supported by G2\n"
    ++ codes "G2 goal refuted\n"
    ++ codes "  Brake front holds\n"
    ++ codes "  supported by Sn1\n"
    ++ codes "Sn1 solution refuted\n"
    ++ codes "  Model check of front\n"

vehicle_that_skids : option_map (λ d. direct (bundle_of d) Json (json (codes "{'features':['Vehicle']}"))) (document_of Json vehicle_bundle) ≡ Some (Text vehicle_that_skids_text)
unfolding meaning_on_literals vehicle_bundle vehicle_that_skids_text
vehicle_that_skids = refl

unfoldable vehicle_with_a_trailer_text : List ℕ
vehicle_with_a_trailer_text =
    codes "case Vehicle brakes\n"
    ++ codes "with Vehicle Abs Trailer\n"
    ++ codes "G1 goal supported\n"
    ++ codes "  The vehicle stops\n"
    ++ codes "  in context of A1\n"
    ++ codes "  supported by S1\n"
    ++ codes "A1 assumption\n"
    ++ codes "  The road is dry\n"
    ++ codes "S1 strategy supported\n"
    ++ codes "  Over 2 brakes\n"
    ++ codes "  supported by G2 G3\n"
    ++ codes "G2 goal supported\n"
    ++ codes "  Brake front holds\n"
    ++ codes "  supported by Sn1\n"
    ++ codes "Sn1 solution supported\n"
    ++ codes "  Model check of front\n"
    ++ codes "G3 goal supported\n"
    ++ codes "  Brake trailer holds\n"
    ++ codes "  supported by Sn2\n"
    ++ codes "Sn2 solution supported\n"
    ++ codes "  Model check of trailer\n"

vehicle_with_a_trailer : option_map (λ d. direct (bundle_of d) Json (json (codes "{'features':['Vehicle','Abs','Trailer']}"))) (document_of Json vehicle_bundle) ≡ Some (Text vehicle_with_a_trailer_text)
unfolding meaning_on_literals vehicle_bundle vehicle_with_a_trailer_text
vehicle_with_a_trailer = refl
