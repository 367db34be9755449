-- Replaying runs, and auditing, computed by the check.
use Rattle.std.specs.Prelude.{◌++◌, ◌≡◌, ℕ, List, [], ◌∷◌, Bool, true, false, Option, Some, None, refl, codes, option_map}
use Rattle.meaning.specs.Documents.{Json, document_of}
use Rattle.meaning.specs.CaseReading.{CaseReading, Broken, read_case}
use Rattle.meaning.specs.CaseReading as reading
use Rattle.meaning.specs.Derivation.{bundle_of, direct, Text}
use Rattle.meaning.specs.Evidence.{shown, text_of_evidence}
use Rattle.meaning.specs.Replay.{RunFault, RunReading, Refused, Is, NoTable, WrongForm, NoSystem, UnknownStart, NoTransition, run_of, Replayed, NotInitial, NotJoined, NotPresent, Ends, replay_answer}
use Rattle.meaning.specs.Audits.{Place, SameFeatures, ValidExactly, SystemsAsModelled, InitialReached, ReachedClosed, ChecksRead, SupportedSafe, RefutedViolates, RefutedReplays, broken_at, first_broken_among}
use Rattle.meaning.specs.Worlds.{worlds}
use Rattle.meaning_rows.proofs.Samples.{json, edited, system_bundle, system_case, meaning_on_literals}

unfoldable two_ways_bundle : List ℕ
two_ways_bundle = json (
    codes "{'bundle':1,'title':'Row','line':{'features':[{'name':'R'},{'name':'A','parent':'R'},{'name':'B',"
    ++ codes "'parent':'R'}]},'model':{'types':[{'name':'N','system':true}],'labels':['bad'],'elements':[{'name':'c',"
    ++ codes "'type':'N'}],'systems':[{'element':'c','states':[{'name':'s0','initial':true},{'name':'a'},{'name':'b'},"
    ++ codes "{'name':'bad','labels':['bad']}],'transitions':[{'from':'s0','to':'b','action':'x'},{'from':'s0',"
    ++ codes "'to':'a','action':'y'},{'from':'a','to':'bad','action':'z'},{'from':'b','to':'bad','action':'w'}]}]},"
    ++ codes "'templates':[{'name':'Top','nodes':[{'id':'g','kind':'goal','text':'All'},{'id':'s','kind':'strategy',"
    ++ codes "'under':'g','text':'Over {#}','each':'n: N'},{'id':'c','kind':'goal','under':'s',"
    ++ codes "'text':'{n.name} is safe'},{'id':'e','kind':'solution','under':'c','text':'Check',"
    ++ codes "'check':{'never':'bad','of':'n'}}]}]}")

unfoldable bad_start_bundle : List ℕ
bad_start_bundle = json (
    codes "{'bundle':1,'title':'Row','line':{'features':[{'name':'R'},{'name':'A','parent':'R'},{'name':'B',"
    ++ codes "'parent':'R'}]},'model':{'types':[{'name':'N','system':true}],'labels':['bad'],'elements':[{'name':'c',"
    ++ codes "'type':'N'}],'systems':[{'element':'c','states':[{'name':'s0','initial':true,'labels':['bad']},"
    ++ codes "{'name':'a'},{'name':'b'},{'name':'bad','labels':['bad']}],'transitions':[{'from':'s0','to':'b',"
    ++ codes "'action':'x'},{'from':'s0','to':'a','action':'y'},{'from':'a','to':'bad','action':'z'},{'from':'b',"
    ++ codes "'to':'bad','action':'w'}]}]},'templates':[{'name':'Top','nodes':[{'id':'g','kind':'goal','text':'All'},"
    ++ codes "{'id':'s','kind':'strategy','under':'g','text':'Over {#}','each':'n: N'},{'id':'c','kind':'goal',"
    ++ codes "'under':'s','text':'{n.name} is safe'},{'id':'e','kind':'solution','under':'c','text':'Check',"
    ++ codes "'check':{'never':'bad','of':'n'}}]}]}")

unfoldable deadlock_bundle : List ℕ
deadlock_bundle = json (
    codes "{'bundle':1,'title':'Row','line':{'features':[{'name':'R'},{'name':'A','parent':'R'},{'name':'B',"
    ++ codes "'parent':'R'}]},'model':{'types':[{'name':'N','system':true}],'labels':['bad'],'elements':[{'name':'c',"
    ++ codes "'type':'N'}],'systems':[{'element':'c','states':[{'name':'s0','initial':true}],"
    ++ codes "'transitions':[{'from':'s0','to':'s0','action':'p','when':'A'},{'from':'s0','to':'s0','action':'q',"
    ++ codes "'when':'B'}]}]},'templates':[{'name':'Top','nodes':[{'id':'g','kind':'goal','text':'All'},{'id':'s',"
    ++ codes "'kind':'strategy','under':'g','text':'Over {#}','each':'n: N'},{'id':'c','kind':'goal','under':'s',"
    ++ codes "'text':'{n.name} is safe'},{'id':'e','kind':'solution','under':'c','text':'Check',"
    ++ codes "'check':{'deadlock':'n'}}]}]}")

unfoldable two_ways_case : List ℕ
two_ways_case = json (
    codes "{'case':1,'features':['R','A','B'],'nodes':[{'key':'0','kind':'goal','text':['All'],'when':2},"
    ++ codes "{'branches':[2],'key':'0/1','kind':'strategy','text':['Over ',0],'when':2},{'key':'0/1/0:2',"
    ++ codes "'kind':'goal','text':['c is safe'],'when':2},{'finding':{'check':'never','expr':'bad','refuted':2,"
    ++ codes "'system':0,'targets':[[3,2]]},'key':'0/1/0:2/3','kind':'solution','text':['Check'],'when':2}],"
    ++ codes "'relations':[{'from':0,'kind':'supported','to':1,'when':2},{'from':1,'kind':'supported','to':2,"
    ++ codes "'when':2},{'from':2,'kind':'supported','to':3,'when':2}],'systems':[{'element':'c','parents':[2,2,2,0],"
    ++ codes "'reached':[2,2,2,2],'states':['s0','a','b','bad'],'transitions':[[0,2,'x'],[0,1,'y'],[1,3,'z'],[2,3,"
    ++ codes "'w']]}],'table':[[0,0,1]],'title':'Row','valid':2}" ++ codes "\n")

unfoldable bad_start_case : List ℕ
bad_start_case = json (
    codes "{'case':1,'features':['R','A','B'],'nodes':[{'key':'0','kind':'goal','text':['All'],'when':2},"
    ++ codes "{'branches':[2],'key':'0/1','kind':'strategy','text':['Over ',0],'when':2},{'key':'0/1/0:2',"
    ++ codes "'kind':'goal','text':['c is safe'],'when':2},{'finding':{'check':'never','expr':'bad','refuted':2,"
    ++ codes "'system':0,'targets':[[0,2]]},'key':'0/1/0:2/3','kind':'solution','text':['Check'],'when':2}],"
    ++ codes "'relations':[{'from':0,'kind':'supported','to':1,'when':2},{'from':1,'kind':'supported','to':2,"
    ++ codes "'when':2},{'from':2,'kind':'supported','to':3,'when':2}],'systems':[{'element':'c','parents':[2,2,2,0],"
    ++ codes "'reached':[2,2,2,2],'states':['s0','a','b','bad'],'transitions':[[0,2,'x'],[0,1,'y'],[1,3,'z'],[2,3,"
    ++ codes "'w']]}],'table':[[0,0,1]],'title':'Row','valid':2}" ++ codes "\n")

unfoldable deadlock_case : List ℕ
deadlock_case = json (
    codes "{'case':1,'features':['R','A','B'],'nodes':[{'key':'0','kind':'goal','text':['All'],'when':2},"
    ++ codes "{'branches':[2],'key':'0/1','kind':'strategy','text':['Over ',0],'when':2},{'key':'0/1/0:2',"
    ++ codes "'kind':'goal','text':['c is safe'],'when':2},{'finding':{'check':'deadlock','refuted':5,'system':0,"
    ++ codes "'targets':[[0,5]]},'key':'0/1/0:2/3','kind':'solution','text':['Check'],'when':2}],"
    ++ codes "'relations':[{'from':0,'kind':'supported','to':1,'when':2},{'from':1,'kind':'supported','to':2,"
    ++ codes "'when':2},{'from':2,'kind':'supported','to':3,'when':2}],'systems':[{'element':'c','parents':[0,0],"
    ++ codes "'reached':[2],'states':['s0'],'transitions':[[0,0,'p'],[0,0,'q']]}],'table':[[0,0,1],[2,1,0],[1,3,0],[0,"
    ++ codes "0,4]],'title':'Row','valid':2}" ++ codes "\n")

-- what replaying a run document answers on a bundle at a world
data Outcome : Type 0 where
  refused : RunFault → Outcome
  replayed : Replayed → Outcome

outcome_of : List Bool → RunReading → Outcome
outcome_of w (Refused f) = refused f
outcome_of w (Is r) = replayed (replay_answer r.system w r.start r.steps)

replays_of : List ℕ → List Bool → List ℕ → Option Outcome
replays_of bundle w run = option_map (λ d. outcome_of w (run_of (bundle_of d).model w Json run)) (document_of Json bundle)

root : List Bool
root = true ∷ false ∷ false ∷ []

root_and_first : List Bool
root_and_first = true ∷ true ∷ false ∷ []

root_and_second : List Bool
root_and_second = true ∷ false ∷ true ∷ []

ends_in_bad : replays_of system_bundle root (codes "{\"element\":\"c\",\"start\":\"s0\",\"steps\":[0,2]}") ≡ Some (replayed (Ends 3))
unfolding meaning_on_literals outcome_of replays_of run_of replay_answer system_bundle root root_and_first
ends_in_bad = refl

not_present : replays_of system_bundle root_and_first (codes "{\"element\":\"c\",\"start\":\"s0\",\"steps\":[0,2]}") ≡ Some (replayed (NotPresent 1))
unfolding meaning_on_literals outcome_of replays_of run_of replay_answer system_bundle root root_and_first
not_present = refl

not_joined : replays_of system_bundle root (codes "{\"element\":\"c\",\"start\":\"s0\",\"steps\":[2]}") ≡ Some (replayed (NotJoined 0))
unfolding meaning_on_literals outcome_of replays_of run_of replay_answer system_bundle root root_and_first
not_joined = refl

not_initial : replays_of system_bundle root (codes "{\"element\":\"c\",\"start\":\"s1\",\"steps\":[0,2]}") ≡ Some (replayed NotInitial)
unfolding meaning_on_literals outcome_of replays_of run_of replay_answer system_bundle root root_and_first
not_initial = refl

no_system : replays_of system_bundle root (codes "{\"element\":\"d\",\"start\":\"s0\",\"steps\":[0,2]}") ≡ Some (refused NoSystem)
unfolding meaning_on_literals outcome_of replays_of run_of replay_answer system_bundle root root_and_first
no_system = refl

no_document : replays_of system_bundle root (codes "{") ≡ Some (refused NoTable)
unfolding meaning_on_literals outcome_of replays_of run_of replay_answer system_bundle root root_and_first
no_document = refl

no_table : replays_of system_bundle root (codes "[]") ≡ Some (refused NoTable)
unfolding meaning_on_literals outcome_of replays_of run_of replay_answer system_bundle root root_and_first
no_table = refl

no_start : replays_of system_bundle root (codes "{\"element\":\"c\",\"steps\":[0,2]}") ≡ Some (refused WrongForm)
unfolding meaning_on_literals outcome_of replays_of run_of replay_answer system_bundle root root_and_first
no_start = refl

step_is_text : replays_of system_bundle root (codes "{\"element\":\"c\",\"start\":\"s0\",\"steps\":[0,\"2\"]}") ≡ Some (refused WrongForm)
unfolding meaning_on_literals outcome_of replays_of run_of replay_answer system_bundle root root_and_first
step_is_text = refl

step_is_fraction : replays_of system_bundle root (codes "{\"element\":\"c\",\"start\":\"s0\",\"steps\":[0,1.0]}") ≡ Some (refused WrongForm)
unfolding meaning_on_literals outcome_of replays_of run_of replay_answer system_bundle root root_and_first
step_is_fraction = refl

start_unknown : replays_of system_bundle root (codes "{\"element\":\"c\",\"start\":\"q\",\"steps\":[7]}") ≡ Some (refused UnknownStart)
unfolding meaning_on_literals outcome_of replays_of run_of replay_answer system_bundle root root_and_first
start_unknown = refl

step_unknown : replays_of system_bundle root (codes "{\"element\":\"c\",\"start\":\"s0\",\"steps\":[0,3]}") ≡ Some (refused (NoTransition 1))
unfolding meaning_on_literals outcome_of replays_of run_of replay_answer system_bundle root root_and_first
step_unknown = refl

step_negative : replays_of system_bundle root (codes "{\"element\":\"c\",\"start\":\"s0\",\"steps\":[-1]}") ≡ Some (refused (NoTransition 0))
unfolding meaning_on_literals outcome_of replays_of run_of replay_answer system_bundle root root_and_first
step_negative = refl

no_steps : replays_of system_bundle root (codes "{\"element\":\"c\",\"start\":\"s0\",\"steps\":[]}") ≡ Some (replayed (Ends 0))
unfolding meaning_on_literals outcome_of replays_of run_of replay_answer system_bundle root root_and_first
no_steps = refl

takes_the_lower_state_text : List ℕ
takes_the_lower_state_text = codes "evidence Row\nwith R\nSn1 solution refuted\n  key 0/1/0:2/3\n  check never bad of c\n  run s0 -y-> a -z-> bad\n"

takes_the_lower_state : shown two_ways_case Json (codes "{\"features\":[\"R\"]}") ≡ Text takes_the_lower_state_text
unfolding meaning_on_literals shown text_of_evidence two_ways_case takes_the_lower_state_text
takes_the_lower_state = refl

starts_bad_text : List ℕ
starts_bad_text = codes "evidence Row\nwith R\nSn1 solution refuted\n  key 0/1/0:2/3\n  check never bad of c\n  run s0\n"

starts_bad : shown bad_start_case Json (codes "{\"features\":[\"R\"]}") ≡ Text starts_bad_text
unfolding meaning_on_literals shown text_of_evidence bad_start_case starts_bad_text
starts_bad = refl

deadlocked_text : List ℕ
deadlocked_text = codes "evidence Row\nwith R\nSn1 solution refuted\n  key 0/1/0:2/3\n  check deadlock of c\n  run s0\n"

deadlocked : shown deadlock_case Json (codes "{\"features\":[\"R\"]}") ≡ Text deadlocked_text
unfolding meaning_on_literals shown text_of_evidence deadlock_case deadlocked_text
deadlocked = refl

not_deadlocked_text : List ℕ
not_deadlocked_text = codes "evidence Row\nwith R B\nSn1 solution supported\n  key 0/1/0:2/3\n  check deadlock of c\n  states s0\n"

not_deadlocked : shown deadlock_case Json (codes "{\"features\":[\"R\",\"B\"]}") ≡ Text not_deadlocked_text
unfolding meaning_on_literals shown text_of_evidence deadlock_case not_deadlocked_text
not_deadlocked = refl

direct_of_two_ways_text : List ℕ
direct_of_two_ways_text = codes "case Row\nwith R\nG1 goal refuted\n  All\n  supported by S1\nS1 strategy refuted\n  Over 1\n  supported by G2\nG2 goal refuted\n  c is safe\n  supported by Sn1\nSn1 solution refuted\n  Check\n"

direct_of_two_ways : option_map (λ d. direct (bundle_of d) Json (codes "{\"features\":[\"R\"]}")) (document_of Json two_ways_bundle) ≡ Some (Text direct_of_two_ways_text)
unfolding meaning_on_literals two_ways_bundle direct_of_two_ways_text
direct_of_two_ways = refl

direct_of_deadlock_text : List ℕ
direct_of_deadlock_text = codes "case Row\nwith R\nG1 goal refuted\n  All\n  supported by S1\nS1 strategy refuted\n  Over 1\n  supported by G2\nG2 goal refuted\n  c is safe\n  supported by Sn1\nSn1 solution refuted\n  Check\n"

direct_of_deadlock : option_map (λ d. direct (bundle_of d) Json (codes "{\"features\":[\"R\"]}")) (document_of Json deadlock_bundle) ≡ Some (Text direct_of_deadlock_text)
unfolding meaning_on_literals deadlock_bundle direct_of_deadlock_text
direct_of_deadlock = refl

-- the first broken clause of a case against a bundle of three features, over all worlds
audited : List ℕ → List ℕ → Option (Option Place)
audited bundle case =
    option_map (λ d. elim (read_case case) as (λ _. Option Place) [ Broken f ↦ None | reading.Is k ↦ first_broken_among (worlds 3) (bundle_of d) k ])
    (document_of Json bundle)

built_says_yes : audited system_bundle system_case ≡ Some (None)
unfolding meaning_on_literals audited broken_at system_bundle system_case
built_says_yes = refl

two_ways_say_yes : audited two_ways_bundle two_ways_case ≡ Some (None)
unfolding meaning_on_literals audited broken_at two_ways_bundle two_ways_case
two_ways_say_yes = refl

bad_start_says_yes : audited bad_start_bundle bad_start_case ≡ Some (None)
unfolding meaning_on_literals audited broken_at bad_start_bundle bad_start_case
bad_start_says_yes = refl

deadlock_says_yes : audited deadlock_bundle deadlock_case ≡ Some (None)
unfolding meaning_on_literals audited broken_at deadlock_bundle deadlock_case
deadlock_says_yes = refl

unfoldable not_closed_case : List ℕ
not_closed_case = edited system_case (codes ",2,2") (codes ",2,0")

not_closed : audited system_bundle not_closed_case ≡ Some (Some (record { clause = ReachedClosed; item = 0; sub = 1 }))
unfolding meaning_on_literals audited broken_at system_bundle not_closed_case
not_closed = refl

unfoldable other_features_case : List ℕ
other_features_case = edited (edited system_case (codes "'R',") (codes "'R','B',")) (codes "'A','B'") (codes "'A'")

other_features : audited system_bundle other_features_case ≡ Some (Some (record { clause = SameFeatures; item = 0; sub = 0 }))
unfolding meaning_on_literals audited broken_at system_bundle other_features_case
other_features = refl

unfoldable other_valid_case : List ℕ
other_valid_case = edited system_case (codes "'valid':2") (codes "'valid':1")

other_valid : audited system_bundle other_valid_case ≡ Some (Some (record { clause = ValidExactly; item = 0; sub = 0 }))
unfolding meaning_on_literals audited broken_at system_bundle other_valid_case
other_valid = refl

unfoldable other_action_case : List ℕ
other_action_case = edited system_case (codes "'slip'") (codes "'slide'")

other_action : audited system_bundle other_action_case ≡ Some (Some (record { clause = SystemsAsModelled; item = 0; sub = 0 }))
unfolding meaning_on_literals audited broken_at system_bundle other_action_case
other_action = refl

unfoldable other_element_case : List ℕ
other_element_case = edited system_case (codes "'element':'c'") (codes "'element':'d'")

other_element : audited system_bundle other_element_case ≡ Some (Some (record { clause = SystemsAsModelled; item = 0; sub = 0 }))
unfolding meaning_on_literals audited broken_at system_bundle other_element_case
other_element = refl

unfoldable initial_not_reached_case : List ℕ
initial_not_reached_case = edited system_case (codes "'reached':[2") (codes "'reached':[0")

initial_not_reached : audited system_bundle initial_not_reached_case ≡ Some (Some (record { clause = InitialReached; item = 0; sub = 0 }))
unfolding meaning_on_literals audited broken_at system_bundle initial_not_reached_case
initial_not_reached = refl

unfoldable check_does_not_read_case : List ℕ
check_does_not_read_case = edited system_case (codes "'expr':'bad'") (codes "'expr':'bad &'")

check_does_not_read : audited system_bundle check_does_not_read_case ≡ Some (Some (record { clause = ChecksRead; item = 3; sub = 0 }))
unfolding meaning_on_literals audited broken_at system_bundle check_does_not_read_case
check_does_not_read = refl

unfoldable never_refuted_case : List ℕ
never_refuted_case = edited system_case (codes "'refuted':4") (codes "'refuted':0")

never_refuted : audited system_bundle never_refuted_case ≡ Some (Some (record { clause = SupportedSafe; item = 3; sub = 3 }))
unfolding meaning_on_literals audited broken_at system_bundle never_refuted_case
never_refuted = refl

unfoldable always_refuted_case : List ℕ
always_refuted_case = edited system_case (codes "'refuted':4") (codes "'refuted':2")

always_refuted : audited system_bundle always_refuted_case ≡ Some (Some (record { clause = RefutedViolates; item = 3; sub = 0 }))
unfolding meaning_on_literals audited broken_at system_bundle always_refuted_case
always_refuted = refl

unfoldable no_target_case : List ℕ
no_target_case = edited system_case (codes "[3,4]") (
    codes "")

no_target : audited system_bundle no_target_case ≡ Some (Some (record { clause = RefutedViolates; item = 3; sub = 0 }))
unfolding meaning_on_literals audited broken_at system_bundle no_target_case
no_target = refl

unfoldable good_target_case : List ℕ
good_target_case = edited system_case (codes ":[[3") (codes ":[[2")

good_target : audited system_bundle good_target_case ≡ Some (Some (record { clause = RefutedViolates; item = 3; sub = 0 }))
unfolding meaning_on_literals audited broken_at system_bundle good_target_case
good_target = refl

unfoldable no_way_back_case : List ℕ
no_way_back_case = edited system_case (codes "'parents':[2") (codes "'parents':[0")

no_way_back : audited system_bundle no_way_back_case ≡ Some (Some (record { clause = RefutedReplays; item = 3; sub = 0 }))
unfolding meaning_on_literals audited broken_at system_bundle no_way_back_case
no_way_back = refl

-- a transition back from the third state to the second, over which no run goes back
unfoldable circle_bundle : List ℕ
unfolding system_bundle
circle_bundle = edited system_bundle (codes "'when':'!A'}") (codes "'when':'!A'},{'from':'s2','to':'s1','action':'back'}")

unfoldable circle_case : (parents : List ℕ) → List ℕ
unfolding system_case
circle_case parents = edited
    (edited system_case (codes "[1,3,'slip']") (codes "[1,3,'slip'],[2,1,'back']"))
    (codes "'parents':[2,2,4]") (codes "'parents':" ++ parents)

way_back_says_yes : audited circle_bundle (circle_case (codes "[2,2,4,0]")) ≡ Some None
unfolding meaning_on_literals audited broken_at circle_bundle circle_case
way_back_says_yes = refl

way_back_round_a_circle : audited circle_bundle (circle_case (codes "[0,2,4,2]"))
    ≡ Some (Some (record { clause = RefutedReplays; item = 3; sub = 0 }))
unfolding meaning_on_literals audited broken_at circle_bundle circle_case
way_back_round_a_circle = refl
