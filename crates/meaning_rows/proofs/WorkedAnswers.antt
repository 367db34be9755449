-- Answers of whole tasks to the bytes of their files, computed by the check.
use Rattle.std.specs.Prelude.{ℕ, List, [], ◌∷◌, ◌++◌, take, refl, codes}
use Rattle.std.proofs.Common.{lit<}
use Rattle.meaning.specs.BundlePlaces.{Document', Bundle, Nodes, Table}
use Rattle.meaning.specs.Replay.{NotInitial, NotJoined, NotPresent, run_of, replay_answer}
use Rattle.meaning.specs.Words.{Derive, Product, Replay, Evidence}
use Rattle.meaning.specs.Statuses.{BadBundle, BadConfig, BadCase, NotValid, ReplayNo}
use Rattle.meaning.specs.Evidence.{shown, text_of_evidence}
use Rattle.meaning.specs.Answers.{Stage, Answer, Prints, refusal, IsAnswer, bundle_in}
use Rattle.meaning.specs.Stages.{complete, plain_words}
use Rattle.toml.proofs.OnLiterals.{toml_on_literals}
use Rattle.meaning_rows.proofs.Samples.{json, edited, smallest_bundle, smallest_toml, smallest_case, one_enumeration_bundle, one_enumeration_case, system_bundle, system_case, rules_on_literals, fault}

abbrev whole : Stage
whole = complete plain_words

abbrev root_and_second : List ℕ
root_and_second = codes "{'features':['R','B']}"

root_and_second_text : List ℕ
root_and_second_text =
    codes "case Row\nwith R B\nG1 goal open\n  All\n  supported by S1\nS1 strategy open\n  Over 1\n  supported by G2\n"
    ++ codes "G2 goal open\n  Handle y\n"

-- ---- derive

abbrev Derives : (case configuration : List ℕ) → Answer → Type 0
Derives case configuration a = IsAnswer whole (Derive (codes "c.json") (codes "k.json")) (case ∷ json configuration ∷ []) a

derives_the_text : Derives one_enumeration_case root_and_second (Prints root_and_second_text)
unfolding rules_on_literals IsAnswer root_and_second_text
derives_the_text = refl

derives_at_no_unknown_feature : Derives one_enumeration_case (codes "{'features':['R','Q']}") (refusal (BadConfig 3 1))
unfolding rules_on_literals IsAnswer
derives_at_no_unknown_feature = refl

derives_at_no_repeated_feature : Derives one_enumeration_case (codes "{'features':['R','R']}") (refusal (BadConfig 4 1))
unfolding rules_on_literals IsAnswer
derives_at_no_repeated_feature = refl

derives_of_no_list : Derives one_enumeration_case (codes "{}") (refusal (BadConfig 2 0))
unfolding rules_on_literals IsAnswer
derives_of_no_list = refl

derives_of_no_table : Derives one_enumeration_case (codes "{") (refusal (BadConfig 1 0))
unfolding rules_on_literals IsAnswer
derives_of_no_table = refl

derives_at_no_invalid_world : Derives one_enumeration_case (codes "{'features':['A']}") (refusal NotValid)
unfolding rules_on_literals IsAnswer
derives_at_no_invalid_world = refl

-- a fault of the case comes before one of the configuration
derives_from_no_case_cut_short : Derives (take 100 smallest_case) (codes "{") (refusal (BadCase (record { fault = 1; part = Document'; item = 0 })))
unfolding rules_on_literals IsAnswer
derives_from_no_case_cut_short = (record { fault = 1; part = Document'; item = 0 }, (0, lit< tt, refl), refl)

derives_from_no_broken_table : Derives (edited smallest_case (codes "[[0,0,1]]") (codes "[[0,1,1]]")) (codes "{")
    (refusal (BadCase (record { fault = 5; part = Table; item = 0 })))
unfolding rules_on_literals IsAnswer
derives_from_no_broken_table = (record { fault = 5; part = Table; item = 0 }, (0, lit< tt, refl), refl)

-- ---- product

abbrev Gives : (bundle configuration : List ℕ) → Answer → Type 0
Gives bundle configuration a = IsAnswer whole (Product (codes "b.json") (codes "k.json")) (bundle ∷ json configuration ∷ []) a

gives_the_text : Gives one_enumeration_bundle root_and_second (Prints root_and_second_text)
unfolding rules_on_literals IsAnswer bundle_in root_and_second_text
gives_the_text = refl

gives_no_unknown_feature : Gives one_enumeration_bundle (codes "{'features':['R','Q']}") (refusal (BadConfig 3 1))
unfolding rules_on_literals IsAnswer bundle_in
gives_no_unknown_feature = refl

gives_no_repeated_feature : Gives one_enumeration_bundle (codes "{'features':['R','R']}") (refusal (BadConfig 4 1))
unfolding rules_on_literals IsAnswer bundle_in
gives_no_repeated_feature = refl

gives_nothing_of_no_list : Gives one_enumeration_bundle (codes "{}") (refusal (BadConfig 2 0))
unfolding rules_on_literals IsAnswer bundle_in
gives_nothing_of_no_list = refl

gives_nothing_of_no_table : Gives one_enumeration_bundle (codes "{") (refusal (BadConfig 1 0))
unfolding rules_on_literals IsAnswer bundle_in
gives_nothing_of_no_table = refl

gives_nothing_at_an_invalid_world : Gives one_enumeration_bundle (codes "{'features':['A']}") (refusal NotValid)
unfolding rules_on_literals IsAnswer bundle_in
gives_nothing_at_an_invalid_world = refl

gives_nothing_of_a_broken_bundle : Gives (edited smallest_bundle (codes "'bundle':1") (codes "'bundle':2")) (codes "{") (refusal (BadBundle (fault 7 Bundle 0 0 0)))
unfolding rules_on_literals IsAnswer bundle_in
gives_nothing_of_a_broken_bundle = (fault 7 Bundle 0 0 0, (0, lit< tt, refl), refl)

gives_the_text_in_toml : IsAnswer whole (Product (codes "b.toml") (codes "k.toml")) (smallest_toml ∷ codes "features = [\"R\"]\n" ∷ [])
    (Prints (codes "case T\nwith R\nG1 goal open\n  Safe\n"))
unfolding rules_on_literals toml_on_literals IsAnswer bundle_in
gives_the_text_in_toml = refl

-- ---- replay

abbrev Replays : (configuration run : List ℕ) → Answer → Type 0
Replays configuration run a =
    IsAnswer whole (Replay (codes "b.json") (codes "k.json") (codes "r.json")) (system_bundle ∷ json configuration ∷ json run ∷ []) a

replays_to_the_end : Replays (codes "{'features':['R']}") (codes "{'element':'c','start':'s0','steps':[0,2]}") (Prints (codes "ends bad\n"))
unfolding rules_on_literals IsAnswer bundle_in run_of replay_answer
replays_to_the_end = refl

replays_no_step_that_is_not_there : Replays (codes "{'features':['R','A']}") (codes "{'element':'c','start':'s0','steps':[0,2]}")
    (refusal (ReplayNo (NotPresent 1)))
unfolding rules_on_literals IsAnswer bundle_in run_of replay_answer
replays_no_step_that_is_not_there = refl

replays_no_step_that_is_not_joined : Replays (codes "{'features':['R']}") (codes "{'element':'c','start':'s0','steps':[2]}")
    (refusal (ReplayNo (NotJoined 0)))
unfolding rules_on_literals IsAnswer bundle_in run_of replay_answer
replays_no_step_that_is_not_joined = refl

replays_from_initial_states_alone : Replays (codes "{'features':['R']}") (codes "{'element':'c','start':'s1','steps':[0,2]}")
    (refusal (ReplayNo NotInitial))
unfolding rules_on_literals IsAnswer bundle_in run_of replay_answer
replays_from_initial_states_alone = refl

replays_no_unknown_element : Replays (codes "{'features':['R']}") (codes "{'element':'d','start':'s0','steps':[0,2]}") (refusal (BadConfig 7 0))
unfolding rules_on_literals IsAnswer bundle_in run_of replay_answer
replays_no_unknown_element = refl

replays_at_valid_worlds_first : Replays (codes "{'features':['A']}") (codes "{") (refusal NotValid)
unfolding rules_on_literals IsAnswer bundle_in run_of replay_answer
replays_at_valid_worlds_first = refl

replays_of_configurations_first : Replays (codes "{'features':['Q']}") (codes "{") (refusal (BadConfig 3 0))
unfolding rules_on_literals IsAnswer bundle_in run_of replay_answer
replays_of_configurations_first = refl

-- ---- evidence

abbrev Shows : (case configuration : List ℕ) → Answer → Type 0
Shows case configuration a = IsAnswer whole (Evidence (codes "c.json") (codes "k.json")) (case ∷ json configuration ∷ []) a

run_text : List ℕ
run_text =
    codes "evidence Row\nwith R\nSn1 solution refuted\n  key 0/1/0:2/3\n  check never bad of c\n" ++ codes "  run s0 -go-> s1 -slip-> bad\n"

shows_the_run : Shows system_case (codes "{'features':['R']}") (Prints run_text)
unfolding rules_on_literals IsAnswer shown text_of_evidence run_text
shows_the_run = refl

abbrev without_run : Answer
without_run = refusal (BadCase (record { fault = 12; part = Nodes; item = 3 }))

shows_no_run_without_a_target : Shows (edited system_case (codes "[[3,4]]") (codes "[]")) (codes "{'features':['R']}") without_run
unfolding rules_on_literals IsAnswer shown text_of_evidence
shows_no_run_without_a_target = refl

states_text : List ℕ
states_text = codes "evidence Row\nwith R A\nSn1 solution supported\n  key 0/1/0:2/3\n  check never bad of c\n  states s0 s1 s2\n"

shows_states_without_a_target : Shows (edited system_case (codes "[[3,4]]") (codes "[]")) (codes "{'features':['R','A']}") (Prints states_text)
unfolding rules_on_literals IsAnswer shown text_of_evidence states_text
shows_states_without_a_target = refl

-- a transition back from the third state to the second, and parents that form a circle
shows_no_run_round_a_circle : Shows
    (edited (edited system_case (codes "[1,3,'slip']") (codes "[1,3,'slip'],[2,1,'back']")) (codes "'parents':[2,2,4]") (codes "'parents':[0,2,4,2]"))
    (codes "{'features':['R']}") without_run
unfolding rules_on_literals IsAnswer shown text_of_evidence
shows_no_run_round_a_circle = refl

shows_the_run_beside_a_way_back : Shows
    (edited (edited system_case (codes "[1,3,'slip']") (codes "[1,3,'slip'],[2,1,'back']")) (codes "'parents':[2,2,4]") (codes "'parents':[2,2,4,0]"))
    (codes "{'features':['R']}") (Prints run_text)
unfolding rules_on_literals IsAnswer shown text_of_evidence run_text
shows_the_run_beside_a_way_back = refl
