-- At every configuration a case derives to what its bundle gives directly, computed by the check.
use Rattle.std.specs.Prelude.{◌≡◌, ℕ, List, [], ◌∷◌, ◌++◌, map, Bool, true, false, Option, Some, None, refl, codes, option_map}
use Rattle.meaning.specs.Documents.{Json, document_of}
use Rattle.meaning.specs.CaseReading.{read_case, Broken, Is}
use Rattle.meaning.specs.TableOrder.{rows_in_order, walk_order}
use Rattle.meaning.specs.Derivation.{Answer, NotValid, bundle_of, case_at, direct, derived}
use Rattle.meaning_rows.proofs.Samples.{json, edited, smallest_bundle, smallest_case, one_enumeration_bundle, one_enumeration_case, alternatives_bundle, nested_bundle, system_bundle, system_case, meaning_on_literals}
use Rattle.meaning_rows.proofs.WholeBundles.{void_bundle}

-- the configurations of three features, and some that are broken
abbrev configurations : List (List ℕ)
configurations = map json (
    codes "{'features':[]}" ∷ codes "{'features':['R']}" ∷ codes "{'features':['A']}" ∷ codes "{'features':['B']}"
    ∷ codes "{'features':['R','A']}" ∷ codes "{'features':['B','R']}" ∷ codes "{'features':['A','B']}" ∷ codes "{'features':['R','A','B']}"
    ∷ codes "{'features':['R','Q']}" ∷ codes "{'features':['R','R']}" ∷ codes "{}" ∷ codes "{" ∷ [])

abbrev derived_at_all : List ℕ → List Answer
derived_at_all case = map (derived case Json) configurations

abbrev direct_at_all : List ℕ → Option (List Answer)
direct_at_all bundle = option_map (λ d. map (direct (bundle_of d) Json) configurations) (document_of Json bundle)

smallest_derives_as_directly : direct_at_all smallest_bundle ≡ Some (derived_at_all smallest_case)
unfolding meaning_on_literals
smallest_derives_as_directly = refl

one_enumeration_derives_as_directly : direct_at_all one_enumeration_bundle ≡ Some (derived_at_all one_enumeration_case)
unfolding meaning_on_literals
one_enumeration_derives_as_directly = refl

system_derives_as_directly : direct_at_all system_bundle ≡ Some (derived_at_all system_case)
unfolding meaning_on_literals
system_derives_as_directly = refl

-- two alternatives: conditions of eight rows
unfoldable alternatives_case : List ℕ
alternatives_case = json (
    codes "{'case':1,'features':['R','A','B'],'nodes':[{'key':'0','kind':'goal','text':['All'],'when':5},"
    ++ codes "{'branches':[7,9],'key':'0/1','kind':'strategy','text':['Over ',0],'when':5},"
    ++ codes "{'key':'0/1/0:2','kind':'goal','text':['Handle x'],'when':7},{'key':'0/1/1:2','kind':'goal','text':['Handle y'],'when':9}],"
    ++ codes "'relations':[{'from':0,'kind':'supported','to':1,'when':5},{'from':1,'kind':'supported','to':2,'when':7},"
    ++ codes "{'from':1,'kind':'supported','to':3,'when':9}],'systems':[],"
    ++ codes "'table':[[2,0,1],[2,1,0],[1,2,3],[0,0,4],[1,0,3],[0,0,6],[1,2,0],[0,0,8]],'title':'Row','valid':5}" ++ codes "\n")

alternatives_derive_as_directly : direct_at_all alternatives_bundle ≡ Some (derived_at_all alternatives_case)
unfolding meaning_on_literals alternatives_case
alternatives_derive_as_directly = refl

rows_are_in_order : List ℕ → Option Bool
rows_are_in_order bytes = elim (read_case bytes) as (λ _. Option Bool) [ Broken f ↦ None | Is k ↦ Some (rows_in_order k) ]

rows_of_alternatives_are_in_order : rows_are_in_order alternatives_case ≡ Some true
unfolding meaning_on_literals rows_are_in_order walk_order alternatives_case
rows_of_alternatives_are_in_order = refl

-- an element that no product has
element_in_no_product : direct_at_all (edited alternatives_bundle (codes "{'name':'y','type':'N','when':'B'}")
    (codes "{'name':'y','type':'N','when':'B'},{'name':'z','type':'N','when':'A & B'}")) ≡ Some (derived_at_all alternatives_case)
unfolding meaning_on_literals alternatives_case
element_in_no_product = refl

-- a line without a valid world has no product
void_configurations : List (List ℕ)
void_configurations = map json (codes "{'features':[]}" ∷ codes "{'features':['R']}" ∷ codes "{'features':['A']}" ∷ codes "{'features':['R','A']}" ∷ [])

void_line_has_no_product : option_map (λ d. map (direct (bundle_of d) Json) void_configurations) (document_of Json void_bundle)
    ≡ Some (NotValid ∷ NotValid ∷ NotValid ∷ NotValid ∷ [])
unfolding meaning_on_literals void_bundle void_configurations
void_line_has_no_product = refl

-- ---- nested enumerations: the inner answer stands under the outer one only where both elements are there

keys_with_first_and_second : List ℕ → Option (List (List (List ℕ)))
keys_with_first_and_second bundle = option_map
    (λ d. map (λ w. map (λ n. n.key) (case_at (bundle_of d) w).nodes) ((true ∷ true ∷ false ∷ []) ∷ (true ∷ false ∷ true ∷ []) ∷ []))
    (document_of Json bundle)

ends_of_a_link_exclude_each_other : keys_with_first_and_second nested_bundle
    ≡ Some ((codes "0" ∷ codes "0/1" ∷ codes "0/1/0:2" ∷ codes "0/1/0:2/3" ∷ [])
    ∷ (codes "0" ∷ codes "0/1" ∷ codes "0/1/1:2" ∷ codes "0/1/1:2/3" ∷ []) ∷ [])
unfolding meaning_on_literals keys_with_first_and_second
ends_of_a_link_exclude_each_other = refl

outer_answer_under_itself_alone : keys_with_first_and_second (edited nested_bundle (codes "m: N with n [k] m") (codes "m: N"))
    ≡ Some ((codes "0" ∷ codes "0/1" ∷ codes "0/1/0:2" ∷ codes "0/1/0:2/3" ∷ codes "0/1/0:2/3/0:4" ∷ [])
    ∷ (codes "0" ∷ codes "0/1" ∷ codes "0/1/1:2" ∷ codes "0/1/1:2/3" ∷ codes "0/1/1:2/3/1:4" ∷ []) ∷ [])
unfolding meaning_on_literals keys_with_first_and_second
outer_answer_under_itself_alone = refl
