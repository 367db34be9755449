-- The rules that readers of bundles tell have numbers below that of a void line.
use Rattle.std.proofs.Common.{◌≡◌, refl, sym, ap, ◌∙◌, ℕ, List, [], ◌∷◌, ◌++◌, Bool, true, false, arith}
use Rattle.std.specs.Prelude.{◌&&◌, ◌==◌, nat_lt, codes, Option, Some, None, is_some, if◌then◌else◌}
use Rattle.std.specs.List.{list_all}
use Rattle.std.proofs.lemmas.Bool.{true≢false}
use Rattle.std.proofs.lemmas.Bool.Decides.{nat_tests}
use Rattle.std.proofs.lemmas.List.Folds.{list_all-append}
use Rattle.meaning.specs.Texts.{flat, numbered, first_of_list}
use Rattle.meaning.specs.Documents.{Document, Form, document_of, list_at}
use Rattle.meaning.specs.Models.{Model, model_of}
use Rattle.meaning.specs.BundlePlaces.{Part, Bundle, Types, Kinds, Labels, Elements, Links, Systems, States, Transitions, Owners, Templates, Params, Nodes, BundleFault, Broken, requires, broken_at, where_formed, faults_at, faults_of_items, faults_of_items_in, is_table_value}
use Rattle.meaning.specs.LineRules.{feature_names_in, features_in, feature_rules, feature_faults, line_in, line_rule_rules, line_rule_faults, line_faults, expression_rules}
use Rattle.meaning.specs.ModelRules as m
use Rattle.meaning.specs.ModelRules.{ModelContext}
use Rattle.meaning.specs.TemplateRules as t
use Rattle.meaning.specs.TemplateRules.{NodeContext}
use Rattle.meaning.specs.BundleRules.{no_table, bundle_rules, top_faults, faults_of_readers, bundle_faults}
use Rattle.meaning.specs.Words.{form_named}
use Rattle.meaning.specs.Stages.{faults_of_bytes, faults_if_read}
use Rattle.meaning.specs.Answers.{BundleReading, Faulty, NotBuilt, Good, unless_faulty, if_built, bundle_in}
use Rattle.meaning.specs.Derivation.{bundle_of}
use Rattle.workbench.specs.BuildingStage.{building_cases}
use Rattle.workbench.proofs.BundleReadings.{reading}

both_true : (a b : Bool) → a ≡ true → b ≡ true → (a && b) ≡ true
both_true a b e f = ap (λ x. x && b) e ∙ f

-- ---- what is broken at one place

pub record Small (bs : List Broken) : Type 0 where
  pub is : list_all (λ b. nat_lt b.0 30) bs ≡ true

both : (bs cs : List Broken) → Small bs → Small cs → Small (bs ++ cs)
both bs cs h i = record {
  is = list_all-append (λ b. nat_lt b.0 30) bs cs ∙ both_true (list_all (λ b. nat_lt b.0 30) bs) (list_all (λ b. nat_lt b.0 30) cs) h.is i.is;
}

need : (rule : ℕ) (holds : Bool) → nat_lt rule 30 ≡ true → Small (requires rule holds)
need rule true small = record { is = refl }
need rule false small = record { is = both_true (nat_lt rule 30) true small refl }

place : (rule : ℕ) (byte : Option ℕ) → nat_lt rule 30 ≡ true → Small (broken_at rule byte)
place rule None small = record { is = refl }
place rule (Some byte) small = record { is = both_true (nat_lt rule 30) true small refl }

formed : (form others : List Broken) → Small form → Small others → Small (where_formed form others)
formed [] others h i = i
formed (b ∷ bs) others h i = h

expression : (names : List (List ℕ)) (k : List ℕ) (d : Document) → Small (expression_rules names k d)
expression names k d = both _ _ (place 11 _ refl) (place 12 _ refl)

-- ---- the items of each part

feature : (names : List (List ℕ)) (x : ℕ × Document) → Small (feature_rules names x)
unfolding feature_rules
feature names x = formed _ _ (both _ _ (both _ _ (both _ _ (need _ _ refl) (need _ _ refl)) (need _ _ refl)) (need _ _ refl)) (both _ _ (need _ _ refl) (need _ _ refl))

line_rule : (names : List (List ℕ)) (x : ℕ × Document) → Small (line_rule_rules names x)
unfolding line_rule_rules
line_rule names x = formed _ _ (both _ _ (both _ _ (need _ _ refl) (need _ _ refl)) (need _ _ refl)) (both _ _ (need _ _ refl) (expression names (codes "holds") x.1))

type : (c : ModelContext) (x : ℕ × Document) → Small (m.type_rules c x)
unfolding m.type_rules
type c x = formed _ _ (both _ _ (both _ _ (both _ _ (need _ _ refl) (need _ _ refl)) (need _ _ refl)) (need _ _ refl)) (need _ _ refl)

kind : (c : ModelContext) (x : ℕ × Document) → Small (m.kind_rules c x)
unfolding m.kind_rules
kind c x = formed _ _ (both _ _ (both _ _ (both _ _ (need _ _ refl) (need _ _ refl)) (need _ _ refl)) (need _ _ refl)) (need _ _ refl)

label : (c : ModelContext) (x : ℕ × Document) → Small (m.label_rules c x)
unfolding m.label_rules
label c x = both _ _ (both _ _ (both _ _ (need _ _ refl) (need _ _ refl)) (need _ _ refl)) (need _ _ refl)

element : (c : ModelContext) (x : ℕ × Document) → Small (m.element_rules c x)
unfolding m.element_rules
element c x =
    formed _ _ (both _ _ (both _ _ (both _ _ (both _ _ (need _ _ refl) (need _ _ refl)) (need _ _ refl)) (need _ _ refl)) (need _ _ refl)) (both _ _ (both _ _ (expression c.features (codes "when") x.1) (need _ _ refl)) (need _ _ refl))

link : (c : ModelContext) (x : ℕ × Document) → Small (m.link_rules c x)
unfolding m.link_rules
link c x = formed _ _ (both _ _ (both _ _ (need _ _ refl) (need _ _ refl)) (need _ _ refl)) (both _ _ (both _ _ (expression c.features (codes "when") x.1) (need _ _ refl)) (need _ _ refl))

system : (c : ModelContext) (x : ℕ × Document) → Small (m.system_rules c x)
unfolding m.system_rules
system c x = formed _ _ (both _ _ (need _ _ refl) (need _ _ refl)) (both _ _ (need _ _ refl) (need _ _ refl))

state : (c : ModelContext) (s x : ℕ × Document) → Small (m.state_rules c s x)
unfolding m.state_rules
state c s x = formed _ _ (both _ _ (both _ _ (both _ _ (need _ _ refl) (need _ _ refl)) (need _ _ refl)) (need _ _ refl)) (need _ _ refl)

transition : (c : ModelContext) (s x : ℕ × Document) → Small (m.transition_rules c s x)
unfolding m.transition_rules
transition c s x = formed _ _ (both _ _ (both _ _ (both _ _ (need _ _ refl) (need _ _ refl)) (need _ _ refl)) (need _ _ refl)) (both _ _ (expression c.features (codes "when") x.1) (need _ _ refl))

template : (ts : List Document) (x : ℕ × Document) → Small (t.template_rules ts x)
unfolding t.template_rules
template ts x = formed _ _ (both _ _ (both _ _ (both _ _ (need _ _ refl) (need _ _ refl)) (need _ _ refl)) (need _ _ refl)) (both _ _ (need _ _ refl) (need _ _ refl))

parameter : (model : Model) (d : Document) (x : ℕ × Document) → Small (t.parameter_rules model d x)
unfolding t.parameter_rules
parameter model d x = formed _ _ (both _ _ (both _ _ (both _ _ (need _ _ refl) (need _ _ refl)) (need _ _ refl)) (need _ _ refl)) (need _ _ refl)

node : (c : NodeContext) (x : ℕ × Document) → Small (t.node_rules c x)
unfolding t.node_rules
node c x =
    formed (t.node_form c x) _ (both _ _ (both _ _ (both _ _ (both _ _ (need _ _ refl) (need _ _ refl)) (need _ _ refl)) (need _ _ refl)) (need _ _ refl))
    (both _ _ (both _ _ (both _ _ (both _ _ (both _ _ (both _ _ (expression c.model.labels (codes "never") (t.check_in x.1)) (need _ _ refl)) (need _ _ refl)) (place 26 (t.place_if_any (t.first_query_fault c x)) refl)) (place 27 (t.hole_fault_of_node c x) refl)) (need _ _ refl)) (need _ _ refl))

-- ---- faults

pub record SmallFaults (fs : List BundleFault) : Type 0 where
  pub is : list_all (λ f. nat_lt f.rule 30) fs ≡ true

all : (fs gs : List BundleFault) → SmallFaults fs → SmallFaults gs → SmallFaults (fs ++ gs)
all fs gs h i = record {
  is = list_all-append (λ f. nat_lt f.rule 30) fs gs ∙ both_true (list_all (λ f. nat_lt f.rule 30) fs) (list_all (λ f. nat_lt f.rule 30) gs) h.is i.is;
}

here : (part : Part) (item sub : ℕ) (bs : List Broken) → Small bs → SmallFaults (faults_at part item sub bs)
here part item sub bs h = record { is = go bs ∙ h.is }
  where
    go : (cs : List Broken) → list_all (λ f. nat_lt f.rule 30) (faults_at part item sub cs) ≡ list_all (λ b. nat_lt b.0 30) cs
    go [] = refl
    go (b ∷ cs) = ap (λ x. nat_lt b.0 30 && x) (go cs)

each : {A : Type 0} (faults : A → List BundleFault) (xs : List A) → ((x : A) → SmallFaults (faults x)) → SmallFaults (flat faults xs)
each faults [] h = record { is = refl }
each faults (x ∷ xs) h = all (faults x) (flat faults xs) (h x) (each faults xs h)

items : (part : Part) (rules : ℕ × Document → List Broken) (ds : List Document) → ((x : ℕ × Document) → Small (rules x)) → SmallFaults (faults_of_items part rules ds)
items part rules ds h = each (λ x. faults_at part x.0 0 (rules x)) (numbered ds) (λ x. here part x.0 0 (rules x) (h x))

items_in : (part : Part) (item : ℕ) (rules : ℕ × Document → List Broken) (ds : List Document) → ((x : ℕ × Document) → Small (rules x))
    → SmallFaults (faults_of_items_in part item rules ds)
items_in part item rules ds h = each (λ x. faults_at part item x.0 (rules x)) (numbered ds) (λ x. here part item x.0 (rules x) (h x))

listed : (c : ModelContext) (part : Part) (k : List ℕ) (rules : ℕ × Document → List Broken) → ((x : ℕ × Document) → Small (rules x))
    → SmallFaults (m.faults_in_list c part k rules)
listed c part k rules h = all _ _ (here _ _ _ _ (need _ _ refl)) (items _ _ _ h)

inside : (part : Part) (k : List ℕ) (rules : ℕ × Document → List Broken) (x : ℕ × Document) → ((y : ℕ × Document) → Small (rules y))
    → SmallFaults (m.faults_in_item part k rules x)
inside part k rules x h = all _ _ (here _ _ _ _ (need _ _ refl)) (items_in _ _ _ _ h)

line : (d : Document) → SmallFaults (line_faults d)
unfolding line_faults
line d = all _ _ (all _ _ (here _ _ _ _ (need _ _ refl)) (items _ _ _ (feature (feature_names_in d)))) (all _ _ (here _ _ _ _ (need _ _ refl)) (items _ _ _ (line_rule (feature_names_in d))))

context : (c : ModelContext) → SmallFaults (m.faults_of_context c)
context c =
    all _ _ (all _ _ (all _ _ (all _ _ (all _ _ (all _ _ (all _ _ (all _ _
    (listed c Types (codes "types") (m.type_rules c) (type c))
    (listed c Kinds (codes "kinds") (m.kind_rules c) (kind c)))
    (listed c Labels (codes "labels") (m.label_rules c) (label c)))
    (listed c Elements (codes "elements") (m.element_rules c) (element c)))
    (listed c Links (codes "links") (m.link_rules c) (link c)))
    (listed c Systems (codes "systems") (m.system_rules c) (system c)))
    (each (λ x. m.faults_in_item States (codes "states") (m.state_rules c x) x) (numbered (m.items_in c (codes "systems")))
    (λ x. inside States (codes "states") (m.state_rules c x) x (state c x))))
    (each (λ x. m.faults_in_item Transitions (codes "transitions") (m.transition_rules c x) x) (numbered (m.items_in c (codes "systems")))
    (λ x. inside Transitions (codes "transitions") (m.transition_rules c x) x (transition c x))))
    (items Owners (λ e. requires 20 (m.has_its_system c e.1)) (m.items_in c (codes "elements")) (λ x. need 20 (m.has_its_system c x.1) refl))

model : (features : List (List ℕ)) (d : Document) → SmallFaults (m.model_faults features d)
unfolding m.model_faults
model features d = context (m.context_of features (m.model_in d))

templates : (over : Model) (d : Document) → SmallFaults (t.template_faults over d)
unfolding t.template_faults
templates over d =
    all _ _ (all _ _ (all _ _ (here Templates 0 0 (t.list_rules d) (both _ _ (need _ _ refl) (need _ _ refl)))
    (items Templates (t.template_rules (t.templates_in d)) (t.templates_in d) (template (t.templates_in d))))
    (each (λ x. m.faults_in_item Params (codes "params") (t.parameter_rules over x.1) x) (numbered (t.templates_in d))
    (λ x. inside Params (codes "params") (t.parameter_rules over x.1) x (parameter over x.1))))
    (each (t.node_faults over (t.templates_in d)) (numbered (t.templates_in d))
    (λ x. inside Nodes (codes "nodes") (t.node_rules (t.context_of over (t.templates_in d) x)) x (node (t.context_of over (t.templates_in d) x))))

of_bundle : (table : Bool) (d : Document)
    → SmallFaults ((if table then faults_at Bundle 0 0 (bundle_rules d) else no_table ∷ []) ++ (if table then faults_of_readers d else []))
of_bundle true d =
    all _ _ (here _ _ _ _ (both _ _ (both _ _ (need _ _ refl) (need _ _ refl)) (need _ _ refl)))
    (all _ _ (all _ _ (line d) (model (feature_names_in d) d)) (templates (model_of (feature_names_in d) d) d))
of_bundle false d = record { is = refl }

small_faults : (d : Document) → SmallFaults (bundle_faults d)
unfolding bundle_faults top_faults
small_faults d = of_bundle (is_table_value d) d

of_document : (o : Option Document) → SmallFaults (faults_if_read bundle_faults o)
of_document None = record { is = refl }
of_document (Some d) = small_faults d

-- ---- what a reading tells

faults_told : (gs fs : List BundleFault) (o : Option Document) → SmallFaults gs → unless_faulty gs (if_built building_cases o) ≡ Faulty fs → SmallFaults fs
faults_told (g ∷ gs) fs o h e = let told : Faulty (g ∷ gs) ≡ Faulty fs = e in let same : g ∷ gs ≡ fs = cc in record { is = ap (list_all (λ f. nat_lt f.rule 30)) (sym same) ∙ h.is }
faults_told [] fs None h e = absurd (let n : NotBuilt ≡ Faulty fs = e in cc)
faults_told [] fs (Some d) h e = absurd (never (building_cases.builds d) e)
  where
    never : (b : Bool) → (if b then Good d (bundle_of d) else NotBuilt) ≡ Faulty fs → ⊥
    never true e = cc
    never false e = cc

first_small : (fs : List BundleFault) (f : BundleFault) → SmallFaults fs → first_of_list fs ≡ Some f → (f.rule == 30) ≡ false
first_small [] f h e = absurd (true≢false (sym (ap is_some e)))
first_small (g ∷ fs) f h e =
    let told : Some g ≡ Some f = e in
    let same : g ≡ f = cc in
    let small : nat_lt f.rule 30 ≡ true = ap (λ x. nat_lt x.rule 30) (sym same) ∙ first_of_two (nat_lt g.rule 30) (list_all (λ x. nat_lt x.rule 30) fs) h.is in
    grind (arith, nat_tests)
  where
    first_of_two : (a b : Bool) → (a && b) ≡ true → a ≡ true
    first_of_two true b e = refl
    first_of_two false b e = absurd (true≢false (sym e))

-- the fault that a faulty bundle tells isn't that no world is valid
pub not_void : (name bytes : List ℕ) (fs : List BundleFault) (f : BundleFault) → bundle_in building_cases name bytes ≡ Faulty fs → first_of_list fs ≡ Some f
    → (f.rule == 30) ≡ false
not_void name bytes fs f e first =
    first_small fs f
    (faults_told (faults_of_bytes bundle_faults (form_named name) bytes) fs (document_of (form_named name) bytes) (of_document (document_of (form_named name) bytes))
    (sym (reading name bytes) ∙ e)) first
