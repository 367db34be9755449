-- Templates of a document without a fault: what the rules say of each template and of each node.
use Rattle.std.proofs.Common.{◌≡◌, ℕ, zero, suc, ◌+◌, List, [], ◌∷◌, ◌++◌, Bool, true, false, Option, Some, None, refl, subst, arith}
use Rattle.std.specs.Prelude.{codes}
use Rattle.std.specs.List.{slice_get, enumerate_from}
use Rattle.meaning.specs.Texts.{flat, numbered}
use Rattle.meaning.specs.Documents.{Document, list_at}
use Rattle.meaning.specs.Models.{Model}
use Rattle.meaning.specs.BundlePlaces.{Part, Broken, requires, broken_at, where_formed, faults_at, faults_of_items, faults_of_items_in, is_list_value, may_have, Templates, Params, Nodes}
use Rattle.meaning.specs.LineRules.{is_within}
use Rattle.meaning.specs.ModelRules.{faults_in_item}
use Rattle.meaning.specs.ExpressionFaults.{TextFault}
use Rattle.meaning.specs.TemplateRules.{NodeContext, context_of, templates_in, last_has_no_parameters, has_nodes, template_form, template_rules, parameter_rules, node_texts_fit, node_form, stands_in_place, has_its_members, first_query_fault, place_if_any, hole_fault_of_node, use_is_right, node_rules, node_faults, list_rules, template_faults}
use Rattle.meaning.proofs.CutTrees.{Each}
use Rattle.meaning.proofs.Lists.{map_nothing}
use Rattle.meaning.proofs.EqualityTests.{none_is_some, some_is}

-- ---- lists with nothing in them

pub both_empty : {A : Type 0} (xs ys : List A) → xs ++ ys ≡ [] → (xs ≡ []) × (ys ≡ [])
both_empty [] ys e = (refl, e)
both_empty (x ∷ xs) ys e = cc

pub flat_empty : {A B : Type 0} (f : A → List B) (xs : List A) → flat f xs ≡ [] → Each (λ x. f x ≡ []) xs
flat_empty f [] e = tt
flat_empty f (x ∷ xs) e = let parts = both_empty (f x) (flat f xs) e in (parts.0, flat_empty f xs parts.1)

required : (rule : ℕ) (holds : Bool) → requires rule holds ≡ [] → holds ≡ true
required rule true e = refl
required rule false e = cc

not_broken : (rule : ℕ) (at : Option ℕ) → broken_at rule at ≡ [] → at ≡ None
not_broken rule None e = refl
not_broken rule (Some at) e = cc

formed : (form others : List Broken) → where_formed form others ≡ [] → (form ≡ []) × (others ≡ [])
formed [] others e = (refl, e)
formed (f ∷ fs) others e = cc

none_there : (part : Part) (item sub : ℕ) (broken : List Broken) → faults_at part item sub broken ≡ [] → broken ≡ []
none_there part item sub broken e = map_nothing _ broken e

no_place : (fault : Option TextFault) → place_if_any fault ≡ None → fault ≡ None
no_place None e = refl
no_place (Some f) e = cc

-- what holds of each numbered element holds at each place
pub at_place : {A : Type 0} (P : ℕ × A → Type 0) (k : ℕ) (xs : List A) → Each P (enumerate_from k xs)
    → (j : ℕ) (x : A) → slice_get xs j ≡ Some x → (i : ℕ) → i ≡ k + j → P (i, x)
at_place P k [] h j x e i q = elim (none_is_some x e) [ ]
at_place P k (y ∷ xs) h zero x e i q =
    let same : k ≡ i = omega (arith, q) in subst (λ i. P (i, x)) same (subst (λ y. P (k, y)) (some_is y x e) h.0)
at_place P k (y ∷ xs) h (suc j) x e i q = at_place P (k + 1) xs h.1 j x e i (omega (arith, q))

-- ---- what the rules of a node say

-- a node that breaks no rule
pub record NodeKeeps (c : NodeContext) (n : ℕ × Document) : Type 0 where
  pub texts_fit : node_texts_fit n.1 ≡ true
  pub within : is_within 1024 (c.nodes_before + n.0) ≡ true
  pub in_place : stands_in_place c n ≡ true
  pub members : has_its_members c n ≡ true
  pub queries : first_query_fault c n ≡ None
  pub holes : hole_fault_of_node c n ≡ None
  pub use_right : use_is_right c n ≡ true

node_keeps : (c : NodeContext) (n : ℕ × Document) → node_rules c n ≡ [] → NodeKeeps c n
unfolding node_rules
node_keeps c n e =
    let parts = formed (node_form c n) _ e in
    let f6 = both_empty _ (requires 6 (is_within 1024 (c.nodes_before + n.0))) parts.0 in
    let f5 = both_empty _ _ f6.0 in
    let f4 = both_empty _ _ f5.0 in
    let o29 = both_empty _ (requires 29 (use_is_right c n)) parts.1 in
    let o28 = both_empty _ _ o29.0 in
    let o27 = both_empty _ _ o28.0 in
    let o26 = both_empty _ _ o27.0 in
    let o25 = both_empty _ _ o26.0 in
    let o24 = both_empty _ _ o25.0 in
    record {
      texts_fit = required 4 (node_texts_fit n.1) f4.1;
      within = required 6 (is_within 1024 (c.nodes_before + n.0)) f6.1;
      in_place = required 24 (stands_in_place c n) o24.1;
      members = required 25 (has_its_members c n) o25.1;
      queries = no_place (first_query_fault c n) (not_broken 26 (place_if_any (first_query_fault c n)) o26.1);
      holes = not_broken 27 (hole_fault_of_node c n) o27.1;
      use_right = required 29 (use_is_right c n) o29.1;
    }

-- ---- what the rules of a template say

-- a template that breaks no rule, with its nodes
pub record TemplateKeeps (m : Model) (templates : List Document) (i : ℕ) (template : Document) : Type 0 where
  pub parameters : last_has_no_parameters templates (i, template) ≡ true
  pub listed : may_have is_list_value (codes "nodes") template ≡ true
  pub some_node : has_nodes template ≡ true
  pub nodes : (j : ℕ) (d : Document) → slice_get (list_at (codes "nodes") template) j ≡ Some d → NodeKeeps (context_of m templates (i, template)) (j, d)

template_says : (templates : List Document) (t : ℕ × Document) → template_rules templates t ≡ [] → (last_has_no_parameters templates t ≡ true) × (has_nodes t.1 ≡ true)
unfolding template_rules
template_says templates t e =
    let parts = formed (template_form templates t) _ e in
    let two = both_empty (requires 23 (last_has_no_parameters templates t)) (requires 24 (has_nodes t.1)) parts.1 in
    (required 23 (last_has_no_parameters templates t) two.0, required 24 (has_nodes t.1) two.1)

nodes_say : (m : Model) (templates : List Document) (t : ℕ × Document) → node_faults m templates t ≡ []
    → (may_have is_list_value (codes "nodes") t.1 ≡ true)
    × ((j : ℕ) (d : Document) → slice_get (list_at (codes "nodes") t.1) j ≡ Some d → NodeKeeps (context_of m templates t) (j, d))
nodes_say m templates t e =
    let two = both_empty (faults_at Nodes t.0 0 (requires 2 (may_have is_list_value (codes "nodes") t.1)))
    (faults_of_items_in Nodes t.0 (node_rules (context_of m templates t)) (list_at (codes "nodes") t.1)) e in
    let each : Each (λ x. faults_at Nodes t.0 x.0 (node_rules (context_of m templates t) x) ≡ []) (numbered (list_at (codes "nodes") t.1)) =
    flat_empty (λ x. faults_at Nodes t.0 x.0 (node_rules (context_of m templates t) x)) (numbered (list_at (codes "nodes") t.1)) two.1 in (
      required 2 (may_have is_list_value (codes "nodes") t.1) (none_there Nodes t.0 0 (requires 2 (may_have is_list_value (codes "nodes") t.1)) two.0),
      λ j d f. node_keeps (context_of m templates t) (j, d)
          (none_there Nodes t.0 j (node_rules (context_of m templates t) (j, d))
          (at_place (λ x. faults_at Nodes t.0 x.0 (node_rules (context_of m templates t) x) ≡ []) 0 (list_at (codes "nodes") t.1) each j d f j (omega arith))),
    )

-- each template of a document without a fault
pub templates_keep : (m : Model) (bundle : Document) → template_faults m bundle ≡ []
    → (i : ℕ) (t : Document) → slice_get (templates_in bundle) i ≡ Some t → TemplateKeeps m (templates_in bundle) i t
unfolding template_faults
templates_keep m bundle e i t f =
    let last = both_empty _ (flat (node_faults m (templates_in bundle)) (numbered (templates_in bundle))) e in
    let third = both_empty _ (flat (λ t. faults_in_item Params (codes "params") (parameter_rules m t.1) t) (numbered (templates_in bundle))) last.0 in
    let two = both_empty (faults_at Templates 0 0 (list_rules bundle)) (faults_of_items Templates (template_rules (templates_in bundle)) (templates_in bundle)) third.0 in
    let rules : Each (λ x. faults_at Templates x.0 0 (template_rules (templates_in bundle) x) ≡ []) (numbered (templates_in bundle)) =
    flat_empty (λ x. faults_at Templates x.0 0 (template_rules (templates_in bundle) x)) (numbered (templates_in bundle)) two.1 in
    let nodes : Each (λ x. node_faults m (templates_in bundle) x ≡ []) (numbered (templates_in bundle)) =
    flat_empty (node_faults m (templates_in bundle)) (numbered (templates_in bundle)) last.1 in
    let itself = template_says (templates_in bundle) (i, t)
    (none_there Templates i 0 (template_rules (templates_in bundle) (i, t))
    (at_place (λ x. faults_at Templates x.0 0 (template_rules (templates_in bundle) x) ≡ []) 0 (templates_in bundle) rules i t f i (omega arith))) in
    let inside = nodes_say m (templates_in bundle) (i, t)
    (at_place (λ x. node_faults m (templates_in bundle) x ≡ []) 0 (templates_in bundle) nodes i t f i (omega arith)) in
    record { parameters = itself.0; listed = inside.0; some_node = itself.1; nodes = inside.1 }
