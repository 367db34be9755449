-- The lifted instance of templates that fit breaks no rule of case files, and its words are as long as possible.
use Rattle.std.proofs.Common.{◌≡◌, ℕ, zero, suc, ◌<◌, ◌≤◌, ◌^◌, List, [], ◌∷◌, map, length, Bool, true, false, not, ◌||◌, Option, Some, None, refl, sym, ap, ◌∙◌, subst, arith}
use Rattle.std.specs.Prelude.{cond, filter, is_none, pred}
use Rattle.std.specs.List.{All, AllByRecursion, list_all, sum_by}
use Rattle.std.proofs.lemmas.List.{length-map}
use Rattle.std.proofs.lemmas.List.Elements.{All-nil, All-cons, recursion_from_All}
use Rattle.worlds.specs.Algebra.{Algebra}
use Rattle.meaning.specs.Texts.{is_text, numbered, numbers_from}
use Rattle.meaning.specs.Expressions.{truth}
use Rattle.meaning.specs.Models.{Model, model_at}
use Rattle.meaning.specs.Queries.{Query, is_empty, element_numbers}
use Rattle.meaning.specs.Cases.{argues, is_solution}
use Rattle.meaning.specs.CaseReading.{part_is_text, is_strategy, bad_names}
use Rattle.meaning.specs.Templates.{Template, left_open, joined_parts, branches_of}
use Rattle.meaning.proofs.CutTrees.{Each, IsWithin}
use Rattle.meaning.proofs.EachMembers.{each_by, each_filtered}
use Rattle.gsn.specs.View.{kind_of}
use Rattle.path_queries.specs.Answering.{Somewhere, tuples_of, tuples_at}
use Rattle.lifted_case.specs.declared.lifted.Lifted.{Lifted}
use Rattle.lifted_case.specs.declared.lifted.LNode.{LNode}
use Rattle.lifted_case.specs.declared.lifted.LSystem.{LSystem}
use Rattle.lifted_case.proofs.CaseReadable.{each_in_map}
use Rattle.lifted_case.specs.CaseView.{case_part_of}
use Rattle.lifted_case.specs.CaseContents.{NodeKeepsRules, RelationKeepsRules, SystemKeepsRules, BreaksNoRule, TextsAreJoined, FindingBelongs, are_joined}
use Rattle.lifting.specs.Lifting.{Seen}
use Rattle.lifting.specs.Noted.{Noted, there_at, seen_at, Stands, relation_of, entries_of}
use Rattle.lifting.specs.LiftedInstances.{IsLiftedInstance}
use Rattle.annotated_model.specs.ModelFacts.{KeepsRules}
use Rattle.templates.specs.ReadOver.{AreRead}
use Rattle.lifting.specs.FittingTemplates.{TemplatesFit, HaveNoSolutions}
use Rattle.lifting.proofs.ReadTemplates.{read_over_fit}
use Rattle.annotated_model.specs.ModelTexts.{ModelHasTexts}
use Rattle.meaning.proofs.KeySteps.{IsSmall}
use Rattle.lifting.proofs.CaseTexts.{joined_are_texts, parts_are_joined}
use Rattle.lifting.proofs.InstanceTexts.{IsOfTemplate, of_templates}
use Rattle.meaning.proofs.KeysDiffer.{AreFew, small_elements}
use Rattle.meaning.proofs.Lists.{each_two, each_for_all}
use Rattle.meaning.proofs.Pairs.{each_of_map}
use Rattle.lifting.proofs.ModelTexts.{parts_are_texts}

-- ---- lists

pub all_from_each : {A : Type 0} (P : A → Type 0) (xs : List A) → Each P xs → All P xs
all_from_each P [] h = All-nil P
all_from_each P (x ∷ xs) h = All-cons P x xs h.0 (all_from_each P xs h.1)

-- what holds of those that are there, as they are seen
pub each_there : {A B : Type 0} (P : B → Type 0) (there : A → Bool) (seen : A → B) (xs : List A) → Each P (map seen (filter there xs)) → Each (λ x. there x ≡ true → P (seen x)) xs
each_there P there seen [] h = tt
each_there {A = A} {B = B} P there seen (x ∷ xs) h = go (there x) refl h (each_there P there seen xs)
  where
    not_both : (b : Bool) → b ≡ false → b ≡ true → ⊥
    not_both b e f = cc

    go : (b : Bool) → there x ≡ b → Each P (map seen (cond b (x ∷ filter there xs) (filter there xs)))
        → (Each P (map seen (filter there xs)) → Each (λ x. there x ≡ true → P (seen x)) xs)
        → (there x ≡ true → P (seen x)) × Each (λ x. there x ≡ true → P (seen x)) xs
    go true e h later = (λ f. h.0, later h.1)
    go false e h later = (λ f. elim (not_both (there x) e f) [ ], later h)

pub each_none : {A : Type 0} (P : A → Type 0) (xs : List A) → xs ≡ [] → All P xs
each_none P xs e = subst (All P) (sym e) (All-nil P)

length_numbers : (k n : ℕ) → length (numbers_from k n) ≡ n
length_numbers k zero = refl
length_numbers k (suc n) = ap suc (length_numbers (suc k) n)

-- ---- the nodes

-- the numbers of a product's elements are small
product_small : (m : Model) (w : List Bool) → length m.elements ≤ 2 ^ 64 → Each IsSmall (element_numbers (model_at m w))
unfolding model_at
product_small m w l =
    each_of_map IsSmall (λ e. e.0) (filter (λ e. truth e.1.presence w) (numbered m.elements))
    (each_filtered (λ e. IsSmall e.0) (λ e. truth e.1.presence w) (numbered m.elements) (each_in_map IsSmall (λ e. e.0) (numbered m.elements) (small_elements m l)))

module _ {C : Type 0} (a : Algebra C) (m : Model) (templates : List Template) (fit : TemplatesFit templates) (texts : ModelHasTexts m) where
  -- at each world at which it is there the node is one of a template
  abbrev pub IsEverywhereOfTemplate : Noted C → Type 0
  IsEverywhereOfTemplate n = (x : (w : List Bool) × (a.is_world w ≡ true)) → there_at x.0 n ≡ true → IsOfTemplate (length m.labels) (model_at m x.0) templates (seen_at x.0 n)

  module _ (n : Noted C) (s : Stands a n) (o : IsEverywhereOfTemplate n) where
    -- at a world at which it occurs
    is_there : there_at s.occurs.0 n ≡ true
    is_there = sym (s.there s.occurs.0 s.occurs.1) ∙ s.occurs.2

    here : IsOfTemplate (length m.labels) (model_at m s.occurs.0) templates (seen_at s.occurs.0 n)
    here = o (s.occurs.0, s.occurs.1) is_there

    kind_is : kind_of n.0.kind ≡ here.kind
    kind_is = ap (λ (x : Seen). x.0.kind) here.is

    key_is_text : is_text n.0.key ≡ true
    key_is_text = ap (λ (x : Seen). is_text x.0.key) here.is ∙ here.text

    parts_are : map case_part_of n.0.text ≡ joined_parts (map (left_open (model_at m s.occurs.0) here.bound) here.node.words)
    parts_are = s.parts s.occurs.0 s.occurs.1 is_there ∙ ap (λ (x : Seen). x.1.parts) here.is

    words_are_texts : list_all part_is_text (map case_part_of n.0.text) ≡ true
    words_are_texts =
        ap (list_all part_is_text) parts_are
        ∙ joined_are_texts (map (left_open (model_at m s.occurs.0) here.bound) here.node.words) (parts_are_texts m texts s.occurs.0 here.bound here.node.words (fit.texts here.number here.template here.place here.node here.stands))

    pub words_are_joined : are_joined n.0.text ≡ true
    words_are_joined = parts_are_joined n.0.text (map (left_open (model_at m s.occurs.0) here.bound) here.node.words) parts_are

    arguing : (argues (kind_of n.0.kind) || not n.0.undeveloped) ≡ true
    arguing =
        ap (λ (x : Seen). argues x.0.kind || not x.0.undeveloped) here.is
        ∙ fit.arguing here.number here.template here.place here.node here.stands here.kind here.of_kind

    no_solution : is_solution (kind_of n.0.kind) ≡ false
    no_solution = ap is_solution kind_is ∙ fit.no_solution here.number here.template here.place here.node here.stands here.kind here.of_kind

    -- a node with a branch has one at some world, where it ranges over a query
    strategy_at : (x : List Bool) (w : a.is_world x ≡ true) → is_empty (tuples_at a n.1.rows x) ≡ false → is_strategy (kind_of n.0.kind) ≡ true
    strategy_at x w e = go (n.1.there x) refl (sym (ap is_empty (s.branches_exact x w)) ∙ e)
      where
        ranges : (q : Option Query) (bound : List ℕ) → is_empty (branches_of (model_at m x) bound q) ≡ false → is_none q ≡ false
        ranges None bound f = cc
        ranges (Some q) bound f = refl

        or_false : (b c : Bool) → (b || c) ≡ true → c ≡ false → b ≡ true
        or_false true c f g = refl
        or_false false c f g = cc

        at : (t : IsOfTemplate (length m.labels) (model_at m x) templates (seen_at x n)) → is_empty (n.1.told x).branches ≡ false → is_strategy (kind_of n.0.kind) ≡ true
        at t f =
            ap (λ (y : Seen). is_strategy y.0.kind) t.is
            ∙ or_false (is_strategy t.kind) (is_none t.node.each) (fit.branching t.number t.template t.place t.node t.stands t.kind t.of_kind)
            (ranges t.node.each t.bound (sym (ap (λ (y : Seen). is_empty y.1.branches) t.is) ∙ f))

        go : (b : Bool) → n.1.there x ≡ b → is_empty (cond b (n.1.told x).branches []) ≡ false → is_strategy (kind_of n.0.kind) ≡ true
        go true there f = at (o (x, w) there) f
        go false there f = cc

    branching : (is_strategy (kind_of n.0.kind) || is_empty n.0.branches) ≡ true
    branching = ap (λ bs. is_strategy (kind_of n.0.kind) || is_empty bs) s.branches ∙ go n.1.rows refl (recursion_from_All (λ r. Somewhere a r.1) n.1.rows s.branches_occur)
      where
        or_true : (b : Bool) → (b || true) ≡ true
        or_true true = refl
        or_true false = refl

        go : (rows : List (List ℕ × C)) → n.1.rows ≡ rows → AllByRecursion (λ r. Somewhere a r.1) rows → (is_strategy (kind_of n.0.kind) || is_empty (map (λ r. r.1) rows)) ≡ true
        go [] e h = or_true (is_strategy (kind_of n.0.kind))
        go (r ∷ rows) e h =
            ap (λ b. b || false) (strategy_at h.0.0 h.0.1 (ap (λ rs. is_empty (tuples_at a rs h.0.0)) e ∙ some_there (a.holds r.1 h.0.0) h.0.2))
          where
            some_there : (b : Bool) → b ≡ true → is_empty (tuples_of (cond b (r ∷ filter (λ r. a.holds r.1 h.0.0) rows) (filter (λ r. a.holds r.1 h.0.0) rows))) ≡ false
            some_there true f = refl
            some_there false f = cc

    pub node_keeps_rules : NodeKeepsRules [] n.0
    node_keeps_rules = record {
      key = key_is_text;
      words = words_are_texts;
      branching = branching;
      arguing = arguing;
      finding = subst (FindingBelongs [] (kind_of n.0.kind)) (sym s.unchecked) no_solution;
    }

-- ---- the case

entries_at_least : {C : Type 0} (ns : List (Noted C)) → length ns ≤ entries_of ns
entries_at_least [] = omega arith
entries_at_least (n ∷ ns) = omega (arith, entries_at_least ns)

module _ {C : Type 0} (a : Algebra C) (title : List ℕ) (features : List (List ℕ)) (m : Model) (templates : List Template) (case : Lifted C)
    (fit : TemplatesFit templates) (texts : ModelHasTexts m) (few_elements : length m.elements ≤ 2 ^ 64) (h : IsLiftedInstance a title features m templates case) where
  few_nodes : AreFew templates
  few_nodes u v e = omega (arith, fit.few_nodes u v e)

  -- at each world each node that is there is one of the instance's nodes
  at_world : (x : (w : List Bool) × (a.is_world w ≡ true)) → Each (λ n. there_at x.0 n ≡ true → IsOfTemplate (length m.labels) (model_at m x.0) templates (seen_at x.0 n)) h.notes
  at_world x =
      each_there (IsOfTemplate (length m.labels) (model_at m x.0) templates) (there_at x.0) (seen_at x.0) h.notes
      (subst (Each (IsOfTemplate (length m.labels) (model_at m x.0) templates)) (sym (ap (λ t. t.nodes) (h.lifts x.0 x.1).cuts))
      (of_templates (length m.labels) (model_at m x.0) (product_small m x.0 few_elements) templates few_nodes))

  everywhere : Each (IsEverywhereOfTemplate a m templates fit texts) h.notes
  everywhere = each_for_all (λ x n. there_at x.0 n ≡ true → IsOfTemplate (length m.labels) (model_at m x.0) templates (seen_at x.0 n)) h.notes at_world

  each_known : Each (λ n. Stands a n × IsEverywhereOfTemplate a m templates fit texts n) h.notes
  each_known = each_two (Stands a) (IsEverywhereOfTemplate a m templates fit texts) h.notes h.nodes everywhere

  of_all_nodes : (P : LNode C → Type 0) → ((n : Noted C) → Stands a n → IsEverywhereOfTemplate a m templates fit texts n → P n.0) → All P case.nodes
  of_all_nodes P f =
      subst (All P) h.of_nodes
      (all_from_each P (map (λ n. n.0) h.notes)
      (each_of_map P (λ n. n.0) h.notes (each_by (λ n. Stands a n × IsEverywhereOfTemplate a m templates fit texts n) (λ n. P n.0) (λ n k. f n k.0 k.1) h.notes each_known)))

  pub instance_is_joined : TextsAreJoined case
  instance_is_joined = of_all_nodes (λ n. are_joined n.text ≡ true) (words_are_joined a m templates fit texts)

  count_nodes : length h.notes ≡ length case.nodes
  count_nodes = sym (length-map h.notes (λ n. n.0)) ∙ ap length h.of_nodes

  count_relations : length case.relations ≡ pred (length h.notes)
  count_relations =
      sym (length-map case.relations relation_of) ∙ sym (length-map (map relation_of case.relations) (λ r. r.target))
      ∙ ap length h.rooted.targets ∙ length_numbers 1 (pred (length h.notes))

  relations_keep : Each (RelationKeepsRules (length case.nodes)) case.relations
  relations_keep =
      each_by (λ r. IsWithin (length h.notes) (relation_of r)) (RelationKeepsRules (length case.nodes))
      (λ r w. record { source = subst (λ n. r.from < n) count_nodes w.0; target = subst (λ n. r.to < n) count_nodes w.1 }) case.relations
      (each_in_map (IsWithin (length h.notes)) relation_of case.relations h.rooted.within)

  few_case_nodes : length case.nodes ≤ 32768
  few_case_nodes = omega (arith, count_nodes, entries_at_least h.notes, h.few)

  few_case_relations : length case.relations ≤ 65536
  few_case_relations = le_of (length h.notes) (omega (arith, count_nodes, few_case_nodes)) count_relations
    where
      le_of : (n : ℕ) → n ≤ 32768 → length case.relations ≡ pred n → length case.relations ≤ 65536
      le_of zero l e = omega (arith, e)
      le_of (suc n) l e = omega (arith, l, e)

  few_of_systems : (size : LSystem C → ℕ) → sum_by size case.systems ≡ 0
  few_of_systems size = ap (sum_by size) h.systems

  pub instance_keeps_rules : is_text title ≡ true → bad_names features ≡ [] → length features ≤ 256 → BreaksNoRule case
  instance_keeps_rules good_title good_names few_features = record {
    title = ap is_text h.title ∙ good_title;
    names = ap bad_names h.features ∙ good_names;
    systems = each_none SystemKeepsRules case.systems h.systems;
    nodes = subst (λ ss. All (NodeKeepsRules ss) case.nodes) (sym h.systems) (of_all_nodes (NodeKeepsRules []) (node_keeps_rules a m templates fit texts));
    relations = all_from_each (RelationKeepsRules (length case.nodes)) case.relations relations_keep;
    few_features = subst (λ fs. length fs ≤ 256) (sym h.features) few_features;
    few_systems = omega (arith, ap length h.systems);
    few_states = omega (arith, few_of_systems (λ s. length s.states));
    few_transitions = omega (arith, few_of_systems (λ s. length s.transitions));
    few_nodes = few_case_nodes;
    few_relations = few_case_relations;
  }

-- ---- templates that were read

-- the instance of templates that were read, with what writing it asks
pub record IsWritable {C : Type 0} (a : Algebra C) (title : List ℕ) (features : List (List ℕ)) (m : Model) (templates : List Template) (case : Lifted C) : Type 0 where
  pub lifted : IsLiftedInstance a title features m templates case
  pub contents : is_text title ≡ true → bad_names features ≡ [] → length features ≤ 256 → BreaksNoRule case
  pub texts : TextsAreJoined case

pub writable : {C : Type 0} (a : Algebra C) (title : List ℕ) (features : List (List ℕ)) (m : Model) (listed templates : List Template) (case : Lifted C) → listed ≡ templates
    → AreRead templates → HaveNoSolutions templates → KeepsRules m → ModelHasTexts m → IsLiftedInstance a title features m listed case → IsWritable a title features m templates case
writable a title features m listed templates case same read unsolved rules texts h =
    let fit : TemplatesFit templates = read_over_fit templates read unsolved in
    let few : length m.elements ≤ 2 ^ 64 = omega (arith, rules.few_elements) in
    let lifted : IsLiftedInstance a title features m templates case = subst (λ ts. IsLiftedInstance a title features m ts case) same h in
    record {
      lifted = lifted;
      contents = instance_keeps_rules a title features m templates case fit texts few lifted;
      texts = instance_is_joined a title features m templates case fit texts few lifted;
    }
