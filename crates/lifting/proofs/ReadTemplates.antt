-- The templates of a document without a fault and without solutions are as instantiating asks.
use Rattle.std.proofs.Common.{◌≡◌, ℕ, zero, suc, ◌==◌, ◌+◌, ◌<◌, ◌≤◌, List, [], ◌∷◌, map, length, Bool, true, not, ◌||◌, Some, None, sym, ap, ◌∙◌, subst, arith}
use Rattle.std.specs.Prelude.{codes, IsTrue, is_none}
use Rattle.std.specs.List.{list_all, slice_get}
use Rattle.std.proofs.lemmas.List.{length-map}
use Rattle.meaning.specs.Documents.{Document, list_at}
use Rattle.meaning.specs.Models.{Model}
use Rattle.meaning.specs.Cases.{argues}
use Rattle.meaning.specs.CaseReading.{is_strategy}
use Rattle.meaning.specs.Templates.{Template, TemplateNode, Uses, annotations, supporters, node_count}
use Rattle.meaning.specs.TemplateTexts.{kind_of, template_of, templates_of}
use Rattle.meaning.specs.TemplateRules as rules
use Rattle.meaning.specs.TemplateRules.{NodeContext, scope_of, templates_in, kind_in, last_has_no_parameters, template_faults}
use Rattle.meaning.specs.BuiltForms.{has_no_solution, has_no_solutions}
use Rattle.meaning.proofs.CutTrees.{Each}
use Rattle.meaning.proofs.EachMembers.{each_by}
use Rattle.meaning.proofs.EmptyLists.{both_true}
use Rattle.lifting.specs.OrderedTemplates.{StandsAt, AreOrdered}
use Rattle.lifting.specs.ThereElements.{PartFits}
use Rattle.lifting.specs.ScopedTemplates.{bound_by, AreScoped}
use Rattle.templates.specs.ReadOver.{AreRead}
use Rattle.lifting.specs.FittingTemplates.{IsTextPart, FewVariables, TemplatesFit, HaveNoSolutions}
use Rattle.meaning.proofs.EqualityTests.{none_is_some, some_is, same_number, equal_numbers}
use Rattle.lifting.proofs.ReadTemplateRules.{NodeKeeps, TemplateKeeps, templates_keep}
use Rattle.lifting.proofs.ReadTemplatePlaces.{get_within}
use Rattle.lifting.proofs.ReadTemplateNodes.{names_of, nodes_in, read_context, get_mapped, IsReadAt, read_at}
use Rattle.lifting.proofs.ReadTemplateOrder.{either_true, above_is_earlier_in, IsUseOf, use_is_of}
use Rattle.lifting.proofs.ReadTemplateKinds.{branches_at_strategies, marks_at_arguments, unchecked_in, no_solution_in}
use Rattle.lifting.proofs.ReadTemplateTexts.{words_fit_in, words_are_texts}
use Rattle.lifting.proofs.ReadTemplateQueries.{few_each_in, few_guard_in}
use Rattle.lifting.proofs.ReadTemplateScopes.{annotations_see_in, supporters_see_in, arguments_below_in, first_scope}
use Rattle.lifting.proofs.ReadTemplateCounts.{read_nodes_are_few, one_of_all}

all_at : {A : Type 0} (p : A → Bool) (xs : List A) → list_all p xs ≡ true → (i : ℕ) (x : A) → slice_get xs i ≡ Some x → p x ≡ true
all_at p [] e i x f = elim (none_is_some x f) [ ]
all_at p (y ∷ xs) e zero x f = ap p (sym (some_is y x f)) ∙ (both_true (p y) (list_all p xs) e).0
all_at p (y ∷ xs) e (suc i) x f = all_at p xs (both_true (p y) (list_all p xs) e).1 i x f

module _ (m : Model) (ds : List Document) (keeps : (i : ℕ) (d : Document) → slice_get ds i ≡ Some d → TemplateKeeps m ds i d) where
  abbrev read : List Template
  read = map (template_of m (names_of m ds)) ds

  -- how many variables are in scope at node j of template i
  abbrev scope_count : ℕ → ℕ → ℕ
  scope_count i j = elim (slice_get ds i) as (λ _. ℕ) [ None ↦ 0 | Some d ↦ length (scope_of (read_context m ds i d) j) ]

  count_at : (i : ℕ) (d : Document) → slice_get ds i ≡ Some d → (j : ℕ) → scope_count i j ≡ length (scope_of (read_context m ds i d) j)
  count_at i d e j = ap (λ o. elim o as (λ _. ℕ) [ None ↦ 0 | Some d ↦ length (scope_of (read_context m ds i d) j) ]) e

  -- the document of a template and of its node
  record Found (i : ℕ) (t : Template) (j : ℕ) (n : TemplateNode) : Type 0 where
    template : Document
    at : slice_get ds i ≡ Some template
    same : template_of m (names_of m ds) template ≡ t
    node : slice_get (template_of m (names_of m ds) template).nodes j ≡ Some n
    place : IsReadAt m ds i template j n
    rules : NodeKeeps (read_context m ds i template) (j, place.document)

  find_node : (i : ℕ) (t : Template) (j : ℕ) (n : TemplateNode) → StandsAt read i t j n → Found i t j n
  find_node i t j n s =
      let found : (d : Document) × (slice_get ds i ≡ Some d) × (template_of m (names_of m ds) d ≡ t) = get_mapped (template_of m (names_of m ds)) ds i t s.template in
      let node : slice_get (template_of m (names_of m ds) found.0).nodes j ≡ Some n = subst (λ t. slice_get t.nodes j ≡ Some n) (sym found.2) s.node in
      let place : IsReadAt m ds i found.0 j n = read_at m ds i found.0 j n node in
      record { template = found.0; at = found.1; same = found.2; node = node; place = place; rules = (keeps i found.0 found.1).nodes j place.document place.of_node }

  ordered : AreOrdered read
  ordered = record {
    above_is_earlier = λ i t j n s k e.
        let x = find_node i t j n s in above_is_earlier_in m ds i x.template j x.place.document x.rules.in_place k (sym (ap (λ n. n.above) x.place.is) ∙ e);
    uses_are_earlier = λ i t j n s u arguments e.
        let x = find_node i t j n s in
        (use_is_of m ds i x.template j x.place.document x.rules.use_right (scope_of (read_context m ds i x.template) j) u arguments (sym (ap (λ n. n.kind) x.place.is) ∙ e)).earlier;
  }

  scoped_arguments : (i : ℕ) (t : Template) (j : ℕ) (n : TemplateNode) → StandsAt read i t j n → (u : ℕ) (arguments : List ℕ) → n.kind ≡ Uses u arguments
      → Each (λ v. v < scope_count i j) arguments × (scope_count u 0 ≡ length arguments)
  scoped_arguments i t j n s u arguments e =
      let x = find_node i t j n s in
      let kind : kind_of (names_of m ds) (scope_of (read_context m ds i x.template) j) x.place.document ≡ Uses u arguments = sym (ap (λ n. n.kind) x.place.is) ∙ e in
      let used : IsUseOf m ds i x.template j x.place.document u = use_is_of m ds i x.template j x.place.document x.rules.use_right (scope_of (read_context m ds i x.template) j) u arguments kind in
      let fits = arguments_below_in m ds i x.template (keeps i x.template x.at) j x.place.document u arguments kind used in (
        subst (λ k. Each (λ v. v < k) arguments) (sym (count_at i x.template x.at j)) fits.0,
        count_at u used.used used.at 0 ∙ first_scope m ds u used.used (keeps u used.used used.at) ∙ sym fits.1,
      )

  scoped_first : (i : ℕ) → suc i ≡ length read → scope_count i 0 ≡ 0
  scoped_first i e =
      let all : length read ≡ length ds = length-map ds (template_of m (names_of m ds)) in
      let found : (d : Document) × (slice_get ds i ≡ Some d) = get_within ds i (omega (arith, e, all)) in
      let last : (i + 1 == length ds) ≡ true = same_number (i + 1) (length ds) (omega (arith, e, all)) in
      let none : (length (list_at (codes "params") found.0) == 0) ≡ true = either_true (i + 1 == length ds) _ last (keeps i found.0 found.1).parameters in
      count_at i found.0 found.1 0 ∙ first_scope m ds i found.0 (keeps i found.0 found.1) ∙ equal_numbers (length (list_at (codes "params") found.0)) 0 none

  scoped : AreScoped read
  scoped = record {
    scope = scope_count;
    parts_fit = λ i t j n s.
        let x = find_node i t j n s in
        subst (λ k. Each (PartFits k) n.words) (sym (count_at i x.template x.at j))
        (subst (Each (PartFits (length (scope_of (read_context m ds i x.template) j)))) (sym (ap (λ n. n.words) x.place.is))
        (words_fit_in (read_context m ds i x.template) j x.place.document x.rules.holes));
    arguments_fit = scoped_arguments;
    annotations_see = λ i t j n s.
        let x = find_node i t j n s in
        subst (λ t. Each (λ y. scope_count i y.0 ≡ scope_count i j) (annotations t j)) x.same
        (each_by _ (λ y. scope_count i y.0 ≡ scope_count i j) (λ y h. count_at i x.template x.at y.0 ∙ h ∙ sym (count_at i x.template x.at j)) (annotations (template_of m (names_of m ds) x.template) j)
        (annotations_see_in m ds i x.template (keeps i x.template x.at) j n x.node));
    supporters_see = λ i t j n s.
        let x = find_node i t j n s in
        subst (λ t. Each (λ y. scope_count i y.0 ≡ scope_count i j + bound_by n.each) (supporters t j)) x.same
        (each_by _ (λ y. scope_count i y.0 ≡ scope_count i j + bound_by n.each)
        (λ y h. count_at i x.template x.at y.0 ∙ h ∙ ap (λ k. k + bound_by n.each) (sym (count_at i x.template x.at j))) (supporters (template_of m (names_of m ds) x.template) j)
        (supporters_see_in m ds i x.template (keeps i x.template x.at) j n x.node));
    none_at_first = scoped_first;
  }

  module _ (none : (i : ℕ) (d : Document) → slice_get ds i ≡ Some d → has_no_solution d ≡ true) where
    no_solution_word : (i : ℕ) (t : Template) (j : ℕ) (n : TemplateNode) (x : Found i t j n) → not (rules.is_solution (kind_in x.place.document)) ≡ true
    no_solution_word i t j n x =
        all_at (λ d. not (rules.is_solution (kind_in d))) (nodes_in m ds i x.template) (none i x.template x.at) j x.place.document x.place.of_node

    read_without_solutions : HaveNoSolutions read
    read_without_solutions = record {
      no_solution = λ i t j n s kind e. let x = find_node i t j n s in
          no_solution_in (read_context m ds i x.template) j x.place.document x.rules.members (no_solution_word i t j n x) (names_of m ds) (scope_of (read_context m ds i x.template) j) kind
          (sym (ap (λ n. n.kind) x.place.is) ∙ e);
      unchecked = λ i t j n s. let x = find_node i t j n s in
          ap (λ n. n.check) x.place.is
          ∙ unchecked_in (read_context m ds i x.template) j x.place.document x.rules.members (no_solution_word i t j n x) m (scope_of (read_context m ds i x.template) j);
    }

  read_fit : HaveNoSolutions read → TemplatesFit read
  read_fit none = record {
    ordered = ordered;
    scoped = scoped;
    few_each = λ i t j n s. let x = find_node i t j n s in
        subst FewVariables (sym (ap (λ n. n.each) x.place.is)) (few_each_in (read_context m ds i x.template) j x.place.document x.rules.queries);
    few_guard = λ i t j n s. let x = find_node i t j n s in
        subst FewVariables (sym (ap (λ n. n.guard) x.place.is)) (few_guard_in (read_context m ds i x.template) j x.place.document x.rules.queries);
    branching = λ i t j n s kind e. let x = find_node i t j n s in
        let scope = scope_of (read_context m ds i x.template) j in
        ap (λ n. is_strategy kind || is_none n.each) x.place.is
        ∙ branches_at_strategies (read_context m ds i x.template) j x.place.document x.rules.members m (names_of m ds) scope scope kind (sym (ap (λ n. n.kind) x.place.is) ∙ e);
    arguing = λ i t j n s kind e. let x = find_node i t j n s in
        ap (λ n. argues kind || not n.undeveloped) x.place.is
        ∙ marks_at_arguments (read_context m ds i x.template) j x.place.document x.rules.members (names_of m ds) (scope_of (read_context m ds i x.template) j) kind (sym (ap (λ n. n.kind) x.place.is) ∙ e);
    no_solution = none.no_solution;
    texts = λ i t j n s. let x = find_node i t j n s in
        subst (Each IsTextPart) (sym (ap (λ n. n.words) x.place.is))
        (words_are_texts (read_context m ds i x.template) j x.place.document m (scope_of (read_context m ds i x.template) j) x.rules.texts_fit);
    unchecked = none.unchecked;
    few_nodes = λ i t e. omega (arith, one_of_all read i t e, read_nodes_are_few m (names_of m ds) ds keeps);
    few = omega (arith, read_nodes_are_few m (names_of m ds) ds keeps);
  }

-- a document without a fault of its templates, and without solutions
pub read_templates_fit : (m : Model) (d : Document) → template_faults m d ≡ [] → has_no_solutions d ≡ true → TemplatesFit (templates_of m d)
unfolding templates_of has_no_solutions
read_templates_fit m d e none =
    read_fit m (templates_in d) (templates_keep m d e)
    (read_without_solutions m (templates_in d) (templates_keep m d e) (λ i t f. all_at has_no_solution (templates_in d) none i t f))

fit_over : (m : Model) (d : Document) → template_faults m d ≡ [] → HaveNoSolutions (templates_of m d) → TemplatesFit (templates_of m d)
unfolding templates_of
fit_over m d e none = read_fit m (templates_in d) (templates_keep m d e) none

-- templates that were read, without solutions
pub read_over_fit : (templates : List Template) → AreRead templates → HaveNoSolutions templates → TemplatesFit templates
read_over_fit templates read none =
    subst TemplatesFit (sym read.over.of_bundle) (fit_over read.model read.over.bundle read.over.rules (subst HaveNoSolutions read.over.of_bundle none))

-- the same, with the truth of the test
pub read_templates_fit_truly : (m : Model) (d : Document) → template_faults m d ≡ [] → IsTrue (has_no_solutions d) → TemplatesFit (templates_of m d)
read_templates_fit_truly m d e none = read_templates_fit m d e none

-- there are at most 1,024 nodes
pub read_templates_are_few : (m : Model) (d : Document) → template_faults m d ≡ [] → node_count (templates_of m d) ≤ 1024
unfolding templates_of
read_templates_are_few m d e = read_nodes_are_few m (names_of m (templates_in d)) (templates_in d) (templates_keep m d e)
