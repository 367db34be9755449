-- The templates of a bundle and their faults, from the three passes that read them.
use Rattle.std.proofs.Common.{◌≡◌, refl, sym, ap, ◌∙◌, subst, ℕ, ◌+◌, ◌<◌, List, [], ◌∷◌, ◌++◌, map, length, take, drop, get_or, append_assoc, Some}
use Rattle.std.specs.Prelude.{Result, IfOk, codes, option_map}
use Rattle.std.specs.List.{slice_get}
use Rattle.std.proofs.lemmas.List.{take_more, drop_more, map-append, length-map}
use Rattle.std.proofs.lemmas.Option.{slice_get-map}
use Rattle.meaning.specs.Documents.{Document, list_at}
use Rattle.meaning.specs.Models.{Model}
use Rattle.meaning.specs.QueryTexts.{Scope}
use Rattle.meaning.specs.Templates.{TemplateNode, Template}
use Rattle.meaning.specs.TemplateTexts.{templates_of, template_of}
use Rattle.meaning.specs.BundlePlaces.{Templates, Params, Nodes, BundleFault, requires, may_have, is_list_value, faults_at, name_in}
use Rattle.meaning.specs.ModelRules.{faults_in_item}
use Rattle.meaning.specs.TemplateRules.{id_in, templates_in, list_rules, parameter_rules, faults_in_templates, node_faults, template_faults}
use Rattle.templates.specs.declared.data.Template as code
use Rattle.templates.specs.declared.fault.TemplateStop.{TemplateStop}
use Rattle.templates.specs.View.{template_view}
use Rattle.templates.specs.Faults.{IsFirst}
use Rattle.doc_tree.specs.declared.doc.Doc.{Doc}
use Rattle.doc_tree.specs.View.{document, documents}
use Rattle.templates.specs.ListRules.{list_broken, all_parameters_broken, parameters_in}
use Rattle.templates.specs.NodeRules.{Around, nodes_told, nodes_broken, around, template_nodes_broken, all_nodes_broken}
use Rattle.templates.specs.Wholes.{nodes_in, joined_views}
use Rattle.templates.proofs.Firsts.{first_in_front, first_behind, first_of_left, left_behind}
use Rattle.templates.proofs.ListLaws.{templates_are, parameters_are}
use Rattle.templates.proofs.NodeLaws.{nodes_are, template_is}

module _ (m : Model) (bundle : Document) where
  abbrev ts : List Document
  ts = templates_in bundle

  abbrev lists : List BundleFault
  lists = list_broken bundle

  abbrev parameters : List BundleFault
  parameters = all_parameters_broken m 0 ts

  abbrev nodes : List BundleFault
  nodes = all_nodes_broken m [] 0 0 ts

  faults_are : lists ++ parameters ++ nodes ≡ template_faults m bundle
  unfolding template_faults
  faults_are =
      sym (ap (λ fs. faults_at Templates 0 0 (list_rules bundle) ++ fs ++ faults_in_templates bundle (λ t. faults_in_item Params (codes "params") (parameter_rules m t.1) t)
      ++ faults_in_templates bundle (node_faults m ts)) (templates_are ts)
      ∙ (ap (λ fs. lists ++ fs ++ faults_in_templates bundle (node_faults m ts)) (parameters_are m 0 ts)
      ∙ ap (λ fs. lists ++ parameters ++ fs) (nodes_are m ts [] ts 0 0 refl refl refl)))

  pub at_list : (stop : TemplateStop) → IsFirst lists stop → IsFirst (template_faults m bundle) stop
  at_list stop first =
      subst (λ fs. IsFirst fs stop) faults_are (first_in_front (lists ++ parameters) nodes stop (first_in_front lists parameters stop first))

  pub at_both : lists ≡ [] → (stop : TemplateStop) → IsFirst (parameters ++ nodes) stop → IsFirst (template_faults m bundle) stop
  at_both none stop first =
      subst (λ fs. IsFirst fs stop) (sym (append_assoc lists parameters nodes) ∙ faults_are) (first_behind lists (parameters ++ nodes) stop none first)

  pub no_fault : lists ≡ [] → parameters ≡ [] → nodes ≡ [] → template_faults m bundle ≡ []
  no_fault none none_there none_below =
      sym faults_are ∙ (ap (λ fs. fs ++ parameters ++ nodes) none ∙ (ap (λ fs. fs ++ nodes) none_there ∙ none_below))

-- what is joined of the same parameters and nodes is the same
pub joined_alike : {E : Type 0} (ds : List Document) (result : Result (List code.Template) E) (pss qss : List Scope) (nss mss : List (List TemplateNode)) → pss ≡ qss → nss ≡ mss
    → IfOk result (λ row. map template_view row ≡ joined_views ds pss nss) → IfOk result (λ row. map template_view row ≡ joined_views ds qss mss)
joined_alike ds result pss qss nss mss same same_nodes is =
    subst (λ xs. IfOk result (λ row. map template_view row ≡ joined_views ds qss xs)) same_nodes
    (subst (λ xs. IfOk result (λ row. map template_view row ≡ joined_views ds xs nss)) same is)

-- ---- the nodes of one template among all

module _ (m : Model) (docs : List Doc) where
  before_next : (number : ℕ) (template : Doc) → number < length docs → template ≡ get_or docs number template
      → documents (take (number + 1) docs) ≡ documents (take number docs) ++ document template ∷ []
  before_next number template inside is =
      ap documents (take_more docs number template inside ∙ ap (λ d. take number docs ++ d ∷ []) (sym is)) ∙ map-append document (take number docs) (template ∷ [])

  -- the nodes of the template of a number, after so many nodes
  abbrev here : ℕ → ℕ → Doc → List BundleFault
  here number counted template = template_nodes_broken (around m (documents (take number docs)) number counted (document template)) (document template)

  abbrev from : ℕ → ℕ → List BundleFault
  from number counted = all_nodes_broken m (documents (take number docs)) number counted (documents (drop number docs))

  abbrev behind : ℕ → ℕ → Doc → List Document → List BundleFault
  behind number counted template =
      all_nodes_broken m (documents (take number docs) ++ document template ∷ []) (number + 1) (counted + length (list_at (codes "nodes") (document template)))

  -- the first fault of its nodes is the first of all
  pub nodes_stop : (number counted : ℕ) (template : Doc) (all : List BundleFault) (stop : TemplateStop) → number < length docs → template ≡ get_or docs number template
      → from number counted ≡ all → IsFirst (here number counted template) stop → IsFirst all stop
  nodes_stop number counted template all stop inside is before first =
      first_of_left (all_nodes_broken m (documents (take number docs)) number counted) docs number template (here number counted template) all
      (behind number counted template) stop inside is before (λ ds. refl) first

  -- and where they have none, the faults of the templates behind are those of all
  pub nodes_go_on : (number counted more : ℕ) (template : Doc) (all : List BundleFault) → number < length docs → template ≡ get_or docs number template
      → more ≡ length (list_at (codes "nodes") (document template)) → from number counted ≡ all → here number counted template ≡ [] → from (number + 1) (counted + more) ≡ all
  nodes_go_on number counted more template all inside is many before none =
      ap (λ n. from (number + 1) (counted + n)) many
      ∙ (ap (λ b. all_nodes_broken m b (number + 1) (counted + length (list_at (codes "nodes") (document template))) (documents (drop (number + 1) docs)))
      (before_next number template inside is)
      ∙ left_behind (all_nodes_broken m (documents (take number docs)) number counted) docs number template (here number counted template) all
      (behind number counted template) inside is before (λ ds. refl) none)

-- one more value behind those that are read
pub values_go_on : {R Y : Type 0} (f : R → Y) (g : Document → Y) (docs : List Doc) (number : ℕ) (template : Doc) (rows next : List R) (row : R) (all : List Y)
    → number < length docs → template ≡ get_or docs number template → next ≡ rows ++ row ∷ [] → f row ≡ g (document template)
    → map f rows ++ map g (documents (drop number docs)) ≡ all → map f next ++ map g (documents (drop (number + 1) docs)) ≡ all
values_go_on f g docs number template rows next row all inside is longer here before =
    let left = map g (documents (drop (number + 1) docs)) in
    ap (λ rs. map f rs ++ left) longer
    ∙ (ap (λ ys. ys ++ left) (map-append f rows (row ∷ []))
    ∙ (append_assoc (map f rows) (f row ∷ []) left
    ∙ (ap (λ y. map f rows ++ y ∷ left) here
    ∙ (ap (λ ds. map f rows ++ map g (documents ds)) (sym (drop_more docs number template inside ∙ ap (λ x. x ∷ drop (number + 1) docs) (sym is))) ∙ before))))

-- the nodes of a template, read over these parameters and nodes
module _ (m : Model) (earlier : List Document) (number counted : ℕ) (d : Document) (own : Scope) (ds : List Document)
    (own_is : own ≡ parameters_in m d) (nodes_is : ds ≡ list_at (codes "nodes") d) where
  abbrev read_over : Around
  read_over = record { model = m; earlier = earlier; template = number; parameters = own; counted = counted; nodes = ds }

  pub told_is : (names : List (List ℕ)) → nodes_told m names own (map id_in ds) [] ds ≡ nodes_in m names d
  told_is names =
      ap (λ ps. nodes_told m names ps (map id_in ds) [] ds) own_is ∙ ap (λ ns. nodes_told m names (parameters_in m d) (map id_in ns) [] ns) nodes_is

  pub whole_is : requires 2 (may_have is_list_value (codes "nodes") d) ≡ [] → nodes_broken read_over [] 0 ds ≡ template_nodes_broken (around m earlier number counted d) d
  whole_is formed =
      ap (λ ps. nodes_broken (record { model = m; earlier = earlier; template = number; parameters = ps; counted = counted; nodes = ds }) [] 0 ds) own_is
      ∙ (ap (λ ns. nodes_broken (record { model = m; earlier = earlier; template = number; parameters = parameters_in m d; counted = counted; nodes = ns }) [] 0 ns) nodes_is
      ∙ ap (λ broken. faults_at Nodes number 0 broken ++ nodes_broken (around m earlier number counted d) [] 0 (list_at (codes "nodes") d)) (sym formed))

-- the parameters of the template of a number
module _ (m : Model) (docs : List Doc) (rows : List Scope) (values : rows ≡ map (parameters_in m) (documents docs)) where
  pub rows_many : length rows ≡ length docs
  rows_many = ap length values ∙ (length-map (documents docs) (parameters_in m) ∙ length-map docs document)

  pub row_there : (number : ℕ) (template : Doc) (row : Scope) → slice_get docs number ≡ Some template → slice_get rows number ≡ Some row → row ≡ parameters_in m (document template)
  row_there number template row there read =
      let told : slice_get rows number ≡ Some (parameters_in m (document template)) =
      ap (λ rs. slice_get rs number) values
      ∙ (slice_get-map (parameters_in m) (documents docs) number
      ∙ ap (option_map (parameters_in m)) (slice_get-map document docs number ∙ ap (option_map document) there)) in
      cc

-- ---- values

joined_are : (m : Model) (names : List (List ℕ)) (ds : List Document) → joined_views ds (map (parameters_in m) ds) (map (nodes_in m names) ds) ≡ map (template_of m names) ds
joined_are m names [] = refl
joined_are m names (d ∷ ds) =
    ap (λ t. t ∷ joined_views ds (map (parameters_in m) ds) (map (nodes_in m names) ds)) (sym (template_is m names d))
    ∙ ap (λ ts. template_of m names d ∷ ts) (joined_are m names ds)

pub templates_are_read : (m : Model) (bundle : Document) (names : List (List ℕ)) (nss : List (List TemplateNode)) → names ≡ map name_in (templates_in bundle)
    → nss ≡ map (nodes_in m names) (templates_in bundle)
    → joined_views (templates_in bundle) (map (parameters_in m) (templates_in bundle)) nss ≡ templates_of m bundle
unfolding templates_of
templates_are_read m bundle names nss named are =
    ap (joined_views (templates_in bundle) (map (parameters_in m) (templates_in bundle))) are
    ∙ (joined_are m names (templates_in bundle) ∙ ap (λ ns. map (template_of m ns) (templates_in bundle)) named)

-- what is joined of the documents of a bundle, where no part of them has a fault
pub whole_is_read : (m : Model) (bundle : Document) (names : List (List ℕ)) (ds : List Document) (views : List Template) → ds ≡ templates_in bundle
    → names ≡ map name_in (templates_in bundle) → views ≡ joined_views ds (map (parameters_in m) ds) (map (nodes_in m names) ds)
    → list_broken bundle ≡ [] → all_parameters_broken m 0 ds ≡ [] → all_nodes_broken m [] 0 0 ds ≡ []
    → (views ≡ templates_of m bundle) × (template_faults m bundle ≡ [])
whole_is_read m bundle names ds views docs named are none parameters nodes = (
  are ∙ ap (λ xs. joined_views xs (map (parameters_in m) xs) (map (nodes_in m names) xs)) docs
      ∙ templates_are_read m bundle names (map (nodes_in m names) (templates_in bundle)) named refl,
  no_fault m bundle none (subst (λ xs. all_parameters_broken m 0 xs ≡ []) docs parameters) (subst (λ xs. all_nodes_broken m [] 0 0 xs ≡ []) docs nodes),
)
