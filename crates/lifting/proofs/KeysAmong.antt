-- The keys of a product's instance are some of those that the templates list, in their order.
use Rattle.std.proofs.Common.{◌≡◌, ℕ, zero, suc, List, [], ◌∷◌, ◌++◌, map, length, Bool, true, false, Option, Some, None, refl, sym, ap, ◌∙◌, subst}
use Rattle.std.specs.Prelude.{cond, codes}
use Rattle.std.specs.List.{slice_get, list_all}
use Rattle.std.proofs.lemmas.List.{map-append}
use Rattle.meaning.specs.Texts.{flat, numbered}
use Rattle.meaning.specs.Models.{Model, model_at, is_a}
use Rattle.meaning.specs.Queries.{Query, answers, tuples, meets, elements_of_type, element_of_variable}
use Rattle.meaning.specs.Templates.{Template, TemplateNode, TemplateKind, Plain, Uses, Instance, Instances, nothing, annotations, supporters, supported_by, first_node, key_below, key_in_branch, is_guarded_off, instance_by_kind, instance_over, instance_within, instance, node_count, last_template}
use Rattle.meaning.specs.Tidy.{Among, none, taken, Keys, keys_below, first_keys, keys_by_kind, keys_within, possible_keys, whole_model, instance_at}
use Rattle.meaning.specs.Derivation.{Bundle}
use Rattle.lifting.specs.Lifting.{key_seen}
use Rattle.meaning.proofs.Lists.{flat_append, flat_of_map, each_of_all}
use Rattle.lifting.proofs.AmongLists.{among_nothing, among_append, among_filtered, among_filters, among_both, among_mapped, among_flat, among_flats}

-- ---- answers are some of the typed tuples of the whole model

module _ (m : Model) (w : List Bool) where
  of_type_among : (t : ℕ) → Among (elements_of_type (model_at m w) t) (elements_of_type (whole_model m) t)
  unfolding model_at
  of_type_among t = among_mapped (λ e. e.0) (among_filters (λ e. is_a m.types e.1.of_type t) (among_filtered _ (numbered m.elements)))

  pub tuples_among : (ts : List ℕ) → Among (tuples (model_at m w) ts) (tuples (whole_model m) ts)
  tuples_among [] = taken none
  tuples_among (t ∷ ts) =
      among_flats (λ e. map (λ es. e ∷ es) (tuples (model_at m w) ts)) (λ e. map (λ es. e ∷ es) (tuples (whole_model m) ts))
      (λ e. among_mapped (λ es. e ∷ es) (tuples_among ts)) (of_type_among t)

  pub answers_among : (q : Query) (bound : List ℕ) → Among (answers (model_at m w) q bound) (tuples (whole_model m) q.variables)
  unfolding answers
  answers_among q bound = among_both (tuples_among q.variables) (among_filtered (λ es. list_all (meets (model_at m w) (bound ++ es)) q.constraints) (tuples (model_at m w) q.variables))

-- ---- keys of instances

abbrev pub keys_in : Instance → List (List ℕ)
keys_in i = map key_seen i.nodes

keys_of_all : (is : List Instance) → map key_seen (flat (λ i. i.nodes) is) ≡ flat keys_in is
keys_of_all [] = refl
keys_of_all (i ∷ is) = map-append key_seen i.nodes (flat (λ i. i.nodes) is) ∙ ap (λ ks. keys_in i ++ ks) (keys_of_all is)

module _ (labels : ℕ) (m : Model) (w : List Bool) (templates : List Template) (below : Instances) (keys : Keys)
    (fine : (t : Template) (key bound : List ℕ) (n : ℕ × TemplateNode) → Among (keys_in (below t key bound n)) (keys t key n)) where
  each_among : (t : Template) (bound : List ℕ) (key_of : ℕ × TemplateNode → List ℕ) (xs : List (ℕ × TemplateNode))
      → Among (flat keys_in (map (λ x. below t (key_of x) bound x) xs)) (flat (λ x. keys t (key_of x) x) xs)
  each_among t bound key_of xs =
      subst (λ ks. Among ks (flat (λ x. keys t (key_of x) x) xs)) (sym (flat_of_map keys_in (λ x. below t (key_of x) bound x) xs))
      (among_flat (λ x. keys_in (below t (key_of x) bound x)) (λ x. keys t (key_of x) x) xs (each_of_all _ (λ x. fine t (key_of x) bound x) xs))

  supported_among : (t : Template) (key bound : List ℕ) (k : ℕ) (q : Option Query)
      → Among (flat keys_in (supported_by below (model_at m w) t key bound k q)) (keys_below keys (whole_model m) t key k q)
  supported_among t key bound k None = each_among t bound (λ x. key_below key x.0) (supporters t k)
  supported_among t key bound k (Some q) =
      subst (λ ks. Among ks (keys_below keys (whole_model m) t key k (Some q))) (sym (go (answers (model_at m w) q bound)))
      (among_flats (λ answer. flat keys_in (in_branch answer)) (λ answer. flat (λ x. keys t (key_in_branch key answer x.0) x) (supporters t k))
      (λ answer. each_among t (bound ++ answer) (λ x. key_in_branch key answer x.0) (supporters t k)) (answers_among m w q bound))
    where
      in_branch : List ℕ → List Instance
      in_branch answer = map (λ x. below t (key_in_branch key answer x.0) (bound ++ answer) x) (supporters t k)

      go : (as_found : List (List ℕ)) → flat keys_in (flat in_branch as_found) ≡ flat (λ answer. flat keys_in (in_branch answer)) as_found
      go [] = refl
      go (answer ∷ more) = flat_append keys_in (in_branch answer) (flat in_branch more) ∙ ap (λ ks. flat keys_in (in_branch answer) ++ ks) (go more)

  first_among : (o : Option Template) (key bound : List ℕ) → Among (keys_in (first_node below o key bound)) (first_keys keys o key)
  first_among None key bound = none
  first_among (Some t) key bound = go (slice_get t.nodes 0)
    where
      go : (o : Option TemplateNode)
          → Among (keys_in (elim o as (λ _. Instance) [ None ↦ nothing | Some n ↦ below t key bound (0, n) ])) (elim o as (λ _. List (List ℕ)) [ None ↦ [] | Some n ↦ keys t key (0, n) ])
      go None = none
      go (Some n) = fine t key bound (0, n)

  kind_among : (t : Template) (key bound : List ℕ) (n : ℕ × TemplateNode) (kind : TemplateKind)
      → Among (keys_in (instance_by_kind below labels (model_at m w) templates t key bound n kind)) (keys_by_kind keys (whole_model m) templates t key n kind)
  kind_among t key bound n (Plain kind) =
      taken
      (subst (λ ks. Among ks (flat (λ x. keys t (key_below key x.0) x) (annotations t n.0) ++ keys_below keys (whole_model m) t key n.0 n.1.each))
      (sym (keys_of_all (annotating ++ supporting) ∙ flat_append keys_in annotating supporting))
      (among_append (supported_among t key bound n.0 n.1.each) (each_among t bound (λ x. key_below key x.0) (annotations t n.0))))
    where
      annotating : List Instance
      annotating = map (λ x. below t (key_below key x.0) bound x) (annotations t n.0)

      supporting : List Instance
      supporting = supported_by below (model_at m w) t key bound n.0 n.1.each
  kind_among t key bound n (Uses u arguments) = first_among (slice_get templates u) key (map (element_of_variable bound) arguments)

  node_among : (t : Template) (key bound : List ℕ) (n : ℕ × TemplateNode)
      → Among (keys_in (instance_over below labels (model_at m w) templates t key bound n)) (keys_by_kind keys (whole_model m) templates t key n n.1.kind)
  node_among t key bound n = go (is_guarded_off (model_at m w) bound n.1.guard)
    where
      go : (off : Bool) → Among (keys_in (cond off nothing (instance_by_kind below labels (model_at m w) templates t key bound n n.1.kind))) (keys_by_kind keys (whole_model m) templates t key n n.1.kind)
      go true = among_nothing (keys_by_kind keys (whole_model m) templates t key n n.1.kind)
      go false = kind_among t key bound n n.1.kind

module _ (labels : ℕ) (m : Model) (w : List Bool) (templates : List Template) where
  -- at every depth, of every node
  pub keys_among : (depth : ℕ) (t : Template) (key bound : List ℕ) (n : ℕ × TemplateNode)
      → Among (keys_in (instance_within depth labels (model_at m w) templates t key bound n)) (keys_within depth (whole_model m) templates t key n)
  keys_among zero t key bound n = none
  keys_among (suc depth) t key bound n =
      node_among labels m w templates (instance_within depth labels (model_at m w) templates) (keys_within depth (whole_model m) templates)
      (λ u k b x. keys_among depth u k b x) t key bound n

-- the keys of a product are some of the possible keys
pub product_keys_among : (b : Bundle) (w : List Bool) → Among (keys_in (instance_at b w)) (possible_keys b)
unfolding instance possible_keys
product_keys_among b w =
    first_among (length b.model.labels) b.model w b.templates
    (instance_within (node_count b.templates) (length b.model.labels) (model_at b.model w) b.templates) (keys_within (node_count b.templates) (whole_model b.model) b.templates)
    (keys_among (length b.model.labels) b.model w b.templates (node_count b.templates)) (last_template b.templates) (codes "0") []
