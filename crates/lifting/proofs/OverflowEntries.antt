-- Keys with tuples that occur are entries that occur and differ, so more of them than a case may have are too many.
use Rattle.std.proofs.Common.{◌≡◌, ◌≢◌, ℕ, ◌^◌, ◌≤◌, List, [], ◌∷◌, map, length, Bool, true, false, Option, Some, None, refl, sym, ap, ◌∙◌, subst, arith, inl, inr}
use Rattle.std.specs.Prelude.{cond, codes, IsTrue}
use Rattle.std.specs.List.{slice_get}
use Rattle.std.proofs.lemmas.List.{length-append, length-map}
use Rattle.worlds.specs.Algebra.{Algebra}
use Rattle.meaning.specs.Texts.{flat}
use Rattle.meaning.specs.Features.{is_valid}
use Rattle.meaning.specs.Models.{Model, model_at}
use Rattle.meaning.specs.Templates.{Template, TemplateNode, Instance, instance, instance_within, first_node, node_count, last_template}
use Rattle.meaning.specs.Tidy.{whole_model, keys_within, first_keys}
use Rattle.meaning.specs.Derivation.{Bundle}
use Rattle.meaning.specs.Entries.{Entry, of_node, of_branch, of_target, of_witness, only, entries_of_node, most_entries}
use Rattle.meaning.specs.Answers.{ManyEntries}
use Rattle.meaning.proofs.CutTrees.{Each}
use Rattle.meaning.proofs.EachMembers.{each_by}
use Rattle.lifting.specs.Lifting.{Seen}
use Rattle.lifting.specs.FittingTemplates.{TemplatesFit}
use Rattle.lifting.specs.Overflows.{Group, count_of_groups, KeyOccurs, TupleOccurs, Overflows, TooManyEntries}
use Rattle.meaning.proofs.Pairs.{Pairwise, each_of_map, each_of_flat, pairs_by, pairs_mapped, pairs_from_map, pairs_flat}
use Rattle.meaning.proofs.Members.{Member, member_front, member_mapped, member_of_flat, contains_member, each_from_members, member_each}
use Rattle.lifting.proofs.AmongLists.{among_pairs}
use Rattle.meaning.proofs.KeysDiffer.{AreFew, keys_are_under, small_elements, last_is_few}
use Rattle.meaning.proofs.AscendingTuples.{whole_ascends}
use Rattle.lifting.proofs.EntryParts.{entry_key, Occurs}
use Rattle.lifting.proofs.EntriesExist.{too_many}
use Rattle.lifting.proofs.OverflowSteps.{StandsIn}

-- ---- the entries of groups

abbrev entries_of_group : Group → List Entry
entries_of_group g = of_node g.0 ∷ map (of_branch g.0) g.1

abbrev entries_of_groups : List Group → List Entry
entries_of_groups gs = flat entries_of_group gs

as_many : (gs : List Group) → length (entries_of_groups gs) ≡ count_of_groups gs
as_many [] = refl
as_many (g ∷ gs) = omega (arith, length-append (entries_of_group g) (entries_of_groups gs), length-map g.1 (of_branch g.0), as_many gs)

no_branch : (key other tuple : List ℕ) → of_node key ≡ of_branch other tuple → ⊥
no_branch key other tuple e = cc

same_tuples : (key t u : List ℕ) → of_branch key t ≡ of_branch key u → t ≡ u
same_tuples key t u e = cc

group_differs : (g : Group) → Pairwise (λ t u. t ≢ u) g.1 → Pairwise (λ d e. d ≢ e) (entries_of_group g)
group_differs g once = (
  each_of_map (λ e. of_node g.0 ≢ e) (of_branch g.0) g.1 (each_from_members _ g.1 (λ t m. no_branch g.0 g.0 t)),
  pairs_mapped (λ d e. d ≢ e) (of_branch g.0) g.1 (pairs_by (λ t u. t ≢ u) (λ t u. of_branch g.0 t ≢ of_branch g.0 u) (λ t u d e. d (same_tuples g.0 t u e)) g.1 once),
)

group_keyed : (g : Group) → Each (λ e. entry_key e ≡ g.0) (entries_of_group g)
group_keyed g = (refl, each_of_map (λ e. entry_key e ≡ g.0) (of_branch g.0) g.1 (each_from_members _ g.1 (λ t m. refl)))

groups_differ : (g h : Group) → g.0 ≢ h.0 → Each (λ d. Each (λ e. d ≢ e) (entries_of_group h)) (entries_of_group g)
groups_differ g h differ =
    each_by (λ d. entry_key d ≡ g.0) (λ d. Each (λ e. d ≢ e) (entries_of_group h))
    (λ d i. each_by (λ e. entry_key e ≡ h.0) (λ e. d ≢ e) (λ e j same. differ (sym i ∙ ap entry_key same ∙ j)) (entries_of_group h) (group_keyed h))
    (entries_of_group g) (group_keyed g)

entries_differ : (gs : List Group) → Pairwise (λ k l. k ≢ l) (map (λ g. g.0) gs) → Each (λ g. Pairwise (λ t u. t ≢ u) g.1) gs → Pairwise (λ d e. d ≢ e) (entries_of_groups gs)
entries_differ gs keys once =
    pairs_flat (λ d e. d ≢ e) entries_of_group gs
    (each_by (λ g. Pairwise (λ t u. t ≢ u) g.1) (λ g. Pairwise (λ d e. d ≢ e) (entries_of_group g)) group_differs gs once)
    (pairs_by (λ g h. g.0 ≢ h.0) (λ g h. Each (λ d. Each (λ e. d ≢ e) (entries_of_group h)) (entries_of_group g)) groups_differ gs (pairs_from_map (λ k l. k ≢ l) (λ g. g.0) gs keys))

-- ---- they occur

module _ {C : Type 0} (a : Algebra C) (m : Model) (templates : List Template) (is : List Bool → List Instance)
    (within : (x : List Bool) → a.is_world x ≡ true → (s : Seen) → StandsIn (is x) s → Member s (instance (length m.labels) (model_at m x) templates).nodes) where
  abbrev OccursThere : Entry → Type 0
  OccursThere e = (x : List Bool) × (a.is_world x ≡ true) × Member e (flat entries_of_node (instance (length m.labels) (model_at m x) templates).nodes)

  entry_there : (key : List ℕ) (o : KeyOccurs a is key) (e : Entry) → Member e (entries_of_node o.node) → OccursThere e
  entry_there key o e i =
      (o.world, o.is_world, member_of_flat entries_of_node e o.node (instance (length m.labels) (model_at m o.world) templates).nodes (within o.world o.is_world o.node (o.instance, o.of_world, o.stands)) i)

  key_there : (key : List ℕ) → KeyOccurs a is key → OccursThere (of_node key)
  key_there key o = entry_there key o (of_node key) (inl (ap of_node o.key))

  tuple_there : (key tuple : List ℕ) → TupleOccurs a is key tuple → OccursThere (of_branch key tuple)
  tuple_there key tuple o =
      entry_there key o.occurs (of_branch key tuple)
      (inr (member_front _ _ (map (of_witness o.occurs.node.0.key) (only o.occurs.node.1.first)) (member_front _ _ (map (of_target o.occurs.node.0.key) (only o.occurs.node.1.last))
      (subst (λ e. Member e (map (of_branch o.occurs.node.0.key) o.occurs.node.1.branches)) (ap (λ k. of_branch k tuple) o.occurs.key)
      (member_mapped (of_branch o.occurs.node.0.key) tuple o.occurs.node.1.branches o.branch)))))

  entries_there : (gs : List Group) → Each (λ g. KeyOccurs a is g.0) gs → Each (λ g. Each (TupleOccurs a is g.0) g.1) gs → Each OccursThere (entries_of_groups gs)
  entries_there gs keys tuples =
      each_of_flat OccursThere entries_of_group gs
      (each_from_members _ gs
      (λ g i. (
        key_there g.0 (member_each (λ g. KeyOccurs a is g.0) gs keys g i),
        each_of_map OccursThere (of_branch g.0) g.1 (each_by (TupleOccurs a is g.0) (λ t. OccursThere (of_branch g.0 t)) (tuple_there g.0) g.1 (member_each (λ g. Each (TupleOccurs a is g.0) g.1) gs tuples g i)),
      )))

  -- where no key stands twice, more than the most is too many
  pub too_many_of : (keys : List (List ℕ)) (room : ℕ) → Pairwise (λ k l. k ≢ l) keys → most_entries ≤ room → Overflows a is keys room → TooManyEntries a m templates
  too_many_of keys room differ large h = record {
    entries = entries_of_groups h.groups;
    differ = entries_differ h.groups (among_pairs (λ k l. k ≢ l) h.keyed differ) h.once;
    occur = entries_there h.groups h.keys_occur h.tuples_occur;
    many = omega (arith, as_many h.groups, h.many, large);
  }

-- ---- the keys of a case

pub few_of_fit : (templates : List Template) → TemplatesFit templates → AreFew templates
few_of_fit templates fit u v e = omega (arith, fit.few_nodes u v e)

pub first_keys_differ : (m : Model) (templates : List Template) → length m.elements ≤ 2 ^ 64 → AreFew templates → (depth : ℕ) (v : Template) → length v.nodes ≤ 2 ^ 64 → (key : List ℕ)
    → Pairwise (λ k l. k ≢ l) (first_keys (keys_within depth (whole_model m) templates) (Some v) key)
first_keys_differ m templates elements few depth v nodes key = go (slice_get v.nodes 0)
  where
    go : (o : Option TemplateNode) → Pairwise (λ k l. k ≢ l) (elim o as (λ _. List (List ℕ)) [ None ↦ [] | Some n ↦ keys_within depth (whole_model m) templates v key (0, n) ])
    go None = tt
    go (Some n) = (keys_are_under (whole_model m) (whole_ascends m) (small_elements m elements) templates few depth v nodes key (0, n)).differ

-- ---- the whole

-- too much of the first node of the last template, under any condition
pub too_many_entries : {C : Type 0} (a : Algebra C) (m : Model) (templates : List Template) (v : Template) (u : List Bool → Bool) (room : ℕ)
    → length m.elements ≤ 2 ^ 64 → AreFew templates → last_template templates ≡ Some v → most_entries ≤ room
    → Overflows a (λ x. cond (u x) (first_node (instance_within (node_count templates) (length m.labels) (model_at m x) templates) (Some v) (codes "0") [] ∷ []) [])
    (first_keys (keys_within (node_count templates) (whole_model m) templates) (Some v) (codes "0")) room
    → TooManyEntries a m templates
unfolding instance
too_many_entries a m templates v u room elements few last large h =
    too_many_of a m templates (λ x. cond (u x) (first_at x ∷ []) []) within
    (first_keys (keys_within (node_count templates) (whole_model m) templates) (Some v) (codes "0")) room
    (first_keys_differ m templates elements few (node_count templates) v (last_is_few templates few v last) (codes "0")) large h
  where
    first_at : List Bool → Instance
    first_at x = first_node (instance_within (node_count templates) (length m.labels) (model_at m x) templates) (Some v) (codes "0") []

    at_world : (x : List Bool) (s : Seen) (b : Bool) → StandsIn (cond b (first_at x ∷ []) []) s → Member s (first_at x).nodes
    at_world x s true (i, inl e, k) = subst (λ i. Member s i.nodes) (sym e) k
    at_world x s true (i, inr e, k) = elim e [ ]
    at_world x s false (i, e, k) = elim e [ ]

    within : (x : List Bool) → a.is_world x ≡ true → (s : Seen) → StandsIn (cond (u x) (first_at x ∷ []) []) s → Member s (instance (length m.labels) (model_at m x) templates).nodes
    within x w s i =
        subst (λ o. Member s (first_node (instance_within (node_count templates) (length m.labels) (model_at m x) templates) o (codes "0") []).nodes) (sym last) (at_world x s (u x) i)

-- ---- of a bundle

-- where the worlds are the valid ones of the line, they are too many for its build
pub too_many_is_many : {C : Type 0} (a : Algebra C) (b : Bundle) → ((w : List Bool) → a.is_world w ≡ true → IsTrue (is_valid b.line w)) → TooManyEntries a b.model b.templates → ManyEntries b
too_many_is_many a b valid h =
    too_many b h.entries h.differ
    (each_by
    (λ e. (x : List Bool) × (a.is_world x ≡ true) × Member e (flat entries_of_node (instance (length b.model.labels) (model_at b.model x) b.templates).nodes))
    (Occurs b)
    (λ e o. ((o.0, valid o.0 o.1), contains_member e (flat entries_of_node (instance (length b.model.labels) (model_at b.model o.0) b.templates).nodes) o.2)) h.entries h.occur)
    h.many
