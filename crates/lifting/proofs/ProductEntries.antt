-- The entries of one product all differ, so they are no more than those of the bundle.
use Rattle.std.proofs.Common.{◌≡◌, ◌≢◌, ℕ, ◌≤◌, List, [], ◌∷◌, ◌++◌, map, length, Bool, true, Option, Some, None, refl, sym, ap, ◌∙◌, subst, arith}
use Rattle.std.specs.Prelude.{IsTrue}
use Rattle.meaning.specs.Texts.{flat}
use Rattle.meaning.specs.Features.{is_valid}
use Rattle.meaning.specs.Models.{PlainModel, model_at}
use Rattle.meaning.specs.Queries.{Query}
use Rattle.meaning.specs.Templates.{Template, branches_of, instance}
use Rattle.meaning.specs.Derivation.{Bundle}
use Rattle.meaning.specs.Headline.{IsBuildOf}
use Rattle.meaning.specs.Tidy.{instance_at, is_before}
use Rattle.meaning.specs.Entries.{Entry, of_node, of_branch, of_target, of_witness, only, entries_of_node, entries_at, most_entries}
use Rattle.meaning.specs.Answers.{Stage, IsBuilt}
use Rattle.meaning.proofs.CutTrees.{Each}
use Rattle.meaning.proofs.EachMembers.{each_by}
use Rattle.lifting.specs.Lifting.{Seen, key_seen}
use Rattle.meaning.proofs.AscendingTuples.{IsAscending, answers_ascend, product_ascends, before_differ}
use Rattle.lifting.proofs.EntryParts.{entry_key}
use Rattle.lifting.proofs.InstanceNodes.{in_instance}
use Rattle.meaning.proofs.Lists.{each_append, each_of_all}
use Rattle.meaning.proofs.Members.{Member, no_more, each_from_members, member_of_contains, contains_member}
use Rattle.meaning.proofs.Pairs.{Pairwise, each_of_map, pairs_append, pairs_by, pairs_where, pairs_mapped, pairs_flat}
use Rattle.lifting.proofs.TidyProducts.{product_differs}

-- ---- the branches of a node

abbrev BranchesDiffer : Seen → Type 0
BranchesDiffer s = Pairwise (λ t u. t ≢ u) s.1.branches

module _ (m : PlainModel) (h : IsAscending m) where
  of_query : (bound : List ℕ) (q : Option Query) → Pairwise (λ t u. t ≢ u) (branches_of m bound q)
  of_query bound None = tt
  of_query bound (Some q) = pairs_by is_before (λ t u. t ≢ u) before_differ (branches_of m bound (Some q)) (answers_ascend m h q bound)

  branches_differ : (labels : ℕ) (templates : List Template) → Each BranchesDiffer (instance labels m templates).nodes
  branches_differ labels templates = in_instance labels m templates BranchesDiffer (λ key bound kind n. of_query bound n.each)

-- ---- the entries of a node

module _ (key : List ℕ) where
  same_branch : (x y : List ℕ) → of_branch key x ≡ of_branch key y → x ≡ y
  same_branch x y e = cc

  branch_no_target : (x : List ℕ) (y : ℕ) → of_branch key x ≡ of_target key y → ⊥
  branch_no_target x y e = cc

  branch_no_witness : (x y : List ℕ) → of_branch key x ≡ of_witness key y → ⊥
  branch_no_witness x y e = cc

  target_no_witness : (x : ℕ) (y : List ℕ) → of_target key x ≡ of_witness key y → ⊥
  target_no_witness x y e = cc

  node_no_branch : (x : List ℕ) → of_node key ≡ of_branch key x → ⊥
  node_no_branch x e = cc

  node_no_target : (x : ℕ) → of_node key ≡ of_target key x → ⊥
  node_no_target x e = cc

  node_no_witness : (x : List ℕ) → of_node key ≡ of_witness key x → ⊥
  node_no_witness x e = cc

  at_most_one : {A : Type 0} (f : A → Entry) (o : Option A) → Pairwise (λ d e. d ≢ e) (map f (only o))
  at_most_one f None = tt
  at_most_one f (Some x) = (tt, tt)

  module _ (branches : List (List ℕ)) (last : Option ℕ) (first : Option (List ℕ)) where
    abbrev others : List Entry
    others = (map (of_branch key) branches ++ map (of_target key) (only last)) ++ map (of_witness key) (only first)

    of_others : (P : Entry → Type 0) → ((x : List ℕ) → P (of_branch key x)) → ((x : ℕ) → P (of_target key x)) → ((x : List ℕ) → P (of_witness key x)) → Each P others
    of_others P b t w =
        each_append P (map (of_branch key) branches ++ map (of_target key) (only last)) (map (of_witness key) (only first))
        (each_append P (map (of_branch key) branches) (map (of_target key) (only last))
        (each_of_map P (of_branch key) branches (each_of_all _ b branches))
        (each_of_map P (of_target key) (only last) (each_of_all _ t (only last))))
        (each_of_map P (of_witness key) (only first) (each_of_all _ w (only first)))

    others_differ : Pairwise (λ t u. t ≢ u) branches → Pairwise (λ d e. d ≢ e) others
    others_differ h =
        pairs_append (λ d e. d ≢ e) (map (of_branch key) branches ++ map (of_target key) (only last)) (map (of_witness key) (only first))
        (pairs_append (λ d e. d ≢ e) (map (of_branch key) branches) (map (of_target key) (only last))
        (pairs_mapped (λ d e. d ≢ e) (of_branch key) branches (pairs_by (λ t u. t ≢ u) _ (λ x y d e. d (same_branch x y e)) branches h))
        (at_most_one (of_target key) last)
        (each_of_map _ (of_branch key) branches (each_of_all _ (λ x. each_of_map _ (of_target key) (only last) (each_of_all _ (λ y. branch_no_target x y) (only last))) branches)))
        (at_most_one (of_witness key) first)
        (each_append _ (map (of_branch key) branches) (map (of_target key) (only last))
        (each_of_map _ (of_branch key) branches (each_of_all _ (λ x. each_of_map _ (of_witness key) (only first) (each_of_all _ (λ y. branch_no_witness x y) (only first))) branches))
        (each_of_map _ (of_target key) (only last) (each_of_all _ (λ x. each_of_map _ (of_witness key) (only first) (each_of_all _ (λ y. target_no_witness x y) (only first))) (only last))))

entries_differ : (s : Seen) → BranchesDiffer s → Pairwise (λ d e. d ≢ e) (entries_of_node s)
entries_differ s h = (
  of_others s.0.key s.1.branches s.1.last s.1.first (λ e. of_node s.0.key ≢ e) (λ x e. node_no_branch s.0.key x e) (λ x e. node_no_target s.0.key x e) (λ x e. node_no_witness s.0.key x e),
  others_differ s.0.key s.1.branches s.1.last s.1.first h,
)

entries_keyed : (s : Seen) → Each (λ e. entry_key e ≡ key_seen s) (entries_of_node s)
entries_keyed s = (refl, of_others s.0.key s.1.branches s.1.last s.1.first (λ e. entry_key e ≡ s.0.key) (λ x. refl) (λ x. refl) (λ x. refl))

apart : (s t : Seen) → key_seen s ≢ key_seen t → Each (λ d. Each (λ e. d ≢ e) (entries_of_node t)) (entries_of_node s)
apart s t d =
    each_by (λ x. entry_key x ≡ key_seen s) _
    (λ x k. each_by (λ y. entry_key y ≡ key_seen t) (λ y. x ≢ y) (λ y l e. d (sym k ∙ ap entry_key e ∙ l)) (entries_of_node t) (entries_keyed t))
    (entries_of_node s) (entries_keyed s)

-- ---- those of a product

module _ (b : Bundle) (bytes : List ℕ) (build : IsBuildOf bytes b) (w : List Bool) (valid : is_valid b.line w ≡ true) where
  all_differ_here : Pairwise (λ d e. d ≢ e) (entries_at b w)
  all_differ_here =
      pairs_flat (λ d e. d ≢ e) entries_of_node (instance_at b w).nodes
      (each_by BranchesDiffer _ entries_differ (instance_at b w).nodes (branches_differ (model_at b.model w) (product_ascends b.model w) (length b.model.labels) b.templates))
      (pairs_by (λ s t. key_seen s ≢ key_seen t) _ apart (instance_at b w).nodes (product_differs build.document b build.tidy w valid))

  -- they are no more than any list that has all entries of the bundle
  no_more_here : (entries : List Entry) → ((e : Entry) → Member e (entries_at b w) → Member e entries) → length (entries_at b w) ≤ length entries
  no_more_here entries all = no_more (entries_at b w) entries all_differ_here (each_from_members (λ e. Member e entries) (entries_at b w) all)

-- a built bundle has few entries, so each of its products has
pub few_at_each : (s : Stage) (b : Bundle) (bytes : List ℕ) → IsBuilt s b bytes → IsTrue s.counts_entries → (w : List Bool) → is_valid b.line w ≡ true → length (entries_at b w) ≤ most_entries
few_at_each s b bytes built counts w valid =
    let few = built.few counts in
    omega (
      arith,
      few.few,
      no_more_here b bytes built.build w valid few.entries
          (λ e m. member_of_contains e few.entries (few.of_bundle.every (w, valid) e (contains_member e (entries_at b w) m))),
    )
