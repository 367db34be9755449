-- The lifted instance over one world alone is that product's own case, and its entries are few where it has few.
use Rattle.std.proofs.Common.{◌≡◌, ℕ, suc, ◌+◌, ◌<◌, ◌≤◌, List, [], ◌∷◌, ◌++◌, map, length, Bool, true, false, ◌&&◌, Option, Some, None, refl, sym, ap, ◌∙◌, subst, arith}
use Rattle.std.specs.Prelude.{cond, filter, nat_lt, if◌then◌else◌, IsTrue}
use Rattle.std.proofs.lemmas.Bool.Decides.{nat_tests}
use Rattle.std.proofs.lemmas.List.{length-map, length-append}
use Rattle.worlds.specs.Algebra.{Algebra}
use Rattle.worlds.specs.OneWorld.{HasOnlyWorld}
use Rattle.meaning.specs.Texts.{flat}
use Rattle.meaning.specs.Features.{feature_names, is_valid}
use Rattle.meaning.specs.Models.{model_at}
use Rattle.meaning.specs.Cases.{text_of_case}
use Rattle.meaning.specs.CaseFiles.{CaseDocument, holds, cut}
use Rattle.meaning.specs.Templates.{instance}
use Rattle.meaning.specs.Statuses.{BigCase}
use Rattle.meaning.specs.Derivation.{Bundle, case_at, direct_at, if_valid}
use Rattle.meaning.specs.Tidy.{instance_at, presence_of}
use Rattle.meaning.specs.Entries.{of_node, of_branch, of_target, of_witness, only, entries_of_node, entries_at, most_entries}
use Rattle.meaning.specs.Answers.{Stage, Prints, refusal, product_answer, of_derivation}
use Rattle.meaning.proofs.CutTrees.{Each}
use Rattle.meaning.proofs.EachMembers.{each_by}
use Rattle.lifted_case.specs.declared.lifted.Lifted.{Lifted}
use Rattle.lifted_case.specs.CaseWritten.{document_with, node_with}
use Rattle.lifting.specs.FittingBundles.{truth_id}
use Rattle.lifting.specs.LiftedInstances.{IsLiftedInstance}
use Rattle.lifting.specs.Noted.{Noted, there_at, seen_at, Stands, entries_of}
use Rattle.lifting.specs.Overflows.{TooManyEntries}
use Rattle.lifting.proofs.CutInstances.{cut_is_instance}
use Rattle.lifting.proofs.InstanceNodes.{TellsNothing, without_verdict}
use Rattle.meaning.proofs.Lists.{each_of_all}
use Rattle.meaning.proofs.Members.{Member, no_more}
use Rattle.lifting.proofs.WrittenNotes.{HaveAll, IsExactAt, written_nodes, written_lifts, written_targets}

-- ---- what is counted

kept_at_most : {A : Type 0} (p : A → Bool) (xs : List A) → length (filter p xs) ≤ length xs
kept_at_most p [] = omega arith
kept_at_most {A = A} p (x ∷ xs) = go (p x) (kept_at_most p xs)
  where
    go : (b : Bool) → length (filter p xs) ≤ length xs → length (cond b (x ∷ filter p xs) (filter p xs)) ≤ suc (length xs)
    go true l = omega (arith, l)
    go false l = omega (arith, l)

-- a node without targets and witnesses has an entry of its own and one for each branch
count_of_node : (key : List ℕ) (branches : List (List ℕ)) (last : Option ℕ) (first : Option (List ℕ)) → last ≡ None → first ≡ None
    → length (of_node key ∷ (map (of_branch key) branches ++ map (of_target key) (only last) ++ map (of_witness key) (only first))) ≡ 1 + length branches
count_of_node key branches None None e f =
    omega (arith, length-append (map (of_branch key) branches ++ []) [], length-append (map (of_branch key) branches) [], length-map branches (of_branch key))
count_of_node key branches None (Some x) e f = cc
count_of_node key branches (Some x) first e f = cc

module _ (a : Algebra Bool) (x : List Bool) (is_world : a.is_world x ≡ true) where
  few_branches : (n : Noted Bool) → Stands a n → n.1.there x ≡ true → length (n.1.told x).branches ≤ length n.1.rows
  few_branches n s e =
      subst (λ ts. length ts ≤ length n.1.rows) (s.branches_exact x is_world ∙ ap (λ there. cond there (n.1.told x).branches []) e)
      (omega (arith, length-map (filter (λ r. a.holds r.1 x) n.1.rows) (λ r. r.0), kept_at_most (λ r. a.holds r.1 x) n.1.rows))

  counted : (ns : List (Noted Bool)) → Each (Stands a) ns → Each TellsNothing (map (seen_at x) (filter (there_at x) ns))
      → length (flat entries_of_node (map (seen_at x) (filter (there_at x) ns))) ≤ entries_of ns
  counted [] s t = omega arith
  counted (n ∷ ns) s t = go (counted ns s.1) (n.1.there x) refl t
    where
      one_more : n.1.there x ≡ true → TellsNothing (seen_at x n) → length (entries_of_node (seen_at x n)) ≤ 1 + length n.1.rows
      one_more e t =
          omega (
            arith,
            count_of_node n.0.key (n.1.told x).branches (n.1.told x).last (n.1.told x).first (t (s.0.no_verdict x)).0 (t (s.0.no_verdict x)).1,
            few_branches n s.0 e,
          )

      go : (Each TellsNothing (map (seen_at x) (filter (there_at x) ns)) → length (flat entries_of_node (map (seen_at x) (filter (there_at x) ns))) ≤ entries_of ns)
          → (b : Bool) → n.1.there x ≡ b → Each TellsNothing (map (seen_at x) (cond b (n ∷ filter (there_at x) ns) (filter (there_at x) ns)))
          → length (flat entries_of_node (map (seen_at x) (cond b (n ∷ filter (there_at x) ns) (filter (there_at x) ns)))) ≤ (1 + length n.1.rows) + entries_of ns
      go later true e t =
          omega (arith, length-append (entries_of_node (seen_at x n)) (flat entries_of_node (map (seen_at x) (filter (there_at x) ns))), one_more e t.0, later t.1)
      go later false e t = omega (arith, later t)

-- ---- tests

not_less : (a b : ℕ) → b ≤ a → nat_lt a b ≡ false
not_less a b l = grind (arith, nat_tests)

is_less : (a b : ℕ) → a < b → nat_lt a b ≡ true
is_less a b l = grind (arith, nat_tests)

-- ---- the case

module _ (b : Bundle) (world : List Bool) (a : Algebra Bool) (only_world : HasOnlyWorld world a) where
  here : a.is_world world ≡ true
  here = (only_world.worlds world).1 refl

  answer_where : (stage : Stage) (many : Bool) → nat_lt most_entries (length (entries_at b world)) ≡ many
      → product_answer stage b world ≡ (if stage.counts_entries && many then refusal (BigCase true) else of_derivation (direct_at b world))
  answer_where stage many e = ap (λ m. if stage.counts_entries && m then refusal (BigCase true) else of_derivation (direct_at b world)) e

  -- where there are too many entries, that is the answer
  pub product_is_big : (stage : Stage) → IsTrue stage.counts_entries → TooManyEntries a b.model b.templates → product_answer stage b world ≡ refusal (BigCase true)
  product_is_big stage counts t =
      answer_where stage true (is_less most_entries (length (entries_at b world)) (omega (arith, t.many, no_more t.entries (entries_at b world) t.differ members)))
      ∙ ap (λ c. if c && true then refusal (BigCase true) else of_derivation (direct_at b world)) counts
    where
      members : Each (λ e. Member e (entries_at b world)) t.entries
      members =
          each_by _ (λ e. Member e (entries_at b world))
          (λ e o. subst (λ w. Member e (flat entries_of_node (instance (length b.model.labels) (model_at b.model w) b.templates).nodes)) ((only_world.worlds o.0).0 o.1) o.2)
          t.entries t.occur

  module _ (case : Lifted Bool) (h : IsLiftedInstance a b.title (feature_names b.line) b.model b.templates case) where
    abbrev k : CaseDocument
    k = document_with truth_id [] case

    -- a truth value's identifier holds where it is true
    holds_itself : (v : Bool) → holds (document_with truth_id [] case) [] (truth_id v) ≡ v
    unfolding holds
    holds_itself true = refl
    holds_itself false = refl

    exact : (v : Bool) → holds (document_with truth_id [] case) [] (truth_id v) ≡ a.holds v world
    exact v = holds_itself v ∙ sym (only_world.holds v world)

    known : Each (λ n. Stands a n × HaveAll (IsExactAt a case truth_id [] [] world here) n) h.notes
    known = each_by (Stands a) _ (λ n s. (s, record { when = exact n.0.when; rows = each_of_all _ (λ r. exact r.1) n.1.rows })) h.notes h.nodes

    -- the cut of its document, where a truth value is its own identifier, is the product's own case
    pub cut_at_one : cut (document_with truth_id [] case) [] ≡ case_at b world
    unfolding case_at
    cut_at_one =
        cut_is_instance k [] (map (λ n. (node_with truth_id n.0, λ x. n.1.told world)) h.notes)
        (written_nodes case truth_id [] h.notes h.of_nodes (λ n x. n.1.told world)) (instance (length b.model.labels) (model_at b.model world) b.templates)
        (each_by _ (λ r. holds k [] r.presence ≡ holds k [] (presence_of k r.target)) (λ r e. ap (holds k []) e) k.relations
        (written_targets case truth_id [] h.notes h.of_nodes h.rooted.targets h.relations_with_targets))
        (written_lifts a case truth_id [] [] world here (λ n x. n.1.told world) (λ n. refl) h.notes known (instance (length b.model.labels) (model_at b.model world) b.templates) (h.lifts world here))

    nodes_here : map (seen_at world) (filter (there_at world) h.notes) ≡ (instance_at b world).nodes
    nodes_here = ap (λ t. t.nodes) (h.lifts world here).cuts

    pub few_at_one : length (entries_at b world) ≤ most_entries
    few_at_one =
        subst (λ ns. length (flat entries_of_node ns) ≤ most_entries) nodes_here
        (omega (
          arith,
          counted a world here h.notes h.nodes (subst (Each TellsNothing) (sym nodes_here) (without_verdict (length b.model.labels) (model_at b.model world) b.templates)),
          h.few,
        ))

    -- so the product's text is that of the cut
    pub product_prints : (stage : Stage) → is_valid b.line world ≡ true
        → product_answer stage b world ≡ Prints (text_of_case (cut (document_with truth_id [] case) []) b.title (feature_names b.line) world)
    product_prints stage valid =
        answer_where stage false (not_less most_entries (length (entries_at b world)) few_at_one)
        ∙ none (stage.counts_entries)
        ∙ ap (λ v. of_derivation (if_valid v (text_of_case (case_at b world) b.title (feature_names b.line) world))) valid
        ∙ ap (λ c. Prints (text_of_case c b.title (feature_names b.line) world)) (sym cut_at_one)
      where
        none : (c : Bool) → (if c && false then refusal (BigCase true) else of_derivation (direct_at b world)) ≡ of_derivation (direct_at b world)
        none true = refl
        none false = refl
