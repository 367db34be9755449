-- The document of a case over the table of its conditions is written from the case.
use Rattle.std.proofs.Common.{◌≡◌, ℕ, true, false, not, ◌&&◌, List, [], ◌∷◌, ◌++◌, length, map, get_or, Option, Some, None, option_map, arith, refl, sym, ap, ap₂, ◌∙◌, subst}
use Rattle.std.specs.List.{All}
use Rattle.std.proofs.lemmas.Bool.{and_parts, not-true}
use Rattle.std.proofs.lemmas.List.{map-append, get_or-map, get_or_default, length-map}
use Rattle.std.proofs.lemmas.List.Elements.{All-map, All-weaker}
use Rattle.meaning.specs.Texts.{flat}
use Rattle.meaning.specs.CaseFiles.{Row, words, count, CaseNode, CaseDocument}
use Rattle.meaning.specs.Queries.{is_empty}
use Rattle.meaning.specs.TableOrder as order
use Rattle.meaning.specs.Templates.{joined_parts, in_front}
use Rattle.meaning.specs.Texts.{numbers_from}
use Rattle.node_pool.specs.declared.node.NodeNo.{NodeNo}
use Rattle.node_pool.specs.Regions.{Region}
use Rattle.node_pool.specs.Functions.{world_of}
use Rattle.conditions.specs.Tables.{Contents, KeepsRules, IsNamed, IsExported, case_row, case_rows}
use Rattle.lifted_case.specs.declared.lifted.Lifted.{Lifted}
use Rattle.lifted_case.specs.declared.lifted.LNode.{LNode}
use Rattle.lifted_case.specs.declared.lifted.LPart.{LPart}
use Rattle.lifted_case.specs.declared.lifted.LPart.TheVariants as part
use Rattle.lifted_case.specs.declared.lifted.LRel.{LRel}
use Rattle.lifted_case.specs.declared.lifted.LSystem.{LSystem}
use Rattle.lifted_case.specs.declared.lifted.LFinding.{LFinding}
use Rattle.lifted_case.specs.CaseView.{case_part_of}
use Rattle.lifted_case.specs.CaseContents.{begins_with_words, are_joined, TextsAreJoined}
use Rattle.lifted_case.specs.CaseWritten.{conditions_of_finding, conditions_of_node, conditions_of_system, conditions_in, finding_with, node_with, relation_with, system_with, document_with, Stands, IsWrittenFrom}
use Rattle.lifted_case.proofs.TableValues.{holds-value}

-- ---- the identifiers of the document, in order, are those of the case's conditions

module _ {C : Type 0} (id : C → ℕ) where
  second_mapped : {A : Type 0} (ts : List (A × C)) → map (λ (t : A × ℕ). t.1) (map (λ (t : A × C). (t.0, id t.1)) ts) ≡ map id (map (λ (t : A × C). t.1) ts)
  second_mapped [] = refl
  second_mapped (t ∷ ts) = ap (λ xs. id t.1 ∷ xs) (second_mapped ts)

  of_finding : (o : Option (LFinding C)) → order.conditions_of_finding (option_map (finding_with id) o) ≡ map id (conditions_of_finding o)
  of_finding None = refl
  of_finding (Some f) =
      ap (λ xs. id f.refuted ∷ xs) (ap₂ (λ xs ys. xs ++ ys) (second_mapped f.targets) (second_mapped f.witnesses) ∙ sym (map-append id (map (λ t. t.1) f.targets) (map (λ x. x.1) f.witnesses)))

  of_nodes : (ns : List (LNode C)) → flat (λ n. n.presence ∷ (n.branches ++ order.conditions_of_finding n.finding)) (map (node_with id) ns) ≡ map id (flat conditions_of_node ns)
  of_nodes [] = refl
  of_nodes (n ∷ ns) =
      let here : (map id n.branches ++ order.conditions_of_finding (option_map (finding_with id) n.finding)) ≡ map id (n.branches ++ conditions_of_finding n.finding) =
      ap (λ xs. map id n.branches ++ xs) (of_finding n.finding) ∙ sym (map-append id n.branches (conditions_of_finding n.finding)) in
      ap₂ (λ xs ys. (id n.when ∷ xs) ++ ys) here (of_nodes ns) ∙ sym (map-append id (conditions_of_node n) (flat conditions_of_node ns))

  of_relations : (rs : List (LRel C)) → map (λ r. r.presence) (map (relation_with id) rs) ≡ map id (map (λ r. r.when) rs)
  of_relations [] = refl
  of_relations (r ∷ rs) = ap (λ xs. id r.when ∷ xs) (of_relations rs)

  of_systems : (ss : List (LSystem C)) → flat (λ s. s.reached ++ s.parents) (map (system_with id) ss) ≡ map id (flat conditions_of_system ss)
  of_systems [] = refl
  of_systems (s ∷ ss) =
      ap₂ (λ xs ys. xs ++ ys) (sym (map-append id s.reached s.parents)) (of_systems ss) ∙ sym (map-append id (conditions_of_system s) (flat conditions_of_system ss))

-- the roots of the walk over the document
pub conditions_of-with : {C : Type 0} (id : C → ℕ) (rows : List Row) (case : Lifted C) → id case.valid ∷ order.conditions_of (document_with id rows case) ≡ map id (conditions_in case)
conditions_of-with id rows case =
    let a = flat conditions_of_node case.nodes in
    let b = map (λ r. r.when) case.relations in
    let c = flat conditions_of_system case.systems in
    ap (λ xs. id case.valid ∷ xs)
    (ap₂ (λ xs ys. xs ++ ys) (ap₂ (λ xs ys. xs ++ ys) (of_nodes id case.nodes) (of_relations id case.relations)) (of_systems id case.systems)
    ∙ sym (map-append id (a ++ b) c ∙ ap (λ xs. xs ++ map id c) (map-append id a b)))

-- ---- texts

in_front-words : (s : List ℕ) (ps : List LPart) → is_empty s ≡ false → begins_with_words ps ≡ false → in_front s (map case_part_of ps) ≡ words s ∷ map case_part_of ps
in_front-words [] ps some apart = cc
in_front-words (c ∷ cs) [] some apart = refl
in_front-words (c ∷ cs) (part.Words t ∷ ps) some apart = cc
in_front-words (c ∷ cs) (part.Count ∷ ps) some apart = refl

pub joined_parts-joined : (ps : List LPart) → are_joined ps ≡ true → joined_parts (map case_part_of ps) ≡ map case_part_of ps
joined_parts-joined [] e = refl
joined_parts-joined (part.Words s ∷ ps) e =
    let all = and_parts (not (is_empty s) && not (begins_with_words ps)) (are_joined ps) e in
    let here = and_parts (not (is_empty s)) (not (begins_with_words ps)) all.0 in
    ap (in_front s) (joined_parts-joined ps all.1) ∙ in_front-words s ps (not-true (is_empty s) here.0) (not-true (begins_with_words ps) here.1)
joined_parts-joined (part.Count ∷ ps) e = ap (λ qs. count ∷ qs) (joined_parts-joined ps e)

-- ---- the whole

-- an exported identifier stands for its condition
stands_exported : (r : Region) (k : CaseDocument) (t : Contents) (c : NodeNo) (id : ℕ) → k.table ≡ case_rows t.rows → KeepsRules t → IsNamed r t.rows c id → Stands r k c id
stands_exported r k t c id e rules named =
    let long : length k.table ≡ length t.rows = ap length e ∙ length-map t.rows case_row in
    record {
      there = omega (arith, named.there);
      function = λ w places. holds-value k t w id e rules named.there ∙ named.function (world_of w);
    }

module _ (r : Region) (case : Lifted NodeNo) (t : Contents) (id : NodeNo → ℕ) (exported : IsExported r (conditions_in case) t (map id (conditions_in case))) where
  abbrev written : CaseDocument
  written = document_with id (case_rows t.rows) case

  each_stands : All (λ c. Stands r written c (id c)) (conditions_in case)
  each_stands = λ k d k_in.
      let cs = conditions_in case in
      let count : length (map id cs) ≡ length cs = length-map cs id in
      let named : IsNamed r t.rows (get_or cs k (record { 0 = 0 })) (get_or (map id cs) k 0) = exported.named.each k (omega arith) in
      let named_at : IsNamed r t.rows (get_or cs k d) (id (get_or cs k d)) =
      subst (λ n. IsNamed r t.rows (get_or cs k d) n) (get_or-map id cs k d 0 k_in) (subst (λ c. IsNamed r t.rows c (get_or (map id cs) k 0)) (get_or_default cs k (record { 0 = 0 }) d k_in) named) in
      stands_exported r written t (get_or cs k d) (id (get_or cs k d)) refl exported.rules named_at

  in_order : order.IsTableInOrder written
  unfolding order.walk_order
  in_order =
      ap (order.left_after_all (case_rows t.rows) []) (conditions_of-with id (case_rows t.rows) case)
      ∙ exported.order ∙ ap (numbers_from 2) (sym (length-map t.rows case_row))

  pub IsWrittenFrom-exported : r.vars ≡ length case.features → TextsAreJoined case → IsWrittenFrom r case (document_with id (case_rows t.rows) case)
  IsWrittenFrom-exported features joined = record {
    identifier = id;
    table = t;
    document = refl;
    stands = each_stands;
    places = features;
    variables = exported.features ∙ features;
    rules = exported.rules;
    order = in_order;
    texts = All-map (λ (n : CaseNode). joined_parts n.parts ≡ n.parts) (node_with id) case.nodes (All-weaker (λ (n : LNode NodeNo). are_joined n.text ≡ true) (λ (n : LNode NodeNo). joined_parts (map case_part_of n.text) ≡ map case_part_of n.text) (λ n e. joined_parts-joined n.text e) case.nodes joined);
  }
