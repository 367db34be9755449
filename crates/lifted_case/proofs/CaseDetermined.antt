-- A document that is written from a case depends on the case's contents and its conditions' truth alone.
use Rattle.std.proofs.Common.{◌≡◌, ℕ, ◌+◌, ◌<◌, Bool, ◌&&◌, List, [], ◌∷◌, ◌++◌, length, map, Option, Some, None, option_map, arith, refl, sym, ap, ap₂, ◌∙◌, subst}
use Rattle.std.specs.List.{AllZip}
use Rattle.std.proofs.lemmas.Bool.{eq-eqb}
use Rattle.std.proofs.lemmas.List.{length-map, map-append}
use Rattle.meaning.specs.Texts.{flat, numbers_from}
use Rattle.meaning.specs.CaseFiles.{Row, CaseDocument}
use Rattle.meaning.specs.TableOrder as order
use Rattle.meaning.proofs.CutTrees.{Each}
use Rattle.meaning.proofs.CaseReadsBack.{each_for}
use Rattle.gsn.specs.View.{kind_of, relation_kind_of}
use Rattle.node_pool.specs.declared.node.NodeNo.{NodeNo}
use Rattle.node_pool.specs.Nodes.{value, IsReduced}
use Rattle.node_pool.specs.Regions.{Region}
use Rattle.node_pool.specs.Functions.{function_of, world_of}
use Rattle.conditions.specs.Tables.{TableRow, nodes_of, case_row, case_rows}
use Rattle.conditions.proofs.Leaving.{row_count}
use Rattle.lifted_case.specs.declared.lifted.Lifted.{Lifted}
use Rattle.lifted_case.specs.declared.lifted.LNode.{LNode}
use Rattle.lifted_case.specs.declared.lifted.LRel.{LRel}
use Rattle.lifted_case.specs.declared.lifted.LSystem.{LSystem}
use Rattle.lifted_case.specs.declared.lifted.LFinding.{LFinding}
use Rattle.lifted_case.specs.CaseView.{case_part_of, check_of}
use Rattle.lifted_case.specs.CaseMaps.{second_mapped, map_finding, map_node, map_relation, map_system, map_case, truth_of}
use Rattle.lifted_case.specs.CaseWritten.{conditions_of_finding, conditions_of_node, conditions_of_system, conditions_in, finding_with, node_with, relation_with, system_with, document_with, Stands, IsWrittenFrom}
use Rattle.lifted_case.proofs.TableValues.{holds-value}
use Rattle.lifted_case.proofs.CaseWritten.{conditions_of-with}
use Rattle.lifted_case.proofs.CaseReadable.{each_from_all, each_split, each_flat, each_in_map}
use Rattle.lifted_case.proofs.TablesAlike.{IsAlike, alike_once, agree_over_lists, tables_same}

-- ---- the conditions of a mapped case

module _ {C D : Type 0} (f : C → D) where
  seconds : {A : Type 0} (ts : List (A × C)) → map (λ (t : A × D). t.1) (map (second_mapped f) ts) ≡ map f (map (λ (t : A × C). t.1) ts)
  seconds [] = refl
  seconds (t ∷ ts) = ap (λ xs. f t.1 ∷ xs) (seconds ts)

  in_finding : (o : Option (LFinding C)) → conditions_of_finding (option_map (map_finding f) o) ≡ map f (conditions_of_finding o)
  in_finding None = refl
  in_finding (Some x) =
      ap (λ xs. f x.refuted ∷ xs) (ap₂ (λ xs ys. xs ++ ys) (seconds x.targets) (seconds x.witnesses) ∙ sym (map-append f (map (λ t. t.1) x.targets) (map (λ t. t.1) x.witnesses)))

  in_nodes : (ns : List (LNode C)) → flat conditions_of_node (map (map_node f) ns) ≡ map f (flat conditions_of_node ns)
  in_nodes [] = refl
  in_nodes (n ∷ ns) =
      let here : (map f n.branches ++ conditions_of_finding (option_map (map_finding f) n.finding)) ≡ map f (n.branches ++ conditions_of_finding n.finding) =
      ap (λ xs. map f n.branches ++ xs) (in_finding n.finding) ∙ sym (map-append f n.branches (conditions_of_finding n.finding)) in
      ap₂ (λ xs ys. (f n.when ∷ xs) ++ ys) here (in_nodes ns) ∙ sym (map-append f (conditions_of_node n) (flat conditions_of_node ns))

  in_relations : (rs : List (LRel C)) → map (λ r. r.when) (map (map_relation f) rs) ≡ map f (map (λ r. r.when) rs)
  in_relations [] = refl
  in_relations (r ∷ rs) = ap (λ xs. f r.when ∷ xs) (in_relations rs)

  in_systems : (ss : List (LSystem C)) → flat conditions_of_system (map (map_system f) ss) ≡ map f (flat conditions_of_system ss)
  in_systems [] = refl
  in_systems (s ∷ ss) =
      ap₂ (λ xs ys. xs ++ ys) (sym (map-append f s.reached s.parents)) (in_systems ss) ∙ sym (map-append f (conditions_of_system s) (flat conditions_of_system ss))

  conditions_in-mapped : (case : Lifted C) → conditions_in (map_case f case) ≡ map f (conditions_in case)
  conditions_in-mapped case =
      let a = flat conditions_of_node case.nodes in
      let b = map (λ r. r.when) case.relations in
      let c = flat conditions_of_system case.systems in
      ap (λ xs. f case.valid ∷ xs)
      (ap₂ (λ xs ys. xs ++ ys) (ap₂ (λ xs ys. xs ++ ys) (in_nodes case.nodes) (in_relations case.relations)) (in_systems case.systems)
      ∙ sym (map-append f (a ++ b) c ∙ ap (λ xs. xs ++ map f c) (map-append f a b)))

-- ---- where equal meanings have equal identifiers, equal cases have equal documents

-- of the items of two lists
list_same : {X Y Z W : Type 0} (a : X → Z) (b : Y → Z) (c : X → W) (d : Y → W) (P : X → Type 0) (Q : Y → Type 0) → ((x : X) (y : Y) → P x → Q y → a x ≡ b y → c x ≡ d y)
    → (xs : List X) (ys : List Y) → Each P xs → Each Q ys → map a xs ≡ map b ys → map c xs ≡ map d ys
list_same a b c d P Q one [] [] p q e = refl
list_same a b c d P Q one [] (y ∷ ys) p q e = cc
list_same a b c d P Q one (x ∷ xs) [] p q e = cc
list_same a b c d P Q one (x ∷ xs) (y ∷ ys) p q e =
    let head : a x ≡ b y = cc in
    let tail : map a xs ≡ map b ys = cc in
    ap₂ (λ u us. u ∷ us) (one x y p.0 q.0 head) (list_same a b c d P Q one xs ys p.1 q.1 tail)

module _ {C E D : Type 0} (f : C → D) (g : E → D) (id : C → ℕ) (number : E → ℕ) (P : C → Type 0) (Q : E → Type 0) (same : (c : C) (e : E) → P c → Q e → f c ≡ g e → id c ≡ number e) where
  ids_same : (cs : List C) (es : List E) → Each P cs → Each Q es → map f cs ≡ map g es → map id cs ≡ map number es
  ids_same cs es p q e = list_same f g id number P Q same cs es p q e

  seconds_same : {A : Type 0} (ts : List (A × C)) (us : List (A × E)) → Each P (map (λ (t : A × C). t.1) ts) → Each Q (map (λ (u : A × E). u.1) us)
      → map (second_mapped f) ts ≡ map (second_mapped g) us → map (second_mapped id) ts ≡ map (second_mapped number) us
  seconds_same {A} ts us p q e =
      list_same (second_mapped f) (second_mapped g) (second_mapped id) (second_mapped number) (λ (t : A × C). P t.1) (λ (u : A × E). Q u.1)
      (λ t u h i both.
      let firsts : t.0 ≡ u.0 = ap (λ (x : A × D). x.0) both in
      let others : id t.1 ≡ number u.1 = same t.1 u.1 h i (ap (λ (x : A × D). x.1) both) in
      λ j. (firsts j, others j))
      ts us (each_in_map P (λ (t : A × C). t.1) ts p) (each_in_map Q (λ (u : A × E). u.1) us q) e

  finding_same : (x : LFinding C) (y : LFinding E) → Each P (conditions_of_finding (Some x)) → Each Q (conditions_of_finding (Some y)) → map_finding f x ≡ map_finding g y → finding_with id x ≡ finding_with number y
  finding_same x y p q e =
      let ps = each_split P (map (λ t. t.1) x.targets) (map (λ t. t.1) x.witnesses) p.1 in
      let qs = each_split Q (map (λ t. t.1) y.targets) (map (λ t. t.1) y.witnesses) q.1 in
      let checks = ap (λ (z : LFinding D). check_of z.check) e in
      let refuted = same x.refuted y.refuted p.0 q.0 (ap (λ (z : LFinding D). z.refuted) e) in
      let targets = seconds_same x.targets y.targets ps.0 qs.0 (ap (λ (z : LFinding D). z.targets) e) in
      let witnesses = seconds_same x.witnesses y.witnesses ps.1 qs.1 (ap (λ (z : LFinding D). z.witnesses) e) in
      λ i. record { check = checks i; refuted = refuted i; targets = targets i; witnesses = witnesses i }

  finding_same-if : (x : Option (LFinding C)) (y : Option (LFinding E)) → Each P (conditions_of_finding x) → Each Q (conditions_of_finding y)
      → option_map (map_finding f) x ≡ option_map (map_finding g) y → option_map (finding_with id) x ≡ option_map (finding_with number) y
  finding_same-if None None p q e = refl
  finding_same-if None (Some y) p q e = cc
  finding_same-if (Some x) None p q e = cc
  finding_same-if (Some x) (Some y) p q e = let inner : map_finding f x ≡ map_finding g y = some_same (map_finding f x) (map_finding g y) e in ap Some (finding_same x y p q inner)
    where
      some_same : {A : Type 0} (a b : A) → Some a ≡ Some b → a ≡ b
      some_same a b h = cc

  node_same : (x : LNode C) (y : LNode E) → Each P (conditions_of_node x) → Each Q (conditions_of_node y) → map_node f x ≡ map_node g y → node_with id x ≡ node_with number y
  node_same x y p q e =
      let ps = each_split P x.branches (conditions_of_finding x.finding) p.1 in
      let qs = each_split Q y.branches (conditions_of_finding y.finding) q.1 in
      let keys = ap (λ (z : LNode D). z.key) e in
      let kinds = ap (λ (z : LNode D). kind_of z.kind) e in
      let parts = ap (λ (z : LNode D). map case_part_of z.text) e in
      let presences = same x.when y.when p.0 q.0 (ap (λ (z : LNode D). z.when) e) in
      let marks = ap (λ (z : LNode D). z.undeveloped) e in
      let branches = ids_same x.branches y.branches ps.0 qs.0 (ap (λ (z : LNode D). z.branches) e) in
      let findings = finding_same-if x.finding y.finding ps.1 qs.1 (ap (λ (z : LNode D). z.finding) e) in
      λ i. record { key = keys i; kind = kinds i; parts = parts i; presence = presences i; undeveloped = marks i; branches = branches i; finding = findings i }

  relation_same : (x : LRel C) (y : LRel E) → P x.when → Q y.when → map_relation f x ≡ map_relation g y → relation_with id x ≡ relation_with number y
  relation_same x y p q e =
      let sources = ap (λ (z : LRel D). z.from) e in
      let ends = ap (λ (z : LRel D). z.to) e in
      let kinds = ap (λ (z : LRel D). relation_kind_of z.kind) e in
      let presences = same x.when y.when p q (ap (λ (z : LRel D). z.when) e) in
      λ i. record { source = sources i; target = ends i; kind = kinds i; presence = presences i }

  system_same : (x : LSystem C) (y : LSystem E) → Each P (conditions_of_system x) → Each Q (conditions_of_system y) → map_system f x ≡ map_system g y → system_with id x ≡ system_with number y
  system_same x y p q e =
      let ps = each_split P x.reached x.parents p in
      let qs = each_split Q y.reached y.parents q in
      let elements = ap (λ (z : LSystem D). z.element) e in
      let states = ap (λ (z : LSystem D). z.states) e in
      let reached = ids_same x.reached y.reached ps.0 qs.0 (ap (λ (z : LSystem D). z.reached) e) in
      let transitions = ap (λ (z : LSystem D). z.transitions) e in
      let parents = ids_same x.parents y.parents ps.1 qs.1 (ap (λ (z : LSystem D). z.parents) e) in
      λ i. record { element = elements i; states = states i; reached = reached i; transitions = transitions i; parents = parents i }

  document_same : (rows others : List Row) (x : Lifted C) (y : Lifted E) → rows ≡ others → Each P (conditions_in x) → Each Q (conditions_in y) → map_case f x ≡ map_case g y
      → document_with id rows x ≡ document_with number others y
  document_same rows others x y tables p q e =
      let p1 = each_split P (flat conditions_of_node x.nodes ++ map (λ r. r.when) x.relations) (flat conditions_of_system x.systems) p.1 in
      let p2 = each_split P (flat conditions_of_node x.nodes) (map (λ r. r.when) x.relations) p1.0 in
      let q1 = each_split Q (flat conditions_of_node y.nodes ++ map (λ r. r.when) y.relations) (flat conditions_of_system y.systems) q.1 in
      let q2 = each_split Q (flat conditions_of_node y.nodes) (map (λ r. r.when) y.relations) q1.0 in
      let titles = ap (λ (z : Lifted D). z.title) e in
      let features = ap (λ (z : Lifted D). z.features) e in
      let valids = same x.valid y.valid p.0 q.0 (ap (λ (z : Lifted D). z.valid) e) in
      let nodes = list_same (map_node f) (map_node g) (node_with id) (node_with number) (λ n. Each P (conditions_of_node n)) (λ n. Each Q (conditions_of_node n)) node_same
      x.nodes y.nodes (each_flat P conditions_of_node x.nodes p2.0) (each_flat Q conditions_of_node y.nodes q2.0) (ap (λ (z : Lifted D). z.nodes) e) in
      let relations = list_same (map_relation f) (map_relation g) (relation_with id) (relation_with number) (λ r. P r.when) (λ r. Q r.when) relation_same
      x.relations y.relations (each_in_map P (λ (r : LRel C). r.when) x.relations p2.1) (each_in_map Q (λ (r : LRel E). r.when) y.relations q2.1) (ap (λ (z : Lifted D). z.relations) e) in
      let systems = list_same (map_system f) (map_system g) (system_with id) (system_with number) (λ s. Each P (conditions_of_system s)) (λ s. Each Q (conditions_of_system s)) system_same
      x.systems y.systems (each_flat P conditions_of_system x.systems p1.1) (each_flat Q conditions_of_system y.systems q1.1) (ap (λ (z : Lifted D). z.systems) e) in
      λ i. record { title = titles i; features = features i; valid = valids i; nodes = nodes i; relations = relations i; systems = systems i; table = tables i }

-- ---- identifiers of tables

-- the identifier is one of the rows, and true where the condition is
record IsNamedBy (r : Region) (rows : List TableRow) (c : NodeNo) (id : ℕ) : Type 0 where
  there : id < length (nodes_of rows) + 2
  function : (w : List Bool) → length w ≡ r.vars → value (nodes_of rows) id (world_of w) ≡ function_of r c.0 (world_of w)

named_written : (r : Region) (case : Lifted NodeNo) (k : CaseDocument) (w : IsWrittenFrom r case k) → Each (λ c. IsNamedBy r w.table.rows c (w.identifier c)) (conditions_in case)
named_written r case k w =
    let table : k.table ≡ case_rows w.table.rows = ap (λ (d : CaseDocument). d.table) w.document in
    let long : length k.table ≡ length w.table.rows = ap length table ∙ length-map w.table.rows case_row in
    each_for (λ c. Stands r k c (w.identifier c)) (λ c. IsNamedBy r w.table.rows c (w.identifier c))
    (λ c h. record {
      there = omega (arith, h.there, row_count w.table.rows);
      function = λ x places. sym (holds-value k w.table x (w.identifier c) table w.rules (omega (arith, h.there))) ∙ h.function x places;
    })
    (conditions_in case) (each_from_all (λ c. Stands r k c (w.identifier c)) (conditions_in case) w.stands)

-- the truths at a list of truth values, one for each feature
truth_at : (r : Region) (c : NodeNo) (w : List Bool) → length w ≡ r.vars → truth_of r c w ≡ function_of r c.0 (world_of w)
truth_at r c w places = ap (λ b. b && function_of r c.0 (world_of w)) (eq-eqb (length w) r.vars places)

module _ (vars : ℕ) (r s : Region) (first second : List TableRow) (r_vars : r.vars ≡ vars) (s_vars : s.vars ≡ vars) (ra : IsReduced vars (nodes_of first)) (rb : IsReduced vars (nodes_of second)) where
  alike_named : (c d : NodeNo) (i j : ℕ) → IsNamedBy r first c i → IsNamedBy s second d j → truth_of r c ≡ truth_of s d → IsAlike (nodes_of first) (nodes_of second) i j
  alike_named c d i j h g same = record {
    left_in = h.there;
    right_in = g.there;
    same = agree_over_lists vars (nodes_of first) (nodes_of second) i j ra rb h.there g.there
        (λ w places.
        h.function w (places ∙ sym r_vars) ∙ sym (truth_at r c w (places ∙ sym r_vars)) ∙ ap (λ (f : List Bool → Bool). f w) same ∙ truth_at s d w (places ∙ sym s_vars) ∙ sym (g.function w (places ∙ sym s_vars)));
  }

zip_of_maps : {C E D : Type 0} (f : C → D) (g : E → D) (id : C → ℕ) (number : E → ℕ) (R : ℕ → ℕ → Type 0) (P : C → Type 0) (Q : E → Type 0) → ((c : C) (e : E) → P c → Q e → f c ≡ g e → R (id c) (number e))
    → (cs : List C) (es : List E) → Each P cs → Each Q es → map f cs ≡ map g es → AllZip R (map id cs) (map number es)
zip_of_maps f g id number R P Q one [] [] p q e = tt
zip_of_maps f g id number R P Q one [] (y ∷ ys) p q e = cc
zip_of_maps f g id number R P Q one (x ∷ xs) [] p q e = cc
zip_of_maps f g id number R P Q one (x ∷ xs) (y ∷ ys) p q e =
    let head : f x ≡ g y = cc in
    let tail : map f xs ≡ map g ys = cc in
    (one x y p.0 q.0 head, zip_of_maps f g id number R P Q one xs ys p.1 q.1 tail)

-- ---- the law

-- the walk over the table of a written document, from the identifiers of the case's conditions
walk_written : (r : Region) (case : Lifted NodeNo) (k : CaseDocument) (w : IsWrittenFrom r case k)
    → order.left_after_all (case_rows w.table.rows) [] (map w.identifier (conditions_in case)) ≡ numbers_from 2 (length w.table.rows)
unfolding order.walk_order
walk_written r case k w =
    let rows : List Row = case_rows w.table.rows in
    let written : order.IsTableInOrder (document_with w.identifier rows case) = subst order.IsTableInOrder w.document w.order in
    ap (order.left_after_all rows []) (sym (conditions_of-with w.identifier rows case)) ∙ written ∙ ap (numbers_from 2) (length-map w.table.rows case_row)

module _ (r s : Region) (case other : Lifted NodeNo) (k l : CaseDocument) (w : IsWrittenFrom r case k) (v : IsWrittenFrom s other l) (alike : map_case (truth_of r) case ≡ map_case (truth_of s) other) where
  vars : ℕ
  vars = length case.features

  same_features : length other.features ≡ length case.features
  same_features = sym (ap (λ (z : Lifted (List Bool → Bool)). length z.features) alike)

  first_features : length k.features ≡ length case.features
  first_features = ap (λ (d : CaseDocument). length d.features) w.document

  second_features : length l.features ≡ length case.features
  second_features = ap (λ (d : CaseDocument). length d.features) v.document ∙ same_features

  first_reduced : IsReduced (length case.features) (nodes_of w.table.rows)
  first_reduced = subst (λ n. IsReduced n (nodes_of w.table.rows)) (w.variables ∙ first_features) w.rules

  second_reduced : IsReduced (length case.features) (nodes_of v.table.rows)
  second_reduced = subst (λ n. IsReduced n (nodes_of v.table.rows)) (v.variables ∙ second_features) v.rules

  alike_conditions : map (truth_of r) (conditions_in case) ≡ map (truth_of s) (conditions_in other)
  alike_conditions =
      sym (conditions_in-mapped (truth_of r) case) ∙ ap (λ (z : Lifted (List Bool → Bool)). conditions_in z) alike ∙ conditions_in-mapped (truth_of s) other

  alike_ids : (c d : NodeNo) → IsNamedBy r w.table.rows c (w.identifier c) → IsNamedBy s v.table.rows d (v.identifier d) → truth_of r c ≡ truth_of s d
      → IsAlike (nodes_of w.table.rows) (nodes_of v.table.rows) (w.identifier c) (v.identifier d)
  alike_ids c d h g same =
      alike_named (length case.features) r s w.table.rows v.table.rows (w.places ∙ first_features) (v.places ∙ second_features) first_reduced second_reduced c d (w.identifier c) (v.identifier d) h g same

  same_tables : w.table.rows ≡ v.table.rows
  same_tables =
      tables_same (length case.features) w.table.rows v.table.rows first_reduced second_reduced (map w.identifier (conditions_in case)) (map v.identifier (conditions_in other))
      (zip_of_maps (truth_of r) (truth_of s) w.identifier v.identifier (IsAlike (nodes_of w.table.rows) (nodes_of v.table.rows)) (λ c. IsNamedBy r w.table.rows c (w.identifier c)) (λ d. IsNamedBy s v.table.rows d (v.identifier d))
      alike_ids (conditions_in case) (conditions_in other) (named_written r case k w) (named_written s other l v) alike_conditions)
      (walk_written r case k w) (walk_written s other l v)

  same_ids : (c d : NodeNo) → IsNamedBy r w.table.rows c (w.identifier c) → IsNamedBy s v.table.rows d (v.identifier d) → truth_of r c ≡ truth_of s d → w.identifier c ≡ v.identifier d
  same_ids c d h g same =
      let rows = v.table.rows in
      let one : IsAlike (nodes_of rows) (nodes_of rows) (w.identifier c) (v.identifier d) =
      subst (λ (xs : List TableRow). IsAlike (nodes_of xs) (nodes_of rows) (w.identifier c) (v.identifier d)) same_tables (alike_ids c d h g same) in
      let itself : IsAlike (nodes_of rows) (nodes_of rows) (w.identifier c) (w.identifier c) = record { left_in = one.left_in; right_in = one.left_in; same = λ x. refl } in
      alike_once (length case.features) (nodes_of rows) (nodes_of rows) (w.identifier c) (w.identifier c) (v.identifier d) second_reduced itself one

  -- two documents that are written from cases with the same contents, whose conditions are true at the same lists of truth values, are one document
  pub determined : k ≡ l
  determined =
      w.document
      ∙ document_same (truth_of r) (truth_of s) w.identifier v.identifier (λ c. IsNamedBy r w.table.rows c (w.identifier c)) (λ d. IsNamedBy s v.table.rows d (v.identifier d)) same_ids
      (case_rows w.table.rows) (case_rows v.table.rows) case other (ap case_rows same_tables) (named_written r case k w) (named_written s other l v) alike
      ∙ sym v.document
