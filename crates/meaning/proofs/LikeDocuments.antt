-- Case documents that differ in their identifiers and tables alone: their conditions side by side.
use Rattle.std.proofs.Common.{◌≡◌, ℕ, List, [], ◌∷◌, ◌++◌, map, Some, None, Option, refl, ap}
use Rattle.meaning.specs.Texts.{flat}
use Rattle.meaning.specs.CaseFiles.{Finding, CaseNode, CaseRelation, CaseSystem, CaseDocument}
use Rattle.meaning.specs.TableOrder.{conditions_of, conditions_of_finding}
use Rattle.meaning.proofs.CutTrees.{Each}
use Rattle.meaning.proofs.PairedLists.{Paired, paired_append, paired_map, paired_flat, paired_equal, paired_with}
use Rattle.meaning.proofs.ReadCases.{conditions_of_node, conditions_of_system}

-- ---- what holds of each element of parts

pub each_split : {A : Type 0} (P : A → Type 0) (xs ys : List A) → Each P (xs ++ ys) → Each P xs × Each P ys
each_split P [] ys h = (tt, h)
each_split P (x ∷ xs) ys h = let rest : Each P xs × Each P ys = each_split P xs ys h.1 in ((h.0, rest.0), rest.1)

pub each_flat : {A B : Type 0} (P : B → Type 0) (f : A → List B) (xs : List A) → Each P (flat f xs) → Each (λ x. Each P (f x)) xs
each_flat P f [] h = tt
each_flat P f (x ∷ xs) h = let parts : Each P (f x) × Each P (flat f xs) = each_split P (f x) (flat f xs) h in (parts.0, each_flat P f xs parts.1)

pub each_in_map : {A B : Type 0} (P : B → Type 0) (f : A → B) (xs : List A) → Each P (map f xs) → Each (λ x. P (f x)) xs
each_in_map P f [] h = tt
each_in_map P f (x ∷ xs) h = (h.0, each_in_map P f xs h.1)

-- ---- alike but for the identifiers

module _ (R : ℕ → ℕ → Type 0) where
  -- a value and its condition
  abbrev pub EntryLike : {A : Type 0} → A × ℕ → A × ℕ → Type 0
  EntryLike t u = (t.0 ≡ u.0) × R t.1 u.1

  pub record FindingLike (f g : Finding) : Type 0 where
    pub check : f.check ≡ g.check
    pub refuted : R f.refuted g.refuted
    pub targets : Paired EntryLike f.targets g.targets
    pub witnesses : Paired EntryLike f.witnesses g.witnesses

  abbrev pub FindingsLike : Option Finding → Option Finding → Type 0
  FindingsLike None None = Unit {0}
  FindingsLike None (Some g) = ⊥
  FindingsLike (Some f) None = ⊥
  FindingsLike (Some f) (Some g) = FindingLike f g

  pub record NodeLike (n m : CaseNode) : Type 0 where
    pub key : n.key ≡ m.key
    pub kind : n.kind ≡ m.kind
    pub parts : n.parts ≡ m.parts
    pub presence : R n.presence m.presence
    pub undeveloped : n.undeveloped ≡ m.undeveloped
    pub branches : Paired R n.branches m.branches
    pub finding : FindingsLike n.finding m.finding

  pub record RelationLike (r s : CaseRelation) : Type 0 where
    pub source : r.source ≡ s.source
    pub target : r.target ≡ s.target
    pub kind : r.kind ≡ s.kind
    pub presence : R r.presence s.presence

  pub record SystemLike (x y : CaseSystem) : Type 0 where
    pub element : x.element ≡ y.element
    pub states : x.states ≡ y.states
    pub reached : Paired R x.reached y.reached
    pub transitions : x.transitions ≡ y.transitions
    pub parents : Paired R x.parents y.parents

  pub record DocumentLike (k o : CaseDocument) : Type 0 where
    pub title : k.title ≡ o.title
    pub features : k.features ≡ o.features
    pub valid : R k.valid o.valid
    pub nodes : Paired NodeLike k.nodes o.nodes
    pub relations : Paired RelationLike k.relations o.relations
    pub systems : Paired SystemLike k.systems o.systems

-- ---- their conditions

module _ (R : ℕ → ℕ → Type 0) where
  entry_conditions : {A : Type 0} (ts us : List (A × ℕ)) → Paired (EntryLike R) ts us → Paired R (map (λ t. t.1) ts) (map (λ t. t.1) us)
  entry_conditions ts us h = paired_map (EntryLike R) R (λ t. t.1) (λ t. t.1) (λ t u e. e.1) ts us h

  finding_conditions : (f g : Option Finding) → FindingsLike R f g → Paired R (conditions_of_finding f) (conditions_of_finding g)
  finding_conditions None None h = tt
  finding_conditions None (Some g) h = elim h [ ]
  finding_conditions (Some f) None h = elim h [ ]
  finding_conditions (Some f) (Some g) h = (
    h.refuted,
    paired_append R (map (λ t. t.1) f.targets) (map (λ t. t.1) g.targets) (map (λ x. x.1) f.witnesses) (map (λ x. x.1) g.witnesses)
        (entry_conditions f.targets g.targets h.targets) (entry_conditions f.witnesses g.witnesses h.witnesses),
  )

  node_conditions : (n m : CaseNode) → NodeLike R n m → Paired R (conditions_of_node n) (conditions_of_node m)
  node_conditions n m h = (
    h.presence,
    paired_append R n.branches m.branches (conditions_of_finding n.finding) (conditions_of_finding m.finding) h.branches (finding_conditions n.finding m.finding h.finding),
  )

  system_conditions : (x y : CaseSystem) → SystemLike R x y → Paired R (conditions_of_system x) (conditions_of_system y)
  system_conditions x y h = paired_append R x.reached y.reached x.parents y.parents h.reached h.parents

  pub like_conditions : (k o : CaseDocument) → DocumentLike R k o → Paired R (conditions_of k) (conditions_of o)
  like_conditions k o h =
      paired_append R (flat conditions_of_node k.nodes ++ map (λ r. r.presence) k.relations) (flat conditions_of_node o.nodes ++ map (λ r. r.presence) o.relations)
      (flat conditions_of_system k.systems) (flat conditions_of_system o.systems)
      (paired_append R (flat conditions_of_node k.nodes) (flat conditions_of_node o.nodes) (map (λ r. r.presence) k.relations) (map (λ r. r.presence) o.relations)
      (paired_flat (NodeLike R) R conditions_of_node conditions_of_node node_conditions k.nodes o.nodes h.nodes)
      (paired_map (RelationLike R) R (λ r. r.presence) (λ r. r.presence) (λ r s e. e.presence) k.relations o.relations h.relations))
      (paired_flat (SystemLike R) R conditions_of_system conditions_of_system system_conditions k.systems o.systems h.systems)

-- ---- from one relation of conditions to another

module _ (P Q : ℕ → Type 0) (R S : ℕ → ℕ → Type 0) (f : (i j : ℕ) → P i → Q j → R i j → S i j) where
  like_lists : (is js : List ℕ) → Each P is → Each Q js → Paired R is js → Paired S is js
  like_lists is js p q h = paired_with P Q R S f is js p q h

  like_entries : {A : Type 0} (ts us : List (A × ℕ)) → Each P (map (λ t. t.1) ts) → Each Q (map (λ t. t.1) us) → Paired (EntryLike R) ts us → Paired (EntryLike S) ts us
  like_entries ts us p q h =
      paired_with (λ t. P t.1) (λ t. Q t.1) (EntryLike R) (EntryLike S) (λ t u a b e. (e.0, f t.1 u.1 a b e.1)) ts us
      (each_in_map P (λ t. t.1) ts p) (each_in_map Q (λ t. t.1) us q) h

  like_findings : (a b : Option Finding) → Each P (conditions_of_finding a) → Each Q (conditions_of_finding b) → FindingsLike R a b → FindingsLike S a b
  like_findings None None p q h = tt
  like_findings None (Some b) p q h = elim h [ ]
  like_findings (Some a) None p q h = elim h [ ]
  like_findings (Some a) (Some b) p q h =
      let of_a = each_split P (map (λ t. t.1) a.targets) (map (λ x. x.1) a.witnesses) p.1 in
      let of_b = each_split Q (map (λ t. t.1) b.targets) (map (λ x. x.1) b.witnesses) q.1 in
      record {
        check = h.check;
        refuted = f a.refuted b.refuted p.0 q.0 h.refuted;
        targets = like_entries a.targets b.targets of_a.0 of_b.0 h.targets;
        witnesses = like_entries a.witnesses b.witnesses of_a.1 of_b.1 h.witnesses;
      }

  like_nodes : (n m : CaseNode) → Each P (conditions_of_node n) → Each Q (conditions_of_node m) → NodeLike R n m → NodeLike S n m
  like_nodes n m p q h =
      let of_n = each_split P n.branches (conditions_of_finding n.finding) p.1 in
      let of_m = each_split Q m.branches (conditions_of_finding m.finding) q.1 in
      record {
        key = h.key;
        kind = h.kind;
        parts = h.parts;
        presence = f n.presence m.presence p.0 q.0 h.presence;
        undeveloped = h.undeveloped;
        branches = like_lists n.branches m.branches of_n.0 of_m.0 h.branches;
        finding = like_findings n.finding m.finding of_n.1 of_m.1 h.finding;
      }

  like_relations : (r s : CaseRelation) → P r.presence → Q s.presence → RelationLike R r s → RelationLike S r s
  like_relations r s p q h = record { source = h.source; target = h.target; kind = h.kind; presence = f r.presence s.presence p q h.presence }

  like_systems : (x y : CaseSystem) → Each P (conditions_of_system x) → Each Q (conditions_of_system y) → SystemLike R x y → SystemLike S x y
  like_systems x y p q h =
      let of_x = each_split P x.reached x.parents p in
      let of_y = each_split Q y.reached y.parents q in
      record {
        element = h.element;
        states = h.states;
        reached = like_lists x.reached y.reached of_x.0 of_y.0 h.reached;
        transitions = h.transitions;
        parents = like_lists x.parents y.parents of_x.1 of_y.1 h.parents;
      }

  -- where it holds of all conditions
  pub like_documents : (k o : CaseDocument) → P k.valid → Q o.valid → Each P (conditions_of k) → Each Q (conditions_of o) → DocumentLike R k o → DocumentLike S k o
  like_documents k o p q ps qs h =
      let of_k = each_split P (flat conditions_of_node k.nodes ++ map (λ r. r.presence) k.relations) (flat conditions_of_system k.systems) ps in
      let of_o = each_split Q (flat conditions_of_node o.nodes ++ map (λ r. r.presence) o.relations) (flat conditions_of_system o.systems) qs in
      let first_k = each_split P (flat conditions_of_node k.nodes) (map (λ r. r.presence) k.relations) of_k.0 in
      let first_o = each_split Q (flat conditions_of_node o.nodes) (map (λ r. r.presence) o.relations) of_o.0 in
      record {
        title = h.title;
        features = h.features;
        valid = f k.valid o.valid p q h.valid;
        nodes = paired_with _ _ (NodeLike R) (NodeLike S) like_nodes k.nodes o.nodes (each_flat P conditions_of_node k.nodes first_k.0) (each_flat Q conditions_of_node o.nodes first_o.0) h.nodes;
        relations =
            paired_with _ _ (RelationLike R) (RelationLike S) like_relations k.relations o.relations
            (each_in_map P (λ r. r.presence) k.relations first_k.1) (each_in_map Q (λ r. r.presence) o.relations first_o.1) h.relations;
        systems = paired_with _ _ (SystemLike R) (SystemLike S) like_systems k.systems o.systems (each_flat P conditions_of_system k.systems of_k.1) (each_flat Q conditions_of_system o.systems of_o.1) h.systems;
      }

-- ---- with equal identifiers and one table they are one document

abbrev Equal : ℕ → ℕ → Type 0
Equal i j = i ≡ j

lists_equal : (is js : List ℕ) → Paired Equal is js → is ≡ js
lists_equal is js h = paired_equal Equal (λ i j e. e) is js h

entries_equal : {A : Type 0} (ts us : List (A × ℕ)) → Paired (EntryLike Equal) ts us → ts ≡ us
entries_equal ts us h = paired_equal (EntryLike Equal) (λ t u e. λ i. (e.0 i, e.1 i)) ts us h

finding_equal : (f g : Finding) → FindingLike Equal f g → f ≡ g
finding_equal f g h =
    made (entries_equal f.targets g.targets h.targets) (entries_equal f.witnesses g.witnesses h.witnesses)
  where
    made : f.targets ≡ g.targets → f.witnesses ≡ g.witnesses → f ≡ g
    made t x = λ i. record { check = h.check i; refuted = h.refuted i; targets = t i; witnesses = x i }

findings_equal : (f g : Option Finding) → FindingsLike Equal f g → f ≡ g
findings_equal None None h = refl
findings_equal None (Some g) h = elim h [ ]
findings_equal (Some f) None h = elim h [ ]
findings_equal (Some f) (Some g) h = ap Some (finding_equal f g h)

node_equal : (n m : CaseNode) → NodeLike Equal n m → n ≡ m
node_equal n m h = made (lists_equal n.branches m.branches h.branches) (findings_equal n.finding m.finding h.finding)
  where
    made : n.branches ≡ m.branches → n.finding ≡ m.finding → n ≡ m
    made b f = λ i. record { key = h.key i; kind = h.kind i; parts = h.parts i; presence = h.presence i; undeveloped = h.undeveloped i; branches = b i; finding = f i }

relation_equal : (r s : CaseRelation) → RelationLike Equal r s → r ≡ s
relation_equal r s h = λ i. record { source = h.source i; target = h.target i; kind = h.kind i; presence = h.presence i }

system_equal : (x y : CaseSystem) → SystemLike Equal x y → x ≡ y
system_equal x y h = made (lists_equal x.reached y.reached h.reached) (lists_equal x.parents y.parents h.parents)
  where
    made : x.reached ≡ y.reached → x.parents ≡ y.parents → x ≡ y
    made r p = λ i. record { element = h.element i; states = h.states i; reached = r i; transitions = h.transitions i; parents = p i }

pub documents_equal : (k o : CaseDocument) → DocumentLike (λ i j. i ≡ j) k o → k.table ≡ o.table → k ≡ o
documents_equal k o h t =
    made (paired_equal (NodeLike Equal) node_equal k.nodes o.nodes h.nodes) (paired_equal (RelationLike Equal) relation_equal k.relations o.relations h.relations)
    (paired_equal (SystemLike Equal) system_equal k.systems o.systems h.systems)
  where
    made : k.nodes ≡ o.nodes → k.relations ≡ o.relations → k.systems ≡ o.systems → k ≡ o
    made n r s = λ i. record { title = h.title i; features = h.features i; valid = h.valid i; nodes = n i; relations = r i; systems = s i; table = t i }
