-- One more node of a template: the first rule that it breaks is the first of all, and what is read so far grows by it.
use Rattle.std.proofs.Common.{◌≡◌, refl, sym, ap, ◌∙◌, subst, ℕ, zero, suc, ◌+◌, ◌*◌, ◌<◌, ◌≤◌, List, [], ◌∷◌, ◌++◌, length, map, take, drop, get_or, Bool, true, false, Option, Some, None, arith}
use Rattle.std.specs.Prelude.{not, codes, option_map, unwrap_or}
use Rattle.std.specs.List.{slice_get, All}
use Rattle.std.proofs.lemmas.List.{drop_more, drop_all, append-nil}
use Rattle.std.proofs.lemmas.List.Elements.{All-cons, All-nil}
use Rattle.meaning.specs.Documents.{Document}
use Rattle.meaning.specs.QueryTexts.{Scope}
use Rattle.meaning.specs.Templates.{TemplateNode, annotates}
use Rattle.meaning.specs.TemplateTexts.{placed, kind_of}
use Rattle.meaning.specs.BundlePlaces.{Nodes, BundleFault, Broken, requires, where_formed, faults_at, is_among}
use Rattle.meaning.specs.LineRules.{is_within, expression_rules}
use Rattle.meaning.specs.ModelRules.{is_formed}
use Rattle.meaning.specs.TemplateRules.{id_in, check_in, node_form, stands_in_place, number_above}
use Rattle.doc_tree.specs.declared.doc.Doc.{Doc}
use Rattle.doc_tree.specs.declared.fault.Part.TheVariants as part
use Rattle.doc_tree.specs.View.{document, documents}
use Rattle.templates.specs.declared.data.TNode.{TNode}
use Rattle.templates.specs.declared.fault.Place.{Place}
use Rattle.templates.specs.declared.fault.TemplateStop.{TemplateStop}
use Rattle.templates.specs.declared.nodes.Seen.{Seen}
use Rattle.templates.specs.declared.reader.Reader.{Reader}
use Rattle.templates.specs.declared.scopes.Scopes as code
use Rattle.templates.specs.Faults.{IsFirst, faults_here}
use Rattle.templates.specs.View.{node_view}
use Rattle.templates.specs.NodeRules.{among, form_with, FormedBefore, above_among, Scopes, above_in, scope_at, scopes_here, node_told, nodes_told, nodes_broken}
use Rattle.templates.specs.Readers.{around_of, ids_of, ReaderFits, scoped_broken, new_variables_in}
use Rattle.templates.specs.ScopeReads.{place_below, added_scope, added_spot}
use Rattle.templates.specs.Seen.{scopes_of, ScopesFit, SeenFits, scope_next, next_broken}
use Rattle.templates.proofs.Firsts.{broken_in_front, broken_behind, broken_form, broken_others, first_of_left, left_behind}
use Rattle.templates.proofs.MemberLaws.{above_is}
use Rattle.templates.proofs.ScopeLaws.{got, scope_under_is, scopes_more, scopes_fit}
use Rattle.templates.proofs.SupportLaws.{ids_before, doc_inside, doc_is, ids_more, formed_next}

-- ---- lists

-- an item that is found stands at its place
pub found_is : {X : Type 0} (xs : List X) (i : ℕ) (x y : X) → slice_get xs i ≡ Some x → y ≡ get_or xs i y → y ≡ x
found_is [] i x y e is = absurd cc
found_is (z ∷ zs) zero x y e is = let same : z ≡ x = cc in is ∙ same
found_is (z ∷ zs) (suc i) x y e is = found_is zs i x y e is

pub item_is : {X : Type 0} (xs : List X) (i : ℕ) (x : X) → slice_get xs i ≡ Some x → x ≡ get_or xs i x
item_is xs i x e = sym (got xs i x e).1

pub item_inside : {X : Type 0} (xs : List X) (i : ℕ) (x : X) → slice_get xs i ≡ Some x → i < length xs
item_inside xs i x e = (got xs i x e).0

-- ---- the rules at the next node

-- where a node stands is told by the nodes of its template alone
stands_same : (nodes : List Document) (counted i : ℕ) (d : Document) → stands_in_place (among counted nodes) (i, d) ≡ stands_in_place (among 0 nodes) (i, d)
stands_same nodes counted zero d = refl
stands_same nodes counted (suc j) d = refl

module _ (r : Reader) (seen : Seen) (i : ℕ) (d : Document) (fits : SeenFits r seen i) where
  abbrev nodes : List Document
  nodes = documents r.nodes.now

  abbrev form : List Broken
  form = node_form (among r.counted nodes) (i, d)

  abbrev never : List Broken
  never = expression_rules r.model.now.labels (codes "never") (check_in d)

  abbrev stands : List Broken
  stands = requires 24 (stands_in_place (among 0 nodes) (i, d))

  abbrev scoped : List Broken
  scoped = scoped_broken r (scope_next r seen d) i d

  pub number_above_is : (above : Option ℕ) → above ≡ above_among seen.ids d → above ≡ number_above (among 0 nodes) (i, d)
  number_above_is above e = e ∙ ap (λ ids. above_among ids d) fits.ids

  next_is : where_formed form ((never ++ stands) ++ scoped) ≡ next_broken r seen i d
  next_is = ap (λ b. where_formed form ((never ++ requires 24 b) ++ scoped)) (sym (stands_same nodes r.counted i d))

  module _ (new within : Bool) (new_is : new ≡ not (is_among seen.ids (id_in d))) (within_is : within ≡ is_within 1024 (r.counted + i)) where
    form_is : form_with new within d ≡ form
    form_is =
        ap (λ b. form_with b within d) (new_is ∙ ap (λ ids. not (is_among ids (id_in d))) fits.ids)
        ∙ ap (λ b. form_with (not (is_among (take i (ids_of r)) (id_in d))) b d) within_is

    module _ (place : Place) (place_is : place ≡ record { part = part.Nodes; item = r.number; sub = i }) (stop : TemplateStop) where
      abbrev Stops : List Broken → Type 0
      Stops broken = IsFirst (faults_at Nodes r.number i broken) stop

      here_first : (broken : List Broken) → IsFirst (faults_here place broken) stop → Stops broken
      here_first broken first = subst (λ p. IsFirst (faults_here p broken) stop) place_is first

      pub form_stops : IsFirst (faults_here place (form_with new within d)) stop → Stops (next_broken r seen i d)
      form_stops first =
          subst Stops next_is
          (broken_form Nodes r.number i form ((never ++ stands) ++ scoped) stop (subst Stops form_is (here_first (form_with new within d) first)))

      module _ (formed : form_with new within d ≡ []) where
        others_stop : Stops ((never ++ stands) ++ scoped) → Stops (next_broken r seen i d)
        others_stop first = subst Stops next_is (broken_others Nodes r.number i form ((never ++ stands) ++ scoped) stop (sym form_is ∙ formed) first)

        pub never_stops : IsFirst (faults_here place never) stop → Stops (next_broken r seen i d)
        never_stops first =
            others_stop (broken_in_front Nodes r.number i (never ++ stands) scoped stop (broken_in_front Nodes r.number i never stands stop (here_first never first)))

        pub place_stops : never ≡ [] → IsFirst (faults_here place stands) stop → Stops (next_broken r seen i d)
        place_stops none first =
            others_stop (broken_in_front Nodes r.number i (never ++ stands) scoped stop (broken_behind Nodes r.number i never stands stop none (here_first stands first)))

        pub scoped_stops : never ≡ [] → stands ≡ [] → (scope : Scope) → scope ≡ scope_next r seen d → Stops (scoped_broken r scope i d) → Stops (next_broken r seen i d)
        scoped_stops none stood scope is first =
            others_stop (broken_behind Nodes r.number i (never ++ stands) scoped stop (ap (λ xs. xs ++ stands) none ∙ stood)
            (subst (λ s. Stops (scoped_broken r s i d)) is first))

    pub next_none : form_with new within d ≡ [] → never ≡ [] → stands ≡ [] → (scope : Scope) → scope ≡ scope_next r seen d → scoped_broken r scope i d ≡ [] → next_broken r seen i d ≡ []
    next_none formed none stood scope is clear =
        sym next_is
        ∙ (ap (λ f. where_formed f ((never ++ stands) ++ scoped)) (sym form_is ∙ formed)
        ∙ (ap (λ xs. (xs ++ stands) ++ scoped) none ∙ (ap (λ xs. xs ++ scoped) stood ∙ (ap (λ s. scoped_broken r s i d) (sym is) ∙ clear))))

  -- ---- the variables in scope

  module _ (above : Option ℕ) (above_found : above ≡ above_among seen.ids d) (in_place : stands_in_place (among 0 nodes) (i, d) ≡ true) where
    pub above_next : above ≡ above_in (ids_of r) d
    above_next = number_above_is above above_found ∙ sym (above_is nodes d i in_place)

    pub scope_found : (annotation : Bool) → annotation ≡ annotates (kind_of [] [] d) → (place : ℕ) → place ≡ place_below annotation above seen.scopes.spots.items
        → slice_get seen.scopes.all.items place ≡ Some (scope_next r seen d)
    scope_found annotation kind place is =
        ap (slice_get seen.scopes.all.items) is
        ∙ (scope_under_is r.parameters.now seen.scopes i fits.scopes above annotation
        ∙ (ap (λ b. Some (scope_at (scopes_of seen.scopes) r.parameters.now above b)) kind
        ∙ ap (λ o. Some (scope_at (scopes_of seen.scopes) r.parameters.now o (annotates (kind_of [] [] d)))) above_next))

    pub told_next : (n : TemplateNode) (scope : Scope) → scope ≡ scope_next r seen d → n ≡ (placed r.model.now r.names.now above scope d).node
        → n ≡ node_told r.model.now r.names.now r.parameters.now (ids_of r) (scopes_of seen.scopes) d
    told_next n scope is e =
        e ∙ (ap (λ s. (placed r.model.now r.names.now above s d).node) is ∙ ap (λ o. (placed r.model.now r.names.now o (scope_next r seen d) d).node) above_next)

  pub scope_short : (place : ℕ) (scope : Scope) → slice_get seen.scopes.all.items place ≡ Some scope → length scope ≤ 65532
  scope_short place scope e =
      let g = got seen.scopes.all.items place scope e in
      let short : length scope ≤ 8 + 3 * i = subst (λ x. length x ≤ 8 + 3 * i) g.1 (fits.scopes.short place scope g.0) in
      let few = fits.few in
      omega arith

-- the nodes up to the next one have their form
pub formed_more : (r : Reader) (seen : Seen) (i : ℕ) (x : Doc) → SeenFits r seen i → i < length r.nodes.now → x ≡ get_or r.nodes.now i x → (new within : Bool)
    → new ≡ not (is_among seen.ids (id_in (document x))) → within ≡ is_within 1024 (r.counted + i) → form_with new within (document x) ≡ []
    → FormedBefore r.counted (documents r.nodes.now) i → FormedBefore r.counted (documents r.nodes.now) (i + 1)
formed_more r seen i x fits inside is new within new_is within_is formed before =
    let tested : true ≡ is_formed (form_with (not (is_among seen.ids (id_in (document x)))) (is_within 1024 (r.counted + i)) (document x)) =
    ap is_formed (sym formed)
    ∙ (ap (λ b. is_formed (form_with b within (document x))) new_is
    ∙ ap (λ b. is_formed (form_with (not (is_among seen.ids (id_in (document x)))) b (document x))) within_is) in
    formed_next r.nodes.now i seen.ids (fits.ids ∙ sym (ids_before r.nodes.now i)) r.counted x inside is true tested before refl

-- ---- what is read so far

pub seen_start : (r : Reader) (seen : Seen) → ReaderFits r → seen.ids ≡ [] → seen.scopes.all.items ≡ r.parameters.now ∷ [] → seen.scopes.spots.items ≡ [] → SeenFits r seen 0
seen_start r seen fits ids all spots = record {
  few = let c = fits.counted in omega arith;
  ids = ids;
  scopes = record {
    many = ap length spots;
    start = ap (λ xs. slice_get xs 0) all;
    inside = subst (All (λ p. p.scope < length seen.scopes.all.items)) (sym spots) (All-nil (λ p. p.scope < length seen.scopes.all.items));
    inside_below = subst (All (λ p. p.below < length seen.scopes.all.items)) (sym spots) (All-nil (λ p. p.below < length seen.scopes.all.items));
    short = subst (All (λ scope. length scope ≤ 8 + 3 * 0)) (sym all)
        (All-cons (λ scope. length scope ≤ 8 + 3 * 0) r.parameters.now [] (let l = fits.few in omega arith) (All-nil (λ scope. length scope ≤ 8 + 3 * 0)));
  };
}

module _ (r : Reader) (seen next : Seen) (i : ℕ) (x : Doc) (fits : SeenFits r seen i) (inside : i < length r.nodes.now) (is : x ≡ get_or r.nodes.now i x)
    (place : ℕ) (scope : Scope) (new : Option Scope) (there : slice_get seen.scopes.all.items place ≡ Some scope) (scope_is : scope ≡ scope_next r seen (document x))
    (new_is : new ≡ new_variables_in r.model.now scope (document x)) (few : length (unwrap_or new []) ≤ 3)
    (all : next.scopes.all.items ≡ seen.scopes.all.items ++ added_scope (slice_get seen.scopes.all.items place) new)
    (spots : next.scopes.spots.items ≡ seen.scopes.spots.items ++ added_spot place (length seen.scopes.all.items) new ∷ []) where
  pub seen_more : r.counted + i < 1024 → next.ids ≡ seen.ids ++ id_in (document x) ∷ [] → SeenFits r next (i + 1)
  seen_more within ids = record {
    few = omega arith;
    ids = ids_more r.nodes.now i seen.ids (fits.ids ∙ sym (ids_before r.nodes.now i)) x (id_in (document x)) next.ids inside is refl ids ∙ ids_before r.nodes.now (i + 1);
    scopes = scopes_fit r.parameters.now seen.scopes next.scopes i fits.scopes place scope new there few all spots;
  }

  scopes_next : scopes_of next.scopes ≡ scopes_of seen.scopes ++ scopes_here r.model.now r.parameters.now (ids_of r) (scopes_of seen.scopes) (document x) ∷ []
  scopes_next =
      scopes_more r.parameters.now seen.scopes next.scopes i fits.scopes place scope new there few all spots
      ∙ (ap (λ n. scopes_of seen.scopes ++ (scope, scope ++ unwrap_or n []) ∷ []) new_is
      ∙ ap (λ s. scopes_of seen.scopes ++ (s, s ++ unwrap_or (new_variables_in r.model.now s (document x)) []) ∷ []) scope_is)

  -- the nodes that are read, with those that are left
  pub told_more : (done : List TNode) (n : TNode) (whole : List TemplateNode)
      → node_view n ≡ node_told r.model.now r.names.now r.parameters.now (ids_of r) (scopes_of seen.scopes) (document x)
      → map node_view done ++ nodes_told r.model.now r.names.now r.parameters.now (ids_of r) (scopes_of seen.scopes) (documents (drop i r.nodes.now)) ≡ whole
      → map node_view (done ++ n ∷ []) ++ nodes_told r.model.now r.names.now r.parameters.now (ids_of r) (scopes_of next.scopes) (documents (drop (i + 1) r.nodes.now)) ≡ whole
  told_more done n whole told before =
      let rest : List Document = documents (drop (i + 1) r.nodes.now) in
      let front : drop i r.nodes.now ≡ x ∷ drop (i + 1) r.nodes.now = drop_more r.nodes.now i x inside ∙ ap (λ y. y ∷ drop (i + 1) r.nodes.now) (sym is) in
      pushed done n (nodes_told r.model.now r.names.now r.parameters.now (ids_of r) (scopes_of next.scopes) rest)
      ∙ (ap (λ v. map node_view done ++ v ∷ nodes_told r.model.now r.names.now r.parameters.now (ids_of r) (scopes_of next.scopes) rest) told
      ∙ (ap (λ ss. map node_view done ++ node_told r.model.now r.names.now r.parameters.now (ids_of r) (scopes_of seen.scopes) (document x)
      ∷ nodes_told r.model.now r.names.now r.parameters.now (ids_of r) ss rest) scopes_next
      ∙ (sym (ap (λ xs. map node_view done ++ nodes_told r.model.now r.names.now r.parameters.now (ids_of r) (scopes_of seen.scopes) (documents xs)) front) ∙ before)))
    where
      pushed : (done : List TNode) (n : TNode) (rest : List TemplateNode) → map node_view (done ++ n ∷ []) ++ rest ≡ map node_view done ++ node_view n ∷ rest
      pushed [] n rest = refl
      pushed (y ∷ ys) n rest = ap (λ zs. node_view y ∷ zs) (pushed ys n rest)

  -- the faults that are left
  pub clear_more : (whole : List BundleFault) → next_broken r seen i (document x) ≡ []
      → nodes_broken (around_of r) (scopes_of seen.scopes) i (documents (drop i r.nodes.now)) ≡ whole
      → nodes_broken (around_of r) (scopes_of next.scopes) (i + 1) (documents (drop (i + 1) r.nodes.now)) ≡ whole
  clear_more whole none before =
      ap (λ ss. nodes_broken (around_of r) ss (i + 1) (documents (drop (i + 1) r.nodes.now))) scopes_next
      ∙ left_behind (nodes_broken (around_of r) (scopes_of seen.scopes) i) r.nodes.now i x (faults_at Nodes r.number i (next_broken r seen i (document x))) whole
      (nodes_broken (around_of r) (scopes_of seen.scopes ++ scopes_here r.model.now r.parameters.now (ids_of r) (scopes_of seen.scopes) (document x) ∷ []) (i + 1))
      inside is before (λ ds. refl) (ap (faults_at Nodes r.number i) none)

pub node_stops : (r : Reader) (seen : Seen) (i : ℕ) (x : Doc) (whole : List BundleFault) (stop : TemplateStop) → i < length r.nodes.now → x ≡ get_or r.nodes.now i x
    → nodes_broken (around_of r) (scopes_of seen.scopes) i (documents (drop i r.nodes.now)) ≡ whole
    → IsFirst (faults_at Nodes r.number i (next_broken r seen i (document x))) stop → IsFirst whole stop
node_stops r seen i x whole stop inside is before first =
    first_of_left (nodes_broken (around_of r) (scopes_of seen.scopes) i) r.nodes.now i x (faults_at Nodes r.number i (next_broken r seen i (document x))) whole
    (nodes_broken (around_of r) (scopes_of seen.scopes ++ scopes_here r.model.now r.parameters.now (ids_of r) (scopes_of seen.scopes) (document x) ∷ []) (i + 1))
    stop inside is before (λ ds. refl) first

pub told_whole : (r : Reader) (seen : Seen) (i : ℕ) (done : List TNode) (whole : List TemplateNode) → length r.nodes.now ≤ i
    → map node_view done ++ nodes_told r.model.now r.names.now r.parameters.now (ids_of r) (scopes_of seen.scopes) (documents (drop i r.nodes.now)) ≡ whole → map node_view done ≡ whole
told_whole r seen i done whole past before =
    sym (ap (λ xs. map node_view done ++ nodes_told r.model.now r.names.now r.parameters.now (ids_of r) (scopes_of seen.scopes) (documents xs)) (drop_all i r.nodes.now past)
    ∙ append-nil (map node_view done)) ∙ before

pub clear_whole : (r : Reader) (seen : Seen) (i : ℕ) (whole : List BundleFault) → length r.nodes.now ≤ i
    → nodes_broken (around_of r) (scopes_of seen.scopes) i (documents (drop i r.nodes.now)) ≡ whole → whole ≡ []
clear_whole r seen i whole past before =
    sym before ∙ ap (λ xs. nodes_broken (around_of r) (scopes_of seen.scopes) i (documents xs)) (drop_all i r.nodes.now past)
