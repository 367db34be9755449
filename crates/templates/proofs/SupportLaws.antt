-- What the nodes of a template tell of each other, found node by node.
use Rattle.std.proofs.Common.{◌≡◌, ◌≢◌, refl, sym, ap, ◌∙◌, subst, ℕ, zero, suc, ◌+◌, ◌<◌, ◌≤◌, List, [], ◌∷◌, ◌++◌, length, map, take, drop, get_or, set, Bool, true, false, Option, Some, None, arith}
use Rattle.std.specs.Prelude.{◌==◌, not, ◌&&◌, ◌||◌, if◌then◌else◌, option_map, option_and_then, codes, bytes_eq, IfSome}
use Rattle.std.specs.List.{list_all, list_any, enumerate_from}
use Rattle.std.proofs.lemmas.Bool.{eqb-true, eqb-false, eq-eqb, true≢false}
use Rattle.std.proofs.lemmas.List.{take_more, take_all, take-map, map-append, length-map, length-take-le, take-append-drop, drop_more, get_or-set_same, get_or-set_other}
use Rattle.std.proofs.lemmas.List.Folds.{list_all-append, list_any-append}
use Rattle.std.proofs.lemmas.List.FromFn.{length-enumerate_from, get_or-enumerate_from}
use Rattle.meaning.specs.Texts.{numbered, place_of}
use Rattle.meaning.specs.Documents.{Document, truth_at}
use Rattle.meaning.specs.BundlePlaces.{is_among, text_of_member}
use Rattle.meaning.specs.LineRules.{is_within}
use Rattle.meaning.specs.ModelRules.{is_formed}
use Rattle.meaning.specs.TemplateRules.{NodeContext, id_in, kind_in, supports, is_goal_or_strategy, is_number, node_form, number_above, later_nodes_have_form, has_no_support, undeveloped_is_right}
use Rattle.doc_tree.specs.declared.doc.Doc.{Doc}
use Rattle.doc_tree.specs.View.{document, documents}
use Rattle.templates.specs.Marks.{marked}
use Rattle.templates.specs.NodeRules.{among, form_with, all_formed, FormedBefore, above_among, supports_node}

-- ---- lists

and_true : (b : Bool) → (b && true) ≡ b
and_true true = refl
and_true false = refl

and_false : (b : Bool) → (b && false) ≡ false
and_false true = refl
and_false false = refl

or_false : (b : Bool) → (b || false) ≡ b
or_false true = refl
or_false false = refl

at_number : {X : Type 0} (xs : List X) (i : ℕ) (x : X) → i < length xs → x ≡ get_or xs i x → get_or (numbered xs) i (0, x) ≡ (i, x)
at_number xs i x inside is =
    get_or-enumerate_from 0 xs i (0, x) inside ∙ (ap (λ y. (0 + i, y)) (sym is) ∙ ap (λ n. (n, x)) (let f : 0 + i ≡ i = omega arith in f))

pub one_more_numbered : {X : Type 0} (xs : List X) (i : ℕ) (x : X) → i < length xs → x ≡ get_or xs i x → take (i + 1) (numbered xs) ≡ take i (numbered xs) ++ (i, x) ∷ []
one_more_numbered xs i x inside is =
    let sized : length (numbered xs) ≡ length xs = length-enumerate_from 0 xs in
    take_more (numbered xs) i (0, x) (let f : i < length (numbered xs) = omega arith in f)
    ∙ ap (λ p. take i (numbered xs) ++ p ∷ []) (at_number xs i x inside is)

next_numbered : {X : Type 0} (xs : List X) (i : ℕ) (x : X) → i < length xs → x ≡ get_or xs i x → drop i (numbered xs) ≡ (i, x) ∷ drop (i + 1) (numbered xs)
next_numbered xs i x inside is =
    let sized : length (numbered xs) ≡ length xs = length-enumerate_from 0 xs in
    drop_more (numbered xs) i (0, x) (let f : i < length (numbered xs) = omega arith in f)
    ∙ ap (λ p. p ∷ drop (i + 1) (numbered xs)) (at_number xs i x inside is)

-- ---- whether every node has its form

module _ (counted : ℕ) (ds : List Document) where
  abbrev has_form : ℕ × Document → Bool
  has_form n = is_formed (node_form (among counted ds) n)

  module _ (i : ℕ) (d : Document) (inside : i < length ds) (is : d ≡ get_or ds i d) where
    abbrev pub here_formed : Bool
    here_formed = is_formed (form_with (not (is_among (take i (map id_in ds)) (id_in d))) (is_within 1024 (counted + i)) d)

    pub formed_more : FormedBefore counted ds i → here_formed ≡ true → FormedBefore counted ds (i + 1)
    formed_more before here =
        ap (list_all has_form) (one_more_numbered ds i d inside is)
        ∙ (list_all-append has_form (take i (numbered ds)) ((i, d) ∷ [])
        ∙ (ap (λ b. b && (has_form (i, d) && true)) before ∙ ap (λ b. b && true) here))

    pub not_all_formed : here_formed ≡ false → false ≡ all_formed counted ds
    not_all_formed here =
        let rest : Bool = list_all has_form (drop (i + 1) (numbered ds)) in
        let first : Bool = list_all has_form (take i (numbered ds)) in
        sym (ap (list_all has_form) (sym (take-append-drop i (numbered ds)))
        ∙ (list_all-append has_form (take i (numbered ds)) (drop i (numbered ds))
        ∙ (ap (λ ns. first && list_all has_form ns) (next_numbered ds i d inside is)
        ∙ (ap (λ b. first && (b && rest)) here ∙ and_false first))))

  pub formed_to_end : (i : ℕ) → length ds ≤ i → FormedBefore counted ds i → true ≡ all_formed counted ds
  formed_to_end i past before =
      let sized : length (numbered ds) ≡ length ds = length-enumerate_from 0 ds in
      sym before ∙ ap (list_all has_form) (take_all i (numbered ds) (let f : length (numbered ds) ≤ i = omega arith in f))

  -- where the nodes so far have their form, all have it where the later ones do
  later_is : (i : ℕ) → FormedBefore counted ds i → all_formed counted ds ≡ list_all has_form (drop i (numbered ds))
  later_is i before =
      ap (list_all has_form) (sym (take-append-drop i (numbered ds)))
      ∙ (list_all-append has_form (take i (numbered ds)) (drop i (numbered ds)) ∙ ap (λ b. b && list_all has_form (drop i (numbered ds))) before)

-- ---- marks

push_default : (marks : List Bool) (j : ℕ) → get_or (marks ++ false ∷ []) j false ≡ get_or marks j false
push_default [] zero = refl
push_default [] (suc j) = refl
push_default (b ∷ bs) zero = refl
push_default (b ∷ bs) (suc j) = push_default bs j

set_mark : (marks : List Bool) (p j : ℕ) → p < length marks → get_or (set marks p true) j false ≡ (get_or marks j false || (p == j))
set_mark marks p j inside = go (p == j) refl
  where
    go : (b : Bool) → (p == j) ≡ b → get_or (set marks p true) j false ≡ (get_or marks j false || b)
    go true e =
        ap (λ k. get_or (set marks p true) k false) (sym (eqb-true p j e)) ∙ (get_or-set_same marks p true false inside ∙ sym (or_true (get_or marks j false)))
      where
        or_true : (b : Bool) → (b || true) ≡ true
        or_true true = refl
        or_true false = refl
    go false e = get_or-set_other marks p j true false (λ h. other h e) ∙ sym (or_false (get_or marks j false))
      where
        other : j ≡ p → (p == j) ≡ false → ⊥
        other h e = absurd (true≢false (sym (ap (λ k. p == k) h ∙ eq-eqb p p refl) ∙ e))

module _ (ds : List Document) where
  -- the marks tell of the nodes before a number
  abbrev pub MarksBefore : List Bool → ℕ → Type 0
  MarksBefore marks i = (j : ℕ) → get_or marks j false ≡ list_any (supports_node ds j) (take i (numbered ds))

  pub marks_begin : MarksBefore [] 0
  marks_begin j = refl

  pub marks_more : (marks : List Bool) (i : ℕ) (d : Document) → i < length ds → d ≡ get_or ds i d
      → (number : Option ℕ) → number ≡ (if supports (kind_in d) then above_among (take i (map id_in ds)) d else None) → IfSome number (λ p. p < length marks)
      → MarksBefore marks i → MarksBefore (marked number marks ++ false ∷ []) (i + 1)
  marks_more marks i d inside is number number_is fits before j =
      push_default (marked number marks) j
      ∙ (one_marked (supports (kind_in d)) (above_among (take i (map id_in ds)) d) number number_is fits
      ∙ (ap (λ b. b || (supports_node ds j (i, d) || false)) (before j)
      ∙ (sym (list_any-append (supports_node ds j) (take i (numbered ds)) ((i, d) ∷ [])) ∙ ap (list_any (supports_node ds j)) (sym (one_more_numbered ds i d inside is)))))
    where
      one_marked : (b : Bool) (above number : Option ℕ) → number ≡ (if b then above else None) → IfSome number (λ p. p < length marks)
          → get_or (marked number marks) j false ≡ (get_or marks j false || ((b && is_number j above) || false))
      one_marked false above number e fits = ap (λ o. get_or (marked o marks) j false) e ∙ sym (or_false (get_or marks j false))
      one_marked true None number e fits = ap (λ o. get_or (marked o marks) j false) e ∙ sym (or_false (get_or marks j false))
      one_marked true (Some p) number e fits =
          ap (λ o. get_or (marked o marks) j false) e
          ∙ (set_mark marks p j (subst (λ o. IfSome o (λ q. q < length marks)) e fits) ∙ ap (λ b. get_or marks j false || b) (sym (or_false (p == j))))

  pub marks_to_end : (marks : List Bool) (i : ℕ) → length ds ≤ i → MarksBefore marks i → (j : ℕ) → get_or marks j false ≡ list_any (supports_node ds j) (numbered ds)
  marks_to_end marks i past before j =
      let sized : length (numbered ds) ≡ length ds = length-enumerate_from 0 ds in
      before j ∙ ap (list_any (supports_node ds j)) (take_all i (numbered ds) (let f : length (numbered ds) ≤ i = omega arith in f))

-- the place of a text is one of the list
pub place_inside : (s : List ℕ) (xs : List (List ℕ)) (p : ℕ) → place_of s xs ≡ Some p → p < length xs
place_inside s [] p e = absurd cc
place_inside s (x ∷ xs) p e = go (bytes_eq s x) (place_of s xs) (place_inside s xs) p e
  where
    go : (b : Bool) (o : Option ℕ) → ((q : ℕ) → o ≡ Some q → q < length xs) → (p : ℕ) → (if b then Some 0 else option_map suc o) ≡ Some p → p < suc (length xs)
    go true o later p e = let zero_is : 0 ≡ p = cc in omega arith
    go false None later p e = absurd cc
    go false (Some q) later p e = let next : suc q ≡ p = cc in let l = later q refl in omega arith

pub supported_inside : (before : List (List ℕ)) (d : Document) (number : Option ℕ) (n : ℕ) → number ≡ (if supports (kind_in d) then above_among before d else None) → length before ≡ n
    → IfSome number (λ p. p < n)
supported_inside before d number n is many = subst (λ o. IfSome o (λ p. p < n)) (sym is) (go (supports (kind_in d)) (text_of_member (codes "under") d))
  where
    there : (s : List ℕ) (o : Option ℕ) → place_of s before ≡ o → IfSome o (λ p. p < n)
    there s None e = tt
    there s (Some p) e = let l = place_inside s before p e in omega arith

    go : (b : Bool) (o : Option (List ℕ)) → IfSome (if b then option_and_then (λ s. place_of s before) o else None) (λ p. p < n)
    go false o = tt
    go true None = tt
    go true (Some s) = there s (place_of s before) refl

-- ---- undeveloped nodes

pub undeveloped_is : (counted : ℕ) (ds : List Document) (j : ℕ) (d : Document) (formed mark : Bool) → formed ≡ all_formed counted ds
    → (formed ≡ true → mark ≡ list_any (supports_node ds j) (numbered ds)) → FormedBefore counted ds (j + 1)
    → (not (truth_at (codes "undeveloped") d) || (is_goal_or_strategy (kind_in d) && not (formed && mark))) ≡ undeveloped_is_right (among counted ds) (j, d)
undeveloped_is counted ds j d formed mark all marks before =
    ap (λ b. not (truth_at (codes "undeveloped") d) || (is_goal_or_strategy (kind_in d) && b))
    (sides formed mark (all ∙ later_is counted ds (j + 1) before) marks)
  where
    sides : (formed mark : Bool) → formed ≡ later_nodes_have_form (among counted ds) j → (formed ≡ true → mark ≡ list_any (supports_node ds j) (numbered ds))
        → not (formed && mark) ≡ (not (later_nodes_have_form (among counted ds) j) || has_no_support (among counted ds) j)
    sides true mark later marks =
        ap not (marks refl) ∙ ap (λ b. not b || has_no_support (among counted ds) j) later
    sides false mark later marks = ap (λ b. not b || has_no_support (among counted ds) j) later

-- ---- from the values that are read

-- the identifiers of the nodes before a number
pub ids_before : (items : List Doc) (n : ℕ) → map id_in (documents (take n items)) ≡ take n (map id_in (documents items))
ids_before items n = ap (map id_in) (sym (take-map document n items)) ∙ sym (take-map id_in n (documents items))

pub doc_inside : (items : List Doc) (i : ℕ) → i < length items → i < length (documents items)
doc_inside items i l = let many = length-map items document in omega arith

pub doc_past : (items : List Doc) (i : ℕ) → length items ≤ i → length (documents items) ≤ i
doc_past items i l = let many = length-map items document in omega arith

pub doc_is : (items : List Doc) (i : ℕ) (x : Doc) → x ≡ get_or items i x → document x ≡ get_or (documents items) i (document x)
doc_is [] i x e = refl
doc_is (y ∷ ys) zero x e = ap document e
doc_is (y ∷ ys) (suc i) x e = doc_is ys i x e

pub not_false : (b : Bool) → not b ≡ false → b ≡ true
not_false true e = refl
not_false false e = absurd (true≢false e)

pub not_true : (b : Bool) → not b ≡ true → b ≡ false
not_true false e = refl
not_true true e = absurd (true≢false (sym e))

pub within_more : (n : ℕ) → is_within 1024 n ≡ true → n ≤ 1024 → n + 1 ≤ 1024
within_more n e l = go (n == 1024) refl e
  where
    go : (b : Bool) → (n == 1024) ≡ b → not b ≡ true → n + 1 ≤ 1024
    go true is e = absurd (true≢false (sym e))
    go false is e = let other : n ≢ 1024 = eqb-false n 1024 is in omega arith

module _ (items : List Doc) (i : ℕ) (ids : List (List ℕ)) (ids_are : ids ≡ map id_in (documents (take i items))) where
  pub ids_many : i ≤ length items → length ids ≡ i
  ids_many l =
      ap length ids_are ∙ (length-map (documents (take i items)) id_in ∙ (length-map (take i items) document ∙ length-take-le i items l))

  pub ids_more : (x : Doc) (name : List ℕ) (next : List (List ℕ)) → i < length items → x ≡ get_or items i x → name ≡ id_in (document x) → next ≡ ids ++ name ∷ []
      → next ≡ map id_in (documents (take (i + 1) items))
  ids_more x name next inside is name_is longer =
      longer ∙ (ap (λ s. ids ++ s ∷ []) name_is ∙ (ap (λ ss. ss ++ id_in (document x) ∷ []) ids_are
      ∙ (sym (map-append id_in (documents (take i items)) (document x ∷ [])) ∙ (ap (map id_in) (sym (map-append document (take i items) (x ∷ [])))
      ∙ ap (λ xs. map id_in (documents xs)) (sym (take_more items i x inside ∙ ap (λ y. take i items ++ y ∷ []) (sym is)))))))

  module _ (counted : ℕ) (x : Doc) (inside : i < length items) (is : x ≡ get_or items i x) (result : Bool)
      (tested : result ≡ is_formed (form_with (not (is_among ids (id_in (document x)))) (is_within 1024 (counted + i)) (document x))) where
    is_tested : here_formed counted (documents items) i (document x) (doc_inside items i inside) (doc_is items i x is) ≡ result
    is_tested =
        sym (tested ∙ ap (λ ss. is_formed (form_with (not (is_among ss (id_in (document x)))) (is_within 1024 (counted + i)) (document x))) (ids_are ∙ ids_before items i))

    pub formed_next : FormedBefore counted (documents items) i → result ≡ true → FormedBefore counted (documents items) (i + 1)
    formed_next before holds = formed_more counted (documents items) i (document x) (doc_inside items i inside) (doc_is items i x is) before (is_tested ∙ holds)

    pub unformed_next : result ≡ false → false ≡ all_formed counted (documents items)
    unformed_next fails = not_all_formed counted (documents items) i (document x) (doc_inside items i inside) (doc_is items i x is) (is_tested ∙ fails)
