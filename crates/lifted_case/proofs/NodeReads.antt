-- What the JSON of a node says is the node.
use Rattle.std.proofs.Common.{◌≡◌, refl, ap, ◌∙◌, ℕ, List, [], ◌∷◌, map, Bool, true, false, not, ◌&&◌, ◌||◌, Option, Some, None}
use Rattle.std.specs.Prelude.{codes, is_some, option_map, unwrap_or, ⊤}
use Rattle.std.specs.List.{list_all}
use Rattle.meaning.specs.Texts.{is_text}
use Rattle.meaning.specs.Documents.{Document, text, truth, list, of_json, items_of_json, as_table, member_of, text_at, list_at, truth_at, natural_at}
use Rattle.meaning.specs.Cases.{NodeKind, Goal, Strategy, Solution, Context, Assumption, Justification, kind_word, argues, is_solution}
use Rattle.meaning.specs.CaseFiles.{CasePart, words, count, Finding, CaseNode, CaseDocument}
use Rattle.meaning.specs.CaseBytes.{items_of, natural_data, part_data, node_data}
use Rattle.meaning.specs.CaseReading.{part_of, kind_named, node_of, finding_of, naturals_in, is_text_value, is_zero_value, is_natural_value, is_truth_value, is_list_of, check_named, absent_or, is_node, is_finding, node_is_text, node_document_is_text, expression_in, check_word_known, part_is_text, finding_passes, witnesses_are_texts, finding_fits, node_fits, is_strategy, no_branches}
use Rattle.meaning.proofs.CutTrees.{Each}
use Rattle.meaning.proofs.EmptyLists.{all_true}
use Rattle.meaning.proofs.CaseReadsBack.{listed_items, natural_back, naturals_back}
use Rattle.lifted_case.proofs.FindingReads.{IsSmall, naturals_have_form, finding_json, IsSmallFinding, finding_back, finding_form, check_word_back, PropertyIsText, expression_back, CheckFits, finding_fits-back}

-- ---- what is found in the table of a node

abbrev branches_json : List ℕ → Option Document
branches_json [] = None
branches_json (b ∷ bs) = Some (list (items_of_json (items_of (map natural_data (b ∷ bs)))))

abbrev undeveloped_json : Bool → Option Document
undeveloped_json true = Some (truth true)
undeveloped_json false = None

record IsNodeTable (d : Document) (n : CaseNode) : Type 0 where
  is_table : is_some (as_table d) ≡ true
  key : member_of (codes "key") d ≡ Some (text n.key)
  kind : member_of (codes "kind") d ≡ Some (text (kind_word n.kind))
  parts : member_of (codes "text") d ≡ Some (list (items_of_json (items_of (map part_data n.parts))))
  presence : member_of (codes "when") d ≡ Some (of_json (natural_data n.presence))
  undeveloped : member_of (codes "undeveloped") d ≡ undeveloped_json n.undeveloped
  branches : member_of (codes "branches") d ≡ branches_json n.branches
  finding : member_of (codes "finding") d ≡ option_map (λ f. finding_json f f.check) n.finding

abbrev node_over : List ℕ → NodeKind → List CasePart → ℕ → Bool → List ℕ → Option Finding → CaseNode
node_over key kind parts presence undeveloped branches finding =
    record { key = key; kind = kind; parts = parts; presence = presence; undeveloped = undeveloped; branches = branches; finding = finding }

node_table : (key : List ℕ) (kind : NodeKind) (parts : List CasePart) (presence : ℕ) (undeveloped : Bool) (branches : List ℕ) (finding : Option Finding)
    → IsNodeTable (of_json (node_data (node_over key kind parts presence undeveloped branches finding))) (node_over key kind parts presence undeveloped branches finding)
node_table key kind parts presence true [] None =
    record { is_table = refl; key = refl; kind = refl; parts = refl; presence = refl; undeveloped = refl; branches = refl; finding = refl }
node_table key kind parts presence true [] (Some f) =
    record { is_table = refl; key = refl; kind = refl; parts = refl; presence = refl; undeveloped = refl; branches = refl; finding = refl }
node_table key kind parts presence true (b ∷ bs) None =
    record { is_table = refl; key = refl; kind = refl; parts = refl; presence = refl; undeveloped = refl; branches = refl; finding = refl }
node_table key kind parts presence true (b ∷ bs) (Some f) =
    record { is_table = refl; key = refl; kind = refl; parts = refl; presence = refl; undeveloped = refl; branches = refl; finding = refl }
node_table key kind parts presence false [] None =
    record { is_table = refl; key = refl; kind = refl; parts = refl; presence = refl; undeveloped = refl; branches = refl; finding = refl }
node_table key kind parts presence false [] (Some f) =
    record { is_table = refl; key = refl; kind = refl; parts = refl; presence = refl; undeveloped = refl; branches = refl; finding = refl }
node_table key kind parts presence false (b ∷ bs) None =
    record { is_table = refl; key = refl; kind = refl; parts = refl; presence = refl; undeveloped = refl; branches = refl; finding = refl }
node_table key kind parts presence false (b ∷ bs) (Some f) =
    record { is_table = refl; key = refl; kind = refl; parts = refl; presence = refl; undeveloped = refl; branches = refl; finding = refl }

-- ---- the parts of a node

pub kind_back : (k : NodeKind) → kind_named (kind_word k) ≡ Some k
kind_back Goal = refl
kind_back Strategy = refl
kind_back Solution = refl
kind_back Context = refl
kind_back Assumption = refl
kind_back Justification = refl

parts_back : (ps : List CasePart) → map part_of (map (λ p. of_json (part_data p)) ps) ≡ ps
parts_back [] = refl
parts_back (words s ∷ ps) = ap (λ xs. words s ∷ xs) (parts_back ps)
parts_back (count ∷ ps) = ap (λ xs. count ∷ xs) (parts_back ps)

parts_have_form : (ps : List CasePart) → list_all (λ p. is_text_value p || is_zero_value p) (map (λ p. of_json (part_data p)) ps) ≡ true
parts_have_form [] = refl
parts_have_form (words s ∷ ps) = parts_have_form ps
parts_have_form (count ∷ ps) = parts_have_form ps

abbrev pub MayBeSmall : Option Finding → Type 0
MayBeSmall None = ⊤
MayBeSmall (Some f) = IsSmallFinding f

finding_back-if : (o : Option Finding) → MayBeSmall o → option_map finding_of (option_map (λ f. finding_json f f.check) o) ≡ o
finding_back-if None h = refl
finding_back-if (Some f) h = ap Some (finding_back f h)

finding_form-if : (o : Option Finding) → MayBeSmall o → absent_or is_finding (option_map (λ f. finding_json f f.check) o) ≡ true
finding_form-if None h = refl
finding_form-if (Some f) h = finding_form f h

-- ---- the node

pub record IsSmallNode (n : CaseNode) : Type 0 where
  pub presence : IsSmall n.presence
  pub branches : Each IsSmall n.branches
  pub finding : MayBeSmall n.finding

read_branches : (d : Document) (bs : List ℕ) → member_of (codes "branches") d ≡ branches_json bs → Each IsSmall bs → naturals_in (list_at (codes "branches") d) ≡ bs
read_branches d [] e h = rw e refl
read_branches d (b ∷ bs) e h = rw (e, listed_items natural_data bs, natural_back b h.0, naturals_back bs h.1) refl

branches_form : (d : Document) (bs : List ℕ) → member_of (codes "branches") d ≡ branches_json bs → Each IsSmall bs → absent_or (is_list_of is_natural_value) (member_of (codes "branches") d) ≡ true
branches_form d [] e h = rw e refl
branches_form d (b ∷ bs) e h = rw (e, listed_items natural_data bs, natural_back b h.0, naturals_have_form bs h.1) refl

read_undeveloped : (d : Document) (b : Bool) → member_of (codes "undeveloped") d ≡ undeveloped_json b → truth_at (codes "undeveloped") d ≡ b
read_undeveloped d true e = rw e refl
read_undeveloped d false e = rw e refl

undeveloped_form : (d : Document) (b : Bool) → member_of (codes "undeveloped") d ≡ undeveloped_json b → absent_or is_truth_value (member_of (codes "undeveloped") d) ≡ true
undeveloped_form d true e = rw e refl
undeveloped_form d false e = rw e refl

node_same : {m n : CaseNode} → m.key ≡ n.key → m.kind ≡ n.kind → m.parts ≡ n.parts → m.presence ≡ n.presence → m.undeveloped ≡ n.undeveloped → m.branches ≡ n.branches → m.finding ≡ n.finding → m ≡ n
node_same {m} {n} p q r s t u v = λ i. record { key = p i; kind = q i; parts = r i; presence = s i; undeveloped = t i; branches = u i; finding = v i }

module _ (d : Document) (n : CaseNode) (t : IsNodeTable d n) (small : IsSmallNode n) where
  read_key : text_at (codes "key") d ≡ n.key
  read_key = rw (t.key) refl

  read_kind : unwrap_or (kind_named (text_at (codes "kind") d)) Goal ≡ n.kind
  read_kind = rw (t.kind, kind_back n.kind) refl

  read_parts : map part_of (list_at (codes "text") d) ≡ n.parts
  read_parts = rw (t.parts, listed_items part_data n.parts) (parts_back n.parts)

  read_presence : natural_at (codes "when") d ≡ n.presence
  read_presence = rw (t.presence, natural_back n.presence small.presence) refl

  read_finding : option_map finding_of (member_of (codes "finding") d) ≡ n.finding
  read_finding = ap (option_map finding_of) t.finding ∙ finding_back-if n.finding small.finding

  reads : node_of d ≡ n
  reads = node_same read_key read_kind read_parts read_presence (read_undeveloped d n.undeveloped t.undeveloped) (read_branches d n.branches t.branches small.branches) read_finding

  forms : is_node d ≡ true
  forms =
      let finding : absent_or is_finding (member_of (codes "finding") d) ≡ true = ap (absent_or is_finding) t.finding ∙ finding_form-if n.finding small.finding in
      let branches = branches_form d n.branches t.branches small.branches in
      let undeveloped = undeveloped_form d n.undeveloped t.undeveloped in
      rw (t.is_table, t.key, t.kind, t.presence, natural_back n.presence small.presence, t.parts, listed_items part_data n.parts, parts_have_form n.parts, branches, undeveloped, finding) refl

  word_known : (is_some (kind_named (text_at (codes "kind") d)) && check_word_known d) ≡ true
  word_known = rw (t.kind, kind_back n.kind, t.finding) (checks n.finding)
    where
      checks : (o : Option Finding) → unwrap_or (option_map (λ f. is_some (check_named (text_at (codes "check") f) 0 [])) (option_map (λ f. finding_json f f.check) o)) true ≡ true
      checks None = refl
      checks (Some f) = check_word_back f f.check

-- ---- what it keeps

abbrev pub FindingIsText : Option Finding → Type 0
FindingIsText None = ⊤
FindingIsText (Some f) = PropertyIsText f.check × (witnesses_are_texts f ≡ true)

pub record NodeIsText (n : CaseNode) : Type 0 where
  pub key : is_text n.key ≡ true
  pub parts : list_all part_is_text n.parts ≡ true
  pub finding : FindingIsText n.finding

abbrev pub FindingBelongs : CaseDocument → NodeKind → Option Finding → Type 0
FindingBelongs k kind None = is_solution kind ≡ false
FindingBelongs k kind (Some f) = (is_solution kind ≡ true) × CheckFits k f f.check

pub record NodeFits (k : CaseDocument) (n : CaseNode) : Type 0 where
  pub branching : (is_strategy n.kind || no_branches n.branches) ≡ true
  pub arguing : (argues n.kind || not n.undeveloped) ≡ true
  pub finding : FindingBelongs k n.kind n.finding

module _ (d : Document) (n : CaseNode) (t : IsNodeTable d n) (small : IsSmallNode n) where
  is_text_of : NodeIsText n → node_document_is_text d ≡ true
  is_text_of h =
      ap (λ (x : CaseNode). node_is_text x && is_text (expression_in d)) (reads d n t small)
      ∙ ap (λ o. node_is_text n && is_text (unwrap_or (option_map (text_at (codes "expr")) o) [])) t.finding
      ∙ rw (h.key, h.parts) (found n.finding h.finding)
    where
      found : (o : Option Finding) → FindingIsText o
          → (finding_passes witnesses_are_texts o && is_text (unwrap_or (option_map (text_at (codes "expr")) (option_map (λ f. finding_json f f.check) o)) [])) ≡ true
      found None g = refl
      found (Some f) g = all_true (witnesses_are_texts f) (is_text (text_at (codes "expr") (finding_json f f.check))) g.1 (expression_back f f.check g.0)

  fits_of : (k : CaseDocument) → NodeFits k n → node_fits k d ≡ true
  fits_of k h =
      ap (λ (x : CaseNode). finding_fits k x.kind (member_of (codes "finding") d) && (is_strategy x.kind || no_branches x.branches) && (argues x.kind || not x.undeveloped)) (reads d n t small)
      ∙ ap (λ o. finding_fits k n.kind o && (is_strategy n.kind || no_branches n.branches) && (argues n.kind || not n.undeveloped)) t.finding
      ∙ rw (h.branching, h.arguing, belongs n.finding small.finding h.finding) refl
    where
      belongs : (o : Option Finding) → MayBeSmall o → FindingBelongs k n.kind o → finding_fits k n.kind (option_map (λ f. finding_json f f.check) o) ≡ true
      belongs None s g = rw g refl
      belongs (Some f) s g = rw (g.0) (finding_fits-back k f s g.1)

-- ---- of its JSON

table_of : (n : CaseNode) → IsNodeTable (of_json (node_data n)) n
table_of n = node_table n.key n.kind n.parts n.presence n.undeveloped n.branches n.finding

pub node_back : (n : CaseNode) → IsSmallNode n → node_of (of_json (node_data n)) ≡ n
node_back n small = reads (of_json (node_data n)) n (table_of n) small

pub node_form : (n : CaseNode) → IsSmallNode n → is_node (of_json (node_data n)) ≡ true
node_form n small = forms (of_json (node_data n)) n (table_of n) small

pub node_words : (n : CaseNode) → IsSmallNode n → (is_some (kind_named (text_at (codes "kind") (of_json (node_data n)))) && check_word_known (of_json (node_data n))) ≡ true
node_words n small = word_known (of_json (node_data n)) n (table_of n) small

pub node_texts : (n : CaseNode) → IsSmallNode n → NodeIsText n → node_document_is_text (of_json (node_data n)) ≡ true
node_texts n small h = is_text_of (of_json (node_data n)) n (table_of n) small h

pub node_fits-back : (k : CaseDocument) (n : CaseNode) → IsSmallNode n → NodeFits k n → node_fits k (of_json (node_data n)) ≡ true
node_fits-back k n small h = fits_of (of_json (node_data n)) n (table_of n) small k h
