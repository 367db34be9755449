-- Tables that are read from documents: the first row that breaks a rule looks at good rows alone.
use Rattle.std.proofs.Common.{◌≡◌, ◌∙◌, sym, ap, subst, refl, ℕ, zero, suc, ◌+◌, ◌-◌, ◌<◌, ◌≤◌, List, [], ◌∷◌, ◌++◌, length, map, filter, take, drop, get_or, Bool, true, false, not, ◌&&◌, ◌||◌, Option, Some, None, arith, length-append, append_assoc, append-nil}
use Rattle.std.specs.Prelude.{option_map, if◌then◌else◌, nat_lt, nat_eq, ◌==◌, is_none, unwrap_or, codes}
use Rattle.std.specs.List.{list_any, slice_get, enumerate_from}
use Rattle.std.proofs.Math.Seq.{take-length, take-append_seam}
use Rattle.std.proofs.lemmas.Bool.{true≢false}
use Rattle.std.proofs.lemmas.Bool.Decides.{nat_tests}
use Rattle.std.proofs.lemmas.List.{length-map, map-append, get_or-map, take_more, drop_more, take_all, drop_all}
use Rattle.std.proofs.lemmas.Option.{slice_get-map, slice_get-get_or}
use Rattle.meaning.specs.Counts.{capped}
use Rattle.meaning.specs.Texts.{first_of_list, numbered}
use Rattle.meaning.specs.Documents.{Document, list_at}
use Rattle.meaning.specs.CaseFiles.{Row, CaseDocument}
use Rattle.meaning.specs.CaseReading.{Table, table_faults, faults_at, row_of, is_triple, variable_after, same_row}
use Rattle.doc_tree.specs.declared.doc.Doc.{Doc}
use Rattle.doc_tree.specs.View.{document, documents}
use Rattle.node_pool.specs.declared.node.Node.{Node}
use Rattle.node_pool.specs.Nodes.{node_at, no_node, top_of, triple, MayStand, IsReduced}
use Rattle.node_pool.proofs.Reduced.{top_of-constant, top_of-inner, IsReduced-push}
use Rattle.conditions.specs.declared.reading.TableStop.{TableStop}
use Rattle.conditions.specs.declared.reading.TableStop.TheVariants as table
use Rattle.conditions.specs.Tables.{TableRow, node_of, nodes_of, case_row, case_rows}
use Rattle.conditions.specs.TableRows.{Rule, Triple, Order, Difference, Newness, document_fits, bad_rows, first_bad, is_row, is_ordered, stands_before, rule_of_row, broken_rule, at_row, first_break, IsFirstFault, IsToldFault, AreRead, TellsBroken, TellsOf}

-- ---- rows in the words of the definitions

abbrev no_row : Row
no_row = record { variable = 0; low = 0; high = 0 }

slice_get-appended : {X : Type 0} (xs ys : List X) (i : ℕ) → i < length xs → slice_get (xs ++ ys) i ≡ slice_get xs i
slice_get-appended [] ys i i_in = absurd (omega arith)
slice_get-appended (x ∷ xs) ys zero i_in = refl
slice_get-appended (x ∷ xs) ys (suc i) i_in = slice_get-appended xs ys i (omega arith)

slice_get-seam : {X : Type 0} (xs ys : List X) (x : X) → slice_get (xs ++ x ∷ ys) (length xs) ≡ Some x
slice_get-seam [] ys x = refl
slice_get-seam (y ∷ xs) ys x = slice_get-seam xs ys x

pub list_any-map : {X Y : Type 0} (f : X → Y) (test : Y → Bool) (xs : List X) → list_any test (map f xs) ≡ list_any (λ x. test (f x)) xs
list_any-map f test [] = refl
list_any-map f test (x ∷ xs) = rw (list_any-map f test xs) refl

-- the variable after an identifier of a row
pub variable_after-row : (rows : List TableRow) (features id : ℕ) (t : TableRow) → 2 ≤ id → slice_get rows (id - 2) ≡ Some t → variable_after (case_rows rows) features id ≡ t.0
variable_after-row rows features zero t inner there = absurd (omega arith)
variable_after-row rows features (suc zero) t inner there = absurd (omega arith)
variable_after-row rows features (suc (suc k)) t inner there =
    let place : suc (suc k) - 2 ≡ k = omega arith in
    let row : slice_get (case_rows rows) k ≡ Some (case_row t) =
    slice_get-map case_row rows k ∙ ap (λ (i : ℕ). option_map case_row (slice_get rows i)) (sym place) ∙ ap (option_map case_row) there in
    rw row refl

pub variable_after-constant : (rows : List Row) (features id : ℕ) → id < 2 → variable_after rows features id ≡ features
variable_after-constant rows features zero small = refl
variable_after-constant rows features (suc zero) small = refl
variable_after-constant rows features (suc (suc k)) small = absurd (omega arith)

-- ---- the first rule that a row breaks

pub before_the_end : (rows : List TableRow) (r : Row) → stands_before (case_rows rows) (length rows, r) ≡ list_any (same_row r) (case_rows rows)
before_the_end rows r =
    let long : length (case_rows rows) ≡ length rows = length-map rows case_row in
    ap (λ (n : ℕ). list_any (same_row r) (take n (case_rows rows))) (sym long) ∙ ap (list_any (same_row r)) (take-length (case_rows rows))

pub row_of_triple : (features : ℕ) (d : Document) (t : TableRow) → Some (case_row t) ≡ (if is_row features d then Some (row_of d) else None) → (is_row features d ≡ true) × (case_row t ≡ row_of d)
row_of_triple features d t is = go (is_row features d) refl is
  where
    go : (b : Bool) → is_row features d ≡ b → Some (case_row t) ≡ (if b then Some (row_of d) else None) → (is_row features d ≡ true) × (case_row t ≡ row_of d)
    go true formed same = (formed, cc)
    go false formed same = absurd cc

pub not_back : {b c : Bool} → not b ≡ c → b ≡ not c
not_back {b = true} {c} is = ap not is
not_back {b = false} {c} is = ap not is

-- what is left of the rules, after the one on order
pub last_rules : (features : ℕ) (rows : List TableRow) (d : Document) (t : TableRow) (b : Bool) → Some (case_row t) ≡ (if is_row features d then Some (row_of d) else None) → is_ordered features (case_rows rows) (length rows, case_row t) ≡ true → (t.1 ≡ t.2 → ⊥) → list_any (same_row (case_row t)) (case_rows rows) ≡ b → broken_rule features (case_rows rows) (length rows, d) ≡ (if b then Some Newness else None)
last_rules features rows d t b is ordered differ before =
    let r = row_of_triple features d t is in
    let apart : (t.1 == t.2) ≡ false = grind (arith, nat_tests) in
    let at_end : stands_before (case_rows rows) (length rows, case_row t) ≡ b = before_the_end rows (case_row t) ∙ before in
    let left : rule_of_row features (case_rows rows) (length rows, case_row t) ≡ (if b then Some Newness else None) = rw (ordered, apart, at_end) refl in
    rw r.0 (subst (λ (x : Row). rule_of_row features (case_rows rows) (length rows, x) ≡ (if b then Some Newness else None)) r.1 left)

-- the rule on order comes before
pub order_rule : (features : ℕ) (rows : List TableRow) (d : Document) (t : TableRow) → Some (case_row t) ≡ (if is_row features d then Some (row_of d) else None) → is_ordered features (case_rows rows) (length rows, case_row t) ≡ false → broken_rule features (case_rows rows) (length rows, d) ≡ Some Order
order_rule features rows d t is ordered =
    let r = row_of_triple features d t is in
    let left : rule_of_row features (case_rows rows) (length rows, case_row t) ≡ Some Order = rw ordered refl in
    rw r.0 (subst (λ (x : Row). rule_of_row features (case_rows rows) (length rows, x) ≡ Some Order) r.1 left)

-- a row has the form of one and breaks no rule, where none is named
fits_bools : (t v l h a b d n : Bool) → (t && ((((((v && l) && h) && a) && b) && not d) && not n)) ≡ is_none (if t && v then (if not (((l && h) && a) && b) then Some Order else (if d then Some Difference else (if n then Some Newness else None))) else Some Triple)
fits_bools false v l h a b d n = refl
fits_bools true false l h a b d n = refl
fits_bools true true false h a b d n = refl
fits_bools true true true false a b d n = refl
fits_bools true true true true false b d n = refl
fits_bools true true true true true false d n = refl
fits_bools true true true true true true true n = refl
fits_bools true true true true true true false true = refl
fits_bools true true true true true true false false = refl

fits_is : (features : ℕ) (rows : List Row) (r : ℕ × Document) → document_fits features rows r ≡ is_none (broken_rule features rows r)
fits_is features rows r =
    let x : Row = row_of r.1 in
    fits_bools (is_triple r.1) (nat_lt x.variable features) (nat_lt x.low (r.0 + 2)) (nat_lt x.high (r.0 + 2)) (nat_lt x.variable (variable_after rows features x.low)) (nat_lt x.variable (variable_after rows features x.high)) (x.low == x.high) (stands_before rows (r.0, x))

-- ---- only the rows before count

variable_after-earlier : (earlier more : List Row) (features id : ℕ) → id < length earlier + 2 → variable_after (earlier ++ more) features id ≡ variable_after earlier features id
variable_after-earlier earlier more features zero id_in = refl
variable_after-earlier earlier more features (suc zero) id_in = refl
variable_after-earlier earlier more features (suc (suc k)) id_in = rw (slice_get-appended earlier more k (omega arith)) refl

ordered_bools : (b c d e d' e' : Bool) → (b ≡ true → d ≡ d') → (c ≡ true → e ≡ e') → (((b && c) && d) && e) ≡ (((b && c) && d') && e')
ordered_bools false c d e d' e' low high = refl
ordered_bools true false d e d' e' low high = refl
ordered_bools true true d e d' e' low high = rw (low refl, high refl) refl

ordered_earlier : (features : ℕ) (earlier more : List Row) (r : Row) → is_ordered features (earlier ++ more) (length earlier, r) ≡ is_ordered features earlier (length earlier, r)
ordered_earlier features earlier more r =
    ordered_bools (nat_lt r.low (length earlier + 2)) (nat_lt r.high (length earlier + 2)) _ _ _ _
    (λ low_in. ap (nat_lt r.variable) (variable_after-earlier earlier more features r.low (grind (arith, nat_tests))))
    (λ high_in. ap (nat_lt r.variable) (variable_after-earlier earlier more features r.high (grind (arith, nat_tests))))

before_earlier : (earlier more : List Row) (r : Row) → stands_before (earlier ++ more) (length earlier, r) ≡ stands_before earlier (length earlier, r)
before_earlier earlier more r = ap (list_any (same_row r)) (take-append_seam earlier more ∙ sym (take-length earlier))

broken_earlier : (features : ℕ) (earlier more : List Row) (d : Document) → broken_rule features (earlier ++ more) (length earlier, d) ≡ broken_rule features earlier (length earlier, d)
broken_earlier features earlier more d = rw (ordered_earlier features earlier more (row_of d), before_earlier earlier more (row_of d)) refl

-- ---- the first row that breaks a rule

abbrev pub bad_from : ℕ → List Row → ℕ → List Document → List ℕ
bad_from features rows k ds = map (λ r. r.0) (filter (λ r. not (document_fits features rows r)) (enumerate_from k ds))

none_there : (o : Option Rule) → is_none o ≡ true → o ≡ None
none_there None is = refl
none_there (Some rule) is = absurd (true≢false (sym is))

one_more : (earlier : List Row) (r : Row) → length (earlier ++ r ∷ []) ≡ length earlier + 1
one_more earlier r = omega (arith, length-append earlier (r ∷ []))

fits_after : (features : ℕ) (earlier more : List Row) (d : Document) (o : Option Rule) → broken_rule features earlier (length earlier, d) ≡ o → document_fits features (earlier ++ more) (length earlier, d) ≡ is_none o
fits_after features earlier more d o is = fits_is features (earlier ++ more) (length earlier, d) ∙ ap is_none (broken_earlier features earlier more d ∙ is)

bad_here : (features : ℕ) (rows : List Row) (k : ℕ) (d : Document) (ds : List Document) → document_fits features rows (k, d) ≡ false → first_of_list (bad_from features rows k (d ∷ ds)) ≡ Some k
bad_here features rows k d ds bad = rw bad refl

bad_later : (features : ℕ) (rows : List Row) (k : ℕ) (d : Document) (ds : List Document) → document_fits features rows (k, d) ≡ true → bad_from features rows k (d ∷ ds) ≡ bad_from features rows (k + 1) ds
bad_later features rows k d ds good = rw good refl

break_here : (features : ℕ) (earlier : List Row) (d : Document) (ds : List Document) (rule : Rule) → broken_rule features earlier (length earlier, d) ≡ Some rule → first_break features earlier (d ∷ ds) ≡ Some (at_row (length earlier) rule)
break_here features earlier d ds rule is = rw (is, first_break) refl

break_later : (features : ℕ) (earlier : List Row) (d : Document) (ds : List Document) → broken_rule features earlier (length earlier, d) ≡ None → first_break features earlier (d ∷ ds) ≡ first_break features (earlier ++ row_of d ∷ []) ds
break_later features earlier d ds is = rw (is, first_break) refl

-- where the rows before are good, the list of all bad rows begins with the first that breaks a rule after them
pub first_is : (features : ℕ) (earlier : List Row) (ds : List Document) → first_of_list (bad_from features (earlier ++ map row_of ds) (length earlier) ds) ≡ option_map (λ x. x.0) (first_break features earlier ds)
first_is features earlier [] = refl
first_is features earlier (d ∷ ds) = go (broken_rule features earlier (length earlier, d)) refl (first_is features (earlier ++ row_of d ∷ []) ds)
  where
    go : (o : Option Rule) → broken_rule features earlier (length earlier, d) ≡ o
        → first_of_list (bad_from features ((earlier ++ row_of d ∷ []) ++ map row_of ds) (length (earlier ++ row_of d ∷ [])) ds) ≡ option_map (λ x. x.0) (first_break features (earlier ++ row_of d ∷ []) ds)
        → first_of_list (bad_from features (earlier ++ row_of d ∷ map row_of ds) (length earlier) (d ∷ ds)) ≡ option_map (λ x. x.0) (first_break features earlier (d ∷ ds))
    go None is later =
        let good : document_fits features (earlier ++ row_of d ∷ map row_of ds) (length earlier, d) ≡ true = fits_after features earlier (row_of d ∷ map row_of ds) d None is in
        ap first_of_list (bad_later features (earlier ++ row_of d ∷ map row_of ds) (length earlier) d ds good)
        ∙ ap (λ (n : ℕ). first_of_list (bad_from features (earlier ++ row_of d ∷ map row_of ds) n ds)) (sym (one_more earlier (row_of d)))
        ∙ ap (λ (rows : List Row). first_of_list (bad_from features rows (length (earlier ++ row_of d ∷ [])) ds)) (sym (append_assoc earlier (row_of d ∷ []) (map row_of ds)))
        ∙ later
        ∙ ap (option_map (λ x. x.0)) (sym (break_later features earlier d ds is))
    go (Some rule) is later =
        let bad : document_fits features (earlier ++ row_of d ∷ map row_of ds) (length earlier, d) ≡ false = fits_after features earlier (row_of d ∷ map row_of ds) d (Some rule) is in
        bad_here features (earlier ++ row_of d ∷ map row_of ds) (length earlier) d ds bad
        ∙ ap (option_map (λ x. x.0)) (sym (break_here features earlier d ds rule is))

-- the row that is found, among all documents
pub record IsFound (features : ℕ) (ds : List Document) (number : ℕ) (rule : Rule) : Type 0 where
  pub item : Document
  pub there : slice_get ds number ≡ Some item
  pub broken : broken_rule features (map row_of ds) (number, item) ≡ Some rule

found_here : (features : ℕ) (es : List Document) (d : Document) (ds : List Document) (number : ℕ) (rule : Rule) → broken_rule features (map row_of es) (length (map row_of es), d) ≡ Some rule → length (map row_of es) ≡ number → IsFound features (es ++ d ∷ ds) number rule
found_here features es d ds number rule is here =
    let long : length es ≡ number = sym (length-map es row_of) ∙ here in
    record {
      item = d;
      there = ap (slice_get (es ++ d ∷ ds)) (sym long) ∙ slice_get-seam es ds d;
      broken =
          ap (λ (rows : List Row). broken_rule features rows (number, d)) (map-append row_of es (d ∷ ds))
          ∙ ap (λ (n : ℕ). broken_rule features (map row_of es ++ map row_of (d ∷ ds)) (n, d)) (sym here)
          ∙ broken_earlier features (map row_of es) (map row_of (d ∷ ds)) d
          ∙ is;
    }

never_both : (n : ℕ) (x : Rule) → Some (at_row n x) ≡ None → ⊥
never_both n x is = absurd cc

same_pair : {n m : ℕ} {x y : Rule} → Some (at_row n x) ≡ Some (at_row m y) → (n ≡ m) × (x ≡ y)
same_pair {n} {m} {x} {y} e = let pairs : at_row n x ≡ at_row m y = cc in (ap (λ (p : ℕ × Rule). p.0) pairs, ap (λ (p : ℕ × Rule). p.1) pairs)

pub found : (features : ℕ) (es ds : List Document) (number : ℕ) (rule : Rule) → first_break features (map row_of es) ds ≡ Some (at_row number rule) → IsFound features (es ++ ds) number rule
found features es [] number rule is = absurd cc
found features es (d ∷ ds) number rule is = go (broken_rule features (map row_of es) (length (map row_of es), d)) refl (found features (es ++ d ∷ []) ds number rule)
  where
    go : (o : Option Rule) → broken_rule features (map row_of es) (length (map row_of es), d) ≡ o
        → (first_break features (map row_of (es ++ d ∷ [])) ds ≡ Some (at_row number rule) → IsFound features ((es ++ d ∷ []) ++ ds) number rule)
        → IsFound features (es ++ d ∷ ds) number rule
    go None none later =
        let rest : first_break features (map row_of (es ++ d ∷ [])) ds ≡ Some (at_row number rule) =
        ap (λ (rows : List Row). first_break features rows ds) (map-append row_of es (d ∷ [])) ∙ sym (break_later features (map row_of es) d ds none) ∙ is in
        subst (λ (all : List Document). IsFound features all number rule) (append_assoc es (d ∷ []) ds) (later rest)
    go (Some other) some later =
        let both : Some (at_row (length (map row_of es)) other) ≡ Some (at_row number rule) = sym (break_here features (map row_of es) d ds other some) ∙ is in
        let p = same_pair both in
        found_here features es d ds number rule (some ∙ ap Some p.1) p.0

-- the first row that breaks a rule, when no row was read yet
pub first_bad_is : (features : ℕ) (ds : List Document) → first_bad features ds ≡ option_map (λ x. x.0) (first_break features [] ds)
first_bad_is features ds = first_is features [] ds

pub IsFirstFault-found : (features : ℕ) (ds : List Document) (number : ℕ) (rule : Rule) → first_break features [] ds ≡ Some (at_row number rule) → IsFirstFault features ds number rule
IsFirstFault-found features ds number rule is =
    let f : IsFound features ds number rule = found features [] ds number rule is in
    record {
      first = first_bad_is features ds ∙ ap (option_map (λ x. x.0)) is;
      item = f.item;
      there = f.there;
      broken = f.broken;
    }

-- ---- good rows are a reduced list of nodes

abbrev pub row_node : Row → Node
row_node r = triple r.variable (record { 0 = r.low }) (record { 0 = r.high })

none_bools : (t v o d n : Bool) → (if t && v then (if not o then Some Order else (if d then Some Difference else (if n then Some Newness else None))) else Some Triple) ≡ None → (v ≡ true) × (o ≡ true) × (d ≡ false) × (n ≡ false)
none_bools false v o d n is = absurd cc
none_bools true false o d n is = absurd cc
none_bools true true false d n is = absurd cc
none_bools true true true true n is = absurd cc
none_bools true true true false true is = absurd cc
none_bools true true true false false is = (refl, refl, refl, refl)

all_bools : (b c d e : Bool) → (((b && c) && d) && e) ≡ true → (b ≡ true) × (c ≡ true) × (d ≡ true) × (e ≡ true)
all_bools false c d e is = absurd (true≢false (sym is))
all_bools true false d e is = absurd (true≢false (sym is))
all_bools true true false e is = absurd (true≢false (sym is))
all_bools true true true e is = (refl, refl, refl, is)

less_is : (a b : ℕ) → nat_lt a b ≡ true → a < b
less_is a b is = grind (arith, nat_tests)

row_nodes : (rows : List Row) → length (map row_node rows) ≡ length rows
row_nodes rows = length-map rows row_node

top_of-row : (features : ℕ) (rows : List Row) (id : ℕ) → id < length rows + 2 → variable_after rows features id ≡ top_of features (map row_node rows) id
top_of-row features rows zero id_in = sym (top_of-constant features (map row_node rows) 0 (omega arith))
top_of-row features rows (suc zero) id_in = sym (top_of-constant features (map row_node rows) 1 (omega arith))
top_of-row features rows (suc (suc k)) id_in =
    let place : suc (suc k) - 2 ≡ k = omega arith in
    let k_in : k < length rows = omega arith in
    ap (λ (o : Option Row). unwrap_or (option_map (λ x. x.variable) o) features) (slice_get-get_or rows k no_row k_in)
    ∙ ap (λ (m : Node). m.var) (sym (get_or-map row_node rows k no_row no_node k_in))
    ∙ ap (λ (i : ℕ). (node_at (map row_node rows) i).var) (sym place)
    ∙ sym (top_of-inner features (map row_node rows) (suc (suc k)) (omega arith))

neither : (a b : Bool) → (a || b) ≡ false → (a ≡ false) × (b ≡ false)
neither true b is = absurd (true≢false is)
neither false b is = (refl, is)

none_at : (test : Row → Bool) (rows : List Row) (k : ℕ) → list_any test rows ≡ false → k < length rows → test (get_or rows k no_row) ≡ false
none_at test [] k none k_in = absurd (omega arith)
none_at test (r ∷ rows) zero none k_in = (neither (test r) (list_any test rows) none).0
none_at test (r ∷ rows) (suc k) none k_in = none_at test rows k (neither (test r) (list_any test rows) none).1 (omega arith)

same_nodes : (r x : Row) → row_node x ≡ row_node r → same_row r x ≡ true
same_nodes r x same =
    let variables : x.variable ≡ r.variable = ap (λ (m : Node). m.var) same in
    let lows : x.low ≡ r.low = ap (λ (m : Node). m.low.0) same in
    let highs : x.high ≡ r.high = ap (λ (m : Node). m.high.0) same in
    grind (arith, nat_tests)

IsReduced-row : (features : ℕ) (rows : List Row) (r : Row) → IsReduced features (map row_node rows) → nat_lt r.variable features ≡ true → is_ordered features rows (length rows, r) ≡ true → nat_eq r.low r.high ≡ false → stands_before rows (length rows, r) ≡ false → IsReduced features (map row_node (rows ++ r ∷ []))
IsReduced-row features rows r reduced feature ordered differ absent =
    let parts = all_bools _ _ _ _ ordered in
    let low_in : r.low < length rows + 2 = less_is r.low (length rows + 2) parts.0 in
    let high_in : r.high < length rows + 2 = less_is r.high (length rows + 2) parts.1 in
    let low_after : r.variable < variable_after rows features r.low = less_is _ _ parts.2 in
    let high_after : r.variable < variable_after rows features r.high = less_is _ _ parts.3 in
    let none : list_any (same_row r) rows ≡ false = ap (list_any (same_row r)) (sym (take-length rows)) ∙ absent in
    let stands : MayStand features (map row_node rows) (row_node r) (length (map row_node rows)) = record {
      var_in = less_is r.variable features feature;
      low_in = omega (arith, row_nodes rows);
      high_in = omega (arith, row_nodes rows);
      low_after = omega (arith, top_of-row features rows r.low low_in);
      high_after = omega (arith, top_of-row features rows r.high high_in);
      children_differ = λ same. let is : nat_eq r.low r.high ≡ true = grind (arith, nat_tests) in true≢false (sym is ∙ differ);
    } in
    rw (map-append row_node rows (r ∷ []))
    (IsReduced-push features (map row_node rows) (row_node r) reduced stands (λ k k_in same.
    let row_in : k < length rows = omega (arith, row_nodes rows) in
    true≢false (sym (same_nodes r (get_or rows k no_row) (sym (get_or-map row_node rows k no_row no_node row_in) ∙ same)) ∙ none_at (same_row r) rows k none row_in)))

IsReduced-good : (features : ℕ) (earlier : List Row) (d : Document) → broken_rule features earlier (length earlier, d) ≡ None → IsReduced features (map row_node earlier) → IsReduced features (map row_node (earlier ++ row_of d ∷ []))
IsReduced-good features earlier d none reduced =
    let parts = none_bools (is_triple d) (nat_lt (row_of d).variable features) (is_ordered features earlier (length earlier, row_of d)) ((row_of d).low == (row_of d).high) (stands_before earlier (length earlier, row_of d)) none in
    IsReduced-row features earlier (row_of d) reduced parts.0 parts.1 parts.2 parts.3

IsReduced-later : (features : ℕ) (earlier : List Row) (ds : List Document) → first_break features earlier ds ≡ None → IsReduced features (map row_node earlier) → IsReduced features (map row_node (earlier ++ map row_of ds))
IsReduced-later features earlier [] none reduced = subst (λ (rows : List Row). IsReduced features (map row_node rows)) (sym (append-nil earlier)) reduced
IsReduced-later features earlier (d ∷ ds) none reduced = go (broken_rule features earlier (length earlier, d)) refl (IsReduced-later features (earlier ++ row_of d ∷ []) ds)
  where
    go : (o : Option Rule) → broken_rule features earlier (length earlier, d) ≡ o
        → (first_break features (earlier ++ row_of d ∷ []) ds ≡ None → IsReduced features (map row_node (earlier ++ row_of d ∷ [])) → IsReduced features (map row_node ((earlier ++ row_of d ∷ []) ++ map row_of ds)))
        → IsReduced features (map row_node (earlier ++ row_of d ∷ map row_of ds))
    go None is later =
        subst (λ (rows : List Row). IsReduced features (map row_node rows)) (append_assoc earlier (row_of d ∷ []) (map row_of ds))
        (later (sym (break_later features earlier d ds is) ∙ none) (IsReduced-good features earlier d is reduced))
    go (Some rule) is later = absurd (never_both (length earlier) rule (sym (break_here features earlier d ds rule is) ∙ none))

IsReduced-none : (features : ℕ) → IsReduced features []
IsReduced-none features = record { stands = λ k k_in. absurd (omega arith); once = λ j k less k_in. absurd (omega arith) }

nodes_from_rows : (lines : List TableRow) → map row_node (case_rows lines) ≡ nodes_of lines
nodes_from_rows [] = refl
nodes_from_rows (t ∷ lines) = ap (λ (nodes : List Node). node_of t ∷ nodes) (nodes_from_rows lines)

-- ---- reading one row after another

-- so many of the documents were read
pub record IsReading (features : ℕ) (docs : List Doc) (count : ℕ) (lines : List TableRow) : Type 0 where
  pub rows : case_rows lines ≡ map row_of (documents (take count docs))
  pub ahead : first_break features [] (documents docs) ≡ first_break features (case_rows lines) (documents (drop count docs))

pub IsReading-start : (features : ℕ) (docs : List Doc) → IsReading features docs 0 []
IsReading-start features docs = record { rows = refl; ahead = refl }

next_ahead : (docs : List Doc) (i : ℕ) (x : Doc) → i < length docs → x ≡ get_or docs i x → documents (drop i docs) ≡ document x ∷ documents (drop (i + 1) docs)
next_ahead docs i x within at = ap documents (drop_more docs i x within) ∙ ap (λ (y : Doc). document y ∷ documents (drop (i + 1) docs)) (sym at)

pub IsReading-more : (features : ℕ) (docs : List Doc) (i : ℕ) (lines new : List TableRow) (x : Doc) → i < length docs → x ≡ get_or docs i x → IsReading features docs i lines
    → broken_rule features (case_rows lines) (length lines, document x) ≡ None → case_rows new ≡ case_rows lines ++ row_of (document x) ∷ [] → IsReading features docs (i + 1) new
IsReading-more features docs i lines new x within at reading good added =
    let long : length (case_rows lines) ≡ length lines = length-map lines case_row in
    let here : broken_rule features (case_rows lines) (length (case_rows lines), document x) ≡ None = rw long good in
    record {
      rows =
          added
          ∙ ap (λ (rows : List Row). rows ++ row_of (document x) ∷ []) reading.rows
          ∙ sym (map-append row_of (documents (take i docs)) (document x ∷ []))
          ∙ ap (map row_of) (sym (map-append document (take i docs) (x ∷ [])))
          ∙ ap (λ (ys : List Doc). map row_of (documents ys)) (ap (λ (y : Doc). take i docs ++ y ∷ []) at ∙ sym (take_more docs i x within));
      ahead =
          reading.ahead
          ∙ ap (first_break features (case_rows lines)) (next_ahead docs i x within at)
          ∙ break_later features (case_rows lines) (document x) (documents (drop (i + 1) docs)) here
          ∙ ap (λ (rows : List Row). first_break features rows (documents (drop (i + 1) docs))) (sym added);
    }

first_bad_none : (features : ℕ) (ds : List Document) → first_break features [] ds ≡ None → bad_rows features ds ≡ []
first_bad_none features ds none = empty (bad_rows features ds) (first_bad_is features ds ∙ ap (option_map (λ x. x.0)) none)
  where
    empty : (ns : List ℕ) → first_of_list ns ≡ None → ns ≡ []
    empty [] is = refl
    empty (n ∷ ns) is = absurd cc

pub AreRead-all : (features : ℕ) (docs : List Doc) (i : ℕ) (lines : List TableRow) → i ≡ length docs → IsReading features docs i lines → AreRead features (documents docs) lines
AreRead-all features docs i lines all reading =
    let none : first_break features [] (documents docs) ≡ None = reading.ahead ∙ ap (λ (ys : List Doc). first_break features (case_rows lines) (documents ys)) (drop_all i docs (omega arith)) in
    let rows : case_rows lines ≡ map row_of (documents docs) = reading.rows ∙ ap (λ (ys : List Doc). map row_of (documents ys)) (take_all i docs (omega arith)) in
    record {
      rows = rows;
      faultless = first_bad_none features (documents docs) none;
      reduced =
          subst (λ (nodes : List Node). IsReduced features nodes) (ap (map row_node) (sym rows) ∙ nodes_from_rows lines)
          (IsReduced-later features [] (documents docs) none (IsReduced-none features));
    }

told_rule : (o : Option Rule) (k number : ℕ) (rule : Rule) → option_map (at_row k) o ≡ Some (at_row number rule) → (k ≡ number) × (o ≡ Some rule)
told_rule None k number rule is = absurd cc
told_rule (Some x) k number rule is = let p = same_pair is in (p.0, ap Some p.1)

fault_told : (features : ℕ) (docs : List Doc) (i : ℕ) (lines : List TableRow) (x : Doc) (told : ℕ) (rule : Rule) → i < length docs → x ≡ get_or docs i x → IsReading features docs i lines
    → option_map (at_row (capped (length lines))) (broken_rule features (case_rows lines) (length lines, document x)) ≡ Some (at_row told rule) → IsToldFault features (documents docs) told rule
fault_told features docs i lines x told rule within at reading is =
    let p = told_rule _ (capped (length lines)) told rule is in
    let long : length (case_rows lines) ≡ length lines = length-map lines case_row in
    let here : broken_rule features (case_rows lines) (length (case_rows lines), document x) ≡ Some rule = rw long p.1 in
    record {
      number = length lines;
      fault =
          IsFirstFault-found features (documents docs) (length lines) rule
          (reading.ahead
          ∙ ap (first_break features (case_rows lines)) (next_ahead docs i x within at)
          ∙ break_here features (case_rows lines) (document x) (documents (drop (i + 1) docs)) rule here
          ∙ ap (λ (n : ℕ). Some (at_row n rule)) long);
      is = sym p.0;
    }

pub TellsOf-first : (features : ℕ) (docs : List Doc) (i : ℕ) (lines : List TableRow) (x : Doc) (stop : TableStop) → i < length docs → x ≡ get_or docs i x → IsReading features docs i lines
    → TellsBroken (option_map (at_row (capped (length lines))) (broken_rule features (case_rows lines) (length lines, document x))) stop → TellsOf features (documents docs) stop
TellsOf-first features docs i lines x (table.NotTriple told) within at reading is = fault_told features docs i lines x told Triple within at reading is
TellsOf-first features docs i lines x (table.NotOrdered told) within at reading is = fault_told features docs i lines x told Order within at reading is
TellsOf-first features docs i lines x (table.NotReduced told) within at reading is = fault_told features docs i lines x told Difference within at reading is
TellsOf-first features docs i lines x (table.Repeated told) within at reading is = fault_told features docs i lines x told Newness within at reading is
TellsOf-first features docs i lines x table.NoMemory within at reading is = tt

-- ---- tables

pub first_bad_read : (features : ℕ) (ds : List Document) (lines : List TableRow) → AreRead features ds lines → first_bad features ds ≡ None
first_bad_read features ds lines read = ap first_of_list read.faultless

pub variables_in : (features : ℕ) (lines : List TableRow) → IsReduced features (nodes_of lines) → (k : ℕ) (t : TableRow) → k < length lines → (get_or lines k t).0 < features
variables_in features lines reduced k t k_in =
    subst (λ (m : Node). m.var < features) (get_or-map node_of lines k t no_node k_in)
    ((reduced.stands k (let long : length (nodes_of lines) ≡ length lines = length-map lines node_of in omega arith)).var_in)

-- ---- the faults of a case's table

-- the bad rows are the places of the definitions' faults
pub table_faults-bad_rows : (d : Document) (k : CaseDocument) → k.table ≡ map row_of (list_at (codes "table") d)
    → table_faults d k ≡ faults_at 5 Table (bad_rows (length k.features) (list_at (codes "table") d))
table_faults-bad_rows d k same =
    ap (λ (rows : List Row). faults_at 5 Table (map (λ r. r.0) (filter (λ r. not (document_fits (length k.features) rows r)) (numbered (list_at (codes "table") d))))) same
