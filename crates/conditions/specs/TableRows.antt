-- Tables that are read from documents: which row breaks a rule first, and which rule.
use Rattle.std.specs.Prelude.{◌≡◌, ℕ, ◌+◌, ◌⊎◌, List, [], ◌∷◌, ◌++◌, length, map, filter, take, Bool, not, ◌&&◌, ◌==◌, nat_lt, if◌then◌else◌, Option, Some, None, unwrap_or}
use Rattle.std.specs.List.{list_any, slice_get}
use Rattle.meaning.specs.Counts.{capped}
use Rattle.meaning.specs.Texts.{numbered, first_of_list}
use Rattle.meaning.specs.Documents.{Document, as_list}
use Rattle.meaning.specs.CaseFiles.{Row}
use Rattle.meaning.specs.CaseReading.{row_of, is_triple, variable_after, same_row, row_fits}
use Rattle.node_pool.specs.Nodes.{IsReduced}
use Rattle.conditions.specs.declared.lines.RowStop.{RowStop}
use Rattle.conditions.specs.declared.lines.RowStop.TheVariants.{NotTriple, NotOrdered, NotReduced, Repeated, NoMemory}
use Rattle.conditions.specs.declared.reading.TableStop.{TableStop}
use Rattle.conditions.specs.declared.reading.TableStop.TheVariants as table
use Rattle.conditions.specs.Tables.{TableRow, Contents, nodes_of, case_rows}

-- the documents of the rows: none where the document is no list
abbrev pub row_documents : Document → List Document
row_documents d = unwrap_or (as_list d) []

-- the row with that number, after the rows before it, has the form of a row and breaks no rule
abbrev pub document_fits : ℕ → List Row → ℕ × Document → Bool
document_fits features rows r = is_triple r.1 && row_fits rows features (r.0, row_of r.1)

-- the numbers of the rows that break a rule, as the definitions of case files have them
abbrev pub bad_rows : ℕ → List Document → List ℕ
bad_rows features ds = map (λ r. r.0) (filter (λ r. not (document_fits features (map row_of ds) r)) (numbered ds))

abbrev pub first_bad : ℕ → List Document → Option ℕ
first_bad features ds = first_of_list (bad_rows features ds)

-- ---- the rules of a row, in their order

pub data Rule : Type 0 where
  Triple : Rule
  Order : Rule
  Difference : Rule
  Newness : Rule

-- three whole numbers, of which the first is a feature
abbrev pub is_row : ℕ → Document → Bool
is_row features d = is_triple d && nat_lt (row_of d).variable features

-- the children are earlier identifiers, with later variables
abbrev pub is_ordered : ℕ → List Row → ℕ × Row → Bool
is_ordered features rows r =
    nat_lt r.1.low (r.0 + 2) && nat_lt r.1.high (r.0 + 2)
    && nat_lt r.1.variable (variable_after rows features r.1.low) && nat_lt r.1.variable (variable_after rows features r.1.high)

abbrev pub stands_before : List Row → ℕ × Row → Bool
stands_before rows r = list_any (same_row r.1) (take r.0 rows)

-- the first rule that a row breaks, after the rule on its form
abbrev pub rule_of_row : ℕ → List Row → ℕ × Row → Option Rule
rule_of_row features rows r =
    if not (is_ordered features rows r) then Some Order
    else (if r.1.low == r.1.high then Some Difference
    else (if stands_before rows r then Some Newness else None))

-- the first rule that the row with that number breaks
abbrev pub broken_rule : ℕ → List Row → ℕ × Document → Option Rule
broken_rule features rows r = if is_row features r.1 then rule_of_row features rows (r.0, row_of r.1) else Some Triple

abbrev pub at_row : ℕ → Rule → ℕ × Rule
at_row number rule = (number, rule)

-- the first of the documents whose row breaks a rule, with that rule, where they come after rows that were read
abbrev pub first_break : ℕ → List Row → List Document → Option (ℕ × Rule)
first_break features earlier [] = None
first_break features earlier (d ∷ ds) =
    elim (broken_rule features earlier (length earlier, d)) as (λ _. Option (ℕ × Rule)) [
      | None ↦ first_break features (earlier ++ row_of d ∷ []) ds
      | Some rule ↦ Some (at_row (length earlier) rule)
    ]

-- ---- what a reader answers

-- why a row is not taken, given the first rule that it breaks
abbrev pub TellsRow : RowStop → Option Rule → Type 0
TellsRow NotTriple broken = broken ≡ Some Triple
TellsRow NotOrdered broken = broken ≡ Some Order
TellsRow NotReduced broken = broken ≡ Some Difference
TellsRow Repeated broken = broken ≡ Some Newness
TellsRow NoMemory broken = Unit {0}

-- what the stop of a row with that number is for a table
abbrev pub Stops : RowStop → ℕ → TableStop → Type 0
Stops NotTriple number stop = stop ≡ table.NotTriple number
Stops NotOrdered number stop = stop ≡ table.NotOrdered number
Stops NotReduced number stop = stop ≡ table.NotReduced number
Stops Repeated number stop = stop ≡ table.Repeated number
Stops NoMemory number stop = stop ≡ table.NoMemory

-- the first rule that is broken, with the row's number
abbrev pub TellsBroken : Option (ℕ × Rule) → TableStop → Type 0
TellsBroken broken (table.NotTriple number) = broken ≡ Some (at_row number Triple)
TellsBroken broken (table.NotOrdered number) = broken ≡ Some (at_row number Order)
TellsBroken broken (table.NotReduced number) = broken ≡ Some (at_row number Difference)
TellsBroken broken (table.Repeated number) = broken ≡ Some (at_row number Newness)
TellsBroken broken table.NoMemory = Unit {0}

-- the first row that breaks a rule, and the first rule that it breaks
pub record IsFirstFault (features : ℕ) (ds : List Document) (number : ℕ) (rule : Rule) : Type 0 where
  pub first : first_bad features ds ≡ Some number
  pub item : Document
  pub there : slice_get ds number ≡ Some item
  pub broken : broken_rule features (map row_of ds) (number, item) ≡ Some rule

-- the same, of a row that is told as this number
pub record IsToldFault (features : ℕ) (ds : List Document) (told : ℕ) (rule : Rule) : Type 0 where
  pub number : ℕ
  pub fault : IsFirstFault features ds number rule
  pub is : told ≡ capped number

abbrev pub TellsOf : ℕ → List Document → TableStop → Type 0
TellsOf features ds (table.NotTriple told) = IsToldFault features ds told Triple
TellsOf features ds (table.NotOrdered told) = IsToldFault features ds told Order
TellsOf features ds (table.NotReduced told) = IsToldFault features ds told Difference
TellsOf features ds (table.Repeated told) = IsToldFault features ds told Newness
TellsOf features ds table.NoMemory = Unit {0}

-- the stop tells the first fault of the document as a table of so many features. A document that is no list has none of the rows, and is told as the first row's form
abbrev pub Tells : ℕ → Document → TableStop → Type 0
Tells features d (table.NotTriple told) = ((as_list d ≡ None) × (told ≡ 0)) ⊎ IsToldFault features (row_documents d) told Triple
Tells features d stop = TellsOf features (row_documents d) stop

-- the rows are those of the documents, and no row breaks a rule
pub record AreRead (features : ℕ) (ds : List Document) (lines : List TableRow) : Type 0 where
  pub rows : case_rows lines ≡ map row_of ds
  pub faultless : bad_rows features ds ≡ []
  pub reduced : IsReduced features (nodes_of lines)

-- the table is what the document says
pub record IsRead (count : ℕ) (d : Document) (t : Contents) : Type 0 where
  pub is_list : as_list d ≡ Some (row_documents d)
  pub features : t.features ≡ count
  pub rows : case_rows t.rows ≡ map row_of (row_documents d)
  pub faultless : bad_rows count (row_documents d) ≡ []
