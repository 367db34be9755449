-- The truths of a table's identifiers, one row more, and of the whole table.
use Rattle.std.proofs.Common.{◌≡◌, ℕ, ◌+◌, ◌<◌, ◌≤◌, inl, inr, List, [], ◌∷◌, ◌++◌, Bool, length, get_or, take, refl, sym, ap, subst, ◌∙◌, arith, length-append}
use Rattle.std.specs.Prelude.{reverse, if◌then◌else◌}
use Rattle.std.proofs.lemmas.Bool.{cases_lt}
use Rattle.std.proofs.lemmas.Bool.Decides.{eqb_tells}
use Rattle.std.proofs.lemmas.List.{reverse-append, length-reverse, take_more, map-append}
use Rattle.meaning.specs.Texts.{holds_at}
use Rattle.meaning.specs.CaseFiles.{Row, walk_down, holds}
use Rattle.meaning.proofs.CutTrees.{holds_in_front}
use Rattle.conditions.specs.Tables.{TableRow, case_row, case_rows}
use Rattle.lifted_case.specs.declared.lifted.ReadCase.{ReadCase}
use Rattle.lifted_case.specs.CaseView.{case_document_of_read}
use Rattle.case_derive.specs.Truths.{TellsTable}
use Rattle.case_derive.proofs.Marks.{holds_past}

-- where a row leads
abbrev pub child : List Bool → Row → ℕ
child w row = if holds_at w row.variable then row.high else row.low

last_holds : (values : List Bool) (b : Bool) → holds_at (values ++ b ∷ []) (length values) ≡ b
last_holds [] b = refl
last_holds (x ∷ xs) b = last_holds xs b

other_holds : (values : List Bool) (b : Bool) (id : ℕ) → (id ≡ length values → ⊥) → holds_at (values ++ b ∷ []) id ≡ holds_at values id
other_holds values b id ne = elim (cases_lt id (length values)) [
  | inl l ↦ holds_in_front values (b ∷ []) id l
  | inr l ↦
      let past : length (values ++ b ∷ []) ≤ id = elim (cases_lt (length values) id) [
        | inl m ↦ omega (arith, m, length-append values (b ∷ []))
        | inr m ↦ absurd (ne (omega (arith, l, m)))
      ] in
      holds_past (values ++ b ∷ []) id past ∙ sym (holds_past values id l)
]

tells_one : (rows : List Row) (w values : List Bool) (row : Row) → TellsTable rows w values → (id : ℕ)
    → holds_at (values ++ holds_at values (child w row) ∷ []) id ≡ walk_down (row ∷ reverse rows) w id
tells_one rows w values row h id =
    let here : length (reverse rows) + 2 ≡ length values = omega (arith, length-reverse rows, h.length) in
    elim (eqb_tells id (length (reverse rows) + 2)) [
      | inl t ↦
          ap (holds_at (values ++ holds_at values (child w row) ∷ [])) (t.1 ∙ here) ∙ last_holds values (holds_at values (child w row)) ∙ h.each (child w row)
          ∙ ap (λ (b : Bool). walk_down (reverse rows) w (if b then child w row else id)) (sym t.0)
      | inr t ↦
          other_holds values (holds_at values (child w row)) id (λ e. t.1 (e ∙ sym here)) ∙ h.each id
          ∙ ap (λ (b : Bool). walk_down (reverse rows) w (if b then child w row else id)) (sym t.0)
    ]

pub tells_next : (rows : List Row) (w values : List Bool) (row : Row) → TellsTable rows w values
    → TellsTable (rows ++ row ∷ []) w (values ++ holds_at values (child w row) ∷ [])
tells_next rows w values row h = record {
  length = omega (arith, h.length, length-append rows (row ∷ []), length-append values (holds_at values (child w row) ∷ []));
  each = λ id. tells_one rows w values row h id ∙ ap (λ rs. walk_down rs w id) (sym (reverse-append rows (row ∷ [])));
}

pub tells_more : (rows : List TableRow) (i : ℕ) (d : TableRow) (w values new : List Bool) (v : Bool) → i < length rows
    → TellsTable (case_rows (take i rows)) w values → v ≡ holds_at values (child w (case_row (get_or rows i d))) → new ≡ values ++ v ∷ []
    → TellsTable (case_rows (take (i + 1) rows)) w new
tells_more rows i d w values new v l h e at =
    let row : Row = case_row (get_or rows i d) in
    let more : case_rows (take (i + 1) rows) ≡ case_rows (take i rows) ++ row ∷ [] =
    ap case_rows (take_more rows i d l) ∙ map-append case_row (take i rows) (get_or rows i d ∷ []) in
    subst (λ rs. TellsTable rs w new) (sym more)
    (subst (TellsTable (case_rows (take i rows) ++ row ∷ []) w) (sym (at ∙ ap (λ b. values ++ b ∷ []) e)) (tells_next (case_rows (take i rows)) w values row h))

-- of a case that was read
pub tells_read : (c : ReadCase) (rows : List TableRow) (w values : List Bool) → rows ≡ c.table.rows → TellsTable (case_rows rows) w values
    → (id : ℕ) → holds_at values id ≡ holds (case_document_of_read c) w id
unfolding holds
tells_read c rows w values e h id = h.each id ∙ ap (λ rs. walk_down (reverse (case_rows rs)) w id) e
