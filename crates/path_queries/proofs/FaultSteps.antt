-- The first fault from a place on: at the token there, or in what follows it.
use Rattle.std.proofs.Common.{◌≡◌, ◌∙◌, sym, ap, subst, refl, ℕ, ◌+◌, ◌<◌, List, [], ◌∷◌, Bool, true, false, ◌||◌, Option, Some, None}
use Rattle.std.specs.Prelude.{if◌then◌else◌, nat_le, not, option_and_then, is_some}
use Rattle.std.proofs.lemmas.Bool.{true≢false}
use Rattle.meaning.specs.Texts.{is_name, place_of}
use Rattle.meaning.specs.Models.{Model}
use Rattle.meaning.specs.QueryTexts.{Token, word, variable_number}
use Rattle.meaning.specs.BundlePlaces.{or_else}
use Rattle.meaning.specs.ExpressionFaults.{TextFault, TooMany, Syntax, UnknownName, Repeated}
use Rattle.meaning.specs.QueryFaults.{Next, a_query, a_new_variable, a_constraint, Progress, goes_on, may_end, progress_after, is_known, new_variable, begins_constraint_too_many, is_variable_too_many, stands_in_scope, token_fault, fault_from}
use Rattle.cond_text.specs.Stops.{capped}
use Rattle.path_queries.specs.declared.token.Tokens.{Tokens}
use Rattle.path_queries.specs.declared.fault.QueryStop.{QueryStop}
use Rattle.path_queries.specs.declared.fault.QueryStop.TheVariants as code
use Rattle.path_queries.specs.Tokens.{rest_at}
use Rattle.path_queries.specs.Signs.{word_in, word_first, name_first}
use Rattle.path_queries.specs.Stops.{Tells, place_told, refusal}
use Rattle.path_queries.specs.Lookups.{looked_up, lookup_stop}
use Rattle.path_queries.specs.PathReading.{fault_at}
use Rattle.path_queries.specs.VariableReading.{new_stop}
use Rattle.path_queries.proofs.FirstTokens.{IsAt, NameAt, name_is_at, not_many}

-- no test at a token finds a fault
no_fault : (a v c g k s : Bool) (at : ℕ) (y : Option TextFault) → a ≡ false → v ≡ false → c ≡ false → g ≡ true → k ≡ true → s ≡ false
    → or_else (if a || v || c then Some (TooMany at) else (if not g then Some (Syntax at) else (if not k then Some (UnknownName at)
    else (if s then Some (Repeated at) else None)))) y ≡ y
no_fault a v c g k s at y few room less goes known new = rw (few, room, less, goes, known, new) refl

-- a token that may stand where it does and begins nothing new
pub takes_at : (m : Model) (ts : Tokens) (at : ℕ) (t : Token) (p : Progress) → IsAt ts at t
    → is_variable_too_many p (new_variable p.next t (rest_at ts (at + 1))) ≡ false → begins_constraint_too_many p p.next t ≡ false
    → goes_on p.next t ≡ true → is_known m p p.next t ≡ true → stands_in_scope p (new_variable p.next t (rest_at ts (at + 1))) ≡ false
    → fault_at m ts at p ≡ fault_at m ts (at + 1) (progress_after m p p.next t)
takes_at m ts at t p is room less goes known new =
    ap (fault_from m ts.end at p) is.front
    ∙ no_fault (nat_le 256 at) (is_variable_too_many p (new_variable p.next t (rest_at ts (at + 1)))) (begins_constraint_too_many p p.next t) (goes_on p.next t)
    (is_known m p p.next t) (stands_in_scope p (new_variable p.next t (rest_at ts (at + 1)))) is.place (fault_at m ts (at + 1) (progress_after m p p.next t))
    (not_many at is.short) room less goes known new

-- where no variable and no constraint begins
abbrev pub ordinary : Next → Bool
ordinary a_query = false
ordinary a_new_variable = false
ordinary a_constraint = false
ordinary n = true

nothing_new : (n : Next) (t : Token) (us : List (ℕ × Token)) → ordinary n ≡ true → new_variable n t us ≡ None
nothing_new a_query t us e = absurd (true≢false (sym e))
nothing_new a_new_variable t us e = absurd (true≢false (sym e))
nothing_new a_constraint t us e = absurd (true≢false (sym e))
nothing_new n t us e = refl

no_constraint : (p : Progress) (n : Next) (t : Token) → ordinary n ≡ true → begins_constraint_too_many p n t ≡ false
no_constraint p a_query t e = refl
no_constraint p a_new_variable t e = refl
no_constraint p a_constraint t e = absurd (true≢false (sym e))
no_constraint p n t e = refl

pub takes : (m : Model) (ts : Tokens) (at : ℕ) (t : Token) (p : Progress) → IsAt ts at t → ordinary p.next ≡ true → goes_on p.next t ≡ true → is_known m p p.next t ≡ true
    → fault_at m ts at p ≡ fault_at m ts (at + 1) (progress_after m p p.next t)
takes m ts at t p is plain goes known =
    let none = nothing_new p.next t (rest_at ts (at + 1)) plain in
    takes_at m ts at t p is (ap (is_variable_too_many p) none) (no_constraint p p.next t plain) goes known (ap (stands_in_scope p) none)

-- ---- stops

-- the first token may not stand here, or the text may not end here
abbrev pub Halts : ℕ → List (ℕ × Token) → Next → Type 0
Halts at [] n = may_end n ≡ false
Halts at (q ∷ us) n = nat_le 256 at ≡ false → goes_on n q.1 ≡ false

refused_token : (a v c g k s : Bool) (at : ℕ) (y : Option TextFault) → v ≡ false → c ≡ false → (a ≡ false → g ≡ false)
    → Tells (if a then code.TooMany (capped at) else code.Syntax (capped at))
    (or_else (if a || v || c then Some (TooMany at) else (if not g then Some (Syntax at) else (if not k then Some (UnknownName at)
    else (if s then Some (Repeated at) else None)))) y)
refused_token true v c g k s at y room less stops = (at, refl, refl)
refused_token false v c g k s at y room less stops = let f = stops refl in (at, rw (room, less, f) refl, refl)

pub refused_new : (m : Model) (ts : Tokens) (at : ℕ) (p : Progress) (ls : List (ℕ × Token)) → Halts at ls p.next
    → ((t : Token) (us : List (ℕ × Token)) → goes_on p.next t ≡ false → is_variable_too_many p (new_variable p.next t us) ≡ false)
    → ((t : Token) → begins_constraint_too_many p p.next t ≡ false)
    → Tells (refusal ts.end at ls) (fault_from m ts.end at p ls)
refused_new m ts at p [] stops room less = (ts.end, rw stops refl, refl)
refused_new m ts at p (q ∷ us) stops room less = go (nat_le 256 at) refl
  where
    go : (a : Bool) → nat_le 256 at ≡ a
        → Tells (if a then code.TooMany (capped q.0) else code.Syntax (capped q.0))
        (or_else (if a || is_variable_too_many p (new_variable p.next q.1 us) || begins_constraint_too_many p p.next q.1 then Some (TooMany q.0)
        else (if not (goes_on p.next q.1) then Some (Syntax q.0) else (if not (is_known m p p.next q.1) then Some (UnknownName q.0)
        else (if stands_in_scope p (new_variable p.next q.1 us) then Some (Repeated q.0) else None)))) (fault_from m ts.end (at + 1) (progress_after m p p.next q.1) us))
    go true many = (q.0, refl, refl)
    go false many = let f = stops many in (q.0, rw (room q.1 us f, less q.1, f) refl, refl)

pub refused : (m : Model) (ts : Tokens) (at : ℕ) (p : Progress) → ordinary p.next ≡ true → Halts at (rest_at ts at) p.next
    → Tells (refusal ts.end at (rest_at ts at)) (fault_at m ts at p)
refused m ts at p plain stops =
    refused_new m ts at p (rest_at ts at) stops (λ t us f. ap (is_variable_too_many p) (nothing_new p.next t us plain)) (λ t. no_constraint p p.next t plain)

-- ---- names with a number

pub some_if : (b : Bool) (w : List ℕ) → is_some (if b then Some w else None) ≡ b
some_if true w = refl
some_if false w = refl

-- only a name may stand here
abbrev pub OnlyNames : ℕ → List (ℕ × Token) → Next → Type 0
OnlyNames at [] n = may_end n ≡ false
OnlyNames at (q ∷ us) n = nat_le 256 at ≡ false → goes_on n q.1 ≡ is_some (option_and_then (λ w. if is_name w then Some w else None) (word_in q.1))

-- the name that may stand here has a number
pub lookup_takes : (m : Model) (ts : Tokens) (at : ℕ) (number : List ℕ → Option ℕ) (i : ℕ) → looked_up number at (rest_at ts at) ≡ Some i
    → (w : List ℕ) × NameAt ts at w × (number w ≡ Some i)
lookup_takes m ts at number i is = go (name_first at (rest_at ts at)) refl is
  where
    go : (o : Option (List ℕ)) → name_first at (rest_at ts at) ≡ o → option_and_then number o ≡ Some i → (w : List ℕ) × NameAt ts at w × (number w ≡ Some i)
    go None first is = absurd cc
    go (Some w) first is = (w, name_is_at ts at w first, is)

named_token : (t : Token) (w : List ℕ) → option_and_then (λ v. if is_name v then Some v else None) (word_in t) ≡ Some w → t ≡ word w
named_token (word v) w e = go (is_name v) e
  where
    go : (b : Bool) → (if b then Some v else None) ≡ Some w → word v ≡ word w
    go true e = cc
    go false e = absurd cc
named_token t w e = absurd cc

-- no name may stand here that has a number
pub lookup_stops_new : (m : Model) (ts : Tokens) (at : ℕ) (p : Progress) (number : List ℕ → Option ℕ) → looked_up number at (rest_at ts at) ≡ None
    → ((t : Token) (us : List (ℕ × Token)) → is_variable_too_many p (new_variable p.next t us) ≡ false) → ((t : Token) → begins_constraint_too_many p p.next t ≡ false)
    → OnlyNames at (rest_at ts at) p.next → ((w : List ℕ) → word_first at (rest_at ts at) ≡ Some w → is_known m p p.next (word w) ≡ is_some (number w))
    → Tells (lookup_stop ts.end at (rest_at ts at)) (fault_at m ts at p)
lookup_stops_new m ts at p number none room less only known = go (rest_at ts at) none only known
  where
    go : (ls : List (ℕ × Token)) → looked_up number at ls ≡ None → OnlyNames at ls p.next
        → ((w : List ℕ) → word_first at ls ≡ Some w → is_known m p p.next (word w) ≡ is_some (number w)) → Tells (lookup_stop ts.end at ls) (fault_from m ts.end at p ls)
    go [] none only known = (ts.end, rw only refl, refl)
    go (q ∷ us) none only known = many (nat_le 256 at) none only known
      where
        stray : (o : Option (List ℕ)) → option_and_then (λ w. if is_name w then Some w else None) (word_in q.1) ≡ o → option_and_then number o ≡ None
            → goes_on p.next q.1 ≡ is_some o → ((w : List ℕ) → word_in q.1 ≡ Some w → is_known m p p.next (word w) ≡ is_some (number w))
            → Tells (if is_some o then code.UnknownName (capped q.0) else code.Syntax (capped q.0))
            (or_else (if false || is_variable_too_many p (new_variable p.next q.1 us) || begins_constraint_too_many p p.next q.1 then Some (TooMany q.0)
            else (if not (goes_on p.next q.1) then Some (Syntax q.0) else (if not (is_known m p p.next q.1) then Some (UnknownName q.0)
            else (if stands_in_scope p (new_variable p.next q.1 us) then Some (Repeated q.0) else None)))) (fault_from m ts.end (at + 1) (progress_after m p p.next q.1) us))
        stray None is none goes known =
            let v = room q.1 us in let c = less q.1 in (q.0, rw (v, c, goes) refl, refl)
        stray (Some w) is none goes known =
            let t = named_token q.1 w is in
            let absent : is_known m p p.next q.1 ≡ false = ap (is_known m p p.next) t ∙ (known w (ap word_in t) ∙ ap is_some none) in
            let v = room q.1 us in let c = less q.1 in (q.0, rw (v, c, goes, absent) refl, refl)

        many : (b : Bool) → option_and_then number (option_and_then (λ w. if is_name w then Some w else None) (if b then None else word_in q.1)) ≡ None
            → (b ≡ false → goes_on p.next q.1 ≡ is_some (option_and_then (λ w. if is_name w then Some w else None) (word_in q.1)))
            → ((w : List ℕ) → (if b then None else word_in q.1) ≡ Some w → is_known m p p.next (word w) ≡ is_some (number w))
            → Tells (if is_some (option_and_then (λ w. if is_name w then Some w else None) (if b then None else word_in q.1)) then code.UnknownName (capped q.0)
            else (if b then code.TooMany (capped q.0) else code.Syntax (capped q.0)))
            (or_else (if b || is_variable_too_many p (new_variable p.next q.1 us) || begins_constraint_too_many p p.next q.1 then Some (TooMany q.0)
            else (if not (goes_on p.next q.1) then Some (Syntax q.0) else (if not (is_known m p p.next q.1) then Some (UnknownName q.0)
            else (if stands_in_scope p (new_variable p.next q.1 us) then Some (Repeated q.0) else None)))) (fault_from m ts.end (at + 1) (progress_after m p p.next q.1) us))
        many true none only known = (q.0, refl, refl)
        many false none only known = stray (option_and_then (λ w. if is_name w then Some w else None) (word_in q.1)) refl none (only refl) known

pub lookup_stops : (m : Model) (ts : Tokens) (at : ℕ) (p : Progress) (number : List ℕ → Option ℕ) → looked_up number at (rest_at ts at) ≡ None → ordinary p.next ≡ true
    → OnlyNames at (rest_at ts at) p.next → ((w : List ℕ) → is_known m p p.next (word w) ≡ is_some (number w))
    → Tells (lookup_stop ts.end at (rest_at ts at)) (fault_at m ts at p)
lookup_stops m ts at p number none plain only known =
    lookup_stops_new m ts at p number none (λ t us. ap (is_variable_too_many p) (nothing_new p.next t us plain)) (λ t. no_constraint p p.next t plain) only (λ w first. known w)

-- the fault is the same from here on
pub moved : (stop : QueryStop) (here there : Option TextFault) → here ≡ there → Tells stop there → Tells stop here
moved stop here there e h = subst (Tells stop) (sym e) h

-- ---- new variables

refused_name : (a v c g k s : Bool) (place : ℕ) (y : Option TextFault) (stop : QueryStop) → a ≡ false → c ≡ false → g ≡ true → k ≡ true
    → (if v then Some (code.TooMany (capped place)) else (if s then Some (code.Repeated (capped place)) else None)) ≡ Some stop
    → Tells stop (or_else (if a || v || c then Some (TooMany place) else (if not g then Some (Syntax place) else (if not k then Some (UnknownName place)
    else (if s then Some (Repeated place) else None)))) y)
refused_name true v c g k s place y stop few less goes known e = absurd (true≢false few)
refused_name false true c g k s place y stop few less goes known e = let is : code.TooMany (capped place) ≡ stop = cc in subst (λ t. Tells t (Some (TooMany place))) is (place, refl, refl)
refused_name false false true g k s place y stop few less goes known e = absurd (true≢false less)
refused_name false false false false k s place y stop few less goes known e = absurd (true≢false (sym goes))
refused_name false false false true false s place y stop few less goes known e = absurd (true≢false (sym known))
refused_name false false false true true true place y stop few less goes known e =
    let is : code.Repeated (capped place) ≡ stop = cc in subst (λ t. Tells t (Some (Repeated place))) is (place, refl, refl)
refused_name false false false true true false place y stop few less goes known e = absurd cc

-- at the name of a new variable there are too many of them, or another has the name
pub new_name_stops : (m : Model) (ts : Tokens) (at : ℕ) (t : Token) (p : Progress) (w : List ℕ) (stop : QueryStop) → IsAt ts at t
    → begins_constraint_too_many p p.next t ≡ false → goes_on p.next t ≡ true → is_known m p p.next t ≡ true → new_variable p.next t (rest_at ts (at + 1)) ≡ Some w
    → new_stop p.new (variable_number p.scope w) (place_told ts.end (rest_at ts at)) ≡ Some stop → Tells stop (fault_at m ts at p)
new_name_stops m ts at t p w stop is less goes known variable e =
    moved stop (fault_at m ts at p) (fault_from m ts.end at p ((is.place, t) ∷ rest_at ts (at + 1))) (ap (fault_from m ts.end at p) is.front)
    (refused_name (nat_le 256 at) (is_variable_too_many p (new_variable p.next t (rest_at ts (at + 1)))) (begins_constraint_too_many p p.next t) (goes_on p.next t)
    (is_known m p p.next t) (stands_in_scope p (new_variable p.next t (rest_at ts (at + 1)))) is.place (fault_at m ts (at + 1) (progress_after m p p.next t)) stop
    (not_many at is.short) less goes known
    (subst (λ nv. (if is_variable_too_many p nv then Some (code.TooMany (capped is.place)) else (if stands_in_scope p nv then Some (code.Repeated (capped is.place)) else None)) ≡ Some stop)
    (sym variable) (ap (new_stop p.new (variable_number p.scope w)) (sym (ap (place_told ts.end) is.front)) ∙ e)))
