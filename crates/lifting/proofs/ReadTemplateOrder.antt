-- Where no rule is broken, a node stands under an earlier node of its template, and a use names an earlier template.
use Rattle.std.proofs.Common.{◌≡◌, ℕ, zero, suc, ◌<◌, List, [], ◌∷◌, map, take, Bool, true, false, not, ◌||◌, Option, Some, None, refl, sym, ap, ◌∙◌, subst, arith}
use Rattle.std.specs.Prelude.{codes, option_map, option_and_then, unwrap_or, bytes_eq, if◌then◌else◌}
use Rattle.std.specs.List.{slice_get}
use Rattle.std.proofs.lemmas.List.{take-map}
use Rattle.meaning.specs.Texts.{place_of}
use Rattle.meaning.specs.Documents.{Document, as_text, member_of, text_at, list_at, texts_in}
use Rattle.meaning.specs.Models.{Model}
use Rattle.meaning.specs.Cases.{NodeKind}
use Rattle.meaning.specs.QueryTexts.{Scope}
use Rattle.meaning.specs.BundlePlaces.{has, or_else, text_of_member, name_in}
use Rattle.meaning.specs.Templates.{Plain, Uses}
use Rattle.meaning.specs.TemplateTexts.{node_kind, variable_of, kind_of}
use Rattle.meaning.specs.TemplateRules.{NodeContext, KindWord, kind_named, kind_in, is_goal, is_use, stands_in_place, stands_under_it, number_above, node_above, holds_for_some, earlier_template, arguments_fit, use_is_right}
use Rattle.meaning.proofs.EmptyLists.{both_true}
use Rattle.meaning.proofs.AbsentMembers.{absent}
use Rattle.meaning.proofs.EqualityTests.{not_both, none_is_some, some_is, equal_texts}
use Rattle.lifting.proofs.ReadTemplateNodes.{names_of, above_of, read_context}

-- ---- what may be absent

pub and_then_some : {A B : Type 0} (f : A → Option B) (o : Option A) (y : B) → option_and_then f o ≡ Some y → (x : A) × (o ≡ Some x) × (f x ≡ Some y)
and_then_some f None y e = elim (none_is_some y e) [ ]
and_then_some f (Some x) y e = (x, refl, e)

pub map_some : {A B : Type 0} (f : A → B) (o : Option A) (y : B) → option_map f o ≡ Some y → (x : A) × (o ≡ Some x) × (f x ≡ y)
map_some f None y e = elim (none_is_some y e) [ ]
map_some f (Some x) y e = (x, refl, some_is (f x) y e)

pub both_none : {A : Type 0} (x y : Option A) → or_else x y ≡ None → (x ≡ None) × (y ≡ None)
both_none None y e = (refl, e)
both_none (Some x) y e = elim (none_is_some x (sym e)) [ ]

pub some_holds : {A : Type 0} (test : A → Bool) (o : Option A) → holds_for_some test o ≡ true → (x : A) × (o ≡ Some x) × (test x ≡ true)
some_holds test None e = elim (not_both false e refl) [ ]
some_holds test (Some x) e = (x, refl, e)

pub either_true : (a b : Bool) → a ≡ true → (not a || b) ≡ true → b ≡ true
either_true true b e f = f
either_true false b e f = elim (not_both false e refl) [ ]

-- ---- places in front

pub place_in_front : (s : List ℕ) (n : ℕ) (xs : List (List ℕ)) (k : ℕ) → place_of s (take n xs) ≡ Some k → (place_of s xs ≡ Some k) × (k < n)
place_in_front s zero xs k e = elim (none_is_some k e) [ ]
place_in_front s (suc n) [] k e = elim (none_is_some k e) [ ]
place_in_front s (suc n) (x ∷ xs) k e = go (bytes_eq s x) (λ j f. place_in_front s n xs j f) e
  where
    later : (j : ℕ) → suc j ≡ k → (place_of s xs ≡ Some j) × (j < n) → (option_map suc (place_of s xs) ≡ Some k) × (k < suc n)
    later j q h = (ap (option_map suc) h.0 ∙ ap Some q, let l : j < n = h.1 in omega (arith, l, q))

    first : 0 ≡ k → k < suc n
    first q = omega (arith, q)

    go : (b : Bool) → ((j : ℕ) → place_of s (take n xs) ≡ Some j → (place_of s xs ≡ Some j) × (j < n))
        → (if b then Some 0 else option_map suc (place_of s (take n xs))) ≡ Some k
        → ((if b then Some 0 else option_map suc (place_of s xs)) ≡ Some k) × (k < suc n)
    go true h e = (e, first (some_is 0 k e))
    go false h e = let found : (j : ℕ) × (place_of s (take n xs) ≡ Some j) × (suc j ≡ k) = map_some suc (place_of s (take n xs)) k e in later found.0 found.2 (h found.0 found.1)

pub get_of_front : {A : Type 0} (n : ℕ) (xs : List A) (k : ℕ) (x : A) → slice_get (take n xs) k ≡ Some x → slice_get xs k ≡ Some x
get_of_front zero xs k x e = elim (none_is_some x e) [ ]
get_of_front (suc n) [] k x e = elim (none_is_some x e) [ ]
get_of_front (suc n) (y ∷ xs) zero x e = e
get_of_front (suc n) (y ∷ xs) (suc k) x e = get_of_front n xs k x e

-- ---- kinds

-- a node that is read as a use says so
pub use_named : (names : List (List ℕ)) (scope : Scope) (d : Document) (u : ℕ) (arguments : List ℕ) → kind_of names scope d ≡ Uses u arguments
    → (text_at (codes "kind") d ≡ codes "use") × (unwrap_or (place_of (text_at (codes "template") d) names) 0 ≡ u)
    × (map (variable_of scope) (texts_in (list_at (codes "args") d)) ≡ arguments)
use_named names scope d u arguments e = go (bytes_eq (text_at (codes "kind") d) (codes "use")) refl e
  where
    v : ℕ
    v = unwrap_or (place_of (text_at (codes "template") d) names) 0

    vs : List ℕ
    vs = map (variable_of scope) (texts_in (list_at (codes "args") d))

    same_template : (x y : ℕ) (xs ys : List ℕ) → Uses x xs ≡ Uses y ys → x ≡ y
    same_template x y xs ys e = cc

    same_arguments : (x y : ℕ) (xs ys : List ℕ) → Uses x xs ≡ Uses y ys → xs ≡ ys
    same_arguments x y xs ys e = cc

    no_use : (k : NodeKind) → Plain k ≡ Uses u arguments → ⊥
    no_use k e = cc

    go : (b : Bool) → bytes_eq (text_at (codes "kind") d) (codes "use") ≡ b → (if b then Uses v vs else Plain (node_kind (text_at (codes "kind") d))) ≡ Uses u arguments
        → (text_at (codes "kind") d ≡ codes "use") × (v ≡ u) × (vs ≡ arguments)
    go true f e = (equal_texts (text_at (codes "kind") d) (codes "use") f, same_template v u vs arguments e, same_arguments v u vs arguments e)
    go false f e = elim (no_use (node_kind (text_at (codes "kind") d)) e) [ ]

module _ (m : Model) (templates : List Document) (i : ℕ) (template : Document) where
  abbrev c : NodeContext
  c = read_context m templates i template

  -- ---- what a node stands under

  something_under : (kind : KindWord) (o : Option Document) → stands_under_it kind o ≡ true → (u : Document) × (o ≡ Some u)
  something_under kind None e = elim (not_both false e refl) [ ]
  something_under kind (Some u) e = (u, refl)

  under_earlier : (j : ℕ) (d : Document) → stands_in_place c (suc j, d) ≡ true → (k : ℕ) × (above_of m templates i template d ≡ Some k) × (k < suc j)
  under_earlier j d e =
      let upper : (u : Document) × (node_above c (suc j, d) ≡ Some u) = something_under (kind_in d) (node_above c (suc j, d)) e in
      let number : (k : ℕ) × (number_above c (suc j, d) ≡ Some k) × (slice_get c.nodes k ≡ Some upper.0) = and_then_some (slice_get c.nodes) (number_above c (suc j, d)) upper.0 upper.1 in
      let word : (s : List ℕ) × (text_of_member (codes "under") d ≡ Some s) × (place_of s (take (suc j) c.ids) ≡ Some number.0) =
      and_then_some (λ s. place_of s (take (suc j) c.ids)) (text_of_member (codes "under") d) number.0 number.1 in
      let place : (place_of word.0 c.ids ≡ Some number.0) × (number.0 < suc j) = place_in_front word.0 (suc j) c.ids number.0 word.2 in
      (number.0, ap (option_and_then (λ s. place_of s c.ids)) word.1 ∙ place.0, place.1)

  pub above_is_earlier_in : (j : ℕ) (d : Document) → stands_in_place c (j, d) ≡ true → (k : ℕ) → above_of m templates i template d ≡ Some k → k < j
  above_is_earlier_in zero d e k f =
      elim (none_is_some k (sym (ap (λ o. option_and_then (λ s. place_of s c.ids) (option_and_then as_text o)) nothing_under) ∙ f)) [ ]
    where
      nothing_under : member_of (codes "under") d ≡ None
      nothing_under = absent (codes "under") d (both_true (is_goal (kind_in d)) (not (has (codes "under") d)) e).1
  above_is_earlier_in (suc j) d e k f =
      let found : (k : ℕ) × (above_of m templates i template d ≡ Some k) × (k < suc j) = under_earlier j d e in
      subst (λ k. k < suc j) (some_is found.0 k (sym found.1 ∙ f)) found.2

  -- ---- what a use names

  -- a use of an earlier template, whose parameters its arguments fit
  pub record IsUseOf (j : ℕ) (d : Document) (u : ℕ) : Type 0 where
    pub used : Document
    pub earlier : u < i
    pub at : slice_get templates u ≡ Some used
    pub fits : arguments_fit c j (texts_in (list_at (codes "args") d)) (list_at (codes "params") used) ≡ true

  pub use_is_of : (j : ℕ) (d : Document) → use_is_right c (j, d) ≡ true → (scope : Scope) (u : ℕ) (arguments : List ℕ)
      → kind_of (names_of m templates) scope d ≡ Uses u arguments → IsUseOf j d u
  use_is_of j d e scope u arguments f =
      let named = use_named (names_of m templates) scope d u arguments f in
      let fits = either_true (is_use (kind_in d)) _ (ap (λ s. is_use (kind_named s)) named.0) e in
      let name : List ℕ = text_at (codes "template") d in
      let test : Document → Bool = λ t. arguments_fit c j (texts_in (list_at (codes "args") d)) (list_at (codes "params") t) in
      let found : (v : Document) × (earlier_template c name ≡ Some v) × (test v ≡ true) = some_holds test (earlier_template c name) fits in
      let place : (k : ℕ) × (place_of name (map name_in c.earlier) ≡ Some k) × (slice_get c.earlier k ≡ Some found.0) =
      and_then_some (slice_get c.earlier) (place_of name (map name_in c.earlier)) found.0 found.1 in
      let front : (place_of name (map name_in templates) ≡ Some place.0) × (place.0 < i) =
      place_in_front name i (map name_in templates) place.0 (ap (place_of name) (take-map name_in i templates) ∙ place.1) in
      let same : place.0 ≡ u = sym (ap (λ o. unwrap_or o 0) front.0) ∙ named.1 in
      record {
        used = found.0;
        earlier = subst (λ k. k < i) same front.1;
        at = subst (λ k. slice_get templates k ≡ Some found.0) same (get_of_front i templates place.0 found.0 place.2);
        fits = found.2;
      }
