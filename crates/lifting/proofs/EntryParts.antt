-- Entries of one key: what of a product they stand for, and what passes the tests of findings.
use Rattle.std.proofs.Common.{◌≡◌, ◌≢◌, ℕ, suc, List, [], ◌∷◌, length, Bool, true, false, ◌||◌, Option, Some, None, refl, sym, ap, ◌∙◌, inl, inr}
use Rattle.std.specs.Prelude.{bytes_eq, option_map, Contains}
use Rattle.std.specs.List.{slice_get, list_any}
use Rattle.std.proofs.lemmas.Slice.Eq.{bytes_eq-Decides}
use Rattle.meaning.specs.Systems.{is_number}
use Rattle.meaning.specs.Templates.{Findings}
use Rattle.meaning.specs.Derivation.{Bundle}
use Rattle.meaning.specs.Tidy.{ValidWorld, instance_at, node_with_key, findings_at, is_tuple, same_tuple}
use Rattle.meaning.specs.Entries.{Entry, of_node, of_branch, of_target, of_witness, only, entries_of_node, entries_at}
use Rattle.meaning.proofs.CutTrees.{Each}
use Rattle.lifting.specs.Lifting.{Seen}
use Rattle.meaning.proofs.Pairs.{Pairwise}
use Rattle.meaning.proofs.Members.{Member, member_of_flat, contains_member}
use Rattle.lifting.proofs.TidyProducts.{find_member}
use Rattle.meaning.proofs.EqualityTests.{same_number, equal_numbers}

-- ---- what an entry is of

abbrev pub entry_key : Entry → List ℕ
entry_key (of_node key) = key
entry_key (of_branch key tuple) = key
entry_key (of_target key state) = key
entry_key (of_witness key tuple) = key

module _ (b : Bundle) where
  abbrev pub Occurs : Entry → Type 0
  Occurs e = (w : ValidWorld b) × Contains (entries_at b w.0) e

  -- the entries of one key, each once, and so many
  pub record EntriesOfKey (key : List ℕ) (number : ℕ) : Type 0 where
    pub list : List Entry
    pub keyed : Each (λ e. entry_key e ≡ key) list
    pub differ : Pairwise (λ d e. d ≢ e) list
    pub occur : Each Occurs list
    pub all : (w : ValidWorld b) (s : Seen) → node_with_key b w.0 key ≡ Some s → Each (λ e. Member e list) (entries_of_node s)
    pub count : length list ≡ number

  -- an entry that a node of a product has occurs
  pub occurs_at : (w : ValidWorld b) (key : List ℕ) (s : Seen) (e : Entry) → node_with_key b w.0 key ≡ Some s → Member e (entries_of_node s) → Occurs e
  occurs_at w key s e f m =
      (w, contains_member e (entries_at b w.0) (member_of_flat entries_of_node e s (instance_at b w.0).nodes (find_member (λ t. bytes_eq t.0.key key) (instance_at b w.0).nodes s f).0 m))

  pub key_is : (w : List Bool) (key : List ℕ) (s : Seen) → node_with_key b w key ≡ Some s → s.0.key ≡ key
  key_is w key s f = (bytes_eq-Decides s.0.key key).0 (find_member (λ t. bytes_eq t.0.key key) (instance_at b w).nodes s f).1

  -- a test that only findings pass is passed by those of a node that is found
  pub tells : (w : List Bool) (key : List ℕ) (test : Option Findings → Bool) → test None ≡ false → test (findings_at b w key) ≡ true
      → (s : Seen) × (node_with_key b w key ≡ Some s) × (test (Some s.1) ≡ true)
  tells w key test e f = go (node_with_key b w key) refl f
    where
      not_both : (c : Bool) → c ≡ false → c ≡ true → ⊥
      not_both c e f = cc

      go : (o : Option Seen) → node_with_key b w key ≡ o → test (option_map (λ s. s.1) o) ≡ true → (s : Seen) × (node_with_key b w key ≡ Some s) × (test (Some s.1) ≡ true)
      go None g h = elim (not_both (test None) e h) [ ]
      go (Some s) g h = (s, g, h)

  -- what is found passes a test as the findings do
  pub told : (w : List Bool) (key : List ℕ) (test : Option Findings → Bool) (s : Seen) → node_with_key b w key ≡ Some s → test (Some s.1) ≡ true → test (findings_at b w key) ≡ true
  told w key test s f h = ap (λ o. test (option_map (λ s. s.1) o)) f ∙ h

-- ---- conditions of values: each value occurs, and what occurs is a value

pub each_from_places : {A : Type 0} (P : A → Type 0) (xs : List A) → ((i : ℕ) (x : A) → slice_get xs i ≡ Some x → P x) → Each P xs
each_from_places P [] h = tt
each_from_places P (x ∷ xs) h = (h 0 x refl, each_from_places P xs (λ i y e. h (suc i) y e))

-- ---- the values of a node's findings

pub is_one_of : (t : List ℕ) (ts : List (List ℕ)) → list_any (same_tuple t) ts ≡ true → Member t ts
is_one_of t [] e = elim (no_true e) [ ]
  where
    no_true : false ≡ true → ⊥
    no_true e = cc
is_one_of t (u ∷ ts) e = go (same_tuple t u) refl e (is_one_of t ts)
  where
    go : (c : Bool) → same_tuple t u ≡ c → (c || list_any (same_tuple t) ts) ≡ true → (list_any (same_tuple t) ts ≡ true → Member t ts) → Member t (u ∷ ts)
    go true f g later = inl (sym ((bytes_eq-Decides t u).0 f))
    go false f g later = inr (later g)

pub any_of : (t : List ℕ) (ts : List (List ℕ)) → Member t ts → list_any (same_tuple t) ts ≡ true
any_of t [] m = elim m [ ]
any_of t (u ∷ ts) (inl e) = ap (λ c. c || list_any (same_tuple t) ts) ((bytes_eq-Decides t u).1 (sym e))
any_of t (u ∷ ts) (inr m) = ap (λ c. same_tuple t u || c) (any_of t ts m) ∙ or_true (same_tuple t u)
  where
    or_true : (c : Bool) → (c || true) ≡ true
    or_true true = refl
    or_true false = refl

pub is_last : (s : ℕ) (o : Option ℕ) → is_number s o ≡ true → Member s (only o)
is_last s None e = elim (no_true e) [ ]
  where
    no_true : false ≡ true → ⊥
    no_true e = cc
is_last s (Some t) e = inl (equal_numbers t s e)

pub last_is : (s : ℕ) (o : Option ℕ) → Member s (only o) → is_number s o ≡ true
last_is s None m = elim m [ ]
last_is s (Some t) (inl e) = same_number t s e
last_is s (Some t) (inr m) = elim m [ ]

pub is_first : (t : List ℕ) (o : Option (List ℕ)) → is_tuple t o ≡ true → Member t (only o)
is_first t None e = elim (no_true e) [ ]
  where
    no_true : false ≡ true → ⊥
    no_true e = cc
is_first t (Some u) e = inl (sym ((bytes_eq-Decides t u).0 e))

pub first_is : (t : List ℕ) (o : Option (List ℕ)) → Member t (only o) → is_tuple t o ≡ true
first_is t None m = elim m [ ]
first_is t (Some u) (inl e) = (bytes_eq-Decides t u).1 (sym e)
first_is t (Some u) (inr m) = elim m [ ]
