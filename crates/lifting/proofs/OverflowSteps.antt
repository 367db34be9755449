-- Entries that occur, and how many: at more instances, at later moments, and side by side.
use Rattle.std.proofs.Common.{◌≡◌, ◌≢◌, ℕ, ◌+◌, ◌<◌, List, [], ◌∷◌, ◌++◌, map, Bool, true, refl, sym, ◌∙◌, subst, arith, inl, inr}
use Rattle.std.proofs.lemmas.List.{map-append}
use Rattle.worlds.specs.Algebra.{Algebra, Kept}
use Rattle.meaning.specs.Templates.{Instance}
use Rattle.meaning.specs.Tidy.{Among, none, taken, passed}
use Rattle.meaning.proofs.CutTrees.{Each}
use Rattle.meaning.proofs.EachMembers.{each_by}
use Rattle.lifting.specs.Lifting.{Seen}
use Rattle.lifting.specs.Overflows.{Group, count_of_groups, KeyOccurs, TupleOccurs, Overflows}
use Rattle.meaning.proofs.Pairs.{Pairwise}
use Rattle.meaning.proofs.Members.{Member, member_front, member_behind}
use Rattle.meaning.proofs.Lists.{each_append}
use Rattle.lifting.proofs.AmongLists.{among_nothing, among_itself, among_append, among_both}

-- a node of one of these instances
abbrev pub StandsIn : List Instance → Seen → Type 0
StandsIn is s = (i : Instance) × Member i is × Member s i.nodes

pub among_member : {A : Type 0} (x : A) {xs ys : List A} → Among xs ys → Member x xs → Member x ys
among_member x none m = m
among_member x (taken a) (inl e) = inl e
among_member x (taken a) (inr m) = inr (among_member x a m)
among_member x (passed a) m = inr (among_member x a m)

pub stands_among : {is js : List Instance} → Among is js → (s : Seen) → StandsIn is s → StandsIn js s
stands_among a s h = (h.0, among_member h.0 a h.1, h.2)

pub counts_both : (gs hs : List Group) → count_of_groups (gs ++ hs) ≡ count_of_groups gs + count_of_groups hs
counts_both [] hs = omega arith
counts_both (g ∷ gs) hs = omega (arith, counts_both gs hs)

-- so many entries occur, at keys that are some of these in order
pub record HasEntries {C : Type 0} (a : Algebra C) (instances : List Bool → List Instance) (keys : List (List ℕ)) (number : ℕ) : Type 0 where
  pub groups : List Group
  pub keyed : Among (map (λ g. g.0) groups) keys
  pub once : Each (λ g. Pairwise (λ t u. t ≢ u) g.1) groups
  pub keys_occur : Each (λ g. KeyOccurs a instances g.0) groups
  pub tuples_occur : Each (λ g. Each (TupleOccurs a instances g.0) g.1) groups
  pub counts : count_of_groups groups ≡ number

-- these entries take the room down to what is left
pub record Fills {C : Type 0} (a : Algebra C) (instances : List Bool → List Instance) (keys : List (List ℕ)) (room left : ℕ) : Type 0 where
  pub number : ℕ
  pub has : HasEntries a instances keys number
  pub counted : left + number ≡ room

-- ---- at more instances, and at a moment with the same worlds

module _ {C : Type 0} (a b : Algebra C) (is js : List Bool → List Instance) (worlds : (x : List Bool) → a.is_world x ≡ true → b.is_world x ≡ true)
    (within : (x : List Bool) → a.is_world x ≡ true → (s : Seen) → StandsIn (is x) s → StandsIn (js x) s) where
  abbrev pub key_occurs_in : (key : List ℕ) → KeyOccurs a is key → KeyOccurs b js key
  key_occurs_in key h = record {
    world = h.world;
    is_world = worlds h.world h.is_world;
    instance = (within h.world h.is_world h.node (h.instance, h.of_world, h.stands)).0;
    of_world = (within h.world h.is_world h.node (h.instance, h.of_world, h.stands)).1;
    node = h.node;
    stands = (within h.world h.is_world h.node (h.instance, h.of_world, h.stands)).2;
    key = h.key;
  }

  pub tuple_occurs_in : (key tuple : List ℕ) → TupleOccurs a is key tuple → TupleOccurs b js key tuple
  tuple_occurs_in key tuple h = record { occurs = key_occurs_in key h.occurs; branch = h.branch }

  keys_occur_in : (gs : List Group) → Each (λ g. KeyOccurs a is g.0) gs → Each (λ g. KeyOccurs b js g.0) gs
  keys_occur_in gs h = each_by (λ g. KeyOccurs a is g.0) (λ g. KeyOccurs b js g.0) (λ g o. key_occurs_in g.0 o) gs h

  tuples_occur_in : (gs : List Group) → Each (λ g. Each (TupleOccurs a is g.0) g.1) gs → Each (λ g. Each (TupleOccurs b js g.0) g.1) gs
  tuples_occur_in gs h =
      each_by (λ g. Each (TupleOccurs a is g.0) g.1) (λ g. Each (TupleOccurs b js g.0) g.1)
      (λ g o. each_by (TupleOccurs a is g.0) (TupleOccurs b js g.0) (λ t i. tuple_occurs_in g.0 t i) g.1 o) gs h

  pub has_in : (keys others : List (List ℕ)) (number : ℕ) → Among keys others → HasEntries a is keys number → HasEntries b js others number
  has_in keys others number among h = record {
    groups = h.groups;
    keyed = among_both among h.keyed;
    once = h.once;
    keys_occur = keys_occur_in h.groups h.keys_occur;
    tuples_occur = tuples_occur_in h.groups h.tuples_occur;
    counts = h.counts;
  }

  pub fills_in : (keys others : List (List ℕ)) (room left : ℕ) → Among keys others → Fills a is keys room left → Fills b js others room left
  fills_in keys others room left among h = record { number = h.number; has = has_in keys others h.number among h.has; counted = h.counted }

  pub overflows_in : (keys others : List (List ℕ)) (room : ℕ) → Among keys others → Overflows a is keys room → Overflows b js others room
  overflows_in keys others room among h = record {
    groups = h.groups;
    keyed = among_both among h.keyed;
    once = h.once;
    keys_occur = keys_occur_in h.groups h.keys_occur;
    tuples_occur = tuples_occur_in h.groups h.tuples_occur;
    many = h.many;
  }

module _ {C : Type 0} where
  -- ---- entries and room

  pub has_none : (a : Algebra C) (is : List Bool → List Instance) (keys : List (List ℕ)) → HasEntries a is keys 0
  has_none a is keys = record { groups = []; keyed = among_nothing keys; once = tt; keys_occur = tt; tuples_occur = tt; counts = refl }

  pub has_then : (a : Algebra C) (is js : List Bool → List Instance) (keys others : List (List ℕ)) (m n : ℕ)
      → HasEntries a is keys m → HasEntries a js others n → HasEntries a (λ x. is x ++ js x) (keys ++ others) (m + n)
  has_then a is js keys others m n h g = record {
    groups = h.groups ++ g.groups;
    keyed = subst (λ ks. Among ks (keys ++ others)) (sym (map-append (λ g. g.0) h.groups g.groups)) (among_append g.keyed h.keyed);
    once = each_append (λ g. Pairwise (λ t u. t ≢ u) g.1) h.groups g.groups h.once g.once;
    keys_occur = each_append (λ g. KeyOccurs a (λ x. is x ++ js x) g.0) h.groups g.groups
        (keys_occur_in a a is (λ x. is x ++ js x) (λ x w. w) front h.groups h.keys_occur) (keys_occur_in a a js (λ x. is x ++ js x) (λ x w. w) behind g.groups g.keys_occur);
    tuples_occur = each_append (λ g. Each (TupleOccurs a (λ x. is x ++ js x) g.0) g.1) h.groups g.groups
        (tuples_occur_in a a is (λ x. is x ++ js x) (λ x w. w) front h.groups h.tuples_occur) (tuples_occur_in a a js (λ x. is x ++ js x) (λ x w. w) behind g.groups g.tuples_occur);
    counts = omega (arith, counts_both h.groups g.groups, h.counts, g.counts);
  }
    where
      front : (x : List Bool) → a.is_world x ≡ true → (s : Seen) → StandsIn (is x) s → StandsIn (is x ++ js x) s
      front x w s i = (i.0, member_front i.0 (is x) (js x) i.1, i.2)

      behind : (x : List Bool) → a.is_world x ≡ true → (s : Seen) → StandsIn (js x) s → StandsIn (is x ++ js x) s
      behind x w s i = (i.0, member_behind i.0 (is x) (js x) i.1, i.2)

  pub overflows_of : (a : Algebra C) (is : List Bool → List Instance) (keys : List (List ℕ)) (number room : ℕ) → HasEntries a is keys number → room < number → Overflows a is keys room
  overflows_of a is keys number room h l = record {
    groups = h.groups;
    keyed = h.keyed;
    once = h.once;
    keys_occur = h.keys_occur;
    tuples_occur = h.tuples_occur;
    many = omega (arith, h.counts, l);
  }

  pub has_of_overflow : (a : Algebra C) (is : List Bool → List Instance) (keys : List (List ℕ)) (room : ℕ) (h : Overflows a is keys room) → HasEntries a is keys (count_of_groups h.groups)
  has_of_overflow a is keys room h = record {
    groups = h.groups;
    keyed = h.keyed;
    once = h.once;
    keys_occur = h.keys_occur;
    tuples_occur = h.tuples_occur;
    counts = refl;
  }

  pub fills_nothing : (a : Algebra C) (is : List Bool → List Instance) (keys : List (List ℕ)) (room : ℕ) → Fills a is keys room room
  fills_nothing a is keys room = record { number = 0; has = has_none a is keys; counted = omega arith }

  pub fills_then : (a : Algebra C) (is js : List Bool → List Instance) (keys others : List (List ℕ)) (room middle left : ℕ)
      → Fills a is keys room middle → Fills a js others middle left → Fills a (λ x. is x ++ js x) (keys ++ others) room left
  fills_then a is js keys others room middle left h g = record {
    number = h.number + g.number;
    has = has_then a is js keys others h.number g.number h.has g.has;
    counted = omega (arith, h.counted, g.counted);
  }

  -- what fills the room leaves less, and more than that is too many
  pub overflows_then : (a : Algebra C) (is js : List Bool → List Instance) (keys others : List (List ℕ)) (room left : ℕ)
      → Fills a is keys room left → Overflows a js others left → Overflows a (λ x. is x ++ js x) (keys ++ others) room
  overflows_then a is js keys others room left h g =
      overflows_of a (λ x. is x ++ js x) (keys ++ others) (h.number + count_of_groups g.groups) room
      (has_then a is js keys others h.number (count_of_groups g.groups) h.has (has_of_overflow a js others left g))
      (omega (arith, h.counted, g.many))

  -- ---- later, and as other instances

  pub fills_later : {a b : Algebra C} (is : List Bool → List Instance) (keys : List (List ℕ)) (room left : ℕ) → Kept a b → Fills a is keys room left → Fills b is keys room left
  fills_later {a} {b} is keys room left k h =
      fills_in a b is is (λ x w. k.worlds x ∙ w) (λ x w s i. i) keys keys room left (among_itself keys) h

  -- of some of the instances and keys, in order
  pub overflows_of_some : (a : Algebra C) (is js : List Bool → List Instance) (keys others : List (List ℕ)) (room : ℕ)
      → ((x : List Bool) → a.is_world x ≡ true → Among (is x) (js x)) → Among keys others → Overflows a is keys room → Overflows a js others room
  overflows_of_some a is js keys others room within among h = overflows_in a a is js (λ x w. w) (λ x w s i. stands_among (within x w) s i) keys others room among h

  pub overflows_as : (a : Algebra C) (is js : List Bool → List Instance) (keys others : List (List ℕ)) (room : ℕ)
      → ((x : List Bool) → a.is_world x ≡ true → is x ≡ js x) → keys ≡ others → Overflows a is keys room → Overflows a js others room
  overflows_as a is js keys others room same e h =
      overflows_in a a is js (λ x w. w) (λ x w s i. subst (λ js. StandsIn js s) (same x w) i) keys others room (subst (Among keys) e (among_itself keys)) h

  pub fills_as : (a : Algebra C) (is js : List Bool → List Instance) (keys others : List (List ℕ)) (room left : ℕ)
      → ((x : List Bool) → a.is_world x ≡ true → is x ≡ js x) → keys ≡ others → Fills a is keys room left → Fills a js others room left
  fills_as a is js keys others room left same e h =
      fills_in a a is js (λ x w. w) (λ x w s i. subst (λ js. StandsIn js s) (same x w) i) keys others room left (subst (Among keys) e (among_itself keys)) h
