-- What is broken at an item of a line, in words of the names that stand before it.
use Rattle.std.specs.Prelude.{◌≡◌, ℕ, ◌<◌, List, [], ◌∷◌, ◌++◌, length, map, Bool, not, ◌&&◌, ◌==◌, if◌then◌else◌, Option, Some, None, codes}
use Rattle.meaning.specs.Texts.{is_name, place_of}
use Rattle.meaning.specs.Expressions.{Name, Not, Both, Implies}
use Rattle.meaning.specs.Features.{constraint_of, constraint_from, text_member}
use Rattle.meaning.specs.Documents.{Document, text_at, list_at}
use Rattle.meaning.specs.BundlePlaces.{BundleFault, Features, Rules, Broken, requires, where_formed, faults_at, faults_of_items, is_list_value, may_have, has, is_among, if_some, name_in, text_of_member, member_within}
use Rattle.meaning.specs.LineRules.{is_within, feature_has_form, is_group_word, feature_rules, has_features, line_rule_has_form, line_rule_rules}
use Rattle.doc_tree.specs.Places.{fault_of}
use Rattle.feature_model.specs.declared.rules.Claim.{Claim}
use Rattle.feature_model.specs.declared.rules.Claim.TheVariants.{Requires, Excludes, Holds}
use Rattle.feature_model.specs.declared.read.LineStop.{LineStop}
use Rattle.feature_model.specs.declared.read.LineStop.TheVariants.{Fault, NoMemory}

-- the stop is this fault; want of memory tells nothing of the document
abbrev pub TellsFault : LineStop → Option BundleFault → Type 0
TellsFault (Fault f) first = first ≡ Some (fault_of f)
TellsFault NoMemory first = Unit {0}

-- ---- features

abbrev pub form_at : List (List ℕ) → ℕ → Document → List Broken
form_at before i d =
    requires 2 (feature_has_form d) ++ requires 3 (is_name (name_in d)) ++ requires 5 (not (is_among before (name_in d)))
    ++ requires 6 (is_within 256 i)

-- the first feature has no parent, and every other one has one of those before it
abbrev pub has_its_parent : List (List ℕ) → ℕ → Document → Bool
has_its_parent before i d =
    if i == 0 then not (has (codes "parent") d) else (has (codes "parent") d && is_among before (text_at (codes "parent") d))

-- the first feature has no kind, and every other one's is one of the four, if it is there
abbrev pub has_its_kind : ℕ → Document → Bool
has_its_kind i d = if i == 0 then not (has (codes "kind") d) else if_some is_group_word (text_of_member (codes "kind") d)

abbrev pub rules_at : List (List ℕ) → ℕ → Document → List Broken
rules_at before i d = where_formed (form_at before i d) (requires 8 (has_its_parent before i d) ++ requires 9 (has_its_kind i d))

-- ---- rules of the line

abbrev pub rule_form_at : ℕ → Document → List Broken
rule_form_at i d = requires 2 (line_rule_has_form d) ++ requires 4 (member_within 4096 (codes "holds") d) ++ requires 6 (is_within 1024 i)

-- the places of the two names, if there are two and both are known
abbrev pub both_places : Option ℕ → Option ℕ → Option (ℕ × ℕ)
both_places (Some a) (Some b) = Some (a, b)
both_places _ _ = None

abbrev pub two_places : List (List ℕ) → List (List ℕ) → Option (ℕ × ℕ)
two_places names (a ∷ b ∷ []) = both_places (place_of a names) (place_of b names)
two_places names _ = None

-- what is told is the constraint, and there is no expression but in `holds`
abbrev pub IsClaimed : List (List ℕ) → Document → Claim → Type 0
IsClaimed names d (Requires a b) =
    (constraint_of names d ≡ Implies (Name a) (Name b)) × (a < length names) × (b < length names) × (text_of_member (codes "holds") d ≡ None)
IsClaimed names d (Excludes a b) =
    (constraint_of names d ≡ Not (Both (Name a) (Name b))) × (a < length names) × (b < length names) × (text_of_member (codes "holds") d ≡ None)
IsClaimed names d Holds = constraint_of names d ≡ constraint_from names None None (text_member (codes "holds") d)

-- ---- the table `line`

abbrev pub names_told : Document → List (List ℕ)
names_told t = map name_in (list_at (codes "features") t)

abbrev pub features_broken : Document → List BundleFault
features_broken t =
    faults_at Features 0 0 (requires 2 (has_features t)) ++ faults_of_items Features (feature_rules (names_told t)) (list_at (codes "features") t)

abbrev pub rules_broken : Document → List BundleFault
rules_broken t =
    faults_at Rules 0 0 (requires 2 (may_have is_list_value (codes "rules") t))
    ++ faults_of_items Rules (line_rule_rules (names_told t)) (list_at (codes "rules") t)
