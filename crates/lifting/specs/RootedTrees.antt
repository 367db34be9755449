-- The shape of a tree whose nodes have keys: one relation to each node but the first, from the node that its key names.
use Rattle.std.specs.Prelude.{◌≡◌, ℕ, List, [], ◌∷◌, map, length, None, Some, pred, ⊤}
use Rattle.std.specs.List.{slice_get}
use Rattle.meaning.specs.Texts.{numbers_from}
use Rattle.meaning.specs.Tidy.{Among, key_above}
use Rattle.meaning.proofs.CutTrees.{Tree, Each, IsWithin, nodes_of}

module _ {A : Type 0} (key : A → List ℕ) where
  -- a node's key, by its number
  abbrev pub key_at : List A → ℕ → List ℕ
  key_at ns i = elim (slice_get ns i) as (λ _. List ℕ) [ None ↦ [] | Some n ↦ key n ]

  pub record IsRooted (t : Tree A) : Type 0 where
    pub within : Each (IsWithin (length t.nodes)) t.relations
    pub targets : map (λ r. r.target) t.relations ≡ numbers_from 1 (pred (length t.nodes))
    pub above : Each (λ r. key_at t.nodes r.source ≡ key_above (key_at t.nodes r.target)) t.relations

  -- the first node's key, where there is one, names this key as the one above
  abbrev pub HangsUnder : List ℕ → List A → Type 0
  HangsUnder upper [] = ⊤
  HangsUnder upper (n ∷ ns) = upper ≡ key_above (key n)

  -- the first node has this key, where there is one
  abbrev pub BeginsAt : List ℕ → List A → Type 0
  BeginsAt own [] = ⊤
  BeginsAt own (n ∷ ns) = key n ≡ own

  -- the nodes' keys are some of these, in order
  abbrev pub IsKeyed : Tree A → List (List ℕ) → Type 0
  IsKeyed t keys = Among (map key t.nodes) keys

  abbrev pub AreKeyed : List (Tree A) → List (List ℕ) → Type 0
  AreKeyed ts keys = Among (map key (nodes_of ts)) keys
