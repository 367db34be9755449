-- The keys of a cut are keys of the case.
use Rattle.std.proofs.Common.{List, [], ◌∷◌, map, Bool, refl, arith}
use Rattle.std.specs.Prelude.{filter, Contains}
use Rattle.meaning.specs.CaseFiles.{CaseNode, CaseDocument, holds, cut, node_at_world}
use Rattle.meaning.proofs.CutTrees.{Each}
use Rattle.meaning.proofs.EachMembers.{each_by, each_filtered, each_mapped, member_later}

own_keys : (ns : List CaseNode) → Each (λ n. Contains (map (λ m. m.key) ns) n.key) ns
own_keys [] = tt
own_keys (n ∷ ns) = (
  (0, omega arith, refl),
  each_by (λ m. Contains (map (λ m. m.key) ns) m.key) (λ m. Contains (n.key ∷ map (λ m. m.key) ns) m.key) (λ m c. member_later n.key (map (λ m. m.key) ns) m.key c) ns (own_keys ns),
)

pub cut_keys : (k : CaseDocument) (w : List Bool) → Each (λ n. Contains (map (λ m. m.key) k.nodes) n.key) (cut k w).nodes
unfolding cut
cut_keys k w =
    each_mapped (λ n. Contains (map (λ m. m.key) k.nodes) n.key) (node_at_world k w) (filter (λ n. holds k w n.presence) k.nodes)
    (each_filtered (λ n. Contains (map (λ m. m.key) k.nodes) n.key) (λ n. holds k w n.presence) k.nodes (own_keys k.nodes))
