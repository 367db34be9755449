-- The identifiers of a case's conditions, found by the conditions' numbers.
use Rattle.std.proofs.Common.{◌≡◌, ℕ, List, length, get_or, arith, sym, ap, ◌∙◌}
use Rattle.meaning.specs.Cofactors.{World}
use Rattle.node_pool.specs.declared.node.NodeNo.{NodeNo}
use Rattle.node_pool.specs.Regions.{Region}
use Rattle.node_pool.specs.Functions.{function_of}
use Rattle.node_pool.proofs.Canonical.{canonical}
use Rattle.conditions.specs.Tables.{Contents, IsNamed, IsExported, nodes_of}
use Rattle.conditions.proofs.Leaving.{row_count}
use Rattle.lifted_case.specs.CaseIds.{NamesAlike}

-- the identifiers of a table that keeps its rules are those of their functions, so a condition has one
pub NamesAlike-exported : (r : Region) (roots : List NodeNo) (t : Contents) (found : List ℕ) → IsExported r roots t found → NamesAlike roots found
NamesAlike-exported r roots t found exported = λ j k j_in k_in same.
    let count : length found ≡ length roots = exported.named.as_many in
    let a : IsNamed r t.rows (get_or roots j (record { 0 = 0 })) (get_or found j 0) = exported.named.each j (omega arith) in
    let b : IsNamed r t.rows (get_or roots k (record { 0 = 0 })) (get_or found k 0) = exported.named.each k (omega arith) in
    canonical t.features (nodes_of t.rows) (get_or found j 0) (get_or found k 0) exported.rules (omega (arith, a.there, row_count t.rows)) (omega (arith, b.there, row_count t.rows))
    (λ (w : World). a.function w ∙ ap (λ n. function_of r n w) same ∙ sym (b.function w))
