-- Names that are names and new are no bad names.
use Rattle.std.proofs.Common.{◌≡◌, refl, sym, ◌∙◌, ℕ, List, [], ◌∷◌, map, take, Bool, true, false, not, ◌&&◌, ◌||◌}
use Rattle.std.specs.Prelude.{bytes_eq}
use Rattle.std.specs.List.{list_all, list_any, filter}
use Rattle.meaning.specs.Texts.{numbered, is_name}
use Rattle.meaning.specs.CaseReading.{bad_names}
use Rattle.meaning.specs.BundlePlaces.{are_new}
use Rattle.meaning.specs.ModelRules.{is_new_name}
use Rattle.meaning.proofs.EmptyLists.{both_true, all_true, all_of_both, all_same, all_numbered}
use Rattle.meaning.proofs.NewNames.{new_names}

none_of_them : {A : Type 0} (fails : ℕ × A → Bool) (xs : List (ℕ × A)) → list_all (λ x. not (fails x)) xs ≡ true → map (λ x. x.0) (filter fails xs) ≡ []
none_of_them fails [] e = refl
none_of_them fails (x ∷ xs) e =
    let parts = both_true (not (fails x)) (list_all (λ x. not (fails x)) xs) e in rw (is_false (fails x) parts.0) (none_of_them fails xs parts.1)
  where
    is_false : (b : Bool) → not b ≡ true → b ≡ false
    is_false true e = sym e
    is_false false e = refl

pub proper_names : (ss : List (List ℕ)) → list_all is_name ss ≡ true → are_new [] ss ≡ true → bad_names ss ≡ []
proper_names ss named new =
    none_of_them (λ x. not (is_name x.1) || list_any (bytes_eq x.1) (take x.0 ss)) (numbered ss)
    (all_same (λ x. not (not (is_name x.1) || list_any (bytes_eq x.1) (take x.0 ss))) (λ x. is_name x.1 && is_new_name ss x.0 x.1)
    (λ x. go (is_name x.1) (list_any (bytes_eq x.1) (take x.0 ss))) (numbered ss)
    ∙ all_of_both (λ x. is_name x.1) (λ x. is_new_name ss x.0 x.1) (numbered ss)
    ∙ all_true _ _ (all_numbered is_name 0 ss ∙ named) (new_names ss ∙ new))
  where
    go : (a b : Bool) → not (not a || b) ≡ (a && not b)
    go true b = refl
    go false b = refl
