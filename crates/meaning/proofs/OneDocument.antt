-- Two cases of one bundle that read without a fault, are tidy and have their tables in order are one document.
use Rattle.std.proofs.Common.{◌≡◌, ℕ, List, ◌∷◌, length, Bool, true, false, refl, sym, ap, ◌∙◌, subst}
use Rattle.meaning.specs.Features.{is_valid}
use Rattle.meaning.specs.CaseFiles.{CaseDocument, holds}
use Rattle.meaning.specs.TableOrder.{conditions_of, IsTableInOrder, walk_order}
use Rattle.meaning.specs.Derivation.{Bundle}
use Rattle.meaning.specs.Tidy.{Tidy}
use Rattle.meaning.proofs.CutTrees.{Each}
use Rattle.meaning.proofs.Members.{contains_member}
use Rattle.meaning.proofs.Lists.{each_two, each_of_all}
use Rattle.meaning.proofs.EachMembers.{each_by}
use Rattle.meaning.proofs.Members.{Member, each_from_members}
use Rattle.meaning.proofs.TableValues.{holds_value}
use Rattle.meaning.proofs.ReducedTables.{IsReduced, IsWithin, Alike}
use Rattle.meaning.proofs.WalkedTables.{Pair, AreOne, walked_tables_are_one}
use Rattle.meaning.proofs.ReadCases.{IsRead, table_is_reduced, valid_is_there, conditions_are_there}
use Rattle.meaning.proofs.LikeDocuments.{DocumentLike, like_conditions, like_documents, documents_equal}
use Rattle.meaning.proofs.TidySights.{HasProperNames}
use Rattle.meaning.proofs.TwinNodes.{AgreeWhereValid}
use Rattle.meaning.proofs.TwinDocuments.{documents_like}

-- ---- conditions at the worlds that are not valid

-- an identifier that is there and holds at no world that is not valid
pub record IsCondition (b : Bundle) (k : CaseDocument) (id : ℕ) : Type 0 where
  pub within : IsWithin k.table id
  pub nowhere_else : (w : List Bool) → length w ≡ length k.features → is_valid b.line w ≡ false → holds k w id ≡ false

pub conditions_hold : (b : Bundle) (k : CaseDocument) → Tidy k b → IsRead k → Each (IsCondition b k) (conditions_of k)
conditions_hold b k tidy read =
    each_by (λ id. IsWithin k.table id × Member id (conditions_of k)) (IsCondition b k)
    (λ id h. record { within = h.0; nowhere_else = λ w l e. tidy.nowhere_else id (contains_member id (conditions_of k) h.1) w l e })
    (conditions_of k) (each_two (λ id. IsWithin k.table id) (λ id. Member id (conditions_of k)) (conditions_of k) (conditions_are_there k read) (each_from_members _ (conditions_of k) (λ id m. m)))

pub valid_holds : (b : Bundle) (k : CaseDocument) → Tidy k b → IsRead k → IsCondition b k k.valid
valid_holds b k tidy read = record { within = valid_is_there k read; nowhere_else = λ w l e. tidy.valid w l ∙ e }

module _ (b : Bundle) (proper : HasProperNames b) (k o : CaseDocument) (first : Tidy k b) (second : Tidy o b) (read : IsRead k) (other_read : IsRead o)
    (walk : IsTableInOrder k) (other_walk : IsTableInOrder o) where
  same_features : length o.features ≡ length k.features
  same_features = ap length (second.features ∙ sym first.features)

  reduced : IsReduced (length k.features) k.table
  reduced = table_is_reduced k read

  other_reduced : IsReduced (length k.features) o.table
  other_reduced = subst (λ n. IsReduced n o.table) same_features (table_is_reduced o other_read)

  Partners : ℕ → ℕ → Type 0
  Partners i j = Pair (length k.features) k.table o.table reduced other_reduced i j

  -- conditions that hold at the same valid worlds have one function
  partners : (i j : ℕ) → IsCondition b k i → IsCondition b o j → AgreeWhereValid b k o i j → Partners i j
  unfolding Partners
  partners i j p q h = record { within = p.within; there = q.within; alike = alike }
    where
      at : (w : List Bool) → length w ≡ length k.features → (v : Bool) → is_valid b.line w ≡ v → holds k w i ≡ holds o w j
      at w l true e = h w e
      at w l false e = p.nowhere_else w l e ∙ sym (q.nowhere_else w (l ∙ sym same_features) e)

      alike : Alike (length k.features) k.table o.table i j
      alike w l = sym (holds_value k w i) ∙ at w l (is_valid b.line w) refl ∙ holds_value o w j

  like : DocumentLike Partners k o
  like =
      like_documents (IsCondition b k) (IsCondition b o) (AgreeWhereValid b k o) Partners partners k o (valid_holds b k first read) (valid_holds b o second other_read)
      (conditions_hold b k first read) (conditions_hold b o second other_read) (documents_like b proper k o first second read other_read)

  tables : AreOne (length k.features) k.table o.table reduced other_reduced
  unfolding Partners walk_order
  tables =
      walked_tables_are_one (length k.features) k.table o.table reduced other_reduced (k.valid ∷ conditions_of k) (o.valid ∷ conditions_of o)
      (like.valid, like_conditions Partners k o like) walk other_walk

  -- the two are one
  pub one_document : k ≡ o
  unfolding Partners
  one_document =
      documents_equal k o
      (like_documents (λ id. Unit {0}) (λ id. Unit {0}) Partners (λ i j. i ≡ j) (λ i j p q h. tables.identifiers i j h) k o tt tt
      (each_of_all _ (λ id. tt) (conditions_of k)) (each_of_all _ (λ id. tt) (conditions_of o)) like) tables.tables
