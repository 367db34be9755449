-- A newline after a printed text changes nothing of what is read.
use Rattle.std.proofs.Common.{◌≡◌, ℕ, Bool, true, false, cond, ◌&&◌, List, [], ◌∷◌, ◌++◌, refl, sym, ap, ap₂, ◌∙◌, append_assoc, append-nil, Option, Some, option_and_then, subst, IsUtf8}
use Rattle.std.specs.Str.{is_utf8, chars}
use lib.Utf8.{encode}
use Rattle.std.proofs.lemmas.Str.{IsUtf8-append, IsUtf8-from_is_utf8}
use Rattle.json.specs.Token.{Token, begin_object, end_object, begin_array, end_array, key, string, number, boolean, null, bad}
use Rattle.json.specs.Word.{ends_word, word}
use Rattle.json.specs.Lex.{token, comma, colon, string_token, lex, between, fresh, punctuate, tokens}
use Rattle.json.specs.Print.{escape, quoted, token_text, ends, begins, separator, print_from, print, IsPrintable, ArePrintable, ArePrintableOrBad}
use Rattle.json.specs.Json as grammar
use Rattle.json.specs.Tree.{json_tokens, items_tokens, members_tokens, HasNumbers, ItemsHaveNumbers, MembersHaveNumbers}
use Rattle.json.proofs.Numbered.{ArePrintableOrBad-tokens}
use Rattle.json.proofs.Printed.Trees.{ArePrintable-json_tokens}
use Rattle.json.proofs.Printed.Strings.{content-escape, lex-escape}
use Rattle.json.proofs.Printed.Numbers.{lex-number, in_word-ended}
use Rattle.json.specs.Json.{value, if_last}
use Rattle.serde_json.specs.Data.{Data}
use Rattle.serde_json.specs.Read.{read, of_json, max_depth}
use Rattle.serde_json.specs.Written.{IsInOrder}
use Rattle.meaning.specs.Cases.{newline}
use Rattle.meaning.specs.Documents as meaning
use Rattle.meaning.specs.Documents.{document_of}
use Rattle.doc_tree.proofs.Reading.{document_of-read}

lex_quoted : (s r : List ℕ) → lex between (quoted s ++ r) ≡ token (string s) ∷ lex between r
unfolding lex
lex_quoted s r =
    ap (λ l. lex between (34 ∷ l)) (append_assoc (escape s) (34 ∷ []) r)
    ∙ ap₂ (λ o l. token (string_token o) ∷ l) (content-escape s r) (lex-escape s r)

-- a token reads alike before texts that read alike
one_token : (t : Token) (r u : List ℕ) → IsPrintable t → (ends t ≡ true → ends_word r ≡ true) → (ends t ≡ true → ends_word u ≡ true)
    → lex between r ≡ lex between u → lex between (token_text t ++ r) ≡ lex between (token_text t ++ u)
unfolding lex word
one_token begin_object r u h p q e = ap (λ l. token begin_object ∷ l) e
one_token end_object r u h p q e = ap (λ l. token end_object ∷ l) e
one_token begin_array r u h p q e = ap (λ l. token begin_array ∷ l) e
one_token end_array r u h p q e = ap (λ l. token end_array ∷ l) e
one_token (key s) r u h p q e =
    ap (lex between) (append_assoc (quoted s) (58 ∷ []) r) ∙ lex_quoted s (58 ∷ r)
    ∙ ap (λ l. token (string s) ∷ colon ∷ l) e
    ∙ sym (ap (lex between) (append_assoc (quoted s) (58 ∷ []) u) ∙ lex_quoted s (58 ∷ u))
one_token (string s) r u h p q e = lex_quoted s r ∙ ap (λ l. token (string s) ∷ l) e ∙ sym (lex_quoted s u)
one_token (number s) r u h p q e = lex-number s r h (p refl) ∙ ap (λ l. token (number s) ∷ l) e ∙ sym (lex-number s u h (q refl))
one_token (boolean true) r u h p q e =
    ap₂ (λ b l. token (cond b (boolean true) bad) ∷ l) (p refl) (in_word-ended r (p refl))
    ∙ ap (λ l. token (boolean true) ∷ l) e
    ∙ sym (ap₂ (λ b l. token (cond b (boolean true) bad) ∷ l) (q refl) (in_word-ended u (q refl)))
one_token (boolean false) r u h p q e =
    ap₂ (λ b l. token (cond b (boolean false) bad) ∷ l) (p refl) (in_word-ended r (p refl))
    ∙ ap (λ l. token (boolean false) ∷ l) e
    ∙ sym (ap₂ (λ b l. token (cond b (boolean false) bad) ∷ l) (q refl) (in_word-ended u (q refl)))
one_token null r u h p q e =
    ap₂ (λ b l. token (cond b null bad) ∷ l) (p refl) (in_word-ended r (p refl))
    ∙ ap (λ l. token null ∷ l) e
    ∙ sym (ap₂ (λ b l. token (cond b null bad) ∷ l) (q refl) (in_word-ended u (q refl)))
one_token bad r u h p q e = absurd h

-- after a value stands a comma, a closing bracket or nothing, and then the newline
value_ends : (ts : List Token) → ends_word (print_from true ts) ≡ true
unfolding print_from
value_ends [] = refl
value_ends (begin_object ∷ ts) = refl
value_ends (end_object ∷ ts) = refl
value_ends (begin_array ∷ ts) = refl
value_ends (end_array ∷ ts) = refl
value_ends (key s ∷ ts) = refl
value_ends (string s ∷ ts) = refl
value_ends (number s ∷ ts) = refl
value_ends (boolean b ∷ ts) = refl
value_ends (null ∷ ts) = refl
value_ends (bad ∷ ts) = refl

value_ends_newline : (ts : List Token) → ends_word (print_from true ts ++ newline) ≡ true
unfolding print_from
value_ends_newline [] = refl
value_ends_newline (begin_object ∷ ts) = refl
value_ends_newline (end_object ∷ ts) = refl
value_ends_newline (begin_array ∷ ts) = refl
value_ends_newline (end_array ∷ ts) = refl
value_ends_newline (key s ∷ ts) = refl
value_ends_newline (string s ∷ ts) = refl
value_ends_newline (number s ∷ ts) = refl
value_ends_newline (boolean b ∷ ts) = refl
value_ends_newline (null ∷ ts) = refl
value_ends_newline (bad ∷ ts) = refl

separated : (b : Bool) (r u : List ℕ) → lex between r ≡ lex between u → lex between (cond b (44 ∷ []) [] ++ r) ≡ lex between (cond b (44 ∷ []) [] ++ u)
unfolding lex
separated true r u e = ap (λ l. comma ∷ l) e
separated false r u e = e

lex_newline : (c : Bool) (ts : List Token) → ArePrintable ts → lex between (print_from c ts ++ newline) ≡ lex between (print_from c ts)
unfolding lex print_from ArePrintable
lex_newline c [] h = refl
lex_newline c (t ∷ ts) h =
    ap (lex between) (append_assoc (separator c t) (token_text t ++ print_from (ends t) ts) newline
    ∙ ap (λ l. separator c t ++ l) (append_assoc (token_text t) (print_from (ends t) ts) newline))
    ∙ separated (c && begins t) _ _
    (one_token t (print_from (ends t) ts ++ newline) (print_from (ends t) ts) h.0
    (λ e. ap (λ b. ends_word (print_from b ts ++ newline)) e ∙ value_ends_newline ts)
    (λ e. ap (λ b. ends_word (print_from b ts)) e ∙ value_ends ts)
    (lex_newline (ends t) ts h.1))

tokens_newline : (ts : List Token) → ArePrintable ts → tokens (print ts ++ newline) ≡ tokens (print ts)
tokens_newline ts h = ap (punctuate fresh) (lex_newline false ts h)

-- ---- what was read can be printed

mutual
  value_numbers : (j : grammar.Json) (rest : List Token) → ArePrintableOrBad (json_tokens j ++ rest) → HasNumbers j × ArePrintableOrBad rest
  value_numbers grammar.null rest h = (tt, h.1)
  value_numbers (grammar.boolean b) rest h = (tt, h.1)
  value_numbers (grammar.number s) rest h = (h.0, h.1)
  value_numbers (grammar.string s) rest h = (tt, h.1)
  value_numbers (grammar.array js) rest h = items_numbers js rest h.1
  value_numbers (grammar.object ms) rest h = members_numbers ms rest h.1

  items_numbers : (js : grammar.Items) (rest : List Token) → ArePrintableOrBad (items_tokens js ++ rest) → ItemsHaveNumbers js × ArePrintableOrBad rest
  items_numbers grammar.no_items rest h = (tt, h.1)
  items_numbers (grammar.item j js) rest h =
      let first = value_numbers j (items_tokens js ++ rest) (subst ArePrintableOrBad (append_assoc (json_tokens j) (items_tokens js) rest) h) in
      let later = items_numbers js rest first.1 in
      ((first.0, later.0), later.1)

  members_numbers : (ms : grammar.Members) (rest : List Token) → ArePrintableOrBad (members_tokens ms ++ rest) → MembersHaveNumbers ms × ArePrintableOrBad rest
  members_numbers grammar.no_members rest h = (tt, h.1)
  members_numbers (grammar.member k j ms) rest h =
      let first = value_numbers j (members_tokens ms ++ rest) (subst ArePrintableOrBad (append_assoc (json_tokens j) (members_tokens ms) rest) h.1) in
      let later = members_numbers ms rest first.1 in
      ((first.0, later.0), later.1)

ArePrintable-in_order : (text : List ℕ) (d : Data) → IsInOrder text d → ArePrintable (tokens text)
ArePrintable-in_order text d order =
    let j = order.0 in
    let numbers = value_numbers j [] (subst ArePrintableOrBad (order.1 ∙ sym (append-nil (json_tokens j))) (ArePrintableOrBad-tokens text)) in
    subst ArePrintable (sym order.1) (ArePrintable-json_tokens j numbers.0)

-- ---- a text that was written, and a newline

read_newline : (s : List ℕ) → s ≡ print (tokens s) → ArePrintable (tokens s) → read (s ++ newline) ≡ read s
read_newline s e h =
    ap after_lexing (ap (λ x. tokens (x ++ newline)) e ∙ tokens_newline (tokens s) h ∙ sym (ap tokens e))
  where
    after_lexing : List Token → Option Data
    after_lexing ts = option_and_then of_json (option_and_then (λ p. if_last p.0 p.1) (value max_depth ts))

IsUtf8-newline : IsUtf8 newline
unfolding is_utf8 chars encode
IsUtf8-newline = IsUtf8-from_is_utf8 newline refl

-- what was printed in order reads alike with a newline after it
pub document_of-line : (text : List ℕ) (d : Data) → IsUtf8 text → text ≡ print (tokens text) → IsInOrder text d → read text ≡ Some d
    → document_of meaning.Json (text ++ newline) ≡ Some (meaning.of_json d)
document_of-line text d utf8 compact order is =
    document_of-read (text ++ newline) d (IsUtf8-append text newline utf8 IsUtf8-newline)
    (read_newline text compact (ArePrintable-in_order text d order) ∙ is)
