-- Paths between two places of the tokens of a text.
use Rattle.std.proofs.Common.{◌≡◌, ◌∙◌, sym, ap, subst, refl, ℕ, zero, suc, ◌+◌, ◌-◌, ◌*◌, ◌<◌, ◌≤◌, List, [], ◌∷◌, length, Bool, true, false, Option, Some, None, add-one, arith}
use Rattle.std.specs.Prelude.{if◌then◌else◌, nat_le, option_and_then, option_map, is_some}
use Rattle.std.proofs.lemmas.Bool.{true≢false}
use Rattle.meaning.specs.Texts.{is_name, place_of}
use Rattle.meaning.specs.Models.{Model}
use Rattle.meaning.specs.Queries.{Path, Along, Against, Then, OneOf, Chain}
use Rattle.meaning.specs.QueryTexts.{Token, word, quoted, colon, comma, open_bracket, close_bracket, open_paren, close_paren, dot, equal_sign, exclamation, bar, slash, plus, caret, blank, strange, Parsed, closed, read_path, more_path, read_sequence, more_sequence, read_step, more_step, read_atom, kind_names}
use Rattle.meaning.specs.QueryFaults.{Progress, a_step, a_step_back, after_step, going_on, goes_on}
use Rattle.meaning.specs.BundlePlaces.{is_among}
use Rattle.meaning.proofs.NamePlaces.{some_place}
use Rattle.path_queries.specs.declared.token.Tokens.{Tokens}
use Rattle.path_queries.specs.declared.token_at.Sign.{Sign}
use Rattle.path_queries.specs.declared.token_at.Sign.TheVariants as code
use Rattle.path_queries.specs.declared.fault.QueryStop.{QueryStop}
use Rattle.path_queries.specs.Tokens.{rest_at, left_at}
use Rattle.path_queries.specs.Signs.{sign, shown, word_in}
use Rattle.path_queries.specs.Stops.{Tells, refusal}
use Rattle.path_queries.specs.Lookups.{looked_up, lookup_stop}
use Rattle.path_queries.specs.PathReading.{fault_at, From, AreFew, binding, ReadsPath, GoesOn, PathStops}
use Rattle.path_queries.proofs.FirstTokens.{IsAt, NameAt, left_front, first_sign, shown_first, bar_at, slash_at, plus_at, caret_at, open_paren_at, close_paren_at}
use Rattle.path_queries.proofs.FaultSteps.{takes, Halts, refused, OnlyNames, some_if, lookup_takes, lookup_stops, moved}

-- ---- how strongly signs bind

binding_small : (s : Sign) → binding s < 4
binding_small code.Plus = omega arith
binding_small code.Slash = omega arith
binding_small code.Bar = omega arith
binding_small s = omega arith

no_plus : (s : Sign) → (s ≡ code.Plus → ⊥) → binding s < 4 → binding s < 3
no_plus code.Plus other h = absurd (other refl)
no_plus code.Slash other h = omega arith
no_plus code.Bar other h = omega arith
no_plus s other h = omega arith

no_slash : (s : Sign) → (s ≡ code.Slash → ⊥) → binding s < 3 → binding s < 2
no_slash code.Plus other h = absurd (omega arith)
no_slash code.Slash other h = absurd (other refl)
no_slash code.Bar other h = omega arith
no_slash s other h = omega arith

no_bar : (s : Sign) → (s ≡ code.Bar → ⊥) → binding s < 2 → binding s < 1
no_bar code.Plus other h = absurd (omega arith)
no_bar code.Slash other h = absurd (omega arith)
no_bar code.Bar other h = absurd (other refl)
no_bar s other h = omega arith

-- ---- where a row of operands ends

stops_step : (kinds : List (List ℕ)) (n : ℕ) (a : Path) (us : List Token) → (first_sign us ≡ code.Plus → ⊥) → more_step kinds (suc n) (a, us) ≡ Some (a, us)
stops_step kinds n a [] other = refl
stops_step kinds n a (plus ∷ us) other = absurd (other refl)
stops_step kinds n a (u ∷ us) other = refl

stops_sequence : (kinds : List (List ℕ)) (n : ℕ) (a : Path) (us : List Token) → (first_sign us ≡ code.Slash → ⊥) → more_sequence kinds (suc n) (a, us) ≡ Some (a, us)
stops_sequence kinds n a [] other = refl
stops_sequence kinds n a (slash ∷ us) other = absurd (other refl)
stops_sequence kinds n a (u ∷ us) other = refl

stops_path : (kinds : List (List ℕ)) (n : ℕ) (a : Path) (us : List Token) → (first_sign us ≡ code.Bar → ⊥) → more_path kinds (suc n) (a, us) ≡ Some (a, us)
stops_path kinds n a [] other = refl
stops_path kinds n a (bar ∷ us) other = absurd (other refl)
stops_path kinds n a (u ∷ us) other = refl

module _ (m : Model) (ts : Tokens) where
  -- ---- rows of operands

  begins : (lower read : ℕ → List Token → Parsed) (more : ℕ → Path × List Token → Parsed) → ((n : ℕ) (us : List Token) → read (suc n) us ≡ option_and_then (more n) (lower n us))
      → (cost level at next : ℕ) (p : Path) → ReadsPath lower cost level m ts at next p → GoesOn read more (cost + 1) level m ts at next p
  begins lower read more law cost level at next p h =
      record { beyond = h.beyond; within = h.within; short = h.short; weaker = h.weaker; goes = h.goes; reads = λ few k o from n above. go few k o from n above }
    where
      go : AreFew ts → (k : ℕ) (o : Parsed) → From k (λ n. more n (p, left_at ts next)) o → (n : ℕ) → 8 * (next - at) + (cost + 1) + k ≤ n → read n (left_at ts at) ≡ o
      go few k o from zero above = absurd (omega arith)
      go few k o from (suc n) above = law n (left_at ts at) ∙ (ap (option_and_then (more n)) (h.reads few n (omega arith)) ∙ from n (omega arith))

  ends : (read : ℕ → List Token → Parsed) (more : ℕ → Path × List Token → Parsed) (s : Sign)
      → ((n : ℕ) (a : Path) (us : List Token) → (first_sign us ≡ s → ⊥) → more (suc n) (a, us) ≡ Some (a, us))
      → (cost level lower at next : ℕ) (p : Path) → GoesOn read more cost level m ts at next p → (shown next (rest_at ts next) ≡ s → ⊥)
      → (binding (shown next (rest_at ts next)) < level → binding (shown next (rest_at ts next)) < lower)
      → ReadsPath read (cost + 1) lower m ts at next p
  ends read more s law cost level lower at next p h other weakens = record {
    beyond = h.beyond;
    within = h.within;
    short = h.short;
    weaker = weakens h.weaker;
    goes = h.goes;
    reads = λ few. λ n above. h.reads few 1 (Some (p, left_at ts next)) (stops few) n (let g : 8 * (next - at) + cost + 1 ≤ n = omega arith in g);
  }
    where
      stops : AreFew ts → From 1 (λ n. more n (p, left_at ts next)) (Some (p, left_at ts next))
      stops few zero above = absurd (omega arith)
      stops few (suc n) above = law n p (left_at ts next) (λ e. other (shown_first ts next few ∙ e))

  joins : (lower read : ℕ → List Token → Parsed) (more : ℕ → Path × List Token → Parsed) (t : Token) (join : Path → Path → Path)
      → ((n : ℕ) (a : Path) (us : List Token) → more (suc n) (a, t ∷ us) ≡ option_and_then (λ q. more n (join a q.0, q.1)) (lower n us))
      → ((opened : ℕ) (q : Progress) (at : ℕ) → IsAt ts at t → fault_at m ts at (going_on q (after_step opened)) ≡ fault_at m ts (at + 1) (going_on q (a_step opened)))
      → (cost low level weak : ℕ) → low + 1 ≤ 8 → (at next after : ℕ) (a b : Path) → GoesOn read more cost level m ts at next a → IsAt ts next t
      → ReadsPath lower low weak m ts (next + 1) after b → GoesOn read more cost weak m ts at after (join a b)
  joins lower read more t join law op cost low level weak small at next after a b h is r = record {
    beyond = (let i = h.beyond in let j = r.beyond in omega arith);
    within = r.within;
    short = r.short;
    weaker = r.weaker;
    goes = λ q opened. h.goes q opened ∙ (op opened q next is ∙ r.goes q opened);
    reads = λ few k o from. λ n above. h.reads few (8 * (after - (next + 1)) + low + 1 + k) o (steps few k o from) n
        (let i = h.beyond in let j = r.beyond in let g : 8 * (next - at) + cost + (8 * (after - (next + 1)) + low + 1 + k) ≤ n = omega arith in g);
  }
    where
      steps : AreFew ts → (k : ℕ) (o : Parsed) → From k (λ n. more n (join a b, left_at ts after)) o
          → From (8 * (after - (next + 1)) + low + 1 + k) (λ n. more n (a, left_at ts next)) o
      steps few k o from zero above = absurd (omega arith)
      steps few k o from (suc n) above =
          ap (λ us. more (suc n) (a, us)) (left_front ts next t is) ∙ (law n a (left_at ts (next + 1))
          ∙ (ap (option_and_then (λ q. more n (join a q.0, q.1))) (r.reads few n (omega arith)) ∙ from n (omega arith)))

  -- ---- the three rows

  pub step_begins : (at next : ℕ) (p : Path) → ReadsPath (read_atom (kind_names m)) 0 4 m ts at next p → GoesOn (read_step (kind_names m)) (more_step (kind_names m)) 1 4 m ts at next p
  step_begins = begins (read_atom (kind_names m)) (read_step (kind_names m)) (more_step (kind_names m)) (λ n us. refl) 0 4

  pub sequence_begins : (at next : ℕ) (p : Path) → ReadsPath (read_step (kind_names m)) 2 3 m ts at next p
      → GoesOn (read_sequence (kind_names m)) (more_sequence (kind_names m)) 3 3 m ts at next p
  sequence_begins = begins (read_step (kind_names m)) (read_sequence (kind_names m)) (more_sequence (kind_names m)) (λ n us. refl) 2 3

  pub path_begins : (at next : ℕ) (p : Path) → ReadsPath (read_sequence (kind_names m)) 4 2 m ts at next p → GoesOn (read_path (kind_names m)) (more_path (kind_names m)) 5 2 m ts at next p
  path_begins = begins (read_sequence (kind_names m)) (read_path (kind_names m)) (more_path (kind_names m)) (λ n us. refl) 4 2

  pub step_ends : (at next : ℕ) (p : Path) → GoesOn (read_step (kind_names m)) (more_step (kind_names m)) 1 4 m ts at next p → (shown next (rest_at ts next) ≡ code.Plus → ⊥)
      → ReadsPath (read_step (kind_names m)) 2 3 m ts at next p
  step_ends at next p h other =
      ends (read_step (kind_names m)) (more_step (kind_names m)) code.Plus (stops_step (kind_names m)) 1 4 3 at next p h other (no_plus (shown next (rest_at ts next)) other)

  pub sequence_ends : (at next : ℕ) (p : Path) → GoesOn (read_sequence (kind_names m)) (more_sequence (kind_names m)) 3 3 m ts at next p
      → (shown next (rest_at ts next) ≡ code.Slash → ⊥) → ReadsPath (read_sequence (kind_names m)) 4 2 m ts at next p
  sequence_ends at next p h other =
      ends (read_sequence (kind_names m)) (more_sequence (kind_names m)) code.Slash (stops_sequence (kind_names m)) 3 3 2 at next p h other
      (no_slash (shown next (rest_at ts next)) other)

  pub path_ends : (at next : ℕ) (p : Path) → GoesOn (read_path (kind_names m)) (more_path (kind_names m)) 5 2 m ts at next p → (shown next (rest_at ts next) ≡ code.Bar → ⊥)
      → ReadsPath (read_path (kind_names m)) 6 1 m ts at next p
  path_ends at next p h other =
      ends (read_path (kind_names m)) (more_path (kind_names m)) code.Bar (stops_path (kind_names m)) 5 2 1 at next p h other (no_bar (shown next (rest_at ts next)) other)

  bar_goes : (opened : ℕ) (q : Progress) (at : ℕ) → IsAt ts at bar → fault_at m ts at (going_on q (after_step opened)) ≡ fault_at m ts (at + 1) (going_on q (a_step opened))
  bar_goes opened q at is = takes m ts at bar (going_on q (after_step opened)) is refl refl refl

  slash_goes : (opened : ℕ) (q : Progress) (at : ℕ) → IsAt ts at slash → fault_at m ts at (going_on q (after_step opened)) ≡ fault_at m ts (at + 1) (going_on q (a_step opened))
  slash_goes opened q at is = takes m ts at slash (going_on q (after_step opened)) is refl refl refl

  plus_goes : (opened : ℕ) (q : Progress) (at : ℕ) → IsAt ts at plus → fault_at m ts at (going_on q (after_step opened)) ≡ fault_at m ts (at + 1) (going_on q (after_step opened))
  plus_goes opened q at is = takes m ts at plus (going_on q (after_step opened)) is refl refl refl

  pub chain_goes_on : (at next : ℕ) (p : Path) → GoesOn (read_step (kind_names m)) (more_step (kind_names m)) 1 4 m ts at next p → shown next (rest_at ts next) ≡ code.Plus
      → GoesOn (read_step (kind_names m)) (more_step (kind_names m)) 1 4 m ts at (next + 1) (Chain p)
  chain_goes_on at next p h shows =
      let is = plus_at ts next shows in record {
        beyond = (let i = h.beyond in omega arith);
        within = (let i = is.inside in omega arith);
        short = (let i = is.short in omega arith);
        weaker = binding_small (shown (next + 1) (rest_at ts (next + 1)));
        goes = λ q opened. h.goes q opened ∙ plus_goes opened q next is;
        reads = λ few k o from. λ n above. h.reads few (k + 1) o (step is k o from) n
            (let i = h.beyond in let g : 8 * (next - at) + 1 + (k + 1) ≤ n = omega arith in g);
      }
    where
      step : IsAt ts next plus → (k : ℕ) (o : Parsed) → From k (λ n. more_step (kind_names m) n (Chain p, left_at ts (next + 1))) o
          → From (k + 1) (λ n. more_step (kind_names m) n (p, left_at ts next)) o
      step is k o from zero above = absurd (omega arith)
      step is k o from (suc n) above = ap (λ us. more_step (kind_names m) (suc n) (p, us)) (left_front ts next plus is) ∙ from n (omega arith)

  pub sequence_goes_on : (at next after : ℕ) (a b : Path) → GoesOn (read_sequence (kind_names m)) (more_sequence (kind_names m)) 3 3 m ts at next a
      → shown next (rest_at ts next) ≡ code.Slash → ReadsPath (read_step (kind_names m)) 2 3 m ts (next + 1) after b
      → GoesOn (read_sequence (kind_names m)) (more_sequence (kind_names m)) 3 3 m ts at after (Then a b)
  sequence_goes_on at next after a b h shows r =
      joins (read_step (kind_names m)) (read_sequence (kind_names m)) (more_sequence (kind_names m)) slash Then (λ n p us. refl) slash_goes 3 2 3 3 (omega arith) at next after a b h
      (slash_at ts next shows) r

  pub path_goes_on : (at next after : ℕ) (a b : Path) → GoesOn (read_path (kind_names m)) (more_path (kind_names m)) 5 2 m ts at next a
      → shown next (rest_at ts next) ≡ code.Bar → ReadsPath (read_sequence (kind_names m)) 4 2 m ts (next + 1) after b
      → GoesOn (read_path (kind_names m)) (more_path (kind_names m)) 5 2 m ts at after (OneOf a b)
  path_goes_on at next after a b h shows r =
      joins (read_sequence (kind_names m)) (read_path (kind_names m)) (more_path (kind_names m)) bar OneOf (λ n p us. refl) bar_goes 5 4 2 2 (omega arith) at next after a b h
      (bar_at ts next shows) r

  -- ---- stops in a row

  pub stops_behind_slash : (at next : ℕ) (a : Path) (stop : QueryStop) → GoesOn (read_sequence (kind_names m)) (more_sequence (kind_names m)) 3 3 m ts at next a
      → shown next (rest_at ts next) ≡ code.Slash → PathStops m ts (next + 1) stop → PathStops m ts at stop
  stops_behind_slash at next a stop h shows s =
      λ q opened. moved stop (fault_at m ts at (going_on q (a_step opened))) (fault_at m ts (next + 1) (going_on q (a_step opened)))
      (h.goes q opened ∙ slash_goes opened q next (slash_at ts next shows)) (s q opened)

  pub stops_behind_bar : (at next : ℕ) (a : Path) (stop : QueryStop) → GoesOn (read_path (kind_names m)) (more_path (kind_names m)) 5 2 m ts at next a
      → shown next (rest_at ts next) ≡ code.Bar → PathStops m ts (next + 1) stop → PathStops m ts at stop
  stops_behind_bar at next a stop h shows s =
      λ q opened. moved stop (fault_at m ts at (going_on q (a_step opened))) (fault_at m ts (next + 1) (going_on q (a_step opened)))
      (h.goes q opened ∙ bar_goes opened q next (bar_at ts next shows)) (s q opened)

  -- ---- operands

  kind_known : (w : List ℕ) → is_some (place_of w (kind_names m)) ≡ is_among (kind_names m) w
  kind_known w = some_place (kind_names m) w

  known_kind : (w : List ℕ) (i : ℕ) → place_of w (kind_names m) ≡ Some i → is_among (kind_names m) w ≡ true
  known_kind w i e = sym (kind_known w) ∙ ap is_some e

  pub link_reads : (at i : ℕ) → looked_up (λ w. place_of w (kind_names m)) at (rest_at ts at) ≡ Some i → ReadsPath (read_atom (kind_names m)) 0 4 m ts at (at + 1) (Along i)
  link_reads at i e = there (lookup_takes m ts at (λ w. place_of w (kind_names m)) i e)
    where
      there : (w : List ℕ) × NameAt ts at w × (place_of w (kind_names m) ≡ Some i) → ReadsPath (read_atom (kind_names m)) 0 4 m ts at (at + 1) (Along i)
      there (w, named, place) = record {
        beyond = omega arith;
        within = (let h = named.stands.inside in omega arith);
        short = (let h = named.stands.short in omega arith);
        weaker = binding_small (shown (at + 1) (rest_at ts (at + 1)));
        goes = λ q opened. takes m ts at (word w) (going_on q (a_step opened)) named.stands refl named.proper (known_kind w i place);
        reads = λ few. λ n above. read n above;
      }
        where
          read : (n : ℕ) → 8 * (at + 1 - at) + 0 ≤ n → read_atom (kind_names m) n (left_at ts at) ≡ Some (Along i, left_at ts (at + 1))
          read zero above = absurd (omega arith)
          read (suc n) above =
              ap (read_atom (kind_names m) (suc n)) (left_front ts at (word w) named.stands) ∙ ap (option_map (λ k. (Along k, left_at ts (at + 1)))) place

  caret_goes : (opened : ℕ) (q : Progress) (at : ℕ) → IsAt ts at caret → fault_at m ts at (going_on q (a_step opened)) ≡ fault_at m ts (at + 1) (going_on q (a_step_back opened))
  caret_goes opened q at is = takes m ts at caret (going_on q (a_step opened)) is refl refl refl

  pub back_reads : (at i : ℕ) → shown at (rest_at ts at) ≡ code.Caret → looked_up (λ w. place_of w (kind_names m)) (at + 1) (rest_at ts (at + 1)) ≡ Some i
      → ReadsPath (read_atom (kind_names m)) 0 4 m ts at (at + 2) (Against i)
  back_reads at i shows e = there (caret_at ts at shows) (lookup_takes m ts (at + 1) (λ w. place_of w (kind_names m)) i e)
    where
      there : IsAt ts at caret → (w : List ℕ) × NameAt ts (at + 1) w × (place_of w (kind_names m) ≡ Some i) → ReadsPath (read_atom (kind_names m)) 0 4 m ts at (at + 2) (Against i)
      there is (w, named, place) = record {
        beyond = omega arith;
        within = (let h = named.stands.inside in omega arith);
        short = (let h = named.stands.short in omega arith);
        weaker = binding_small (shown (at + 2) (rest_at ts (at + 2)));
        goes = λ q opened. caret_goes opened q at is ∙ (takes m ts (at + 1) (word w) (going_on q (a_step_back opened)) named.stands refl named.proper (known_kind w i place)
            ∙ ap (λ k. fault_at m ts k (going_on q (after_step opened))) two);
        reads = λ few. λ n above. read n above;
      }
        where
          two : at + 1 + 1 ≡ at + 2
          two = omega arith

          read : (n : ℕ) → 8 * (at + 2 - at) + 0 ≤ n → read_atom (kind_names m) n (left_at ts at) ≡ Some (Against i, left_at ts (at + 2))
          read zero above = absurd (omega arith)
          read (suc n) above =
              ap (read_atom (kind_names m) (suc n)) (left_front ts at caret is ∙ ap (λ us. caret ∷ us) (left_front ts (at + 1) (word w) named.stands
              ∙ ap (λ k. word w ∷ left_at ts k) two)) ∙ ap (option_map (λ k. (Against k, left_at ts (at + 2)))) place

  open_goes : (opened : ℕ) (q : Progress) (at : ℕ) → IsAt ts at open_paren → fault_at m ts at (going_on q (a_step opened)) ≡ fault_at m ts (at + 1) (going_on q (a_step (opened + 1)))
  open_goes opened q at is = takes m ts at open_paren (going_on q (a_step opened)) is refl refl refl

  close_goes : (opened : ℕ) (q : Progress) (at : ℕ) → IsAt ts at close_paren
      → fault_at m ts at (going_on q (after_step (opened + 1))) ≡ fault_at m ts (at + 1) (going_on q (after_step opened))
  close_goes opened q at is =
      ap (λ k. fault_at m ts at (going_on q (after_step k))) (let e : opened + 1 ≡ suc opened = omega arith in e)
      ∙ takes m ts at close_paren (going_on q (after_step (suc opened))) is refl refl refl

  pub group_reads : (at next : ℕ) (p : Path) → shown at (rest_at ts at) ≡ code.OpenParen → ReadsPath (read_path (kind_names m)) 6 1 m ts (at + 1) next p
      → shown next (rest_at ts next) ≡ code.CloseParen → ReadsPath (read_atom (kind_names m)) 0 4 m ts at (next + 1) p
  group_reads at next p shows h closes = there (open_paren_at ts at shows) (close_paren_at ts next closes)
    where
      there : IsAt ts at open_paren → IsAt ts next close_paren → ReadsPath (read_atom (kind_names m)) 0 4 m ts at (next + 1) p
      there opens close = record {
        beyond = (let i = h.beyond in omega arith);
        within = (let i = close.inside in omega arith);
        short = (let i = close.short in omega arith);
        weaker = binding_small (shown (next + 1) (rest_at ts (next + 1)));
        goes = λ q opened. open_goes opened q at opens ∙ (h.goes q (opened + 1) ∙ close_goes opened q next close);
        reads = λ few. λ n above. read few n above;
      }
        where
          read : AreFew ts → (n : ℕ) → 8 * (next + 1 - at) + 0 ≤ n → read_atom (kind_names m) n (left_at ts at) ≡ Some (p, left_at ts (next + 1))
          read few zero above = absurd (let i = h.beyond in omega arith)
          read few (suc n) above =
              ap (read_atom (kind_names m) (suc n)) (left_front ts at open_paren opens)
              ∙ (ap (option_and_then closed) (h.reads few n (let i = h.beyond in let g : 8 * (next - (at + 1)) + 6 ≤ n = omega arith in g))
              ∙ ap (λ us. closed (p, us)) (left_front ts next close_paren close))

  -- ---- stops at operands

  step_names : (opened : ℕ) (t : Token) → (sign t ≡ code.Caret → ⊥) → (sign t ≡ code.OpenParen → ⊥)
      → goes_on (a_step opened) t ≡ is_some (option_and_then (λ w. if is_name w then Some w else None) (word_in t))
  step_names opened (word w) no_caret no_open = sym (some_if (is_name w) w)
  step_names opened caret no_caret no_open = absurd (no_caret refl)
  step_names opened open_paren no_caret no_open = absurd (no_open refl)
  step_names opened t no_caret no_open = refl

  back_names : (opened : ℕ) (t : Token) → goes_on (a_step_back opened) t ≡ is_some (option_and_then (λ w. if is_name w then Some w else None) (word_in t))
  back_names opened (word w) = sym (some_if (is_name w) w)
  back_names opened t = refl

  pub link_stops : (at : ℕ) (stop : QueryStop) → (shown at (rest_at ts at) ≡ code.Caret → ⊥) → (shown at (rest_at ts at) ≡ code.OpenParen → ⊥)
      → looked_up (λ w. place_of w (kind_names m)) at (rest_at ts at) ≡ None → stop ≡ lookup_stop ts.end at (rest_at ts at) → PathStops m ts at stop
  link_stops at stop no_caret no_open none is = λ q opened.
      subst (λ s. Tells s (fault_at m ts at (going_on q (a_step opened)))) (sym is)
      (lookup_stops m ts at (going_on q (a_step opened)) (λ w. place_of w (kind_names m)) none refl (only opened (rest_at ts at) no_caret no_open) (λ w. sym (kind_known w)))
    where
      only : (opened : ℕ) (ls : List (ℕ × Token)) → (shown at ls ≡ code.Caret → ⊥) → (shown at ls ≡ code.OpenParen → ⊥) → OnlyNames at ls (a_step opened)
      only opened [] no_caret no_open = refl
      only opened (q ∷ us) no_caret no_open =
          λ few. let shows : shown at (q ∷ us) ≡ sign q.1 = ap (λ b. if b then code.Excess else sign q.1) few in
          step_names opened q.1 (λ e. no_caret (shows ∙ e)) (λ e. no_open (shows ∙ e))

  pub back_stops : (at : ℕ) (stop : QueryStop) → shown at (rest_at ts at) ≡ code.Caret → looked_up (λ w. place_of w (kind_names m)) (at + 1) (rest_at ts (at + 1)) ≡ None
      → stop ≡ lookup_stop ts.end (at + 1) (rest_at ts (at + 1)) → PathStops m ts at stop
  back_stops at stop shows none is = λ q opened.
      moved stop (fault_at m ts at (going_on q (a_step opened))) (fault_at m ts (at + 1) (going_on q (a_step_back opened))) (caret_goes opened q at (caret_at ts at shows))
      (subst (λ s. Tells s (fault_at m ts (at + 1) (going_on q (a_step_back opened)))) (sym is)
      (lookup_stops m ts (at + 1) (going_on q (a_step_back opened)) (λ w. place_of w (kind_names m)) none refl (only opened (rest_at ts (at + 1))) (λ w. sym (kind_known w))))
    where
      only : (opened : ℕ) (ls : List (ℕ × Token)) → OnlyNames (at + 1) ls (a_step_back opened)
      only opened [] = refl
      only opened (q ∷ us) = λ few. back_names opened q.1

  pub group_stops : (at : ℕ) (stop : QueryStop) → shown at (rest_at ts at) ≡ code.OpenParen → PathStops m ts (at + 1) stop → PathStops m ts at stop
  group_stops at stop shows s = λ q opened.
      moved stop (fault_at m ts at (going_on q (a_step opened))) (fault_at m ts (at + 1) (going_on q (a_step (opened + 1)))) (open_goes opened q at (open_paren_at ts at shows))
      (s q (opened + 1))

  close_halts : (opened : ℕ) (t : Token) → binding (sign t) < 1 → (sign t ≡ code.CloseParen → ⊥) → goes_on (after_step (suc opened)) t ≡ false
  close_halts opened plus weak other = absurd (omega arith)
  close_halts opened slash weak other = absurd (omega arith)
  close_halts opened bar weak other = absurd (omega arith)
  close_halts opened close_paren weak other = absurd (other refl)
  close_halts opened t weak other = refl

  pub unclosed_stops : (at next : ℕ) (p : Path) (stop : QueryStop) → shown at (rest_at ts at) ≡ code.OpenParen → ReadsPath (read_path (kind_names m)) 6 1 m ts (at + 1) next p
      → (shown next (rest_at ts next) ≡ code.CloseParen → ⊥) → stop ≡ refusal ts.end next (rest_at ts next) → PathStops m ts at stop
  unclosed_stops at next p stop shows h other is = λ q opened.
      moved stop (fault_at m ts at (going_on q (a_step opened))) (fault_at m ts next (going_on q (after_step (suc opened))))
      (open_goes opened q at (open_paren_at ts at shows) ∙ (h.goes q (opened + 1) ∙ ap (λ k. fault_at m ts next (going_on q (after_step k))) (let e : opened + 1 ≡ suc opened = omega arith in e)))
      (subst (λ s. Tells s (fault_at m ts next (going_on q (after_step (suc opened))))) (sym is)
      (refused m ts next (going_on q (after_step (suc opened))) refl (halts opened (rest_at ts next) h.weaker other)))
    where
      halts : (opened : ℕ) (ls : List (ℕ × Token)) → binding (shown next ls) < 1 → (shown next ls ≡ code.CloseParen → ⊥) → Halts next ls (after_step (suc opened))
      halts opened [] weak other = refl
      halts opened (q ∷ us) weak other =
          λ few. let shows : shown next (q ∷ us) ≡ sign q.1 = ap (λ b. if b then code.Excess else sign q.1) few in
          close_halts opened q.1 (subst (λ s. binding s < 1) shows weak) (λ e. other (shows ∙ e))
