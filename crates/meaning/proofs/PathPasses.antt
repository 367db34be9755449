-- The tokens of a path go on from its first to its bracket, and tokens that go on so are a path.
use Rattle.std.proofs.Common.{◌≡◌, ◌∙◌, sym, ap, subst, refl, ℕ, zero, suc, ◌+◌, ◌*◌, ◌≤◌, List, [], ◌∷◌, ◌++◌, length, Bool, true, false, append_assoc, length-append, Option, Some, None, arith}
use Rattle.std.specs.Prelude.{is_some}
use Rattle.std.proofs.lemmas.Bool.{true≢false}
use Rattle.std.proofs.lemmas.List.{append-nil}
use Rattle.meaning.specs.Texts.{place_of, is_name}
use Rattle.meaning.specs.Models.{Model}
use Rattle.meaning.specs.BundlePlaces.{is_among}
use Rattle.meaning.specs.Queries.{Path, Along, Against, Then, OneOf, Chain}
use Rattle.meaning.specs.QueryTexts.{Token, word, close_bracket, open_paren, close_paren, bar, slash, plus, caret, kind_names}
use Rattle.meaning.specs.QueryFaults.{a_step, a_step_back, after_step, the_other_end, Progress, going_on, goes_on, is_known, begins_constraint_too_many, is_variable_too_many, stands_in_scope}
use Rattle.meaning.specs.QueryGrammar.{IsNameOf, IsPath, of_sequence, one_of, IsSequence, of_step, after, IsStep, of_atom, chain, IsAtom, forwards, backwards, grouped}
use Rattle.meaning.proofs.NamePlaces.{some_place}
use Rattle.meaning.proofs.QueryPasses.{colon_next, named, Fine, Passes}

-- a token that names no new variable and begins no constraint
pub fine : (m : Model) (p : Progress) (t : Token) (ts : List Token) → goes_on p.next t ≡ true → is_known m p p.next t ≡ true
    → named p.next t (colon_next ts) ≡ None → begins_constraint_too_many p p.next t ≡ false → Fine m p t ts
fine m p t ts goes known unnamed few = record {
  goes = goes;
  known = known;
  few_variables = ap (is_variable_too_many p) unnamed;
  few_constraints = few;
  fresh = ap (stands_in_scope p) unnamed;
}

pub name_known : (names : List (List ℕ)) (w : List ℕ) (n : ℕ) → IsNameOf names w n → is_among names w ≡ true
name_known names w n h = sym (some_place names w) ∙ ap is_some h.stands

pub some_there : {A : Type 0} (o : Option A) → is_some o ≡ true → (x : A) × (o ≡ Some x)
some_there None e = absurd cc
some_there (Some x) e = (x, refl)

pub known_name : (names : List (List ℕ)) (w : List ℕ) → is_name w ≡ true → is_among names w ≡ true → (n : ℕ) × IsNameOf names w n
known_name names w is known = let r = some_there (place_of w names) (some_place names w ∙ known) in (r.0, record { is_one = is; stands = r.1 })

module _ (m : Model) (p : Progress) where
  abbrev Steps : ℕ → List Token → Type 0
  Steps k ts = Passes m (going_on p (a_step k)) ts

  abbrev GoesOn : ℕ → List Token → Type 0
  GoesOn k ts = Passes m (going_on p (after_step k)) ts

  one_deeper : (k : ℕ) → k + 1 ≡ suc k
  one_deeper k = omega arith

  -- ---- the tokens of a path go on

  between : (k : ℕ) (ts us rest : List Token) (s : Token) → Steps k (ts ++ s ∷ (us ++ rest)) → Steps k ((ts ++ s ∷ us) ++ rest)
  between k ts us rest s h = subst (Steps k) (sym (append_assoc ts (s ∷ us) rest)) h

  in_parentheses : (k : ℕ) (ts rest : List Token) → Steps (suc k) (ts ++ close_paren ∷ rest) → Steps k ((open_paren ∷ (ts ++ close_paren ∷ [])) ++ rest)
  in_parentheses k ts rest h = (
    fine m (going_on p (a_step k)) open_paren ((ts ++ close_paren ∷ []) ++ rest) refl refl refl refl,
    subst (λ j. Steps j ((ts ++ close_paren ∷ []) ++ rest)) (sym (one_deeper k)) (subst (Steps (suc k)) (sym (append_assoc ts (close_paren ∷ []) rest)) h),
  )

  kind_fine : (k n : ℕ) (w : List ℕ) (ts : List Token) → IsNameOf (kind_names m) w n → Fine m (going_on p (a_step k)) (word w) ts
  kind_fine k n w ts h = fine m (going_on p (a_step k)) (word w) ts h.is_one (name_known (kind_names m) w n h) refl refl

  kind_back_fine : (k n : ℕ) (w : List ℕ) (ts : List Token) → IsNameOf (kind_names m) w n → Fine m (going_on p (a_step_back k)) (word w) ts
  kind_back_fine k n w ts h = fine m (going_on p (a_step_back k)) (word w) ts h.is_one (name_known (kind_names m) w n h) refl refl

  mutual
    pub path_passes : {ts : List Token} {a : Path} → IsPath (kind_names m) ts a → (k : ℕ) (rest : List Token) → GoesOn k rest → Steps k (ts ++ rest)
    path_passes (of_sequence h) k rest g = sequence_passes h k rest g
    path_passes (one_of {ts = ts} {us = us} h i) k rest g =
        between k ts us rest bar
        (path_passes h k (bar ∷ (us ++ rest)) (fine m (going_on p (after_step k)) bar (us ++ rest) refl refl refl refl, sequence_passes i k rest g))

    sequence_passes : {ts : List Token} {a : Path} → IsSequence (kind_names m) ts a → (k : ℕ) (rest : List Token) → GoesOn k rest → Steps k (ts ++ rest)
    sequence_passes (of_step h) k rest g = step_passes h k rest g
    sequence_passes (after {ts = ts} {us = us} h i) k rest g =
        between k ts us rest slash
        (sequence_passes h k (slash ∷ (us ++ rest)) (fine m (going_on p (after_step k)) slash (us ++ rest) refl refl refl refl, step_passes i k rest g))

    step_passes : {ts : List Token} {a : Path} → IsStep (kind_names m) ts a → (k : ℕ) (rest : List Token) → GoesOn k rest → Steps k (ts ++ rest)
    step_passes (of_atom h) k rest g = atom_passes h k rest g
    step_passes (chain {ts = ts} h) k rest g =
        between k ts [] rest plus (step_passes h k (plus ∷ rest) (fine m (going_on p (after_step k)) plus rest refl refl refl refl, g))

    atom_passes : {ts : List Token} {a : Path} → IsAtom (kind_names m) ts a → (k : ℕ) (rest : List Token) → GoesOn k rest → Steps k (ts ++ rest)
    atom_passes (forwards {w = w} {k = n} h) k rest g = (kind_fine k n w rest h, g)
    atom_passes (backwards {w = w} {k = n} h) k rest g =
        (fine m (going_on p (a_step k)) caret (word w ∷ rest) refl refl refl refl, (kind_back_fine k n w rest h, g))
    atom_passes (grouped {ts = ts} h) k rest g =
        in_parentheses k ts rest
        (path_passes h (suc k) (close_paren ∷ rest) (fine m (going_on p (after_step (suc k))) close_paren rest refl refl refl refl, g))

  -- ---- tokens that go on are a path

  -- the tokens have a tree of the kind
  abbrev pub Has : (List Token → Path → Type 0) → List Token → Type 0
  Has K ts = (a : Path) × K ts a

  -- tokens that a step makes a path: sequences with a bar behind each, then steps with a slash behind each
  pub record Before (ds : List Token) : Type 0 where
    pub sequences : List Token
    pub steps : List Token
    pub both : ds ≡ sequences ++ steps
    pub path_on : (us : List Token) → Has (IsSequence (kind_names m)) us → Has (IsPath (kind_names m)) (sequences ++ us)
    pub sequence_on : (us : List Token) → Has (IsStep (kind_names m)) us → Has (IsSequence (kind_names m)) (steps ++ us)

  pub before_all : Before []
  before_all = record { sequences = []; steps = []; both = refl; path_on = λ us h. (h.0, of_sequence h.1); sequence_on = λ us h. (h.0, of_step h.1) }

  pub step_on : (ds us : List Token) → Before ds → Has (IsStep (kind_names m)) us → Has (IsPath (kind_names m)) (ds ++ us)
  step_on ds us b h =
      subst (Has (IsPath (kind_names m))) (sym (ap (λ vs. vs ++ us) b.both ∙ append_assoc b.sequences b.steps us)) (b.path_on (b.steps ++ us) (b.sequence_on us h))

  moved_in : (vs us ws : List Token) (s : Token) → (vs ++ us) ++ s ∷ ws ≡ (vs ++ (us ++ s ∷ [])) ++ ws
  moved_in vs us ws s =
      append_assoc vs us (s ∷ ws) ∙ (ap (λ z. vs ++ z) (sym (append_assoc us (s ∷ []) ws)) ∙ sym (append_assoc vs (us ++ s ∷ []) ws))

  pub slash_on : (ds us : List Token) → Before ds → Has (IsStep (kind_names m)) us → Before (ds ++ (us ++ slash ∷ []))
  slash_on ds us b h = record {
    sequences = b.sequences;
    steps = b.steps ++ (us ++ slash ∷ []);
    both = ap (λ vs. vs ++ (us ++ slash ∷ [])) b.both ∙ append_assoc b.sequences b.steps (us ++ slash ∷ []);
    path_on = b.path_on;
    sequence_on = λ ws g.
        let r = b.sequence_on us h in
        subst (Has (IsSequence (kind_names m))) (moved_in b.steps us ws slash) (Then r.0 g.0, after r.1 g.1);
  }

  pub bar_on : (ds us : List Token) → Before ds → Has (IsStep (kind_names m)) us → Before (ds ++ (us ++ bar ∷ []))
  bar_on ds us b h = record {
    sequences = ds ++ (us ++ bar ∷ []);
    steps = [];
    both = sym (append-nil (ds ++ (us ++ bar ∷ [])));
    path_on = λ ws g.
        let r = step_on ds us b h in
        subst (Has (IsPath (kind_names m))) (moved_in ds us ws bar) (OneOf r.0 g.0, one_of r.1 g.1);
    sequence_on = λ us h. (h.0, of_step h.1);
  }

  -- a list that goes on with no sign of a path
  abbrev ends_path : List Token → Bool
  ends_path (bar ∷ ts) = false
  ends_path (slash ∷ ts) = false
  ends_path (plus ∷ ts) = false
  ends_path ts = true

  -- with some of the tokens, those before are a path
  record Ahead (k : ℕ) (ds ts : List Token) : Type 0 where
    taken : List Token
    left : List Token
    front : ts ≡ taken ++ left
    phrase : Has (IsPath (kind_names m)) (ds ++ taken)
    goes : GoesOn k left
    ends : ends_path left ≡ true

  with_front : (k : ℕ) (ds us ts vs : List Token) → vs ≡ us ++ ts → Ahead k (ds ++ us) ts → Ahead k ds vs
  with_front k ds us ts vs front r = record {
    taken = us ++ r.taken;
    left = r.left;
    front = front ∙ (ap (λ z. us ++ z) r.front ∙ sym (append_assoc us r.taken r.left));
    phrase = subst (Has (IsPath (kind_names m))) (append_assoc ds us r.taken) r.phrase;
    goes = r.goes;
    ends = r.ends;
  }

  with_sign : (k : ℕ) (ds us ts : List Token) (s : Token) → Ahead k (ds ++ (us ++ s ∷ [])) ts → Ahead k (ds ++ us) (s ∷ ts)
  with_sign k ds us ts s r = with_front k (ds ++ us) (s ∷ []) ts (s ∷ ts) refl (subst (λ vs. Ahead k vs ts) (sym (append_assoc ds us (s ∷ []))) r)

  -- the parenthesis that closes, and the tokens after it
  record Closed (k : ℕ) (us : List Token) : Type 0 where
    rest : List Token
    shape : us ≡ close_paren ∷ rest
    goes : GoesOn k rest

  closes : (k : ℕ) (us : List Token) → GoesOn (suc k) us → ends_path us ≡ true → Closed k us
  closes k [] goes ends = absurd (true≢false (sym goes))
  closes k (close_paren ∷ us) goes ends = record { rest = us; shape = refl; goes = goes.1 }
  closes k (bar ∷ us) goes ends = absurd (true≢false (sym ends))
  closes k (slash ∷ us) goes ends = absurd (true≢false (sym ends))
  closes k (plus ∷ us) goes ends = absurd (true≢false (sym ends))
  closes k (t ∷ us) goes ends = absurd (true≢false (sym goes.0.goes))

  -- a group, and the tokens after it
  record Group (k : ℕ) (ts : List Token) : Type 0 where
    taken : List Token
    left : List Token
    front : ts ≡ taken ++ left
    phrase : Has (IsStep (kind_names m)) taken
    goes : GoesOn k left
    shorter : suc (length left) ≤ length ts

  group : (k : ℕ) (ts : List Token) → Ahead (suc k) [] ts → Group k (open_paren ∷ ts)
  group k ts r =
      let c = closes k r.left r.goes r.ends in
      let whole : ts ≡ r.taken ++ close_paren ∷ c.rest = r.front ∙ ap (λ z. r.taken ++ z) c.shape in
      let long : length ts ≡ length r.taken + suc (length c.rest) = ap length whole ∙ length-append r.taken (close_paren ∷ c.rest) in record {
        taken = open_paren ∷ (r.taken ++ close_paren ∷ []);
        left = c.rest;
        front = ap (λ z. open_paren ∷ z) (whole ∙ sym (append_assoc r.taken (close_paren ∷ []) c.rest));
        phrase = (r.phrase.0, of_atom (grouped r.phrase.1));
        goes = c.goes;
        shorter = omega arith;
      }

  mutual
    ahead : (n k : ℕ) (ds ts : List Token) → 2 * length ts ≤ n → Before ds → Steps k ts → Ahead k ds ts
    ahead n k ds [] above b goes = absurd (true≢false (sym goes))
    ahead zero k ds (t ∷ ts) above b goes = absurd (omega arith)
    ahead (suc n) k ds (word w ∷ ts) above b goes =
        let d = known_name (kind_names m) w goes.0.goes goes.0.known in
        with_front k ds (word w ∷ []) ts (word w ∷ ts) refl
        (behind n k ds (word w ∷ []) ts (omega arith) b (Along d.0, of_atom (forwards d.1)) goes.1)
    ahead (suc n) k ds (caret ∷ []) above b goes = absurd (true≢false (sym goes.1))
    ahead (suc n) k ds (caret ∷ word w ∷ ts) above b goes =
        let d = known_name (kind_names m) w goes.1.0.goes goes.1.0.known in
        with_front k ds (caret ∷ word w ∷ []) ts (caret ∷ word w ∷ ts) refl
        (behind n k ds (caret ∷ word w ∷ []) ts (omega arith) b (Against d.0, of_atom (backwards d.1)) goes.1.1)
    ahead (suc n) k ds (caret ∷ t ∷ ts) above b goes = absurd (true≢false (sym goes.1.0.goes))
    ahead (suc n) k ds (open_paren ∷ ts) above b goes =
        let r = group k ts (ahead n (suc k) [] ts (omega arith) before_all (subst (λ j. Steps j ts) (one_deeper k) goes.1)) in
        with_front k ds r.taken r.left (open_paren ∷ ts) r.front
        (behind n k ds r.taken r.left (let s = r.shorter in omega arith) b r.phrase r.goes)
    ahead (suc n) k ds (t ∷ ts) above b goes = absurd (true≢false (sym goes.0.goes))

    behind : (n k : ℕ) (ds us ts : List Token) → 2 * length ts + 1 ≤ n → Before ds → Has (IsStep (kind_names m)) us → GoesOn k ts → Ahead k (ds ++ us) ts
    behind zero k ds us ts above b h goes = absurd (omega arith)
    behind (suc n) k ds us (plus ∷ ts) above b h goes =
        with_sign k ds us ts plus (behind n k ds (us ++ plus ∷ []) ts (omega arith) b (Chain h.0, chain h.1) goes.1)
    behind (suc n) k ds us (slash ∷ ts) above b h goes =
        with_sign k ds us ts slash (ahead n k (ds ++ (us ++ slash ∷ [])) ts (omega arith) (slash_on ds us b h) goes.1)
    behind (suc n) k ds us (bar ∷ ts) above b h goes =
        with_sign k ds us ts bar (ahead n k (ds ++ (us ++ bar ∷ [])) ts (omega arith) (bar_on ds us b h) goes.1)
    behind (suc n) k ds us ts above b h goes = record {
      taken = [];
      left = ts;
      front = refl;
      phrase = subst (Has (IsPath (kind_names m))) (sym (append-nil (ds ++ us))) (step_on ds us b h);
      goes = goes;
      ends = refl;
    }

  -- a path, its closing bracket, and the tokens after it
  pub record Bracketed (ts : List Token) : Type 0 where
    pub taken : List Token
    pub rest : List Token
    pub front : ts ≡ taken ++ close_bracket ∷ rest
    pub path : Path
    pub phrase : IsPath (kind_names m) taken path
    pub goes : Passes m (going_on p the_other_end) rest

  bracket : (ts taken us : List Token) → ts ≡ taken ++ us → Has (IsPath (kind_names m)) taken → GoesOn 0 us → ends_path us ≡ true → Bracketed ts
  bracket ts taken [] front h goes ends = absurd (true≢false (sym goes))
  bracket ts taken (close_bracket ∷ us) front h goes ends = record { taken = taken; rest = us; front = front; path = h.0; phrase = h.1; goes = goes.1 }
  bracket ts taken (bar ∷ us) front h goes ends = absurd (true≢false (sym ends))
  bracket ts taken (slash ∷ us) front h goes ends = absurd (true≢false (sym ends))
  bracket ts taken (plus ∷ us) front h goes ends = absurd (true≢false (sym ends))
  bracket ts taken (t ∷ us) front h goes ends = absurd (true≢false (sym goes.0.goes))

  pub path_found : (ts : List Token) → Passes m (going_on p (a_step 0)) ts → Bracketed ts
  path_found ts goes = let r = ahead (2 * length ts) 0 [] ts (omega arith) before_all goes in bracket ts r.taken r.left r.front r.phrase r.goes r.ends
