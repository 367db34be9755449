-- From the place of a template node to the places below it.
use Rattle.std.proofs.Common.{◌≡◌, ℕ, ◌+◌, ◌<◌, ◌≤◌, List, [], ◌∷◌, ◌++◌, map, length, Bool, true, false, Some, None, zero, suc, inl, inr, refl, sym, ap, ◌∙◌, subst, arith}
use Rattle.std.specs.Prelude.{cond, filter, Contains, ◌^◌}
use Rattle.std.specs.List.{slice_get, enumerate_from}
use Rattle.std.proofs.lemmas.List.{length-append, length-map}
use Rattle.worlds.specs.Algebra.{Algebra, Kept}
use Rattle.worlds.proofs.Kept.{world_before}
use Rattle.meaning.specs.Models.{Model, model_at}
use Rattle.meaning.specs.Queries.{Query, answers, tuples, element_of_variable}
use Rattle.meaning.specs.Templates.{Template, TemplateNode, Uses, branches_of, annotations, supporters}
use Rattle.meaning.specs.Tidy.{whole_model, Among}
use Rattle.meaning.proofs.CutTrees.{Each}
use Rattle.meaning.proofs.EachMembers.{each_by}
use Rattle.path_queries.specs.Answering.{tuples_of, tuples_at}
use Rattle.meaning.proofs.KeySteps.{IsSmall}
use Rattle.lifting.specs.ScopedTemplates.{bound_by}
use Rattle.lifting.specs.ThereElements.{IsThere}
use Rattle.lifting.specs.Sites.{Site, FirstSite, SiteBelow, RowSites, AreRows, tuples_of_each, stands_below}
use Rattle.meaning.proofs.Lists.{each_append}
use Rattle.lifting.proofs.AmongLists.{among_each}
use Rattle.meaning.proofs.EqualityTests.{none_is_some, some_is}
use Rattle.meaning.proofs.KeysDiffer.{small_elements}
use Rattle.lifting.proofs.TupleLengths.{tuple_lengths}
use Rattle.meaning.proofs.Members.{Member, member_of_contains, member_each, member_mapped}
use Rattle.lifting.proofs.ThereElements.{each_of_tuples, each_of_arguments, answers_are_there}

-- the number of each that passes is one that the property holds of
each_at : (P : ℕ × TemplateNode → Type 0) (p : TemplateNode → Bool) (k i : ℕ) (ns : List TemplateNode) (n : TemplateNode) → slice_get ns i ≡ Some n → p n ≡ true
    → Each P (filter (λ x. p x.1) (enumerate_from k ns)) → P (k + i, n)
each_at P p k i [] n s e h = elim (none_is_some n s) [ ]
each_at P p k zero (y ∷ ns) n s e h = go (p y) (ap p (some_is y n s) ∙ e) h
  where
    go : (b : Bool) → b ≡ true → Each P (cond b ((k, y) ∷ filter (λ x. p x.1) (enumerate_from (k + 1) ns)) (filter (λ x. p x.1) (enumerate_from (k + 1) ns))) → P (k + 0, n)
    go true f h = subst (λ j. P (j, n)) (omega arith) (subst (λ y. P (k, y)) (some_is y n s) h.0)
    go false f h = elim (not_both f) [ ]
      where
        not_both : false ≡ true → ⊥
        not_both f = cc
each_at P p k (suc i) (y ∷ ns) n s e h = subst (λ j. P (j, n)) (omega arith) (each_at P p (k + 1) i ns n s e (go (p y) h))
  where
    go : (b : Bool) → Each P (cond b ((k, y) ∷ filter (λ x. p x.1) (enumerate_from (k + 1) ns)) (filter (λ x. p x.1) (enumerate_from (k + 1) ns)))
        → Each P (filter (λ x. p x.1) (enumerate_from (k + 1) ns))
    go true h = h.1
    go false h = h

module _ {C : Type 0} where
  -- ---- at later moments

  -- under another condition, that holds only where the first does
  pub site_under : (a b : Algebra C) (m : Model) (templates : List Template) (t : Template) (j : ℕ) (n : TemplateNode) (bound : List ℕ) (under own : C) → Kept a b
      → ((x : List Bool) → b.is_world x ≡ true → b.holds own x ≡ true → a.holds under x ≡ true)
      → Site a m templates t j n bound under → Site b m templates t j n bound own
  site_under a b m templates t j n bound under own k only h = record {
    fit = h.fit;
    number = h.number;
    stands = h.stands;
    as_many = h.as_many;
    there = λ x w o. h.there x (world_before x k w) (only x w o);
  }

  -- the same condition later
  pub below_site_later : (a b : Algebra C) (m : Model) (templates : List Template) (t : Template) (j : ℕ) (annotating : Bool) (bound : List ℕ) (under : C) → Kept a b → a.live under
      → SiteBelow a m templates t j annotating bound under → SiteBelow b m templates t j annotating bound under
  below_site_later a b m templates t j annotating bound under k live h = record {
    fit = h.fit;
    number = h.number;
    template = h.template;
    as_many = h.as_many;
    there = λ x w o. h.there x (world_before x k w) (sym (k.holds under live x) ∙ o);
  }

  -- ---- what is below

  pub annotations_site : (a : Algebra C) (m : Model) (templates : List Template) (t : Template) (j : ℕ) (n : TemplateNode) (bound : List ℕ) (under : C)
      → Site a m templates t j n bound under → SiteBelow a m templates t j true bound under
  annotations_site a m templates t j n bound under h = record {
    fit = h.fit;
    number = h.number;
    template = h.stands.template;
    as_many = each_by _ (λ x. length bound ≡ h.fit.scoped.scope h.number x.0) (λ x e. h.as_many ∙ sym e) (annotations t j) (h.fit.scoped.annotations_see h.number t j n h.stands);
    there = h.there;
  }

  pub supporters_site : (a : Algebra C) (m : Model) (templates : List Template) (t : Template) (j : ℕ) (n : TemplateNode) (bound : List ℕ) (under : C)
      → n.each ≡ None → Site a m templates t j n bound under → SiteBelow a m templates t j false bound under
  supporters_site a m templates t j n bound under e h = record {
    fit = h.fit;
    number = h.number;
    template = h.stands.template;
    as_many =
        each_by _ (λ x. length bound ≡ h.fit.scoped.scope h.number x.0)
        (λ x s. h.as_many ∙ sym (s ∙ ap (λ q. h.fit.scoped.scope h.number j + bound_by q) e ∙ omega arith)) (supporters t j) (h.fit.scoped.supporters_see h.number t j n h.stands);
    there = h.there;
  }

  -- ---- rows

  -- what holds of each typed tuple holds of the tuple of a row
  of_row : (P : List ℕ → Type 0) (rows : List (List ℕ × C)) (all : List (List ℕ)) → Among (tuples_of rows) all → Each P all → (r : List ℕ × C) → Contains rows r → P r.0
  of_row P rows all among each r c =
      member_each P (tuples_of rows) (among_each P among each) r.0 (member_mapped (λ r. r.0) r rows (member_of_contains r rows c))

  -- the tuple of a row that holds answers
  row_answers : (a : Algebra C) (x : List Bool) (rows : List (List ℕ × C)) (r : List ℕ × C) → Member r rows → a.holds r.1 x ≡ true → Member r.0 (tuples_at a rows x)
  row_answers a x [] r i o = i
  row_answers a x (s ∷ rows) r (inl e) o = go (a.holds s.1 x) (ap (λ r. a.holds r.1 x) e ∙ o)
    where
      go : (b : Bool) → b ≡ true → Member r.0 (map (λ r. r.0) (cond b (s ∷ filter (λ r. a.holds r.1 x) rows) (filter (λ r. a.holds r.1 x) rows)))
      go true f = inl (ap (λ r. r.0) e)
      go false f = elim (not_both f) [ ]
        where
          not_both : false ≡ true → ⊥
          not_both f = cc
  row_answers a x (s ∷ rows) r (inr i) o = go (a.holds s.1 x) (row_answers a x rows r i o)
    where
      go : (b : Bool) → Member r.0 (tuples_at a rows x) → Member r.0 (map (λ r. r.0) (cond b (s ∷ filter (λ r. a.holds r.1 x) rows) (filter (λ r. a.holds r.1 x) rows)))
      go true j = inr j
      go false j = j

  module _ (a : Algebra C) (m : Model) (templates : List Template) (t : Template) (j : ℕ) (n : TemplateNode) (bound : List ℕ) (under : C) (u : List Bool → Bool) (rows : List (List ℕ × C)) (q : Query)
      (e : n.each ≡ Some q) (few : length m.elements ≤ 2 ^ 64) (site : Site a m templates t j n bound under)
      (same : (x : List Bool) → a.is_world x ≡ true → u x ≡ a.holds under x) (h : AreRows a m n.each bound u rows) where
    of_tuples : Among (tuples_of rows) (tuples (whole_model m) q.variables)
    of_tuples = subst (λ q. Among (tuples_of rows) (tuples_of_each m q)) e h.order

    answers_there : (r : List ℕ × C) → Contains rows r → (x : List Bool) → a.is_world x ≡ true → a.holds r.1 x ≡ true → Each (IsThere m x) (bound ++ r.0)
    answers_there r c x w o = go (u x) refl (h.exact x w)
      where
        among : Member r.0 (tuples_at a rows x)
        among = row_answers a x rows r (member_of_contains r rows c) o

        go : (b : Bool) → u x ≡ b → tuples_at a rows x ≡ cond b (branches_of (model_at m x) bound n.each) [] → Each (IsThere m x) (bound ++ r.0)
        go true f g =
            each_append (IsThere m x) bound r.0 (site.there x w (sym (same x w) ∙ f))
            (member_each (Each (IsThere m x)) (answers (model_at m x) q bound) (answers_are_there m x q bound) r.0
            (subst (λ ts. Member r.0 ts) (g ∙ ap (branches_of (model_at m x) bound) e) among))
        go false f g = elim (subst (λ ts. Member r.0 ts) g among) [ ]

    pub row_sites : RowSites a m templates t j bound rows
    row_sites = record {
      fit = site.fit;
      number = site.number;
      template = site.stands.template;
      as_many = λ r c.
          each_by _ (λ x. length (bound ++ r.0) ≡ site.fit.scoped.scope site.number x.0)
          (λ x s. length-append bound r.0 ∙ ap (λ k. k + length r.0) site.as_many ∙ ap (λ k. site.fit.scoped.scope site.number j + k) (of_row (λ tuple. length tuple ≡ length q.variables) rows _ of_tuples (tuple_lengths (whole_model m) q.variables) r c)
          ∙ sym (s ∙ ap (λ q. site.fit.scoped.scope site.number j + bound_by q) e))
          (supporters t j) (site.fit.scoped.supporters_see site.number t j n site.stands);
      there = answers_there;
      small = of_row (Each IsSmall) rows _ of_tuples (each_of_tuples IsSmall (whole_model m) (small_elements m few) q.variables);
    }

  -- ---- the template that is used

  pub use_site : (a : Algebra C) (m : Model) (templates : List Template) (t : Template) (j : ℕ) (n : TemplateNode) (bound : List ℕ) (under : C) (used : ℕ) (arguments : List ℕ)
      → n.kind ≡ Uses used arguments → Site a m templates t j n bound under → FirstSite a m templates (slice_get templates used) (map (element_of_variable bound) arguments) under
  use_site a m templates t j n bound under used arguments e h =
      let fit : Each (λ v. v < h.fit.scoped.scope h.number j) arguments × (h.fit.scoped.scope used 0 ≡ length arguments) = h.fit.scoped.arguments_fit h.number t j n h.stands used arguments e in
      record {
        fit = h.fit;
        number = used;
        template = refl;
        as_many = length-map arguments (element_of_variable bound) ∙ sym fit.1;
        there = λ x w o. each_of_arguments (IsThere m x) bound arguments (subst (λ k. Each (λ v. v < k) arguments) (sym h.as_many) fit.0) (h.there x w o);
      }

  pub first_site : (a : Algebra C) (m : Model) (templates : List Template) (t : Template) (n : TemplateNode) (bound : List ℕ) (under : C)
      → FirstSite a m templates (Some t) bound under → slice_get t.nodes 0 ≡ Some n → Site a m templates t 0 n bound under
  first_site a m templates t n bound under h e = record {
    fit = h.fit;
    number = h.number;
    stands = record { template = h.template; node = e };
    as_many = h.as_many;
    there = h.there;
  }

  -- ---- one of those below

  pub child_site : (a : Algebra C) (m : Model) (templates : List Template) (t : Template) (j : ℕ) (annotating : Bool) (bound : List ℕ) (under : C) (i : ℕ) (n : TemplateNode)
      → SiteBelow a m templates t j annotating bound under → slice_get t.nodes i ≡ Some n → stands_below j annotating n ≡ true → Site a m templates t i n bound under
  child_site a m templates t j annotating bound under i n h s e = record {
    fit = h.fit;
    number = h.number;
    stands = record { template = h.template; node = s };
    as_many = each_at (λ x. length bound ≡ h.fit.scoped.scope h.number x.0) (stands_below j annotating) 0 i t.nodes n s e h.as_many ∙ ap (h.fit.scoped.scope h.number) (omega arith);
    there = h.there;
  }
