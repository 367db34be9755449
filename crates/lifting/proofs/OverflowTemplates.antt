-- Template nodes for which there is too little room: a node that is placed with what is below it, and a node that uses a template.
use Rattle.std.proofs.Common.{◌≡◌, ℕ, suc, List, [], ◌∷◌, ◌++◌, map, length, Bool, true, false, not, ◌&&◌, Option, Some, None, refl, sym, ap, ◌∙◌, subst, arith, inl, inr, ◌⊎◌}
use Rattle.std.specs.Prelude.{cond}
use Rattle.std.specs.List.{slice_get}
use Rattle.std.proofs.lemmas.List.{append-nil}
use Rattle.worlds.specs.Algebra.{Algebra, Kept}
use Rattle.worlds.proofs.Kept.{world_before, kept_then}
use Rattle.meaning.specs.Texts.{flat}
use Rattle.meaning.specs.Models.{Model, model_at}
use Rattle.meaning.specs.Queries.{Query, answers, element_of_variable}
use Rattle.meaning.specs.Cases.{NodeKind}
use Rattle.meaning.specs.Templates.{Template, TemplateNode, TemplateKind, Plain, Uses, Instance, nothing, over, node_of, findings_of, branches_of, annotations, supporters, supported_by, first_node, key_below, is_guarded_off, instance_by_kind, instance_within}
use Rattle.meaning.specs.Tidy.{Among, none, taken, whole_model, keys_within, keys_by_kind, first_keys}
use Rattle.meaning.specs.Tidy as tidy
use Rattle.meaning.proofs.EachMembers.{each_by}
use Rattle.path_queries.specs.Answering.{tuples_of, tuples_at}
use Rattle.lifting.specs.declared.growing.Growing.{Growing}
use Rattle.lifting.specs.Lifting.{Seen}
use Rattle.lifting.specs.Noted.{Noted, seen_at, entries_of}
use Rattle.lifting.specs.Sites.{AddsOne, AreRows, note_of, tuples_of_each, branch_front, instances_below, keys_below, instances_of_tuples, keys_of_tuples}
use Rattle.lifting.specs.Overflows.{KeyOccurs, TupleOccurs, Overflows, RowsOverflow}
use Rattle.meaning.proofs.Lists.{cond_append, cond_flat}
use Rattle.meaning.proofs.Members.{Member, member_front, member_either, member_of_flat}
use Rattle.lifting.proofs.AmongLists.{among_nothing, among_itself, among_append, among_flats}
use Rattle.lifting.proofs.NotedTrees.{same_tuples}
use Rattle.lifting.proofs.LoopSteps.{one_later}
use Rattle.lifting.proofs.OverflowSteps.{StandsIn, Fills, fills_later, overflows_then, overflows_as, overflows_in}
use Rattle.lifting.proofs.OverflowNodes.{entries_of_nodes}

both_hold : (b c : Bool) → (b && not c) ≡ true → (b ≡ true) × (c ≡ false)
both_hold true false e = (refl, refl)
both_hold true true e = cc
both_hold false c e = cc

module _ {C : Type 0} where
  module _ (c : Algebra C) (m : Model) (templates : List Template) (depth : ℕ) (t : Template) (key bound : List ℕ) (n : ℕ × TemplateNode) (own before : List Bool → Bool) where
    -- the instance of the node, where the place's condition holds
    abbrev whole_at : List Bool → List Instance
    whole_at x = cond (before x) (instance_within (suc depth) (length m.labels) (model_at m x) templates t key bound n ∷ []) []

    abbrev below_at : TemplateKind → List Bool → Instance
    below_at kind x = instance_by_kind (instance_within depth (length m.labels) (model_at m x) templates) (length m.labels) (model_at m x) templates t key bound n kind

    abbrev keys_at : List (List ℕ)
    keys_at = keys_within (suc depth) (whole_model m) templates t key n

    -- the condition is that of the place, where the guard has an answer
    abbrev pub IsUnguarded : Type 0
    IsUnguarded = (x : List Bool) → c.is_world x ≡ true → own x ≡ (before x && not (is_guarded_off (model_at m x) bound n.1.guard))

    whole_is : IsUnguarded → (kind : TemplateKind) → n.1.kind ≡ kind → (x : List Bool) → c.is_world x ≡ true → own x ≡ true → whole_at x ≡ below_at kind x ∷ []
    whole_is guarded kind e x w o =
        let both : (before x ≡ true) × (is_guarded_off (model_at m x) bound n.1.guard ≡ false) = both_hold (before x) (is_guarded_off (model_at m x) bound n.1.guard) (sym (guarded x w) ∙ o) in
        ap (λ b. cond b (instance_within (suc depth) (length m.labels) (model_at m x) templates t key bound n ∷ []) []) both.0
        ∙ ap (λ off. cond off nothing (below_at n.1.kind x) ∷ []) both.1
        ∙ ap (λ kind. below_at kind x ∷ []) e

    -- ---- a node that uses a template

    module _ (used : ℕ) (arguments : List ℕ) (uses : n.1.kind ≡ Uses used arguments) (guarded : IsUnguarded) (v : Template) (template : slice_get templates used ≡ Some v) where
      abbrev used_at : List Bool → List Instance
      used_at x = cond (own x) (first_node (instance_within depth (length m.labels) (model_at m x) templates) (Some v) key (map (element_of_variable bound) arguments) ∷ []) []

      used_is : (x : List Bool) → c.is_world x ≡ true → own x ≡ true
          → whole_at x ≡ first_node (instance_within depth (length m.labels) (model_at m x) templates) (Some v) key (map (element_of_variable bound) arguments) ∷ []
      used_is x w o =
          whole_is guarded (Uses used arguments) uses x w o
          ∙ ap (λ o. first_node (instance_within depth (length m.labels) (model_at m x) templates) o key (map (element_of_variable bound) arguments) ∷ []) template

      -- what is too much of the template is too much of the node
      pub use_overflows : (room : ℕ) → Overflows c used_at (first_keys (keys_within depth (whole_model m) templates) (Some v) key) room → Overflows c whole_at keys_at room
      use_overflows room h =
          overflows_in c c used_at whole_at (λ x w. w) (λ x w s i. at_world x w s (own x) refl i) used_keys keys_at room (subst (Among used_keys) (sym keys_are) (among_itself used_keys)) h
        where
          used_keys : List (List ℕ)
          used_keys = first_keys (keys_within depth (whole_model m) templates) (Some v) key

          keys_are : keys_at ≡ used_keys
          keys_are =
              ap (keys_by_kind (keys_within depth (whole_model m) templates) (whole_model m) templates t key n) uses
              ∙ ap (λ o. first_keys (keys_within depth (whole_model m) templates) o key) template

          at_world : (x : List Bool) → c.is_world x ≡ true → (s : Seen) → (b : Bool) → own x ≡ b
              → StandsIn (cond b (first_node (instance_within depth (length m.labels) (model_at m x) templates) (Some v) key (map (element_of_variable bound) arguments) ∷ []) []) s → StandsIn (whole_at x) s
          at_world x w s true o i = subst (λ js. StandsIn js s) (sym (used_is x w o)) i
          at_world x w s false o i = elim (i.1) [ ]

    -- ---- a node of a kind

    module _ (kind : NodeKind) (plain : n.1.kind ≡ Plain kind) (guarded : IsUnguarded) where
      abbrev seen_here : List Bool → Seen
      seen_here x = (node_of (length m.labels) (model_at m x) key bound kind n.1, findings_of (length m.labels) (model_at m x) bound n.1)

      abbrev pub instances_here : List Bool → List Instance
      instances_here x =
          map (λ y. instance_within depth (length m.labels) (model_at m x) templates t (key_below key y.0) bound y) (annotations t n.0)
          ++ supported_by (instance_within depth (length m.labels) (model_at m x) templates) (model_at m x) t key bound n.0 n.1.each

      abbrev pub keys_here : List (List ℕ)
      keys_here =
          flat (λ y. keys_within depth (whole_model m) templates t (key_below key y.0) y) (annotations t n.0)
          ++ tidy.keys_below (keys_within depth (whole_model m) templates) (whole_model m) t key n.0 n.1.each

      plain_is : (x : List Bool) → c.is_world x ≡ true → own x ≡ true → whole_at x ≡ over (seen_here x) (instances_here x) ∷ []
      plain_is x w o = whole_is guarded (Plain kind) plain x w o

      own_stands : (x : List Bool) → c.is_world x ≡ true → own x ≡ true → StandsIn (whole_at x) (seen_here x)
      own_stands x w o = subst (λ js. StandsIn js (seen_here x)) (sym (plain_is x w o)) (over (seen_here x) (instances_here x), inl refl, inl refl)

      below_stands : (x : List Bool) → c.is_world x ≡ true → (s : Seen) → StandsIn (cond (own x) (instances_here x) []) s → StandsIn (whole_at x) s
      below_stands x w s i = go (own x) refl i
        where
          go : (b : Bool) → own x ≡ b → StandsIn (cond b (instances_here x) []) s → StandsIn (whole_at x) s
          go true o i =
              subst (λ js. StandsIn js s) (sym (plain_is x w o))
              (over (seen_here x) (instances_here x), inl refl, inr (member_of_flat (λ i. i.nodes) s i.0 (instances_here x) i.1 i.2))
          go false o i = elim (i.1) [ ]

      keys_are : (keys : List (List ℕ)) → Among keys keys_here → Among (key ∷ keys) keys_at
      keys_are keys among = subst (λ k. Among (key ∷ keys) (keys_by_kind (keys_within depth (whole_model m) templates) (whole_model m) templates t key n k)) (sym plain) (taken among)

      -- the node alone with its rows fills some of the room
      pub one_fills : (rows : List (List ℕ × C)) (above : Option ℕ) (g h : Growing C) → AddsOne c m n.1 kind key bound own rows above g h → Fills c whole_at (key ∷ []) g.left h.left
      one_fills rows above g h one = record {
        number = entries_of (first ∷ []);
        has = entries_of_nodes c whole_at (first ∷ []) (key ∷ []) (one.stands, tt) placed (subst (λ k. Among (k ∷ []) (key ∷ [])) (sym one.key) (taken none));
        counted = omega (arith, one.counted);
      }
        where
          first : Noted C
          first = (one.node, note_of m bound n.1 own rows)

          is_placed : (x : List Bool) → c.is_world x ≡ true → own x ≡ true → StandsIn (whole_at x) (seen_at x first)
          is_placed x w o = subst (StandsIn (whole_at x)) (sym (one.seen x w o)) (own_stands x w o)

          placed : (k : Noted C) → Member k (first ∷ []) → (x : List Bool) → c.is_world x ≡ true → k.1.there x ≡ true → StandsIn (whole_at x) (seen_at x k)
          placed k (inl e) = subst (λ k. (x : List Bool) → c.is_world x ≡ true → k.1.there x ≡ true → StandsIn (whole_at x) (seen_at x k)) e is_placed
          placed k (inr e) = elim e [ ]

      -- too much below the node, with the node itself, is too much
      pub below_overflows : (rows : List (List ℕ × C)) (above : Option ℕ) (g h : Growing C) → AddsOne c m n.1 kind key bound own rows above g h
          → (keys : List (List ℕ)) → Among keys keys_here → Overflows c (λ x. cond (own x) (instances_here x) []) keys h.left → Overflows c whole_at keys_at g.left
      below_overflows rows above g h one keys among o =
          overflows_in c c (λ x. whole_at x ++ cond (own x) (instances_here x) []) whole_at (λ x w. w) at_world ((key ∷ []) ++ keys) keys_at g.left (keys_are keys among)
          (overflows_then c whole_at (λ x. cond (own x) (instances_here x) []) (key ∷ []) keys g.left h.left (one_fills rows above g h one) o)
        where
          at_world : (x : List Bool) → c.is_world x ≡ true → (s : Seen) → StandsIn (whole_at x ++ cond (own x) (instances_here x) []) s → StandsIn (whole_at x) s
          at_world x w s i = go (member_either i.0 (whole_at x) (cond (own x) (instances_here x) []) i.1)
            where
              go : Member i.0 (whole_at x) ⊎ Member i.0 (cond (own x) (instances_here x) []) → StandsIn (whole_at x) s
              go (inl k) = (i.0, k, i.2)
              go (inr k) = below_stands x w s (i.0, k, i.2)

      abbrev own_occurs : (x : List Bool) → c.is_world x ≡ true → own x ≡ true → KeyOccurs c whole_at key
      own_occurs x w o = record {
        world = x;
        is_world = w;
        instance = (own_stands x w o).0;
        of_world = (own_stands x w o).1;
        node = seen_here x;
        stands = (own_stands x w o).2;
        key = refl;
      }

      -- too many rows at the node itself
      pub rows_overflow_node : (a : Algebra C) (room : ℕ) → Kept a c → (x : List Bool) × (a.is_world x ≡ true) × (own x ≡ true)
          → RowsOverflow a m n.1.each bound own room → Overflows c whole_at keys_at room
      rows_overflow_node a room kept occurs h = record {
        groups = (key, h.tuples) ∷ [];
        keyed = keys_are [] (among_nothing keys_here);
        once = (h.once, tt);
        keys_occur = (own_occurs occurs.0 (kept.worlds occurs.0 ∙ occurs.1) occurs.2, tt);
        tuples_occur = (each_by _ (TupleOccurs c whole_at key) (λ t r. record { occurs = own_occurs r.0 (kept.worlds r.0 ∙ r.1) r.2; branch = r.3 }) h.tuples h.answer, tt);
        many = omega (arith, h.many);
      }

  -- ---- the first node of a template

  pub first_overflows : (c : Algebra C) (m : Model) (templates : List Template) (depth : ℕ) (t : Template) (key bound : List ℕ) (u : List Bool → Bool) (n : TemplateNode) (room : ℕ) → slice_get t.nodes 0 ≡ Some n
      → Overflows c (λ x. cond (u x) (instance_within depth (length m.labels) (model_at m x) templates t key bound (0, n) ∷ []) []) (keys_within depth (whole_model m) templates t key (0, n)) room
      → Overflows c (λ x. cond (u x) (first_node (instance_within depth (length m.labels) (model_at m x) templates) (Some t) key bound ∷ []) []) (first_keys (keys_within depth (whole_model m) templates) (Some t) key) room
  first_overflows c m templates depth t key bound u n room e h =
      overflows_as c
      (λ x. cond (u x) (instance_within depth (length m.labels) (model_at m x) templates t key bound (0, n) ∷ []) [])
      (λ x. cond (u x) (first_node (instance_within depth (length m.labels) (model_at m x) templates) (Some t) key bound ∷ []) [])
      (keys_within depth (whole_model m) templates t key (0, n)) (first_keys (keys_within depth (whole_model m) templates) (Some t) key) room
      (λ x w. ap (λ o. cond (u x) (elim o as (λ _. Instance) [ None ↦ nothing | Some y ↦ instance_within depth (length m.labels) (model_at m x) templates t key bound (0, y) ] ∷ []) []) (sym e))
      (ap (λ o. elim o as (λ _. List (List ℕ)) [ None ↦ [] | Some y ↦ keys_within depth (whole_model m) templates t key (0, y) ]) (sym e)) h

  -- ---- the steps of a node of a kind

  -- the node was placed at a, and what annotates it, if it had room, at b
  module _ (a b c : Algebra C) (m : Model) (templates : List Template) (depth : ℕ) (t : Template) (key bound : List ℕ) (j : ℕ) (n : TemplateNode) (kind : NodeKind) (own before : List Bool → Bool)
      (rows : List (List ℕ × C)) (above : Option ℕ) (g h i : Growing C) (kept : Kept a b) (later : Kept b c) (plain : n.kind ≡ Plain kind)
      (guarded : (x : List Bool) → c.is_world x ≡ true → own x ≡ (before x && not (is_guarded_off (model_at m x) bound n.guard)))
      (one : AddsOne a m n kind key bound own rows above g h) (u : List Bool → Bool) (same : (x : List Bool) → u x ≡ own x) where
    abbrev whole : List Bool → List Instance
    whole x = cond (before x) (instance_within (suc depth) (length m.labels) (model_at m x) templates t key bound (j, n) ∷ []) []

    abbrev whole_keys : List (List ℕ)
    whole_keys = keys_within (suc depth) (whole_model m) templates t key (j, n)

    abbrev annotating_at : List Bool → List Instance
    annotating_at x = cond (u x) (instances_below m templates depth t (key ++ 47 ∷ []) bound (annotations t j) x) []

    abbrev annotating_keys : List (List ℕ)
    annotating_keys = keys_below m templates depth t (key ++ 47 ∷ []) (annotations t j)

    abbrev supporting_at : List Bool → List Instance
    supporting_at x = supported_by (instance_within depth (length m.labels) (model_at m x) templates) (model_at m x) t key bound j n.each

    abbrev supporting_keys : List (List ℕ)
    supporting_keys = tidy.keys_below (keys_within depth (whole_model m) templates) (whole_model m) t key j n.each

    -- what annotates the node is too much
    pub annotations_overflow : Overflows c annotating_at annotating_keys h.left → Overflows c whole whole_keys g.left
    annotations_overflow o =
        below_overflows c m templates depth t key bound (j, n) own before kind plain guarded rows above g h (one_later m n kind key bound own rows above g h (kept_then kept later) one)
        annotating_keys (subst (λ ks. Among ks (annotating_keys ++ supporting_keys)) (append-nil annotating_keys) (among_append (among_nothing supporting_keys) (among_itself annotating_keys)))
        (overflows_in c c annotating_at (λ x. cond (own x) (instances_below m templates depth t (key ++ 47 ∷ []) bound (annotations t j) x ++ supporting_at x) []) (λ x w. w) (λ x w s i. at_world x s (u x) refl i)
        annotating_keys annotating_keys h.left (among_itself annotating_keys) o)
      where
        at_world : (x : List Bool) (s : Seen) (b : Bool) → u x ≡ b → StandsIn (cond b (instances_below m templates depth t (key ++ 47 ∷ []) bound (annotations t j) x) []) s
            → StandsIn (cond (own x) (instances_below m templates depth t (key ++ 47 ∷ []) bound (annotations t j) x ++ supporting_at x) []) s
        at_world x s true e i =
            subst (λ b. StandsIn (cond b (instances_below m templates depth t (key ++ 47 ∷ []) bound (annotations t j) x ++ supporting_at x) []) s) (sym e ∙ same x)
            (i.0, member_front i.0 (instances_below m templates depth t (key ++ 47 ∷ []) bound (annotations t j) x) (supporting_at x) i.1, i.2)
        at_world x s false e i = elim (i.1) [ ]

    module _ (annotating : Fills b annotating_at annotating_keys h.left i.left) where
      -- with these instances and keys of what supports it
      with_support : (is : List Bool → List Instance) (keys : List (List ℕ)) → ((x : List Bool) → c.is_world x ≡ true → is x ≡ cond (own x) (supporting_at x) [])
          → Among keys supporting_keys → Overflows c is keys i.left → Overflows c whole whole_keys g.left
      with_support is keys f among o =
          below_overflows c m templates depth t key bound (j, n) own before kind plain guarded rows above g h (one_later m n kind key bound own rows above g h (kept_then kept later) one)
          (annotating_keys ++ keys) (among_append among (among_itself annotating_keys))
          (overflows_as c (λ x. annotating_at x ++ is x) (λ x. cond (own x) (instances_below m templates depth t (key ++ 47 ∷ []) bound (annotations t j) x ++ supporting_at x) [])
          (annotating_keys ++ keys) (annotating_keys ++ keys) h.left
          (λ x w.
          ap (λ b. cond b (instances_below m templates depth t (key ++ 47 ∷ []) bound (annotations t j) x) [] ++ is x) (same x)
          ∙ ap (λ js. cond (own x) (instances_below m templates depth t (key ++ 47 ∷ []) bound (annotations t j) x) [] ++ js) (f x w)
          ∙ cond_append (own x) (instances_below m templates depth t (key ++ 47 ∷ []) bound (annotations t j) x) (supporting_at x))
          refl
          (overflows_then c annotating_at is annotating_keys keys h.left i.left (fills_later annotating_at annotating_keys h.left i.left later annotating) o))

      -- what supports the node once is too much
      pub supporters_overflow : n.each ≡ None → (v : List Bool → Bool) → ((x : List Bool) → v x ≡ own x)
          → Overflows c (λ x. cond (v x) (instances_below m templates depth t (key ++ 47 ∷ []) bound (supporters t j) x) []) (keys_below m templates depth t (key ++ 47 ∷ []) (supporters t j)) i.left
          → Overflows c whole whole_keys g.left
      supporters_overflow e v is_own o =
          with_support (λ x. cond (v x) (instances_below m templates depth t (key ++ 47 ∷ []) bound (supporters t j) x) []) (keys_below m templates depth t (key ++ 47 ∷ []) (supporters t j))
          (λ x w.
          ap (λ b. cond b (instances_below m templates depth t (key ++ 47 ∷ []) bound (supporters t j) x) []) (is_own x)
          ∙ ap (λ q. cond (own x) (supported_by (instance_within depth (length m.labels) (model_at m x) templates) (model_at m x) t key bound j q) []) (sym e))
          (subst (λ q. Among (keys_below m templates depth t (key ++ 47 ∷ []) (supporters t j)) (tidy.keys_below (keys_within depth (whole_model m) templates) (whole_model m) t key j q)) (sym e)
          (among_itself (keys_below m templates depth t (key ++ 47 ∷ []) (supporters t j))))
          o

      -- what supports it in the branches is too much
      pub branches_overflow : (q : Query) → n.each ≡ Some q → AreRows a m n.each bound own rows
          → Overflows c (λ x. instances_of_tuples m templates depth t key bound (supporters t j) (tuples_at b rows x) x) (keys_of_tuples m templates depth t key (supporters t j) (tuples_of rows)) i.left
          → Overflows c whole whole_keys g.left
      branches_overflow q e r o =
          with_support (λ x. instances_of_tuples m templates depth t key bound (supporters t j) (tuples_at b rows x) x) (keys_of_tuples m templates depth t key (supporters t j) (tuples_of rows)) instances_are
          (subst (λ q. Among (keys_of_tuples m templates depth t key (supporters t j) (tuples_of rows)) (tidy.keys_below (keys_within depth (whole_model m) templates) (whole_model m) t key j q)) (sym e)
          (among_flats (λ tuple. keys_below m templates depth t (branch_front key tuple) (supporters t j)) (λ tuple. keys_below m templates depth t (branch_front key tuple) (supporters t j)) (λ tuple. among_itself _)
          (subst (λ q. Among (tuples_of rows) (tuples_of_each m q)) e r.order)))
          o
        where
          instances_are : (x : List Bool) → c.is_world x ≡ true → instances_of_tuples m templates depth t key bound (supporters t j) (tuples_at b rows x) x ≡ cond (own x) (supporting_at x) []
          instances_are x w =
              ap (λ ts. instances_of_tuples m templates depth t key bound (supporters t j) ts x)
              (same_tuples rows x kept r.live ∙ r.exact x (world_before x (kept_then kept later) w) ∙ ap (λ q. cond (own x) (branches_of (model_at m x) bound q) []) e)
              ∙ cond_flat (λ tuple. instances_below m templates depth t (branch_front key tuple) (bound ++ tuple) (supporters t j) x) (own x) (answers (model_at m x) q bound)
              ∙ ap (λ q. cond (own x) (supported_by (instance_within depth (length m.labels) (model_at m x) templates) (model_at m x) t key bound j q) []) (sym e)
