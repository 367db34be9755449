use Rattle.std.proofs.Common.{◌∙◌, ap, sym, subst, ◌++◌, ◌∷◌, [], Some, length}
use Rattle.feature_model.specs.Contents.{IsBelow}
use Rattle.feature_model.specs.Children.{members_of, with_child}
use Rattle.feature_model.proofs.ChildLists.{members_with_some, members_with_none}
use Rattle.feature_model.proofs.line.join.Goals as goal
use Rattle.feature_model.proofs.line.join.Goals.{in-Some+in_ok-push, in_default}

pub returns : goal.returns
returns c =
    ap members_of c.in_ok-push-2.ensures.items
    ∙ elim c.match-parent.branch [
      | in-Some+in_ok-push w ↦
          let lists = c.args.lists.now.items in
          let below : IsBelow (length lists) (Some w.from.result) = subst (IsBelow (length lists)) (w.in-Some.is ∙ ap Some (sym w.from.ensures)) c.requires in
          ap (λ v. members_of (v.items ++ c.new.result ∷ [])) w.lists-is
          ∙ (members_with_some lists w.from.result c.args.child w.index_mut-members.result.now w.push.new.self c.new.result below w.index_mut-members.ensures.value
          w.in_ok-push.ensures.items c.new.ensures.items
          ∙ ap (λ p. with_child (members_of lists) p c.args.child) (ap Some w.from.ensures ∙ sym w.in-Some.is))
      | in_default w ↦
          ap (λ v. members_of (v.items ++ c.new.result ∷ [])) w.lists-is
          ∙ (members_with_none c.args.lists.now.items c.args.child c.new.result c.new.ensures.items
          ∙ ap (λ p. with_child (members_of c.args.lists.now.items) p c.args.child) (sym w.in_default.is))
    ]
