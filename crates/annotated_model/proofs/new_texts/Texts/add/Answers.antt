use Rattle.std.proofs.Common.{◌≡◌, false, sym, ap, ap₂, ◌∙◌, ◌++◌, ◌∷◌, [], map}
use Rattle.std.specs.Prelude.{not, string_bytes}
use Rattle.meaning.specs.BundlePlaces.{is_among}
use Rattle.annotated_model.proofs.NewTexts.{among_keys, added, not_true}
use Rattle.annotated_model.proofs.new_texts.Texts.add.Goals as goal

pub returns-clause-new : goal.returns-clause-new
returns-clause-new c =
    c.in_ok-new.ensures.added
    ∙ ap not (among_keys string_bytes (string_bytes c.in_ok-text.text) c.self.inside.texts.keys ∙ ap₂ is_among c.self.view_is c.in_ok-text.ensures.ok)

pub returns-clause-added : goal.returns-clause-added
returns-clause-added c new =
    let keys = c.self.inside.texts.keys in
    let text = c.in_ok-text.text in
    let absent : is_among (map string_bytes keys) (string_bytes text) ≡ false =
    not_true _ (ap not (sym (among_keys string_bytes (string_bytes text) keys)) ∙ sym c.in_ok-new.ensures.added ∙ new) in
    added string_bytes keys c.insert_full.new.self.keys text c.in_ok-new.ensures.keys absent
    ∙ ap₂ (λ xs s. xs ++ s ∷ []) c.self.view_is c.in_ok-text.ensures.ok
