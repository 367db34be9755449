use Rattle.std.proofs.Common.{ap, sym, ◌∙◌}
use Rattle.std.specs.Prelude.{not, bytes_eq, string_bytes}
use Rattle.std.specs.List.{list_any}
use Rattle.lifted_case.proofs.SeenNames.{any_mapped}
use Rattle.lifted_case.proofs.faults.names.SeenNames.insert.Goals as goal

pub returns-clause-added : goal.returns-clause-added
returns-clause-added c =
    let keys = c.self.inside.texts.keys in
    c.in_ok-insert.ensures.added
    ∙ ap not (ap (λ w. list_any (λ key. bytes_eq w (string_bytes key)) keys) c.in_ok-text.ensures.ok
    ∙ sym (any_mapped (bytes_eq c.args.name.now) string_bytes keys) ∙ ap (list_any (bytes_eq c.args.name.now)) c.self.view_is)
