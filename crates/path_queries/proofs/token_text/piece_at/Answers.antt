use Rattle.std.proofs.Common.{◌≡◌, ◌∙◌, sym, ap, subst, ◌+◌, slice_index, drop, false, arith}
use Rattle.meaning.specs.Texts.{is_word_byte}
use Rattle.cond_text.specs.Lexemes.{begins_with}
use Rattle.path_queries.specs.Lexing.{StandsAt}
use Rattle.path_queries.proofs.TextPieces.{blank_there, sign_there, differs_there}
use Rattle.path_queries.proofs.token_text.piece_at.Goals as goal
use Rattle.path_queries.proofs.token_text.piece_at.Goals.{else-byte-eq33-via-then-byte-eq33+else-is_at, else-byte-eq33-via-else-byte-eq33}

pub returns-then-byte-eq32 : goal.returns-then-byte-eq32
returns-then-byte-eq32 c =
    blank_there c.args.text.now c.args.at c.requires (ap (λ s. slice_index s c.args.at) (sym c.as_bytes-bytes.ensures.value) ∙ c.if-byte-eq32.true)

pub returns-then-is_at : goal.returns-then-is_at
returns-then-is_at c =
    differs_there c.args.text.now c.args.at c.requires (ap (λ s. slice_index s c.args.at) (sym c.as_bytes-bytes.ensures.value) ∙ c.if-byte-eq33.true)
    (ap (λ s. begins_with 61 (drop (c.args.at + 1) s)) (sym c.as_bytes-bytes.ensures.value) ∙ (sym c.is_at.ensures ∙ c.if-is_at.true))

pub returns : goal.returns
returns c =
    let bytes = c.as_bytes-bytes.result.now in
    let lone : slice_index bytes c.args.at ≡ 33 → begins_with 61 (drop (c.args.at + 1) c.args.text.now) ≡ false =
    λ e. elim c.else-byte-eq33.branch [
      | else-byte-eq33-via-then-byte-eq33+else-is_at w ↦
          ap (λ s. begins_with 61 (drop (c.args.at + 1) s)) (sym c.as_bytes-bytes.ensures.value) ∙ (sym w.is_at.ensures ∙ w.if-is_at.false)
      | else-byte-eq33-via-else-byte-eq33 w ↦ absurd (w.if-byte-eq33.false e)
    ] in
    subst (λ t. StandsAt c.args.text.now c.args.at t (c.args.at + 1)) (sym c.sign_of.ensures)
    (sign_there c.args.text.now c.args.at (slice_index bytes c.args.at) c.requires (ap (λ s. slice_index s c.args.at) (sym c.as_bytes-bytes.ensures.value))
    c.if-byte-eq32.false c.if-byte-eq39.false (sym c.is_word_byte.ensures ∙ c.if-is_word_byte.false) lone)
