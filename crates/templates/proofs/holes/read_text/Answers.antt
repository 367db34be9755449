use Rattle.std.proofs.Common.{◌≡◌, [], ◌∷◌, ◌++◌, ◌∙◌, sym, ap, map, length, rules, arith}
use Rattle.std.specs.Prelude.{string_bytes}
use Rattle.std.proofs.lemmas.Bool.Decides.{nat_tests}
use Rattle.templates.specs.View.{piece_view}
use Rattle.templates.specs.TextReading.{in_front}
use Rattle.templates.proofs.TextWalk.{text_begins, text_with_words, text_with_hole, text_hole_stops, text_stops, text_ends}
use Rattle.templates.proofs.holes.read_text.Goals as goal

pub rest-init : goal.rest-init
rest-init c = record {
  utf8 = search rules;
  so_far = rw (c.new-pieces.ensures.done, c.new-pieces.ensures.words) (text_begins c.args.model.now c.args.scope.now c.args.counts c.args.text.now);
}

pub rest-preserved-in-Words : goal.rest-preserved-in-Words
rest-preserved-in-Words c = record {
  utf8 = search rules;
  so_far = rw c.in_ok-push_str-in-Words.ensures.bytes
      (text_with_words c.args.model.now c.args.scope.now c.args.counts c.args.text.now c.rest.holes c.rest.rest.now (map piece_view c.rest.pieces.done.items)
      (string_bytes c.rest.pieces.words) c.rest.invariant.so_far c.in-Words.words.now c.in-Words.after.now c.in-Words.ensures);
}

pub read_hole-requires-clause-place : goal.read_hole-requires-clause-place
read_hole-requires-clause-place c =
    let within = c.in-Hole.ensures.within in
    let inside = c.rest.invariant.so_far.within in omega arith

pub rest-preserved : goal.rest-preserved
rest-preserved c =
    let done = map piece_view c.rest.pieces.done.items in
    let words = string_bytes c.rest.pieces.words in
    record {
      utf8 = search rules;
      so_far = rw c.in_ok-add_hole-in-Ok.ensures.words
          (text_with_hole c.args.model.now c.args.scope.now c.args.counts c.args.text.now c.rest.holes c.rest.rest.now done words c.rest.invariant.so_far
          c.in-Hole.inner.now c.in-Hole.after.now (map piece_view c.add_hole.new.self.done.items) c.in-Hole.ensures c.in-Ok.ensures.none
          (c.in_ok-add_hole-in-Ok.ensures.done ∙ ap (λ p. done ++ in_front words [] ++ p ∷ []) c.in-Ok.ensures.part));
    }

pub returns-in-Err-clause-fault : goal.returns-in-Err-clause-fault
returns-in-Err-clause-fault c =
    text_hole_stops c.args.model.now c.args.scope.now c.args.counts c.args.text.now c.rest.holes c.rest.rest.now (map piece_view c.rest.pieces.done.items)
    (string_bytes c.rest.pieces.words) c.rest.invariant.so_far c.in-Hole.inner.now c.in-Hole.after.now c.in-Err.at c.in-Hole.ensures c.in-Err.ensures.fault

pub returns-in-Fault-clause-fault : goal.returns-in-Fault-clause-fault
returns-in-Fault-clause-fault c =
    text_stops c.args.model.now c.args.scope.now c.args.counts c.args.text.now c.rest.holes c.rest.rest.now (map piece_view c.rest.pieces.done.items)
    (string_bytes c.rest.pieces.words) c.rest.invariant.so_far c.in-Fault.ensures

pub returns-clause-parts : goal.returns-clause-parts
returns-clause-parts c =
    let empty : length c.rest.rest.now ≡ 0 = grind (arith, nat_tests) in
    text_ends c.args.model.now c.args.scope.now c.args.counts c.args.text.now c.rest.holes c.rest.rest.now (map piece_view c.rest.pieces.done.items)
    (string_bytes c.rest.pieces.words) c.rest.invariant.so_far (map piece_view c.of.result) empty (ap (map piece_view) c.of.ensures ∙ c.in_ok-close_words.ensures.done)
