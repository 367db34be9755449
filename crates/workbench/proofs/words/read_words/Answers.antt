use Rattle.workbench.proofs.CommandLines.{six_words}
use Rattle.workbench.proofs.words.read_words.Goals as goal

-- the command, its two files and its limit are the second to fourth and the last two of six words
pub returns-in-6-clause-words : goal.returns-in-6-clause-words
returns-in-6-clause-words c =
    let line = six_words c.args.words.now c.index-words-1-in-6.result c.index-words-2-in-6.result c.index-words-3-in-6.result c.index-words-4-in-6.result c.index-words-5.result
    c.in-6.is c.index-words-1-in-6.is c.index-words-2-in-6.is c.index-words-3-in-6.is c.index-words-4-in-6.is c.index-words-5.is in
    cc
