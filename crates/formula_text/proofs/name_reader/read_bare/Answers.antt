use Rattle.formula_text.proofs.Quoted.{bare-name}
use Rattle.formula_text.proofs.name_reader.read_bare.Goals as goal

pub returns-clause-ok : goal.returns-clause-ok
returns-clause-ok c =
    bare-name c.args.text.now c.rest_of-rest.result.now c.args.from c.count_word_bytes-count.result c.in_ok-name.name c.requires.within c.rest_of-rest.ensures c.requires.begins c.count_word_bytes-count.ensures c.in_ok-name.ensures.ok
