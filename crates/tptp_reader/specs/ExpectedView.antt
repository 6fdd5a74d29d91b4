-- What the parts of the program stand for.
use Rattle.std.specs.Prelude.{ℕ, List, [], ◌∷◌, ◌++◌, Option, None, Some}
use Rattle.tptp_reader.specs.Expecting as way
use Rattle.tptp_reader.specs.declared.expected.Fixed.{Fixed}
use Rattle.tptp_reader.specs.declared.expected.Fixed.TheVariants as fixed
use Rattle.tptp_reader.specs.declared.expected.Expected.{Expected}
use Rattle.tptp_reader.specs.declared.expected.Expected.TheVariants as expected
use Rattle.tptp_reader.specs.declared.expected.Parts.{Parts}
use Rattle.tptp_reader.specs.declared.expected.Parts.TheVariants as parts
use Rattle.tptp_reader.specs.declared.expected.Rest.{Rest}
use Rattle.tptp_reader.specs.declared.expected.Rest.TheVariants as rest
use Rattle.tptp_reader.specs.declared.expected.Move.{Move}

abbrev pub the_fixed : Fixed → way.Fixed
the_fixed fixed.Opening = way.an_opening
the_fixed fixed.Closing = way.a_closing
the_fixed fixed.Square = way.a_square
the_fixed fixed.Comma = way.a_comma
the_fixed fixed.Dot = way.a_dot
the_fixed fixed.Colon = way.a_colon
the_fixed fixed.Lower = way.a_lower
the_fixed fixed.Upper = way.an_upper
the_fixed fixed.Quoted = way.a_quoted

abbrev pub the_expected : Expected → way.Expected
the_expected (expected.This k d) = way.this (the_fixed k) d
the_expected (expected.Term d) = way.term d
the_expected (expected.Arguments d) = way.arguments d
the_expected (expected.SomeArguments d) = way.some_arguments d
the_expected (expected.SomeEquation d) = way.some_equation d
the_expected (expected.Equation d) = way.equation d
the_expected (expected.Atom d) = way.atom d
the_expected (expected.Variables d) = way.variables d
the_expected (expected.Unit d) = way.unit d
the_expected (expected.Formula d) = way.formula d
the_expected (expected.FormulaRest d) = way.formula_rest d
the_expected (expected.ChainRest c d) = way.chain_rest c d
the_expected expected.Stop = way.stop
the_expected (expected.Literal d) = way.literal d
the_expected (expected.Unsigned d) = way.unsigned d
the_expected (expected.LiteralsRest d) = way.literals_rest d
the_expected expected.Clause = way.clause
the_expected expected.ClauseOpen = way.clause_open
the_expected expected.ClauseRest = way.clause_rest
the_expected expected.Items = way.items
the_expected expected.Name = way.name
the_expected expected.AfterBody = way.after_body
the_expected expected.FirstNote = way.first_note
the_expected expected.IncludeRest = way.include_rest
the_expected expected.NamesRest = way.names_rest

abbrev pub the_parts : Parts → List way.Expected
the_parts parts.Nothing = []
the_parts (parts.One a) = the_expected a ∷ []
the_parts (parts.Two a b) = the_expected a ∷ the_expected b ∷ []
the_parts (parts.Three a b c) = the_expected a ∷ the_expected b ∷ the_expected c ∷ []
the_parts (parts.Four a b c d) = the_expected a ∷ the_expected b ∷ the_expected c ∷ the_expected d ∷ []
the_parts (parts.Head body) = way.head_of (the_expected body)
the_parts parts.Include = way.this way.an_opening 0 ∷ way.this way.a_quoted 0 ∷ way.include_rest ∷ way.this way.a_dot 0 ∷ way.items ∷ []
the_parts parts.Notes = way.notes [] ∷ []
the_parts (parts.NotesIn b) = way.notes (b ∷ []) ∷ []

-- the nesting and the parts
abbrev pub the_move : ℕ → Option Parts → way.Move
the_move d None = None
the_move d (Some ps) = Some (d, the_parts ps)

-- what stands behind the parts of a move with this nesting
abbrev pub the_rest : ℕ → Rest → List way.Expected
the_rest d rest.Nothing = []
the_rest d rest.Formula = way.formula_rest d ∷ []
the_rest d rest.Literals = way.literals_rest d ∷ []
the_rest d rest.Clause = way.clause_rest ∷ []

abbrev pub the_next : Option Move → way.Move
the_next None = None
the_next (Some m) = Some (m.nesting, the_parts m.parts ++ the_rest m.nesting m.rest)
