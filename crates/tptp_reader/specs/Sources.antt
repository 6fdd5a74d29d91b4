-- Terms, formulas and items as they are written, without the places and the brackets of the text. A name is its bytes; a
-- quoted name has lost its quotes, so `'abc'` and `abc` are one name.
use Rattle.std.specs.Prelude.{ℕ, List, Option}
use Rattle.tptp_reader.specs.declared.source.ChainKind.{ChainKind}
use Rattle.tptp_reader.specs.declared.source.BinaryKind.{BinaryKind}
use Rattle.tptp_reader.specs.declared.item.ItemKind.{ItemKind}

abbrev pub Name : Type 0
Name = List ℕ

mutual
  pub data SourceTerm : Type 0 where
    variable : Name → SourceTerm
    apply : Name → SourceTerms → SourceTerm

  pub data SourceTerms : Type 0 where
    no_terms : SourceTerms
    more_terms : SourceTerm → SourceTerms → SourceTerms

-- a chain has two formulas or more, and a quantifier one variable or more, the outermost first
mutual
  pub data Source : Type 0 where
    atom : Name → SourceTerms → Source
    truth falsity : Source
    equal unequal : SourceTerm → SourceTerm → Source
    not : Source → Source
    chain : ChainKind → Sources → Source
    binary : BinaryKind → Source → Source → Source
    for_all exists : List Name → Source → Source
    nec poss : Source → Source

  pub data Sources : Type 0 where
    no_sources : Sources
    more_sources : Source → Sources → Sources

-- Offsets count the bytes of the text before. `role_at` is that of the role, `start` that of the item's first token. The
-- names of an include are those that it selects, each with its offset.
pub data Item : Type 0 where
  formula : (kind : ItemKind) (name role : Name) (role_at : ℕ) (body : Source) (start : ℕ) → Item
  include : (file : Name) (names : Option (List (Name × ℕ))) (start : ℕ) → Item
