-- Names that name their lists by the one number: they are equal exactly where they stand for the same name.
use Rattle.std.proofs.Common.{◌≡◌, List, [], ◌∷◌, true, position, rules, refl, ap, subst}
use Rattle.conversion_theory.specs.Numbering.{name_eq}
use Rattle.conversion_theory.specs.Turns as turns
use Rattle.conversion_theory.proofs.NumberLaws.{name_eq-tells}
use Rattle.formula_core.specs.GroundLists.{GroundList, the_g_term, the_mark, IsGrown}
use Rattle.formula_core.specs.GroundTables.{AreApart}
use Rattle.formula_core.proofs.GroundTableLaws.{term-inj, mark-inj}
use Rattle.formula_core.proofs.GrownLaws.{term-grown, mark-grown, term-normal-grown, mark-normal-grown}
use Rattle.indexmap.specs.IndexSet.{insert_key}
use Rattle.plain_laws.proofs.Booleans.{same-tests}
use Rattle.name_order.specs.ByNumber.Inside.{the_names, AreNormalNames}
use Rattle.name_order.specs.ByNumber.NameView.{the_name, IsNormalName}
use Rattle.name_order.specs.Keeping.{keep}
use Rattle.name_order.specs.contracts.names.NamePartialEq.TheImpl.{eq-value}
use Rattle.name_order.specs.declared.names.Name.{Name}
use Rattle.name_order.specs.declared.names.Name.TheVariants as name
use Rattle.name_order.proofs.ByNumber.SetLaws.{insert-kept, insert-good, position-same}

name-exact : (a b : Name) → eq-value.it a b ≡ true → a ≡ b
name-exact a b h = search rules

name-self : (a : Name) → eq-value.it a a ≡ true
name-self a = search rules

module _ (ls : List GroundList) (apart : AreApart ls) where
  pub name-inj : (a b : Name) → IsNormalName ls a → IsNormalName ls b → the_name ls a ≡ the_name ls b → a ≡ b
  name-inj (name.Term t) (name.Term u) h g e = let same : the_g_term ls t ≡ the_g_term ls u = cc in ap name.Term (term-inj ls apart t u h g same)
  name-inj (name.Mark m) (name.Mark n) h g e = let same : the_mark ls m ≡ the_mark ls n = cc in ap name.Mark (mark-inj ls apart m n h g same)
  name-inj (name.Term t) (name.Mark n) h g e = absurd cc
  name-inj (name.Mark m) (name.Term u) h g e = absurd cc

  by-names : (a b : Name) → IsNormalName ls a → IsNormalName ls b → eq-value.it a b ≡ name_eq (the_name ls a) (the_name ls b)
  by-names a b h g = same-tests (eq-value.it a b) (name_eq (the_name ls a) (the_name ls b)) (λ e. (name_eq-tells (the_name ls a) (the_name ls b)).1 (ap (the_name ls) (name-exact a b e))) (λ e. subst (λ c. eq-value.it a c ≡ true) (name-inj a b h g ((name_eq-tells (the_name ls a) (the_name ls b)).0 e)) (name-self a))

  pub name-kept : (ks us : List Name) (a : Name) (n : turns.Name) → AreNormalNames ls ks → IsNormalName ls a → the_name ls a ≡ n → us ≡ insert_key eq-value.it ks a → the_names ls us ≡ keep name_eq (the_names ls ks) n
  name-kept = insert-kept eq-value.it name_eq (the_name ls) (IsNormalName ls) by-names

  pub name-good : (ks us : List Name) (a : Name) → AreNormalNames ls ks → IsNormalName ls a → us ≡ insert_key eq-value.it ks a → AreNormalNames ls us
  name-good = insert-good eq-value.it name_eq (the_name ls) (IsNormalName ls) by-names

  pub name-found : (ks : List Name) (a : Name) (n : turns.Name) → AreNormalNames ls ks → IsNormalName ls a → the_name ls a ≡ n → position (eq-value.it a) ks ≡ position (name_eq n) (the_names ls ks)
  name-found = position-same eq-value.it name_eq (the_name ls) (IsNormalName ls) by-names

-- ---- names of a grown table

pub name-grown : (a b : List GroundList) → IsGrown a b → (n : Name) → IsNormalName a n → the_name b n ≡ the_name a n
name-grown a b g (name.Term t) h = ap turns.term_name (term-grown a b g t h)
name-grown a b g (name.Mark m) h = ap turns.mark_name (mark-grown a b g m h)

pub name-normal-grown : (a b : List GroundList) → IsGrown a b → (n : Name) → IsNormalName a n → IsNormalName b n
name-normal-grown a b g (name.Term t) h = term-normal-grown a b g t h
name-normal-grown a b g (name.Mark m) h = mark-normal-grown a b g m h

pub names-grown : (a b : List GroundList) → IsGrown a b → (ns : List Name) → AreNormalNames a ns → the_names b ns ≡ the_names a ns
names-grown a b g [] h = refl
names-grown a b g (n ∷ ns) h = rw (name-grown a b g n h.0, names-grown a b g ns h.1) refl

pub names-normal-grown : (a b : List GroundList) → IsGrown a b → (ns : List Name) → AreNormalNames a ns → AreNormalNames b ns
names-normal-grown a b g [] h = tt
names-normal-grown a b g (n ∷ ns) h = (name-normal-grown a b g n h.0, names-normal-grown a b g ns h.1)
